-- What is said of a plan's runs, written run by run.
use Rattle.std.proofs.Common.{◌≡◌, ℕ, zero, suc, ◌+◌, ◌<◌, ◌≤◌, Option, Some, None, List, []}
use Rattle.std.proofs.Common.{◌∷◌, length, get_or, refl, sym, ◌∙◌, arith, inl, inr, subst}
use Rattle.std.proofs.Common.{slice_get, slice_set}
use Rattle.std.proofs.lemmas.Bool.{cases_lt}
use Rattle.std.proofs.lemmas.Option.{slice_get-get_or}
use Rattle.numa_ranges.specs.declared.run.Run.{Run}
use Rattle.numa_plan.specs.Meaning.{PlanData}
use Rattle.numa_plan.specs.Turns.{TellsTurns}
use Rattle.numa_plan.specs.declared.plan.turns.PageTurns.{PageTurns}

set-there : (xs : List PageTurns) (i : ℕ) (x : PageTurns) → i < length xs
    → slice_get (slice_set xs i x) i ≡ Some x
set-there [] i x low = absurd (omega arith)
set-there (y ∷ ys) zero x low = refl
set-there (y ∷ ys) (suc i) x low = set-there ys i x (omega arith)

set-below : (xs : List PageTurns) (i j : ℕ) (x : PageTurns) → i < length xs → j < i
    → slice_get (slice_set xs i x) j ≡ slice_get xs j
set-below [] i j x low lt = absurd (omega arith)
set-below (y ∷ ys) zero j x low lt = absurd (omega arith)
set-below (y ∷ ys) (suc i) zero x low lt = refl
set-below (y ∷ ys) (suc i) (suc j) x low lt = set-below ys i j x (omega arith) (omega arith)

set-above : (xs : List PageTurns) (i j : ℕ) (x : PageTurns) → i < length xs → i < j
    → slice_get (slice_set xs i x) j ≡ slice_get xs j
set-above [] i j x low lt = absurd (omega arith)
set-above (y ∷ ys) i zero x low lt = absurd (omega arith)
set-above (y ∷ ys) zero (suc j) x low lt = refl
set-above (y ∷ ys) (suc i) (suc j) x low lt = set-above ys i j x (omega arith) (omega arith)

-- one run more
pub turned_more : (plan : PlanData) (task place : ℕ) (room : List PageTurns) (turns : PageTurns)
    → place < length room
    → ((at : ℕ) → at < place → TellsTurns plan task (slice_get plan.runs at) (slice_get room at))
    → TellsTurns plan task (slice_get plan.runs place) (Some turns) → (at : ℕ) → at < place + 1
    → TellsTurns plan task (slice_get plan.runs at) (slice_get (slice_set room place turns) at)
turned_more plan task place room turns within before here at lt =
    elim (cases_lt at place) [
      | inl early ↦
          subst (λ (o : Option PageTurns). TellsTurns plan task (slice_get plan.runs at) o)
          (sym (set-below room place at turns within early)) (before at early)
      | inr late ↦
          let is : at ≡ place = omega arith in
          subst (λ (n : ℕ). TellsTurns plan task (slice_get plan.runs n)
          (slice_get (slice_set room place turns) n)) (sym is)
          (subst (λ (o : Option PageTurns). TellsTurns plan task (slice_get plan.runs place) o)
          (sym (set-there room place turns within)) here)
    ]

-- the places behind stay
pub rest_more : (place : ℕ) (old room : List PageTurns) (turns : PageTurns) → place < length room
    → ((at : ℕ) → place ≤ at → slice_get room at ≡ slice_get old at)
    → (at : ℕ) → place + 1 ≤ at
    → slice_get (slice_set room place turns) at ≡ slice_get old at
rest_more place old room turns within before at le =
    set-above room place at turns within (omega arith) ∙ before at (omega arith)

none-told : (turns : PageTurns) → None ≡ Some turns → ⊥
none-told turns is = let odd : None ≡ Some turns = is in cc

blank : Run (Option ℕ)
blank = record { first = 0; pages = 0; index = 0; value = None }

-- a run that is there is told
pub is_told : (plan : PlanData) (task place : ℕ) → place < length plan.runs
    → TellsTurns plan task (slice_get plan.runs place) None → ⊥
is_told plan task place within none =
    let is : slice_get plan.runs place ≡ Some (get_or plan.runs place blank) =
    slice_get-get_or plan.runs place blank within in
    let told : TellsTurns plan task (Some (get_or plan.runs place blank)) None =
    subst (λ (o : Option (Run (Option ℕ))). TellsTurns plan task o None) is none in
    none-told told.0 told.1
