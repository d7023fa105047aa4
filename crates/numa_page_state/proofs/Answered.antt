-- What becomes of pages by a change that is done or refused.
use Rattle.std.proofs.Common.{◌≡◌, true, false, Err, refl, sym, ap, subst}
use Rattle.std.proofs.lemmas.Bool.{both_ways}
use Rattle.std.specs.Prelude.{Result}
use Rattle.numa_requests.specs.declared.page_refusal.MoveRefusal.{MoveRefusal}
use Rattle.numa_requests.specs.declared.page_refusal.MoveRefusal.TheVariants as move
use Rattle.numa_requests.specs.declared.page_refusal.PlacedRefusal.{PlacedRefusal}
use Rattle.numa_requests.specs.declared.page_refusal.PlacedRefusal.TheVariants as cause
use Rattle.numa_page_state.specs.Lying.{Lying}
use Rattle.numa_page_state.specs.Outcomes.{Crowded, Done, Enough, Lack, is_starved, lack_told}
use Rattle.numa_page_state.specs.Outcomes.{move_lack_told}
use Rattle.numa_page_state.specs.Standing.{LiesAs}
use Rattle.numa_page_state.specs.declared.state.PageState.{PageState}

module _ {A : Type 0} (old new : PageState) where
  -- where it lacked memory, that came of it, and nothing has changed
  abbrev pub Lacks : Lack → A → A → Type 0
  Lacks lack came starved = is_starved lack ≡ true → (new ≡ old) × (came ≡ starved)

  -- this came of a change
  abbrev pub Answers : A → A → (Lack → A × Lying) → Type 0
  Answers came starved outcome = (lack : Lack) × LiesAs new (outcome lack).1
      × ((outcome lack).0 ≡ came) × Lacks lack came starved

  pub never-lacks : (lack : Lack) (came starved : A) → is_starved lack ≡ false
      → Lacks lack came starved
  never-lacks lack came starved serves t = absurd (both_ways (is_starved lack) serves t)

  pub done : (came starved : A) (outcome : Lack → A × Lying) (lying : Lying)
      → outcome Enough ≡ (came, lying) → LiesAs new lying → Answers came starved outcome
  done came starved outcome lying is lies = (
    Enough,
    subst (λ (o : A × Lying). LiesAs new o.1) (sym is) lies,
    ap (λ (o : A × Lying). o.0) is,
    never-lacks Enough came starved refl,
  )

module _ {A : Type 0} (old new : PageState) where
  lacks-so : (refusal : PlacedRefusal) → new ≡ old → Lacks {A = Result A PlacedRefusal} old new
      (lack_told refusal) (Err refusal) (Err cause.NoMemory)
  lacks-so cause.NoMemory same = λ t. (same, refl)
  lacks-so cause.Unaligned same = never-lacks old new Enough _ _ refl
  lacks-so cause.OutOfSpace same = never-lacks old new Enough _ _ refl
  lacks-so cause.NoSuchNode same = never-lacks old new Enough _ _ refl
  lacks-so cause.Occupied same = never-lacks old new Enough _ _ refl
  lacks-so cause.NodesNotAllowed same = never-lacks old new Enough _ _ refl
  lacks-so cause.Astray same = never-lacks old new Enough _ _ refl
  lacks-so cause.BadCpu same = never-lacks old new Enough _ _ refl
  lacks-so cause.Unmapped same = never-lacks old new Enough _ _ refl
  lacks-so cause.NoRoom same = never-lacks old new Enough _ _ refl
  lacks-so cause.TooManyRuns same = never-lacks old new Crowded _ _ refl

  pub denied : (refusal : PlacedRefusal) (lying : Lying)
      (outcome : Lack → Done A PlacedRefusal)
      → outcome (lack_told refusal) ≡ (Err refusal, lying) → LiesAs old lying → new ≡ old
      → Answers {A = Result A PlacedRefusal} old new (Err refusal) (Err cause.NoMemory) outcome
  denied refusal lying outcome is lies same = (
    lack_told refusal,
    subst (λ (o : Done A PlacedRefusal). LiesAs new o.1) (sym is)
        (subst (λ (b : PageState). LiesAs b lying) (sym same) lies),
    ap (λ (o : Done A PlacedRefusal). o.0) is,
    lacks-so refusal same,
  )

  move-lacks-so : (refusal : MoveRefusal) → new ≡ old → Lacks {A = Result A MoveRefusal} old new
      (move_lack_told refusal) (Err refusal) (Err move.NoMemory)
  move-lacks-so move.NoMemory same = λ t. (same, refl)
  move-lacks-so move.NoSuchNode same = never-lacks old new Enough _ _ refl
  move-lacks-so move.NodesNotAllowed same = never-lacks old new Enough _ _ refl
  move-lacks-so move.Unmapped same = never-lacks old new Enough _ _ refl
  move-lacks-so move.NotPlaced same = never-lacks old new Enough _ _ refl
  move-lacks-so move.NoRoom same = never-lacks old new Enough _ _ refl
  move-lacks-so move.TooManyRuns same = never-lacks old new Crowded _ _ refl

  pub move-denied : (refusal : MoveRefusal) (lying : Lying) (outcome : Lack → Done A MoveRefusal)
      → outcome (move_lack_told refusal) ≡ (Err refusal, lying) → LiesAs old lying → new ≡ old
      → Answers {A = Result A MoveRefusal} old new (Err refusal) (Err move.NoMemory) outcome
  move-denied refusal lying outcome is lies same = (
    move_lack_told refusal,
    subst (λ (o : Done A MoveRefusal). LiesAs new o.1) (sym is)
        (subst (λ (b : PageState). LiesAs b lying) (sym same) lies),
    ap (λ (o : Done A MoveRefusal). o.0) is,
    move-lacks-so refusal same,
  )
