-- The search among tasks, place by place.
use Rattle.std.proofs.Common.{◌≡◌, ℕ, zero, suc, ◌+◌, true, false, Option, Some, None, List, []}
use Rattle.std.proofs.Common.{◌∷◌, is_some, drop, slice_get, refl, sym, ap, ◌∙◌, arith}
use Rattle.numa_mode.specs.Policy.{PolicyRecord}
use Rattle.numa_rules.specs.Otherwise.{first_of, parted_policy, parted_tasks}
use Rattle.numa_rules.specs.declared.parted.Owner.TheVariants.{Task}
use Rattle.numa_rules.specs.declared.parted.Parted.{Parted}

drop-here : {X : Type 0} (xs : List X) (k : ℕ) (x : X) → slice_get xs k ≡ Some x
    → drop k xs ≡ x ∷ drop (suc k) xs
drop-here [] k x got = absurd (cc)
drop-here (y ∷ ys) zero x got = let same : y ≡ x = cc in ap (λ z. z ∷ ys) same
drop-here (y ∷ ys) (suc k) x got = drop-here ys k x got

first-some : (found other : Option Parted) → is_some found ≡ true → first_of found other ≡ found
first-some None other some = absurd (cc)
first-some (Some parted) other some = refl

first-none : (found other : Option Parted) → is_some found ≡ false → first_of found other ≡ other
first-none None other none = refl
first-none (Some parted) other none = absurd (cc)

module _ (before after : ℕ) (tasks : List (ℕ × PolicyRecord)) (k task : ℕ) (r : PolicyRecord)
    (found : Option Parted) (got : slice_get tasks k ≡ Some (task, r))
    (is : found ≡ parted_policy before after (Task task) r) where
  step : parted_tasks before after (drop k tasks)
      ≡ first_of found (parted_tasks before after (drop (suc k) tasks))
  step = ap (parted_tasks before after) (drop-here tasks k (task, r) got)
      ∙ ap (λ (o : Option Parted). first_of o (parted_tasks before after (drop (suc k) tasks)))
      (sym is)

  pub task-parts : is_some found ≡ true → found ≡ parted_tasks before after (drop k tasks)
  task-parts some = sym (step ∙ first-some found _ some)

  pub task-agrees : is_some found ≡ false
      → parted_tasks before after (drop (k + 1) tasks) ≡ parted_tasks before after (drop k tasks)
  task-agrees none =
      let next : k + 1 ≡ suc k = omega arith in
      ap (λ n. parted_tasks before after (drop n tasks)) next
      ∙ sym (step ∙ first-none found _ none)
