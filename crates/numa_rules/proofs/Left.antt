-- Where no policy is told, each policy of the space has the same nodes by both rules.
use Rattle.std.proofs.Common.{◌≡◌, ℕ, zero, suc, Option, Some, None, List, [], ◌∷◌}
use Rattle.std.proofs.Common.{refl, sym, ap, ◌∙◌, arith, inl, inr}
use Rattle.std.specs.Prelude.{Contains, ◌==◌}
use Rattle.std.proofs.lemmas.Bool.{cases_Bool, eqb-true}
use Rattle.numa_machine.specs.declared.rules.Rules.TheVariants.{Document, Linux}
use Rattle.numa_mode.specs.Policy.{PolicyRecord, record_after}
use Rattle.numa_ranges.specs.declared.run.Run.{Run}
use Rattle.numa_rules.specs.Otherwise.{first_of, parted_policy, parted_range, parted_ranges}
use Rattle.numa_rules.specs.Otherwise.{parted_tasks}
use Rattle.numa_rules.specs.declared.parted.Owner.{Owner}
use Rattle.numa_rules.specs.declared.parted.Owner.TheVariants.{Range, Task}
use Rattle.numa_rules.specs.declared.parted.Parted.{Parted}
use Rattle.numa_rules.specs.Both.{AreNodesAlike}

pub neither : (one other : Option Parted) → first_of one other ≡ None
    → (one ≡ None) × (other ≡ None)
neither None other none = (refl, none)
neither (Some parted) other none = absurd (cc)

module _ (old new : ℕ) where
  policy-alike : (owner : Owner) (r : PolicyRecord) → parted_policy old new owner r ≡ None
      → AreNodesAlike old new r
  policy-alike owner r none =
      let one = (record_after Document r old new).effective in
      let other = (record_after Linux r old new).effective in
      elim (cases_Bool (one == other)) [
        | inl t ↦ eqb-true one other t
        | inr f ↦ let told = rw f at none in absurd (cc)
      ]

  range-alike : (run : Run (Option PolicyRecord)) (r : PolicyRecord)
      → parted_range old new run ≡ None → run.value ≡ Some r → AreNodesAlike old new r
  range-alike run r none is = policy-alike (Range run.first) r (rw is at none)

  pub ranges-alike : (runs : List (Run (Option PolicyRecord)))
      → parted_ranges old new runs ≡ None → (run : Run (Option PolicyRecord))
      → Contains runs run → (r : PolicyRecord) → run.value ≡ Some r → AreNodesAlike old new r
  ranges-alike [] none run (place, low, there) r is = absurd (omega (arith, low))
  ranges-alike (first ∷ runs) none run (zero, low, there) r is =
      let both = neither _ _ none in
      let same : first ≡ run = cc in
      range-alike run r (ap (parted_range old new) (sym same) ∙ both.0) is
  ranges-alike (first ∷ runs) none run (suc place, low, there) r is =
      let both = neither _ _ none in
      ranges-alike runs both.1 run (place, omega (arith, low), there) r is

  pub tasks-alike : (tasks : List (ℕ × PolicyRecord)) → parted_tasks old new tasks ≡ None
      → (held : ℕ × PolicyRecord) → Contains tasks held → AreNodesAlike old new held.1
  tasks-alike [] none held (place, low, there) = absurd (omega (arith, low))
  tasks-alike (first ∷ tasks) none held (zero, low, there) =
      let both = neither _ _ none in
      let same : first ≡ held = cc in
      let told : parted_policy old new (Task held.0) held.1 ≡ None =
      ap (λ (h : ℕ × PolicyRecord). parted_policy old new (Task h.0) h.1) (sym same) ∙ both.0 in
      policy-alike (Task held.0) held.1 told
  tasks-alike (first ∷ tasks) none held (suc place, low, there) =
      let both = neither _ _ none in
      tasks-alike tasks both.1 held (place, omega (arith, low), there)
