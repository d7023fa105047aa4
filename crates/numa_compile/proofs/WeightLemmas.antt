-- Which rules serve on where a weight changes.
use Rattle.std.proofs.Common.{◌≡◌, ℕ, ◌<◌, Bool, true, false, Some, refl, sym, subst, ◌∙◌}
use Rattle.numa_machine.specs.Machine.{Hardware}
use Rattle.numa_mode.specs.Policy.{PolicyRecord}
use Rattle.numa_mode.specs.declared.modes.Mode.{Mode}
use Rattle.numa_mode.specs.declared.modes.Mode.TheVariants.{Default, Preferred, Bind, Interleave}
use Rattle.numa_mode.specs.declared.modes.Mode.TheVariants.{Local, PreferredMany}
use Rattle.numa_mode.specs.declared.modes.Mode.TheVariants.{WeightedInterleave}
use Rattle.numa_machine.specs.Sizes.{turn_at}
use Rattle.numa_machine.specs.Weights.{weight_at}
use Rattle.numa_space.specs.Lists.{list_by_mode, list_for}
use Rattle.numa_space.specs.Standing.{SpaceState, IsInForce}
use Rattle.numa_plan.specs.Rows.{Kept}
use Rattle.numa_compile.specs.Recompiling.{is_weighted, is_weighted_mode}
use Rattle.numa_compile.specs.Sharing.{IsServing}

-- lists of other modes don't depend on the weights
by_mode-unweighted : (machine : Hardware) (allowed : ℕ) (old new : ℕ → ℕ) (mode : Mode)
    (set from index : ℕ) → is_weighted_mode mode ≡ false
    → list_by_mode (record { machine = machine; allowed = allowed; weight = old }) mode set from
    index ≡ list_by_mode (record { machine = machine; allowed = allowed; weight = new }) mode set
    from index
by_mode-unweighted machine allowed old new Default set from index other = refl
by_mode-unweighted machine allowed old new Local set from index other = refl
by_mode-unweighted machine allowed old new Preferred set from index other = refl
by_mode-unweighted machine allowed old new Bind set from index other = refl
by_mode-unweighted machine allowed old new PreferredMany set from index other = refl
by_mode-unweighted machine allowed old new Interleave set from index other = refl
by_mode-unweighted machine allowed old new WeightedInterleave set from index other =
    absurd (let odd : ◌≡◌ {A = Bool} true false = other in cc)

pub list-unweighted : (machine : Hardware) (allowed : ℕ) (old new : ℕ → ℕ) (r : PolicyRecord)
    (cpu index : ℕ) → is_weighted r ≡ false
    → list_for (record { machine = machine; allowed = allowed; weight = old }) (Some r) cpu index
    ≡ list_for (record { machine = machine; allowed = allowed; weight = new }) (Some r) cpu index
list-unweighted machine allowed old new r cpu index other = by_mode-unweighted machine allowed old
    new r.spec.mode r.effective _ (turn_at index) other

-- and their rules serve on
pub serving-unweighted : (old new : SpaceState) (kept : Kept) → new.machine ≡ old.machine
    → new.allowed ≡ old.allowed → is_weighted kept.policy ≡ false → IsServing old kept
    → IsServing new kept
serving-unweighted old new kept machine allowed other own = record {
  live = own.live;
  in_force = subst (λ (m : Hardware). IsInForce m new.allowed kept.policy) (sym machine)
      (subst (λ (set : ℕ). IsInForce old.machine set kept.policy) (sym allowed) own.in_force);
  gives = λ cpu index lt.
      own.gives cpu index (subst (λ (m : Hardware). cpu < m.nodes) machine lt)
      ∙ list-unweighted old.machine old.allowed (weight_at old.weights) (weight_at new.weights)
      kept.policy cpu index other
      ∙ (λ i.
      list_for (record {
        machine = sym machine i;
        allowed = sym allowed i;
        weight =
            weight_at new.weights;
      }) (Some kept.policy) cpu index);
}
