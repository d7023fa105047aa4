-- What stays of a space in a step that changes no page, no weight and no allowed node.
use Rattle.std.proofs.Common.{◌≡◌, ℕ, Option, None, List, sym, subst}
use Rattle.numa_machine.specs.Machine.{Hardware}
use Rattle.numa_machine.specs.Weights.{weight_at}
use Rattle.numa_mode.specs.Policy.{PolicyRecord}
use Rattle.numa_ranges.specs.Runs.{page_at, AreApart, AreMaximal}
use Rattle.numa_ranges.specs.declared.run.Run.{Run}
use Rattle.numa_ranges.proofs.Laws.{same-runs}
use Rattle.numa_space.specs.Lists.{Setting}
use Rattle.numa_space.specs.Same.{same_record}
use Rattle.numa_space.specs.Standing.{SpaceState, IsInForce, setting_in}
use Rattle.numa_space.proofs.Same.{same_record-exact, same_record-refl}
use Rattle.numa_plan.specs.Rows.{RuleData}
use Rattle.numa_plan.specs.declared.slots.Slot.{Slot}
use Rattle.numa_compile.specs.Rules.{IsRuleOf}
use Rattle.numa_compile.specs.Sharing.{AreServing, GivesLists}

-- ranges that say the same of each page are the same
pub ranges-same : (old new : List (Run (Option PolicyRecord))) → AreApart 0 old → AreMaximal old
    → AreApart 0 new → AreMaximal new → ((page : ℕ) → page_at new page ≡ page_at old page)
    → new ≡ old
ranges-same old new rising maximal rising' maximal' agree = same-runs same_record same_record-exact
    same_record-refl 0 new old rising' rising maximal' maximal agree

module _ (old new : SpaceState) (machine : new.machine ≡ old.machine)
    (allowed : new.allowed ≡ old.allowed) (weights : (node : ℕ) → weight_at new.weights node
    ≡ weight_at old.weights node) where
  pub setting-same : setting_in old ≡ setting_in new
  setting-same = λ i. record {
    machine = sym machine i;
    allowed = sym allowed i;
    weight =
        λ node. sym (weights node) i;
  }

  pub in_force-same : (r : PolicyRecord) → IsInForce old.machine old.allowed r
      → IsInForce new.machine new.allowed r
  in_force-same r force = subst (λ (m : Hardware). IsInForce m new.allowed r) (sym machine)
      (subst (λ (set : ℕ). IsInForce old.machine set r) (sym allowed) force)

  -- the rules serve their policies still
  pub serving-same : (slots : List Slot) → AreServing old slots → AreServing new slots
  serving-same slots serving number kept is =
      let own = serving number kept is in
      record {
        live = own.live;
        in_force = in_force-same kept.policy own.in_force;
        gives = subst (λ (setting : Setting). GivesLists setting kept.rule kept.policy) setting-same
            own.gives;
      }

  pub local-same : (rule : RuleData) → IsRuleOf (setting_in old) rule None
      → IsRuleOf (setting_in new) rule None
  local-same rule is = subst (λ (setting : Setting). IsRuleOf setting rule None) setting-same is
