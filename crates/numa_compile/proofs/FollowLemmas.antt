-- What follows from a plan's following a space.
use Rattle.std.proofs.Common.{◌≡◌, ℕ, ◌<◌, Option, Some, None, List, refl, ap, subst, ◌∙◌}
use Rattle.std.proofs.lemmas.Option.{same_Some}
use Rattle.std.specs.Option.{ForSome, option_map}
use Rattle.numa_mode.specs.Policy.{PolicyRecord}
use Rattle.numa_requests.specs.declared.command.Command.{Command}
use Rattle.numa_space.specs.Standing.{SpaceState, StandsFor, IsNodeList, setting_in}
use Rattle.numa_plan.specs.Meaning.{PlanData, planned_list}
use Rattle.numa_plan.specs.Rows.{Kept}
use Rattle.numa_plan.specs.Slots.{kept_in, policy_in}
use Rattle.numa_compile.specs.Follows.{Follows}
use Rattle.numa_compile.specs.Rules.{IsReady}
use Rattle.numa_compile.specs.Sharing.{AreServed, AreServing, GivesLists, IsServed}
use Rattle.numa_compile.specs.Standing.{IsPlanOf, PlanStandsFor}
use Rattle.numa_compile.proofs.Meaning.{plan-stands}
use Rattle.numa_compile.proofs.PlanLemmas.{plan-of}
use Rattle.numa_compile.proofs.Soundness.{planned-sound}

-- rules that serve the policies beside them serve these policies by their numbers
pub serving-served : (space : SpaceState) (plan : PlanData) (at : ℕ → Option PolicyRecord)
    → ((number : ℕ) → policy_in plan.slots number ≡ at number) → AreServing space plan.slots
    → AreServed (setting_in space) plan at
serving-served space plan at policies serving number r is =
    go (kept_in plan.slots number) refl (policies number ∙ is)
  where
    go : (o : Option Kept) → kept_in plan.slots number ≡ o → option_map (λ kept. kept.policy) o
        ≡ Some r → IsServed (setting_in space) plan number r
    go None there is = absurd (let odd : ◌≡◌ {A = Option PolicyRecord} None (Some r) = is in cc)
    go (Some kept) there is = (
      kept.rule,
      ap (λ (o : Option Kept). option_map (λ (one : Kept). one.rule) o) there,
      subst (λ (p : PolicyRecord). GivesLists (setting_in space) kept.rule p)
          (same_Some kept.policy r is) (serving number kept there).gives,
    )

-- the plan is one of the space
pub follows-plan : (space : SpaceState) (plan : PlanData) → Follows space plan → IsPlanOf space plan
follows-plan space plan f =
    plan-of space plan (policy_in plan.slots) f.version f.nodes f.local f.copies f.tasks
    (serving-served space plan (policy_in plan.slots) (λ number. refl) f.rules)

-- it stands for each history that the space stands for
pub follows-stands : (space : SpaceState) (plan : PlanData) (history : List Command)
    → Follows space plan → StandsFor space history → PlanStandsFor space.machine plan history
follows-stands space plan history f stands =
    plan-stands space plan history (follows-plan space plan f) stands

-- its lists are sound
pub follows-sound : (space : SpaceState) (plan : PlanData) → IsReady space → Follows space plan
    → (task page cpu : ℕ) → cpu < plan.nodes
    → ForSome (planned_list plan task page cpu) (IsNodeList space.allowed)
follows-sound space plan ready f task page cpu lt =
    planned-sound space plan (follows-plan space plan f) ready.sound ready.memory task page cpu lt
