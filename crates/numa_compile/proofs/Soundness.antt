-- Each list that a sound space shows has a node, each once, and only allowed ones.
use Rattle.std.proofs.Common.{◌≡◌, ℕ, ◌<◌, ◌^◌, true, Option, Some, None, List, IfSome, sym, subst}
use Rattle.std.specs.Option.{ForSome, option_map}
use Rattle.std.specs.Prelude.{option_and_then}
use Rattle.numa_mode.specs.Policy.{PolicyRecord, is_live}
use Rattle.numa_ranges.specs.Runs.{page_at}
use Rattle.numa_space.specs.Lists.{list_for}
use Rattle.numa_space.specs.Policies.{policy_that_counts}
use Rattle.numa_space.specs.Standing.{SpaceState, IsNodeList, IsInForce, IsSound, record_of}
use Rattle.numa_space.specs.Standing.{setting_in}
use Rattle.numa_space.proofs.NodeLists.{policy-nodes, policy-in_force}
use Rattle.numa_plan.specs.Meaning.{PlanData, planned_list}
use Rattle.numa_compile.specs.Standing.{IsPlanOf, shown_list}

pub shown-sound : (space : SpaceState) (task page cpu : ℕ) → IsSound space
    → space.machine.memory < 2 ^ 256
    → ForSome (shown_list space task page cpu) (IsNodeList space.allowed)
shown-sound space task page cpu sound small =
    go (page_at space.ranges page) (policy-in_force space task page sound)
  where
    go : (o : Option (ℕ × Option PolicyRecord))
        → IfSome (policy_that_counts (option_and_then (λ at. at.1) o) (record_of space.tasks task))
        (λ r. IsInForce space.machine space.allowed r × (is_live r ≡ true))
        → ForSome
        (option_map (λ at. list_for (setting_in space)
        (policy_that_counts at.1 (record_of space.tasks task)) cpu at.0) o)
        (IsNodeList space.allowed)
    go None force list is = absurd (let odd : ◌≡◌ {A = Option (List ℕ)} None (Some list) = is in cc)
    go (Some at) force list is =
        let nodes : list_for (setting_in space)
        (policy_that_counts at.1 (record_of space.tasks task)) cpu at.0 ≡ list = cc in
        subst (IsNodeList space.allowed) nodes
        (policy-nodes space.machine space.allowed small sound.allowed_some sound.allowed_memory
        (setting_in space).weight (policy_that_counts at.1 (record_of space.tasks task)) cpu
        at.0 force)

-- and so each list of a plan of the space
pub planned-sound : (space : SpaceState) (plan : PlanData) → IsPlanOf space plan → IsSound space
    → space.machine.memory < 2 ^ 256 → (task page cpu : ℕ) → cpu < plan.nodes
    → ForSome (planned_list plan task page cpu) (IsNodeList space.allowed)
planned-sound space plan is sound small task page cpu lt =
    let known : cpu < space.machine.nodes = subst (λ nodes. cpu < nodes) is.nodes lt in
    subst (λ list. ForSome list (IsNodeList space.allowed)) (sym (is.lists task page cpu known))
    (shown-sound space task page cpu sound small)
