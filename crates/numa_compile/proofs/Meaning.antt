-- A plan of a space stands for each history that the space stands for.
use Rattle.std.proofs.Common.{◌≡◌, ℕ, true, false, Option, Some, None, List, is_some, refl, ap, ◌∙◌}
use Rattle.std.specs.Option.{option_map, option_map_or}
use Rattle.std.specs.Prelude.{option_and_then}
use Rattle.numa_mode.specs.Policy.{PolicyRecord}
use Rattle.numa_ranges.specs.Runs.{page_at}
use Rattle.numa_requests.specs.declared.command.Command.{Command}
use Rattle.numa_space.specs.Lists.{list_for}
use Rattle.numa_space.specs.Policies.{policy_that_counts}
use Rattle.numa_space.specs.Standing.{SpaceState, StandsFor, record_of, setting_in, list_in}
use Rattle.numa_space.proofs.Lists.{list-same, mapped-same}
use Rattle.numa_plan.specs.Rows.{row_of}
use Rattle.numa_plan.specs.Meaning.{PlanData, planned_list, rule_for}
use Rattle.numa_compile.specs.Standing.{IsPlanOf, PlanStandsFor, shown_list}

-- what is shown of a page that is there
pub shown-there : (space : SpaceState) (task page cpu : ℕ) → is_some (page_at space.ranges page)
    ≡ true → shown_list space task page cpu ≡ Some (list_in space task page cpu)
shown-there space task page cpu found = go (page_at space.ranges page) found
  where
    go : (o : Option (ℕ × Option PolicyRecord)) → is_some o ≡ true
        → option_map
        (λ at. list_for (setting_in space) (policy_that_counts at.1 (record_of space.tasks task))
        cpu at.0) o
        ≡ Some
        (list_for (setting_in space)
        (policy_that_counts (option_and_then (λ at. at.1) o) (record_of space.tasks task)) cpu
        (option_map_or (λ at. at.0) o 0))
    go None found = cc
    go (Some at) found = refl

-- a page without a run has no list
pub planned-missing : (plan : PlanData) (task page cpu : ℕ) → is_some (page_at plan.runs page)
    ≡ false → planned_list plan task page cpu ≡ None
planned-missing plan task page cpu missing = go (page_at plan.runs page) missing
  where
    go : (o : Option (ℕ × Option ℕ)) → is_some o ≡ false
        → option_map (λ at. row_of (rule_for plan task at.1) cpu at.0) o ≡ None
    go None missing = refl
    go (Some at) missing = cc

pub plan-stands : (space : SpaceState) (plan : PlanData) (history : List Command)
    → IsPlanOf space plan → StandsFor space history → PlanStandsFor space.machine plan history
plan-stands space plan history is stands = record {
  version = is.version ∙ stands.version;
  nodes = is.nodes;
  lists = λ task page cpu lt mapped.
      let found : is_some (page_at space.ranges page) ≡ true = mapped-same space history page stands
      ∙ mapped in
      is.lists task page cpu lt ∙ shown-there space task page cpu found
      ∙ ap Some (list-same space history task page cpu stands found);
  unmapped = λ task page cpu none. planned-missing plan task page cpu
      (is.pages page ∙ mapped-same space history page stands ∙ none);
}
