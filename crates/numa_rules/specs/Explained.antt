-- What an explanation says, by the history of accepted commands.
use Rattle.std.specs.Prelude.{◌≡◌, ℕ, true, Option, Some, None, List}
use Rattle.numa_machine.specs.Machine.{Hardware}
use Rattle.numa_ranges.specs.Counts.{IsRange}
use Rattle.numa_ranges.specs.Runs.{in_pages}
use Rattle.numa_space.specs.Lists.{node_list, setting_of}
use Rattle.numa_space.specs.Pages.{index_of, page_in, range_record, resolved_policy}
use Rattle.numa_space.specs.Policies.{allowed_nodes, node_weight, task_record}
use Rattle.numa_space.specs.Same.{same_record}
use Rattle.numa_requests.specs.declared.command.Command.{Command}
use Rattle.numa_machine.specs.declared.refusal.PlaceRefusal.{PlaceRefusal}
use Rattle.numa_rules.specs.Reasons.{ordered_by, rule_for, scope_of, set_for}
use Rattle.numa_rules.specs.declared.explanation.Explanation.{Explanation}
use Rattle.numa_rules.specs.declared.fault.ReasonError.{ReasonError}
use Rattle.numa_rules.specs.declared.fault.ReasonError.TheVariants.{Refused, NoMemory}

-- each part is what the accepted commands mean: the range has the page, and is a range; the page
-- has the index; the task has the policy; the scope is the one that counts, and its policy is the
-- one that serves; the rule is that policy's; the nodes are the fallback list, and they are as the
-- rule puts them in order
pub record IsExplanation (machine : Hardware) (history : List Command) (task page cpu : ℕ)
    (said : Explanation) : Type 0 where
  pub asked : (said.task ≡ task) × (said.page ≡ page) × (said.cpu ≡ cpu)
  pub range : IsRange same_record (page_in machine history) said.range
  pub has_page : in_pages said.range.first said.range.pages page ≡ true
  pub index : said.index ≡ index_of history page
  pub task_policy : said.task_policy ≡ task_record machine history task
  pub scope : said.scope
      ≡ scope_of (range_record machine history page) (task_record machine history task)
  pub policy : said.policy ≡ resolved_policy machine history task page
  pub allowed : said.allowed ≡ allowed_nodes machine history
  pub rule : said.rule
      ≡ rule_for (node_weight history) said.policy cpu (index_of history page)
  pub nodes : said.nodes.items ≡ node_list machine history task page cpu
  pub in_order : said.nodes.items
      ≡ ordered_by (setting_of machine history) (set_for said.policy) said.rule

-- the cause is the first that refuses the question; out of memory comes where none does
abbrev pub IsRefusedBy : Option PlaceRefusal → ReasonError → Type 0
IsRefusedBy cause (Refused refusal) = cause ≡ Some refusal
IsRefusedBy cause NoMemory = cause ≡ None
