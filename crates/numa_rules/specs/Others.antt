-- What two histories, each on a machine with rules of its own, make of one page.
use Rattle.std.specs.Prelude.{◌≡◌, ℕ, Option, Some, None, List, [], is_some, if◌then◌else◌}
use Rattle.numa_machine.specs.Machine.{Hardware}
use Rattle.numa_machine.specs.declared.rules.Rules.{Rules}
use Rattle.numa_machine.specs.declared.rules.Rules.TheVariants.{Document, Linux}
use Rattle.numa_mode.specs.Policy.{PolicyRecord}
use Rattle.numa_space.specs.Lists.{node_list}
use Rattle.numa_space.specs.Pages.{resolved_policy}
use Rattle.numa_space.specs.Standing.{place_refusal_of}
use Rattle.numa_requests.specs.declared.command.Command.{Command}
use Rattle.numa_rules.specs.declared.page.ByOther.{ByOther}

abbrev pub other_rules : Rules → Rules
other_rules Document = Linux
other_rules Linux = Document

-- the fallback list of a page; none where the question is refused
abbrev pub nodes_in : Hardware → List Command → ℕ → ℕ → ℕ → List ℕ
nodes_in machine history task page cpu =
    if is_some (place_refusal_of machine history page cpu) then []
    else node_list machine history task page cpu

-- the nodes of a policy, if there is one
abbrev pub set_for : Option PolicyRecord → ℕ
set_for None = 0
set_for (Some r) = r.effective

module _ (machine : Hardware) (history : List Command) (other : Hardware) (others : List Command)
    (task page cpu : ℕ) where
  -- both have one list for the page, and its policy has the same nodes
  abbrev pub IsSameThere : Type 0
  IsSameThere =
      (nodes_in machine history task page cpu ≡ nodes_in other others task page cpu)
      × (set_for (resolved_policy machine history task page)
      ≡ set_for (resolved_policy other others task page))

  -- they haven't, and the other one's are told
  pub record IsByOther (said : ByOther) : Type 0 where
    pub policy : said.policy ≡ resolved_policy other others task page
    pub nodes : said.nodes.items ≡ nodes_in other others task page cpu
    pub apart : IsSameThere → ⊥
