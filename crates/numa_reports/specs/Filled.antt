-- Where pages go with limited free pages on each node.
use Rattle.std.specs.Prelude.{ℕ, zero, suc, ◌+◌, ◌-◌, ◌==◌, Option, Some, None, List, [], ◌∷◌}
use Rattle.std.specs.Prelude.{slice_index, slice_set, unwrap_or, if◌then◌else◌}
use Rattle.numa_machine.specs.Machine.{Hardware}
use Rattle.numa_plan.specs.Meaning.{PlanData, planned_list}
use Rattle.numa_space.specs.Lists.{node_list}
use Rattle.numa_space.specs.Pages.{is_mapped}
use Rattle.numa_requests.specs.declared.command.Command.{Command}
use Rattle.numa_sheets.specs.declared.asked.FreePages.{FreePages}

-- the first node of a list that has a free page
abbrev pub first_free : List ℕ → List ℕ → Option ℕ
first_free free [] = None
first_free free (node ∷ nodes) = if slice_index free node == 0 then first_free free nodes
    else Some node

-- what is free once one page more is taken of a node, if one is given
abbrev pub one_less : List ℕ → Option ℕ → List ℕ
one_less free None = free
one_less free (Some node) = slice_set free node (slice_index free node - 1)

-- what remains free after this many pages from one on, in ascending order, if each takes a free
-- page of the first node of its list that has one
unfoldable pub free_behind : (ℕ → List ℕ) → List ℕ → ℕ → ℕ → List ℕ
free_behind nodes free first zero = free
free_behind nodes free first (suc pages) =
    free_behind nodes (one_less free (first_free free (nodes first))) (first + 1) pages

-- what is free if named nodes have these free pages; of several numbers for a node the last counts
abbrev pub with_named : List ℕ → List FreePages → List ℕ
with_named free [] = free
with_named free (one ∷ named) = with_named (slice_set free one.node one.pages) named

-- the fallback list of a page; none where it isn't mapped
abbrev pub nodes_of : Hardware → List Command → ℕ → ℕ → ℕ → List ℕ
nodes_of machine history task cpu page =
    if is_mapped history page then node_list machine history task page cpu else []

-- the list that a plan has for a page
abbrev pub planned_nodes : PlanData → ℕ → ℕ → ℕ → List ℕ
planned_nodes plan task cpu page = unwrap_or (planned_list plan task page cpu) []
