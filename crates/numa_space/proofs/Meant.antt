-- What accepted commands mean: policies that are in force, and lists in which memory can be looked
-- for.
use Rattle.std.proofs.Common.{◌≡◌, ◌≢◌, ℕ, ◌^◌, ◌<◌, List, [], ◌∷◌, Option, Some, None, IfSome, sym}
use Rattle.std.proofs.Common.{subst}
use Rattle.std.specs.Prelude.{option_and_then}
use Rattle.numa_machine.specs.Machine.{Hardware}
use Rattle.numa_mode.specs.Policy.{PolicyRecord}
use Rattle.numa_space.specs.Limited.{Bounds}
use Rattle.numa_space.specs.Lists.{node_list}
use Rattle.numa_space.specs.Pages.{index_of, page_in, policy_of_range, resolved_policy}
use Rattle.numa_space.specs.Policies.{allowed_nodes, node_weight, task_record}
use Rattle.numa_space.specs.Refusals.{PageMap, scene_of}
use Rattle.numa_space.specs.Standing.{IsAccepted, IsInForce, IsNodeList}
use Rattle.numa_requests.specs.declared.command.Command.{Command}
use Rattle.numa_space.proofs.InForce.{AreInForce, PageHolds, in_force-next}
use Rattle.numa_space.proofs.NodeLists.{within-both, policy-nodes, resolved-some}
use Rattle.numa_space.proofs.Pages.{pages-next}
use Rattle.numa_space.proofs.Places.{allowed-next}
use Rattle.numa_space.proofs.Tasks.{task-next}

-- the allowed nodes, pages and tasks as a history means them
abbrev Meant : Hardware → List Command → Type 0
Meant machine history = AreInForce machine (allowed_nodes machine history) (page_in machine history)
    (task_record machine history)

moved : (machine : Hardware) (a b : ℕ) (old_pages new_pages : PageMap) (old_tasks new_tasks : ℕ
    → Option PolicyRecord) → a ≡ b → old_pages ≡ new_pages → old_tasks ≡ new_tasks
    → AreInForce machine a old_pages old_tasks → AreInForce machine b new_pages new_tasks
moved machine a b old_pages new_pages old_tasks new_tasks d e f h =
    subst (λ tasks. AreInForce machine b new_pages tasks) f
    (subst (λ pages. AreInForce machine b pages old_tasks) e
    (subst (λ allowed. AreInForce machine allowed old_pages old_tasks) d h))

module _ (machine : Hardware) (bounds : Bounds) (some : machine.memory ≢ 0)
    (small : machine.memory < 2 ^ 256) where
  -- every policy that accepted commands set is in force
  meant : (history : List Command) → IsAccepted machine bounds history → Meant machine history
  meant [] accepted = record {
    some = some;
    memory = within-both machine.memory machine.memory (λ node member. member);
    at_pages = λ page. tt;
    at_tasks = λ task. tt;
  }
  meant (command ∷ history) accepted =
      let next = in_force-next (scene_of machine bounds history command) small
      (meant history accepted.1) command accepted.0 in
      moved machine _ _ _ _ _ _ (sym (allowed-next machine history command))
      (λ i page. sym (pages-next machine history command page) i)
      (λ i task. sym (task-next machine history command task) i) next

  range-held : (allowed : ℕ) (o : Option (ℕ × Option PolicyRecord)) → PageHolds machine allowed o
      → IfSome (option_and_then (λ (at : ℕ × Option PolicyRecord). at.1) o)
      (IsInForce machine allowed)
  range-held allowed None h = tt
  range-held allowed (Some at) h = h

  -- each list that they mean is one in which memory can be looked for
  pub meant-list : (history : List Command) (task page cpu : ℕ) → IsAccepted machine bounds history
      → IsNodeList (allowed_nodes machine history) (node_list machine history task page cpu)
  meant-list history task page cpu accepted =
      let force : Meant machine history = meant history accepted in
      let allowed : ℕ = allowed_nodes machine history in
      policy-nodes machine (allowed_nodes machine history) small force.some force.memory
      (node_weight history) (resolved_policy machine history task page) cpu
      (index_of history page)
      (resolved-some (policy_of_range (page_in machine history page))
      (task_record machine history task) (IsInForce machine (allowed_nodes machine history))
      (range-held allowed (page_in machine history page) (force.at_pages page))
      (force.at_tasks task))
