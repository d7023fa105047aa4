-- What a running kernel does otherwise with a command than the documents say, to a space that goes
-- by the documents (docs/KERNEL.md, "Where kernels answer otherwise"). Where it does nothing
-- otherwise, both refuse the command for one cause or accept it, and leave every policy with the
-- same nodes.
use Rattle.std.specs.Prelude.{ℕ, ◌-◌, ◌^◌, ◌==◌, ◌&&◌, ◌||◌, not, nat_le, Bool, Option}
use Rattle.std.specs.Prelude.{Some, None, is_some, List, [], ◌∷◌, if◌then◌else◌}
use Rattle.std.specs.List.{list_any}
use Rattle.std.specs.Option.{option_map}
use Rattle.numa_mask.specs.NodeSet.{both, members}
use Rattle.numa_machine.specs.Rules.{is_linux}
use Rattle.numa_machine.specs.Sizes.{whole}
use Rattle.numa_machine.specs.declared.page_size.PageSize.{PageSize}
use Rattle.numa_machine.specs.declared.page_size.PageSize.TheVariants.{Small}
use Rattle.numa_machine.specs.declared.rules.Rules.TheVariants.{Document, Linux}
use Rattle.numa_mode.specs.Policy.{PolicyRecord, Specification, is_default, record_after}
use Rattle.numa_ranges.specs.Maps.{any_page}
use Rattle.numa_ranges.specs.Runs.{page_at}
use Rattle.numa_ranges.specs.declared.run.Run.{Run}
use Rattle.numa_space.specs.History.{page_count, page_of}
use Rattle.numa_space.specs.Refusals.{bad_span, ends_above, has_no_node, has_policy, unaligned}
use Rattle.numa_space.specs.Refusals.{takes_no_home}
use Rattle.numa_space.specs.Standing.{SpaceState}
use Rattle.numa_requests.specs.declared.command.Command.{Command}
use Rattle.numa_requests.specs.declared.command.Command.TheVariants as command
use Rattle.numa_requests.specs.declared.refusal.Refusal.{Refusal}
use Rattle.numa_requests.specs.declared.refusal.Refusal.TheVariants.{BadSpan, Hole, NoPolicy}
use Rattle.numa_requests.specs.declared.refusal.Refusal.TheVariants.{NoSuchNode, NodesNotAllowed}
use Rattle.numa_requests.specs.declared.refusal.Refusal.TheVariants.{NotSupported}
use Rattle.numa_rules.specs.declared.otherwise.Otherwise.{Otherwise}
use Rattle.numa_rules.specs.declared.otherwise.Otherwise.TheVariants.{KeepsLastPage, WantsLength}
use Rattle.numa_rules.specs.declared.otherwise.Otherwise.TheVariants.{JudgesLengthFirst}
use Rattle.numa_rules.specs.declared.otherwise.Otherwise.TheVariants.{JudgesEndFirst}
use Rattle.numa_rules.specs.declared.otherwise.Otherwise.TheVariants.{LeavesLastPage, LooksPastEnd}
use Rattle.numa_rules.specs.declared.otherwise.Otherwise.TheVariants.{WantsNodes}
use Rattle.numa_rules.specs.declared.otherwise.Otherwise.TheVariants.{JudgesNodesFirst, PassesHoles}
use Rattle.numa_rules.specs.declared.otherwise.Otherwise.TheVariants.{WantsPolicy, PutsBackWeight}
use Rattle.numa_rules.specs.declared.otherwise.Otherwise.TheVariants.{AllowsAllMemory, LeavesNodes}
use Rattle.numa_rules.specs.declared.otherwise.Otherwise.TheVariants.{OverlooksPolicy}
use Rattle.numa_rules.specs.declared.parted.Owner.{Owner}
use Rattle.numa_rules.specs.declared.parted.Owner.TheVariants.{Range, Task}
use Rattle.numa_rules.specs.declared.parted.Parted.{Parted}

-- ---- policies

-- what a change of the allowed nodes from old to new makes of a policy by both rules, where its
-- nodes then differ
abbrev pub parted_policy : ℕ → ℕ → Owner → PolicyRecord → Option Parted
parted_policy old new owner r =
    if (record_after Document r old new).effective == (record_after Linux r old new).effective
    then None else Some (record {
      owner = owner;
      document = record_after Document r old new;
      linux = record_after Linux r old new;
    })

-- the first of two
abbrev pub first_of : Option Parted → Option Parted → Option Parted
first_of None other = other
first_of (Some parted) other = Some parted

abbrev pub parted_range : ℕ → ℕ → Run (Option PolicyRecord) → Option Parted
parted_range old new run = of_value run.value
  where
    of_value : Option PolicyRecord → Option Parted
    of_value None = None
    of_value (Some r) = parted_policy old new (Range run.first) r

-- the first range's
abbrev pub parted_ranges : ℕ → ℕ → List (Run (Option PolicyRecord)) → Option Parted
parted_ranges old new [] = None
parted_ranges old new (run ∷ runs) =
    first_of (parted_range old new run) (parted_ranges old new runs)

-- the first task's, in the order in which they got a policy
abbrev pub parted_tasks : ℕ → ℕ → List (ℕ × PolicyRecord) → Option Parted
parted_tasks old new [] = None
parted_tasks old new (held ∷ tasks) =
    first_of (parted_policy old new (Task held.0) held.1) (parted_tasks old new tasks)

-- the first range's, or the first task's where no range's nodes differ
abbrev pub parted_in : SpaceState → ℕ → Option Parted
parted_in space new = first_of (parted_ranges space.allowed new space.ranges)
    (parted_tasks space.allowed new space.tasks)

-- ---- commands

-- map, of so many bytes up to the end of the last page: the kernel keeps the last page below
-- address 2^47 free; and it judges a length of 0 first, and the end before the start
abbrev pub with_map : PageSize → ℕ → ℕ → Option Otherwise
with_map size start bytes =
    if bytes == 0
    then (if is_some (bad_span size start bytes) then Some JudgesLengthFirst else None)
    else if not (ends_above (2 ^ 47 - 4096) start bytes) then None
    else if is_some (unaligned size start) then Some JudgesEndFirst
    else if ends_above (2 ^ 47) start bytes then None else Some KeepsLastPage

-- unmap: the kernel leaves that page alone, and wants a byte
abbrev pub with_unmap : ℕ → ℕ → Option Otherwise
with_unmap start bytes =
    if is_some (unaligned Small start) then None
    else if ends_above (2 ^ 47 - 4096) start bytes then Some LeavesLastPage
    else if bytes == 0 then Some WantsLength else None

-- why the kernel refuses an mbind or a home that ends above address 2^47, the number of ranges
-- apart: it looks for pages there as below, and finds none
abbrev pub bind_past_end : SpaceState → ℕ → ℕ → Specification → Option Refusal
bind_past_end space start bytes spec =
    if ends_above (2 ^ 64 - 1) start bytes then Some BadSpan
    else if bytes == 0 then None
    else if has_no_node space.allowed spec then Some NodesNotAllowed
    else if is_default spec && any_page (λ page. is_some (page_at space.ranges page))
    (page_of start) (page_count bytes) then None
    else Some Hole

abbrev pub home_past_end : SpaceState → ℕ → ℕ → ℕ → Option Refusal
home_past_end space start bytes node =
    if ends_above (2 ^ 64 - 1) start bytes then Some BadSpan
    else if nat_le space.machine.nodes node then Some NoSuchNode
    else if bytes == 0 then None
    else if any_page (λ page. takes_no_home (page_at space.ranges page)) (page_of start)
    (page_count bytes) then Some NotSupported
    else if any_page (λ page. has_policy (page_at space.ranges page)) (page_of start)
    (page_count bytes) then None
    else Some NoPolicy

-- mbind: of DEFAULT over a hole the kernel takes the policies of the other pages away, where there
-- are others; of another policy over a hole it answers first that its nodes aren't allowed
abbrev pub with_bind : SpaceState → ℕ → ℕ → Specification → Option Otherwise
with_bind space start bytes spec =
    if is_some (unaligned Small start) then None
    else if ends_above (2 ^ 47) start bytes
    then Some (LooksPastEnd (bind_past_end space start bytes spec))
    else if bytes == 0 then None
    else if is_default spec then (if is_mapped && has_hole then Some PassesHoles else None)
    else if has_no_node space.allowed spec && has_hole then Some JudgesNodesFirst else None
  where
    is_mapped : Bool
    is_mapped = any_page (λ page. is_some (page_at space.ranges page)) (page_of start)
        (page_count bytes)

    has_hole : Bool
    has_hole = any_page (λ page. not (is_some (page_at space.ranges page))) (page_of start)
        (page_count bytes)

-- home: the kernel wants a page with a policy of its own; one that takes no home is refused by both
abbrev pub with_home : SpaceState → ℕ → ℕ → ℕ → Option Otherwise
with_home space start bytes node =
    if is_some (unaligned Small start) then None
    else if ends_above (2 ^ 47) start bytes
    then Some (LooksPastEnd (home_past_end space start bytes node))
    else if nat_le space.machine.nodes node || bytes == 0 then None
    else if any_page (λ page. has_policy (page_at space.ranges page)) (page_of start)
    (page_count bytes) then None
    else Some WantsPolicy

-- weight: the kernel takes 0, to put back 1
abbrev pub with_weight : SpaceState → ℕ → ℕ → Option Otherwise
with_weight space node weight =
    if nat_le space.machine.nodes node || not (weight == 0) then None else Some PutsBackWeight

-- mems: the kernel refuses no nodes for a cause of its own, and allows all nodes with memory where
-- none of these has some; else it leaves the nodes of PREFERRED and PREFERRED_MANY as they are, and
-- no other policy without any
abbrev pub with_mems : SpaceState → ℕ → Option Otherwise
with_mems space mask =
    if list_any (λ node. nat_le space.machine.nodes node) (members mask) then None
    else if mask == 0 then Some WantsNodes
    else if both mask space.machine.memory == 0 then Some AllowsAllMemory
    else option_map LeavesNodes (parted_in space (both mask space.machine.memory))

abbrev pub with_command : SpaceState → Command → Option Otherwise
with_command space (command.Map start bytes offset size) = with_map size start (whole size bytes)
with_command space (command.Unmap start bytes) = with_unmap start bytes
with_command space (command.Mbind start bytes spec) = with_bind space start bytes spec
with_command space (command.SetTask task spec) = None
with_command space (command.Inherit task from) = None
with_command space (command.SetHome start bytes node) = with_home space start bytes node
with_command space (command.SetWeight node weight) = with_weight space node weight
with_command space (command.SetMems mask) = with_mems space mask

-- nothing where the kernel's rules count already; the number of commands apart
abbrev pub otherwise_of : SpaceState → Command → Option Otherwise
otherwise_of space command =
    if is_linux space.machine.rules then None else with_command space command

-- an mbind of length 0 whose mode, flag and nodes don't go together, which by the documents is a
-- fault and no command: the kernel returns before it judges them, but not before the address
abbrev pub otherwise_of_empty_bind : SpaceState → ℕ → Option Otherwise
otherwise_of_empty_bind space start =
    if is_linux space.machine.rules then None
    else if is_some (unaligned Small start) then None else Some OverlooksPolicy
