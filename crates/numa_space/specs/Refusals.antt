-- The first cause that refuses a command, and the commands that are accepted.
use Rattle.std.specs.Prelude.{ℕ, ◌+◌, ◌-◌, ◌*◌, ◌%◌, ◌^◌, ◌&&◌, ◌||◌, not, ◌==◌, nat_lt, nat_le}
use Rattle.std.specs.Prelude.{Bool}
use Rattle.std.specs.Prelude.{true, false, Option, Some, None, is_some, List, ◌∷◌, length}
use Rattle.std.specs.Prelude.{if◌then◌else◌}
use Rattle.std.specs.List.{list_any}
use Rattle.std.specs.Option.{option_map_or}
use Rattle.numa_mask.specs.NodeSet.{both, members}
use Rattle.numa_machine.specs.Machine.{Hardware}
use Rattle.numa_machine.specs.Rules.{is_linux}
use Rattle.numa_machine.specs.Sizes.{bytes_of, is_inside, whole}
use Rattle.numa_machine.specs.declared.page_size.PageSize.{PageSize}
use Rattle.numa_machine.specs.declared.page_size.PageSize.TheVariants.{Small, Huge}
use Rattle.numa_machine.specs.declared.rules.Rules.{Rules}
use Rattle.numa_machine.specs.declared.rules.Rules.TheVariants.{Document, Linux}
use Rattle.numa_mode.specs.Policy.{Specification, PolicyRecord, is_default, is_local}
use Rattle.numa_mode.specs.Policy.{effect_when_set, takes_home}
use Rattle.numa_ranges.specs.Counts.{range_count}
use Rattle.numa_ranges.specs.Maps.{any_page}
use Rattle.numa_space.specs.Limited.{Bounds}
use Rattle.numa_requests.specs.declared.command.Command.{Command}
use Rattle.numa_requests.specs.declared.command.Command.TheVariants.{Map, Unmap, Mbind, SetTask}
use Rattle.numa_requests.specs.declared.command.Command.TheVariants.{Inherit}
use Rattle.numa_requests.specs.declared.command.Command.TheVariants.{SetHome, SetWeight, SetMems}
use Rattle.numa_requests.specs.declared.refusal.Refusal.{Refusal}
use Rattle.numa_requests.specs.declared.refusal.Refusal.TheVariants.{CommandsSpent, Unaligned}
use Rattle.numa_requests.specs.declared.refusal.Refusal.TheVariants.{OutOfSpace, BadSpan}
use Rattle.numa_requests.specs.declared.refusal.Refusal.TheVariants.{EmptyLength, NoNodes}
use Rattle.numa_requests.specs.declared.refusal.Refusal.TheVariants.{BadOffset, Overlap, Hole}
use Rattle.numa_requests.specs.declared.refusal.Refusal.TheVariants.{NoSuchNode, BadWeight}
use Rattle.numa_requests.specs.declared.refusal.Refusal.TheVariants.{NodesNotAllowed, NotSupported}
use Rattle.numa_requests.specs.declared.refusal.Refusal.TheVariants.{TooManyTasks, TooManyRanges}
use Rattle.numa_requests.specs.declared.refusal.Refusal.TheVariants.{NoPolicy}
use Rattle.numa_space.specs.History.{page_of, page_count}
use Rattle.numa_space.specs.Policies.{allowed_nodes, policy_with_home, record_now, task_record}
use Rattle.numa_space.specs.Policies.{tasks_of}
use Rattle.numa_space.specs.Pages.{page_in}
use Rattle.numa_space.specs.Same.{same_record}

-- a page's index and its range's record, where it is mapped
abbrev pub PageMap : Type 0
PageMap = ℕ → Option (ℕ × Option PolicyRecord)

-- what a command is judged by
pub record Scene : Type 0 where
  pub machine : Hardware
  pub bounds : Bounds
  pub version : ℕ  -- how many commands were accepted
  pub allowed : ℕ
  pub pages : PageMap  -- as they are
  pub pages_after : PageMap  -- as they would be with the command
  pub task : ℕ → Option PolicyRecord
  pub task_count : ℕ  -- how many tasks have a record

-- the first of two causes
abbrev pub first_of : Option Refusal → Option Refusal → Option Refusal
first_of None other = other
first_of (Some cause) other = Some cause

-- a cause, where it applies
abbrev pub when : Bool → Refusal → Option Refusal
when true cause = Some cause
when false cause = None

-- ---- causes that several commands share

-- a start that is no page's of this size
abbrev pub unaligned : PageSize → ℕ → Option Refusal
unaligned size start = when (not (start % bytes_of size == 0)) Unaligned

-- whether a span ends above an address
abbrev pub ends_above : ℕ → ℕ → ℕ → Bool
ends_above address start bytes = nat_lt address (start + page_count bytes * 4096)

-- a span begins at a page of this size, and ends at address 2^47 at the latest
abbrev pub bad_span : PageSize → ℕ → ℕ → Option Refusal
bad_span size start bytes = first_of (unaligned size start)
    (when (ends_above (2 ^ 47) start bytes) OutOfSpace)

-- a policy other than DEFAULT and LOCAL that has no node when it is set
abbrev pub has_no_node : ℕ → Specification → Bool
has_no_node allowed spec = not (is_default spec)
    && (not (is_local spec) && (effect_when_set spec allowed == 0))

abbrev pub too_many_ranges : Scene → Option Refusal
too_many_ranges scene = when (nat_lt scene.bounds.max_ranges
    (range_count same_record scene.pages_after)) TooManyRanges

-- whether a home can't be given to the page: its range has a record of another mode
abbrev pub takes_no_home : Option (ℕ × Option PolicyRecord) → Bool
takes_no_home None = false
takes_no_home (Some (index, None)) = false
takes_no_home (Some (index, Some r)) = not (takes_home r)

-- ---- where the kernel judges otherwise than the documents

-- map, of so many bytes up to the end of the last page: the kernel judges the start last, and
-- keeps the last page below address 2^47 free
unfoldable pub bad_map_span : Rules → PageSize → ℕ → ℕ → Option Refusal
bad_map_span Document size start bytes =
    first_of (bad_span size start bytes) (when (bytes == 0) EmptyLength)
bad_map_span Linux size start bytes = first_of (when (bytes == 0) EmptyLength)
    (first_of (when (ends_above (2 ^ 47 - 4096) start bytes) OutOfSpace) (unaligned size start))

-- unmap: the kernel leaves that page alone, and wants a byte
unfoldable pub bad_unmap_span : Rules → ℕ → ℕ → Option Refusal
bad_unmap_span Document start bytes = bad_span Small start bytes
bad_unmap_span Linux start bytes = first_of (unaligned Small start)
    (first_of (when (ends_above (2 ^ 47 - 4096) start bytes) BadSpan)
    (when (bytes == 0) EmptyLength))

-- mbind and home: the kernel takes every span below address 2^64, though none of its pages from
-- that page on is mapped
unfoldable pub bad_policy_span : Rules → ℕ → ℕ → Option Refusal
bad_policy_span Document start bytes = bad_span Small start bytes
bad_policy_span Linux start bytes =
    first_of (unaligned Small start) (when (ends_above (2 ^ 64 - 1) start bytes) BadSpan)

-- the kernel passes over holes where an Mbind of DEFAULT takes policies away
abbrev pub passes_holes : Rules → Specification → Bool
passes_holes rules spec = is_linux rules && is_default spec

-- a page that has to be mapped isn't: any of the span or, where holes are passed over, each
abbrev pub lacks_pages : Bool → PageMap → ℕ → ℕ → Bool
lacks_pages passes pages first count = if passes
    then not (any_page (λ page. is_some (pages page)) first count)
    else any_page (λ page. not (is_some (pages page))) first count

-- the documents judge holes before nodes, the kernel nodes before holes
abbrev pub bind_cause : Rules → Option Refusal → Option Refusal → Option Refusal → Option Refusal
bind_cause rules nodes hole others = if is_linux rules then first_of nodes (first_of hole others)
    else first_of hole (first_of nodes others)

-- whether a page's range has a record
abbrev pub has_policy : Option (ℕ × Option PolicyRecord) → Bool
has_policy None = false
has_policy (Some (index, policy)) = is_some policy

-- the kernel gives no home where no page of the span has a policy of its own
unfoldable pub lacks_policy : Rules → PageMap → ℕ → ℕ → Bool
lacks_policy rules pages first count =
    is_linux rules && not (any_page (λ page. has_policy (pages page)) first count)

-- the kernel takes weight 0, to put back 1
abbrev pub is_bad_weight : Rules → ℕ → Bool
is_bad_weight rules weight = (weight == 0 && not (is_linux rules)) || nat_lt 255 weight

-- a mask allows no node: by the documents none of its nodes has memory, by the kernel it has none
unfoldable pub lacks_mems : Rules → ℕ → ℕ → Bool
lacks_mems Document mask memory = both mask memory == 0
lacks_mems Linux mask memory = mask == 0

-- such a mask's cause
abbrev pub mems_cause : Rules → Refusal
mems_cause Document = NodesNotAllowed
mems_cause Linux = NoNodes

-- ---- pages of 2 MiB

-- an offset in pages of 4 KiB at which no page of this size begins
abbrev pub unaligned_offset : PageSize → ℕ → Option Refusal
unaligned_offset Small offset = None
unaligned_offset Huge offset = when (not (offset % 512 == 0)) Unaligned

-- the record of the page of 2 MiB inside which the border before a page lies, if it lies inside one
abbrev pub inside_of : Option (ℕ × Option PolicyRecord) → Option (Option PolicyRecord)
inside_of None = None
inside_of (Some (index, policy)) = if is_inside index then Some policy else None

-- whether a home leaves a record as it is
abbrev pub keeps_home : ℕ → Option PolicyRecord → Bool
keeps_home node policy = same_record policy (policy_with_home node policy)

-- whether an end of a span parts a page of 2 MiB: it lies inside one, whose record wouldn't stay
unfoldable pub parts_pages : (Option PolicyRecord → Bool) → PageMap → ℕ → ℕ → Bool
parts_pages stays pages first count =
    option_map_or (λ policy. not (stays policy)) (inside_of (pages first)) false
    || option_map_or (λ policy. not (stays policy)) (inside_of (pages (first + count))) false

-- ---- the causes of each command, in order

abbrev pub cause_in : Scene → Command → Option Refusal
cause_in scene (Map start bytes offset size) =
    first_of (bad_map_span scene.machine.rules size start (whole size bytes))
    (first_of (when (nat_le (2 ^ 35) offset) BadOffset)
    (first_of (when (any_page (λ page. is_some (scene.pages page)) (page_of start)
    (page_count (whole size bytes))) Overlap)
    (first_of (unaligned_offset size offset)
    (too_many_ranges scene))))
cause_in scene (Unmap start bytes) =
    first_of (bad_unmap_span scene.machine.rules start bytes)
    (if bytes == 0 then None
    else first_of (when (parts_pages (λ policy. false) scene.pages (page_of start)
    (page_count bytes)) Unaligned)
    (too_many_ranges scene))
cause_in scene (Mbind start bytes spec) =
    first_of (bad_policy_span scene.machine.rules start bytes)
    (if bytes == 0 then None
    else bind_cause scene.machine.rules (when (has_no_node scene.allowed spec) NodesNotAllowed)
    (when (lacks_pages (passes_holes scene.machine.rules spec) scene.pages (page_of start)
    (page_count bytes)) Hole)
    (first_of (when (parts_pages (same_record (record_now scene.allowed spec)) scene.pages
    (page_of start) (page_count bytes)) Unaligned)
    (too_many_ranges scene)))
cause_in scene (SetTask task spec) =
    first_of (when (has_no_node scene.allowed spec) NodesNotAllowed)
    (when (not (is_default spec) && (not (is_some (scene.task task))
    && nat_le scene.bounds.max_tasks scene.task_count)) TooManyTasks)
cause_in scene (Inherit heir from) =
    when (is_some (scene.task from) && (not (is_some (scene.task heir))
    && nat_le scene.bounds.max_tasks scene.task_count)) TooManyTasks
cause_in scene (SetHome start bytes node) =
    first_of (bad_policy_span scene.machine.rules start bytes)
    (first_of (when (nat_le scene.machine.nodes node) NoSuchNode)
    (if bytes == 0 then None
    else first_of (when (any_page (λ page. takes_no_home (scene.pages page)) (page_of start)
    (page_count bytes)) NotSupported)
    (first_of (when (lacks_policy scene.machine.rules scene.pages (page_of start)
    (page_count bytes)) NoPolicy)
    (first_of (when (parts_pages (keeps_home node) scene.pages (page_of start)
    (page_count bytes)) Unaligned)
    (too_many_ranges scene)))))
cause_in scene (SetWeight node weight) =
    first_of (when (nat_le scene.machine.nodes node) NoSuchNode)
    (when (is_bad_weight scene.machine.rules weight) BadWeight)
cause_in scene (SetMems mask) =
    first_of (when (list_any (λ node. nat_le scene.machine.nodes node) (members mask)) NoSuchNode)
    (when (lacks_mems scene.machine.rules mask scene.machine.memory)
    (mems_cause scene.machine.rules))

-- the first cause, that of the number of commands before all others
abbrev pub refusal_in : Scene → Command → Option Refusal
refusal_in scene command = first_of (when (nat_le scene.bounds.max_commands scene.version)
    CommandsSpent) (cause_in scene command)

-- ---- over a history

abbrev pub scene_of : Hardware → Bounds → List Command → Command → Scene
scene_of machine bounds history command = record {
  machine = machine;
  bounds = bounds;
  version = length history;
  allowed = allowed_nodes machine history;
  pages = page_in machine history;
  pages_after = page_in machine (command ∷ history);
  task = task_record machine history;
  task_count = length (tasks_of history);
}

-- the first cause that refuses the command after this history, lack of memory apart
abbrev pub refusal_of : Hardware → Bounds → List Command → Command → Option Refusal
refusal_of machine bounds history command = refusal_in
    (scene_of machine bounds history command) command

-- how many ranges there are: mapped pages whose predecessor isn't mapped, or has another record, or
-- an index that isn't one less
abbrev pub range_count_of : Hardware → List Command → ℕ
range_count_of machine history = range_count same_record (page_in machine history)
