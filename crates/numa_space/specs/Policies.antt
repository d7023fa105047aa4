-- Which nodes are allowed, and which set each policy has now ("NUMA Memory Policy", memory policies
-- and cpusets).
use Rattle.std.specs.Prelude.{ℕ, ◌==◌, Bool, false, Option, Some, None, List, [], ◌∷◌, ◌++◌, filter}
use Rattle.std.specs.Prelude.{not, option_and_then, if◌then◌else◌}
use Rattle.numa_mask.specs.NodeSet.{both, remap_set}
use Rattle.numa_machine.specs.Machine.{Hardware}
use Rattle.numa_machine.specs.declared.rules.Rules.{Rules}
use Rattle.numa_machine.specs.declared.rules.Rules.TheVariants.{Document, Linux}
use Rattle.numa_mode.specs.Policy.{Specification, PolicyRecord, is_default, effect_when_set}
use Rattle.numa_mode.specs.Policy.{is_live, effect_after, never_empty, record_when_set, takes_home}
use Rattle.numa_mode.specs.Policy.{with_home}
use Rattle.numa_mode.specs.declared.modes.NodeFlag.{NodeFlag}
use Rattle.numa_mode.specs.declared.modes.NodeFlag.TheVariants.{Plain, Static, Relative}
use Rattle.numa_requests.specs.declared.command.Command.{Command}
use Rattle.numa_requests.specs.declared.command.Command.TheVariants.{SetTask, Inherit, SetWeight}
use Rattle.numa_requests.specs.declared.command.Command.TheVariants.{SetMems}
use Rattle.std.specs.Option.{option_map}
use Rattle.std.specs.List.{list_any}
use Rattle.numa_space.specs.History.{Place, one_later}

-- ---- the allowed nodes

-- the nodes that a mask allows: those of its nodes that have memory. Where none has, the kernel
-- allows what the parent control group does, all nodes with memory
unfoldable pub mems_of : Hardware → ℕ → ℕ
mems_of machine mask = never_empty machine.rules (both mask machine.memory) machine.memory

-- what the last change of the allowed nodes allows; before any, all nodes with memory
abbrev pub allowed_nodes : Hardware → List Command → ℕ
allowed_nodes machine [] = machine.memory
allowed_nodes machine (SetMems mask ∷ history) = mems_of machine mask
allowed_nodes machine (_ ∷ history) = allowed_nodes machine history

-- ---- the effective set of a policy

-- a set that stood right after the commands `before`, moved by each later change of the allowed
-- nodes in turn
abbrev pub followed_set : Hardware → List Command → List Command → ℕ → ℕ
followed_set machine before [] set = set
followed_set machine before (SetMems mask ∷ later) set =
    remap_set (followed_set machine before later set) (allowed_nodes machine (later ++ before))
    (allowed_nodes machine (SetMems mask ∷ later ++ before))
followed_set machine before (_ ∷ later) set = followed_set machine before later set

-- by the documents, the effective set of a policy that was set right after the commands `before`,
-- once the commands `later` came too: with a flag it is worked out from the user's mask and the
-- nodes that are allowed now; without one it is worked out once, and follows
abbrev pub documented_set : Hardware → List Command → List Command → Specification → ℕ
documented_set machine before later spec = by_flag spec.flag
  where
    by_flag : NodeFlag → ℕ
    by_flag Static = effect_when_set spec (allowed_nodes machine (later ++ before))
    by_flag Relative = effect_when_set spec (allowed_nodes machine (later ++ before))
    by_flag Plain = followed_set machine before later
        (effect_when_set spec (allowed_nodes machine before))

-- by the kernel: what each later change of the allowed nodes in turn makes of the set
abbrev pub rebound_set : Hardware → List Command → List Command → Specification → ℕ
rebound_set machine before [] spec = effect_when_set spec (allowed_nodes machine before)
rebound_set machine before (SetMems mask ∷ later) spec =
    effect_after Linux spec (rebound_set machine before later spec)
    (allowed_nodes machine (later ++ before))
    (allowed_nodes machine (SetMems mask ∷ later ++ before))
rebound_set machine before (_ ∷ later) spec = rebound_set machine before later spec

abbrev pub set_by : Hardware → List Command → List Command → Specification → Rules → ℕ
set_by machine before later spec Document = documented_set machine before later spec
set_by machine before later spec Linux = rebound_set machine before later spec

-- by the rules of the machine
abbrev pub effective_set : Hardware → List Command → List Command → Specification → ℕ
effective_set machine before later spec = set_by machine before later spec machine.rules

-- the record that a command at a place set, where its specification isn't DEFAULT; it has no home
abbrev pub record_set : Hardware → Specification → Place → Option PolicyRecord
record_set machine spec place =
    if is_default spec then None else Some (record {
      spec = spec;
      effective = effective_set machine place.before place.after spec;
      home = None;
      of_object = false;
    })

-- the record of a policy that is set now; DEFAULT has none
abbrev pub record_now : ℕ → Specification → Option PolicyRecord
record_now allowed spec = if is_default spec then None else Some (record_when_set spec allowed)

-- a record with a home, for the modes that have one
abbrev pub policy_with_home : ℕ → Option PolicyRecord → Option PolicyRecord
policy_with_home node = option_map (λ r. if takes_home r then with_home r node else r)

-- ---- tasks

abbrev pub sets_task : ℕ → Command → Bool
sets_task task (SetTask t spec) = t == task
sets_task task _ = false

abbrev pub set_by_task : Hardware → Command → Place → Option PolicyRecord
set_by_task machine (SetTask t spec) place = record_set machine spec place
set_by_task machine _ place = None

-- which task had, before the command, what this task has after it
abbrev pub task_before : Command → ℕ → ℕ
task_before (Inherit heir from) task = if heir == task then from else task
task_before _ task = task

-- the command that set a task's policy: its last SetTask or, where it inherited after that, the one
-- that had set the other's policy by then
abbrev pub setter_of : ℕ → List Command → Option Place
setter_of task [] = None
setter_of task (command ∷ history) =
    if sets_task task command
    then Some (record { before = history; command = command; after = [] })
    else option_map (one_later command) (setter_of (task_before command task) history)

-- the record of a task: the one set there, none where that is DEFAULT or there is no such command
abbrev pub task_record : Hardware → List Command → ℕ → Option PolicyRecord
task_record machine history task = option_and_then
    (λ place. set_by_task machine place.command place) (setter_of task history)

-- the tasks that have a record, each once
abbrev pub tasks_of : List Command → List ℕ
tasks_of [] = []
tasks_of (SetTask task spec ∷ history) =
    (if is_default spec then [] else task ∷ [])
    ++ filter (λ other. not (other == task)) (tasks_of history)
tasks_of (Inherit heir from ∷ history) =
    (if list_any (λ other. other == from) (tasks_of history) then heir ∷ [] else [])
    ++ filter (λ other. not (other == heir)) (tasks_of history)
tasks_of (_ ∷ history) = tasks_of history

-- ---- weights

-- the weight that a command gives: 0 puts back 1, the weight of a node that was given none
abbrev pub weight_given : ℕ → ℕ
weight_given weight = if weight == 0 then 1 else weight

-- the weight of a node: that of its last command, else 1 (sysfs, "weighted_interleave")
abbrev pub node_weight : List Command → ℕ → ℕ
node_weight [] node = 1
node_weight (SetWeight n weight ∷ history) node =
    if n == node then weight_given weight else node_weight history node
node_weight (_ ∷ history) node = node_weight history node

-- ---- which of two policies counts

-- the record, where it is live
abbrev pub where_live : Option PolicyRecord → Option PolicyRecord
where_live None = None
where_live (Some r) = if is_live r then Some r else None

-- the range's policy where there is one and it is live, else the task's where there is one and it
-- is live, else none
abbrev pub policy_that_counts : Option PolicyRecord → Option PolicyRecord → Option PolicyRecord
policy_that_counts range task = first_of (where_live range)
  where
    first_of : Option PolicyRecord → Option PolicyRecord
    first_of None = where_live task
    first_of (Some r) = Some r
