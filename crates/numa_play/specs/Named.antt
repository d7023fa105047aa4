-- What lines name, what of it is asked for, and which address is meant.
use Rattle.std.specs.Prelude.{ℕ, ◌==◌, ◌/◌, Bool, true, false, not}
use Rattle.std.specs.Prelude.{Option, Some, None, Result, Ok, Err, if◌then◌else◌}
use Rattle.numa_machine.specs.Machine.{Hardware}
use Rattle.numa_machine.specs.declared.fallback.Fallback.{Fallback}
use Rattle.numa_machine.specs.declared.fallback.Fallback.TheVariants.{Nearest, Kernel}
use Rattle.numa_mask.specs.NodeSet.{has}
use Rattle.numa_sheets.specs.declared.asked.AddressAsked.{AddressAsked}
use Rattle.numa_script.specs.declared.line.Line.{Line}
use Rattle.numa_script.specs.declared.line.Line.TheVariants as line
use Rattle.numa_requests.specs.declared.command.Command.TheVariants.{SetTask, Inherit}
use Rattle.numa_play.specs.declared.named.TasksNamed.{TasksNamed}
use Rattle.numa_play.specs.declared.named.TasksNamed.TheVariants.{Nobody, One, Several}

-- ---- tasks

-- a line names a task by giving it a policy
abbrev pub task_in : Line → Option ℕ
task_in (line.Command (Ok (SetTask task spec))) = Some task
task_in (line.Command (Ok (Inherit task from))) = Some task
task_in _ = None

-- one more task, which may be named already
abbrev pub and_task : TasksNamed → ℕ → TasksNamed
and_task Nobody task = One task
and_task (One first) task = if first == task then One first else Several first task
and_task (Several first second) task = Several first second

-- the given task, or that which lines name alone, or task 1 where they name none: then all tasks
-- are alike
abbrev pub task_asked : Option ℕ → TasksNamed → Result ℕ (ℕ × ℕ)
task_asked (Some task) tasks = Ok task
task_asked None Nobody = Ok 1
task_asked None (One task) = Ok task
task_asked None (Several first second) = Err (first, second)

-- a task is given, and lines name others alone
abbrev pub is_unnamed : Option ℕ → Bool → TasksNamed → Bool
is_unnamed None has_given tasks = false
is_unnamed (Some task) has_given Nobody = false
is_unnamed (Some task) has_given tasks = not has_given

-- ---- nodes with CPUs

-- those by which a kernel orders nodes; else those that a line names, or all
abbrev pub has_cpus_by : Fallback → Option ℕ → ℕ → Bool
has_cpus_by (Kernel cpus) named node = has cpus node
has_cpus_by Nearest (Some cpus) node = has cpus node
has_cpus_by Nearest None node = true

abbrev pub has_cpus : Hardware → Option ℕ → ℕ → Bool
has_cpus machine named node = has_cpus_by machine.fallback named node

-- ---- addresses

-- An address as it is read first, or by hexadecimal digits where that page alone is mapped; none
-- where both are mapped and aren't one page.
abbrev pub meant_of_two : ℕ → ℕ → Bool → Bool → Option ℕ
meant_of_two first other true true = if first / 4096 == other / 4096 then Some first else None
meant_of_two first other false true = Some other
meant_of_two first other is_mapped is_other_mapped = Some first

abbrev pub meant_by : ℕ → Option ℕ → Bool → Bool → Option ℕ
meant_by first None is_mapped is_other_mapped = Some first
meant_by first (Some other) is_mapped is_other_mapped =
    meant_of_two first other is_mapped is_other_mapped

abbrev pub address_meant : AddressAsked → Bool → Bool → Option ℕ
address_meant asked is_mapped is_other_mapped = meant_by asked.value asked.hexadecimal is_mapped
    is_other_mapped
