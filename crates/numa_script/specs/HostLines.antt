-- What the lines of a host say.
use Rattle.std.specs.Prelude.{ℕ, List, [], ◌∷◌, codes, if◌then◌else◌, Option, Some, None}
use Rattle.std.specs.Prelude.{Result, Ok, Err}
use Rattle.std.specs.Option.{option_map}
use Rattle.std.specs.Str.{bytes_eq}
use Rattle.numa_mask.specs.Lists.{list_of}
use Rattle.numa_mask.specs.declared.list.ListFault.{ListFault}
use Rattle.numa_requests.specs.declared.host_command.HostCommand.TheVariants as command
use Rattle.numa_script.specs.Numbers.{small_of}
use Rattle.numa_script.specs.Present.{four_of, two_of}
use Rattle.numa_script.specs.declared.line.Line.{Line}
use Rattle.numa_script.specs.declared.line.Line.TheVariants as line
use Rattle.numa_script.specs.declared.policy.WordError.TheVariants as fault

-- host
abbrev pub host_line : List (List ℕ) → Option Line
host_line [] = Some line.Host
host_line _ = None

-- cgroup G PARENT
abbrev pub group_line : List (List ℕ) → Option Line
group_line words = option_map (λ v. line.HostCommand (Ok (command.NewGroup v.0 v.1)))
    (two_of small_of small_of words)

-- the nodes that a group has for its own
abbrev pub own_nodes : ℕ → Result ℕ ListFault → Line
own_nodes group (Ok mask) = line.HostCommand (Ok (command.SetGroupMems group (Some mask)))
own_nodes group (Err wrong) = line.HostCommand (Err (fault.List wrong))

-- a list of nodes, or `-` for none of its own
abbrev pub group_nodes : ℕ → List ℕ → Line
group_nodes group word = if bytes_eq word (codes "-")
    then line.HostCommand (Ok (command.SetGroupMems group None)) else own_nodes group (list_of word)

-- cgroup-mems G LIST, cgroup-mems G -
abbrev pub group_mems_line : List (List ℕ) → Option Line
group_mems_line (group ∷ nodes ∷ []) = option_map (λ g. group_nodes g nodes) (small_of group)
group_mems_line _ = None

-- process P G
abbrev pub process_line : List (List ℕ) → Option Line
process_line words = option_map (λ v. line.HostCommand (Ok (command.NewProcess v.0 v.1)))
    (two_of small_of small_of words)

-- exit P
abbrev pub exit_line : List (List ℕ) → Option Line
exit_line (process ∷ []) =
    option_map (λ p. line.HostCommand (Ok (command.Exit p))) (small_of process)
exit_line _ = None

-- attach P G
abbrev pub attach_line : List (List ℕ) → Option Line
attach_line words = option_map (λ v. line.HostCommand (Ok (command.Attach v.0 v.1)))
    (two_of small_of small_of words)

-- fork P Q TASK CHILD
abbrev pub fork_line : List (List ℕ) → Option Line
fork_line words = option_map (λ v. line.HostCommand (Ok (command.Fork v.0 v.1 v.2 v.3)))
    (four_of small_of small_of small_of small_of words)
