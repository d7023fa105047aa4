-- The policies of calls of mbind.
use Rattle.std.specs.Prelude.{ℕ, ◌==◌, ◌&&◌, min, if◌then◌else◌, Option, Some, None, Result, Ok, Err}
use Rattle.numa_core.specs.Standing.{CoreState}
use Rattle.numa_host_script.specs.declared.running.RunningHost.{RunningHost}
use Rattle.numa_machine.specs.Rules.{is_linux}
use Rattle.numa_machine.specs.declared.rules.Rules.{Rules}
use Rattle.numa_machine.specs.declared.rules.Rules.TheVariants.{Document}
use Rattle.numa_mask.specs.Words.{number_of}
use Rattle.numa_mode.specs.Policy.{Specification, raw_specification}
use Rattle.numa_mode.specs.declared.modes.Mode.TheVariants.{Default}
use Rattle.numa_mode.specs.declared.modes.NodeFlag.TheVariants.{Plain}
use Rattle.numa_mode.specs.declared.specification.SpecError.{SpecError}
use Rattle.numa_mode.specs.declared.specification.SpecError.TheVariants.{FlagsForbidden}
use Rattle.numa_pages.specs.Changes.{PagesState}
use Rattle.numa_publish.specs.Shown.{DeskState}
use Rattle.numa_script.specs.Policies.{spec_or_fault, waits_for_pages}
use Rattle.numa_script.specs.declared.policy.WordError.{WordError}
use Rattle.numaplan_c.specs.declared.nodes.NpNodes.{NpNodes}

-- no policy
abbrev pub default_spec : Specification
default_spec = record { mode = Default; flag = Plain; mask = 0 }

-- the policy that a mode word and a set of nodes ask for; what is wrong is told as of a policy word
abbrev pub spec_by : ℕ → NpNodes → Result Specification WordError
spec_by mode nodes = spec_or_fault (raw_specification mode (number_of nodes.words))

-- what an mbind of so many bytes sets for a policy that was read: by the kernel's rules a length of
-- 0 is judged before mode, flag and nodes together are, and then nothing is bound
abbrev pub bound_spec : Rules → ℕ → Result Specification WordError → Result Specification WordError
bound_spec rules bytes (Ok spec) = Ok spec
bound_spec rules bytes (Err fault) =
    if bytes == 0 && waits_for_pages fault && is_linux rules then Ok default_spec else Err fault

-- the node that a set_mempolicy_home_node(2) asks for, which takes no flags: numbers that don't fit
-- are those of no node
abbrev pub home_of : ℕ → ℕ → Result ℕ SpecError
home_of node flags = if flags == 0 then Ok (min node 4294967295) else Err FlagsForbidden

-- the rules of what a handle keeps; a closed one has none of its own
abbrev pub rules_in : Option CoreState → Rules
rules_in None = Document
rules_in (Some core) = core.space.machine.rules

abbrev pub page_rules_in : Option PagesState → Rules
page_rules_in None = Document
page_rules_in (Some pages) = pages.core.space.machine.rules

abbrev pub desk_rules_in : Option DeskState → Rules
desk_rules_in None = Document
desk_rules_in (Some desk) = desk.desk.machine.rules

abbrev pub host_rules_in : Option RunningHost → Rules
host_rules_in None = Document
host_rules_in (Some running) = running.host.blank.machine.rules
