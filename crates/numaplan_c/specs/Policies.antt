-- What an exported call about a policy word answers: a record, or the number of what is wrong.
use Rattle.std.specs.Prelude.{◌≡◌, ℕ, ◌==◌, List, Result, Ok, Err, if◌then◌else◌}
use Rattle.numa_machine.specs.declared.rules.Rules.{Rules}
use Rattle.numa_mask.specs.Lists.{list_of}
use Rattle.numa_mask.specs.Words.{number_of}
use Rattle.numa_mask.specs.declared.list.ListFault.{ListFault}
use Rattle.numa_mode.specs.Policy.{PolicyRecord, Specification, is_default, is_live}
use Rattle.numa_mode.specs.Policy.{record_when_set, record_after}
use Rattle.numa_script.specs.Policies.{policy_of}
use Rattle.numa_script.specs.declared.policy.WordError.{WordError}
use Rattle.numaplan_c.specs.Codes.{list_code, word_code}
use Rattle.numaplan_c.specs.declared.nodes.NpNodes.{NpNodes}

-- the record of a policy that is set where these nodes are allowed
abbrev pub record_of : Specification → ℕ → Result PolicyRecord ℕ
record_of spec allowed =
    if is_default spec then Err 75
    else if allowed == 0 then Err 76
    else if is_live (record_when_set spec allowed) then Ok (record_when_set spec allowed)
    else Err 19

abbrev pub record_from : Result Specification WordError → Result ℕ ListFault → Result PolicyRecord ℕ
record_from (Err fault) allowed = Err (word_code fault)
record_from (Ok spec) (Err fault) = Err (list_code fault)
record_from (Ok spec) (Ok allowed) = record_of spec allowed

-- the same of a word and a list of nodes
abbrev pub standing : List ℕ → List ℕ → Result PolicyRecord ℕ
standing policy allowed = record_from (policy_of policy) (list_of allowed)

-- the record once the allowed nodes have changed, by these rules
abbrev pub rebound : Rules → Result PolicyRecord ℕ → Result ℕ ListFault → Result ℕ ListFault
    → Result PolicyRecord ℕ
rebound rules (Err code) old new = Err code
rebound rules (Ok r) (Err fault) new = Err (list_code fault)
rebound rules (Ok r) (Ok old) (Err fault) = Err (list_code fault)
rebound rules (Ok r) (Ok old) (Ok new) =
    if new == 0 then Err 76 else Ok (record_after rules r old new)

-- its nodes are told, or the number of what is wrong, and then the set is as it was
abbrev pub TellsNodes : Result PolicyRecord ℕ → ℕ → NpNodes → NpNodes → Type 0
TellsNodes (Ok r) code old new = (code ≡ 0) × (number_of new.words ≡ r.effective)
TellsNodes (Err fault) code old new = (code ≡ fault) × (new ≡ old)
