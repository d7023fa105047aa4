-- Equal records are one record.
use Rattle.std.proofs.Common.{◌≡◌, true, arith}
use Rattle.std.proofs.lemmas.Grind.{common_steps}
use Rattle.numa_mode.specs.Policy.{PolicyRecord}
use Rattle.numa_mode.specs.contracts.records.RecordPartialEq.TheImpl as same

-- where `==` answers true
pub equal_records : (a b : PolicyRecord) → same.ghosts.eq a b ≡ true → a ≡ b
equal_records a b h = grind (arith, common_steps)
