use Rattle.std.proofs.Common.{arith}
use Rattle.std.proofs.lemmas.Bool.Decides.{nat_tests}
use Rattle.numa_reports.proofs.sheet.prediction_texts.shared_text.Goals as goal

pub write_by-written-requires : goal.write_by-written-requires
write_by-written-requires g c = record { known = grind (arith, nat_tests) }
