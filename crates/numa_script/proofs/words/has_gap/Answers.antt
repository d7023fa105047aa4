use Rattle.std.proofs.Common.{sym, arith}
use Rattle.std.proofs.lemmas.Bool.Decides.{nat_tests}
use Rattle.numa_script.proofs.Gaps.{empty_at_end, empty_within}
use Rattle.numa_script.proofs.words.has_gap.Goals as goal

pub returns-then-text-eq32 : goal.returns-then-text-eq32
returns-then-text-eq32 c =
    sym
    (empty_at_end c.args.text.now c.args.marks c.requires (grind (arith, nat_tests))
    c.if-text-eq32.true)

pub returns : goal.returns
returns c =
    sym
    (empty_within c.args.text.now c.args.marks c.requires (grind (arith, nat_tests))
    c.if-text-eq32.false c.if-marks-eq1.false)
