use Rattle.std.proofs.Common.{arith, sym, subst}
use Rattle.numa_script.specs.Words.{Marks}
use Rattle.numa_script.proofs.Spaces.{first_found, no_space}
use Rattle.numa_script.proofs.words.first_mark.Goals as goal

pub returns-then-marks-eq0 : goal.returns-then-marks-eq0
returns-then-marks-eq0 c =
    sym (no_space c.args.text.now (subst (Marks c.args.text.now) c.if-marks-eq0.true c.requires))

pub returns : goal.returns
returns c =
    sym
    (first_found c.args.text.now c.args.marks c.requires (omega (arith, c.if-marks-eq0.false))
    c.ranges.marks.fits)
