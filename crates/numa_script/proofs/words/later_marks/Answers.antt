use Rattle.std.proofs.Common.{sym, subst, drop, ◌+◌}
use Rattle.std.proofs.lemmas.Nat.{shr-shr}
use Rattle.numa_script.specs.Words.{Marks}
use Rattle.numa_script.proofs.Spaces.{marks_behind, space_below}
use Rattle.numa_script.proofs.words.later_marks.Goals as goal

pub overflow_shr-result : goal.overflow_shr-result
overflow_shr-result c =
    space_below c.args.text.now c.args.marks c.args.end c.requires.marks c.ranges.marks.fits
    c.requires.space

pub returns : goal.returns
returns c =
    subst (Marks (drop (c.args.end + 1) c.args.text.now)) (sym (shr-shr c.args.marks c.args.end 1))
    (marks_behind c.args.text.now c.args.marks (c.args.end + 1) c.requires.marks)
