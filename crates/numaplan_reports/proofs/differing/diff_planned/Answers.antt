use Rattle.std.proofs.lemmas.Result.{MatchResult-from_both}
use Rattle.numaplan_reports.proofs.differing.diff_planned.Goals as goal

pub returns : goal.returns
returns c history later stands stands' = MatchResult-from_both c.all_moves.result _ _
    (c.all_moves.ensures.ok history later stands (c.requires.old history stands) stands'
    (c.requires.new later stands'))
    (c.all_moves.ensures.err history later stands (c.requires.old history stands) stands'
    (c.requires.new later stands'))
