use Rattle.numa_script.proofs.Spaces.{marks_joined}
use Rattle.numa_script.proofs.words.joined.Goals as goal

pub returns : goal.returns
returns c =
    marks_joined c.args.line.now c.args.lanes c.args.front c.args.back c.requires.some
    c.requires.few c.requires.front c.requires.back c.requires.lanes
