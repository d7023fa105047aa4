use Rattle.numa_lines.proofs.Adding.{said_both, said_same}
use Rattle.numa_host_script.proofs.Told.{sum-told}
use Rattle.numa_host_script.proofs.telling.say_moved_in.Goals as goal

pub returns : goal.returns
returns g c = λ at stands.
    let sums = c.last-all.ensures at.lying stands.lies in
    said_same g.W.Write.contents c.args.output.now c.say.new.self _ _
    (sum-told at c.version.result c.last-all.result.moved c.last-all.result.left
    (c.version.ensures.meaning at.history stands.stands) sums.0 sums.1)
    (said_both g.W.Write.contents c.args.output.now c.say_sums.new.output c.say.new.self _ _
    (said_both g.W.Write.contents c.args.output.now c.say_counted_at.new.output
    c.say_sums.new.output _ _ c.say_counted_at.ensures
    (c.say_sums.ensures at.lying stands.lies)) c.say.ensures)
