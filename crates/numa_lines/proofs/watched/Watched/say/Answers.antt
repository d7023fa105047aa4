use Rattle.numa_lines.proofs.Saying.{said_unchanged}
use Rattle.numa_lines.proofs.watched.Watched.say.Goals as goal

pub returns : goal.returns
returns g c =
    let first = said_unchanged g.W.Write.contents c.args.self.now c.keep.new.self
    c.if-keep.ensures.inner c.if-keep.ensures.failed c.if-keep.ensures.held in
    λ start said is. c.say_past.ensures start said (first start said is)
