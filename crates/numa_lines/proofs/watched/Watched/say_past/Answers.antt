use Rattle.std.proofs.Common.{◌∙◌}
use Rattle.numa_lines.proofs.Saying.{said_sent, said_unchanged}
use Rattle.numa_lines.proofs.watched.Watched.say_past.Goals as goal

pub returns : goal.returns
returns g c =
    let later = said_unchanged g.W.Write.contents c.flush.new.self c.keep.new.self
    c.if-keep.ensures.inner c.if-keep.ensures.failed c.if-keep.ensures.held in
    said_sent g.W.Write.contents c.args.self.now c.keep.new.self c.send.new.self c.args.text.now
    (λ start said is. later start said (c.flush.ensures.says start said is))
    (c.if-keep.ensures.held ∙ c.flush.ensures.empty) c.send.ensures.sent c.send.ensures.held
