use Rattle.numa_lines.proofs.Saying.{said_sent}
use Rattle.numa_lines.proofs.watched.Watched.put.Goals as goal

pub returns-then-self-clause-says : goal.returns-then-self-clause-says
returns-then-self-clause-says g c = said_sent g.W.Write.contents c.args.self.now c.flush.new.self
    c.send.new.self c.args.text.now c.flush.ensures.says c.flush.ensures.empty c.send.ensures.sent
    c.send.ensures.held

pub returns-clause-says : goal.returns-clause-says
returns-clause-says g c = said_sent g.W.Write.contents c.args.self.now c.flush.new.self
    c.send.new.self c.args.text.now c.flush.ensures.says c.flush.ensures.empty c.send.ensures.sent
    c.send.ensures.held
