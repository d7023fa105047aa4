use Rattle.numa_lines.proofs.Progressing.{progress_line}
use Rattle.numa_lines.proofs.served.ServedTakeLineWatched.take.Goals as goal

pub returns-clause-ok : goal.returns-clause-ok
returns-clause-ok g c =
    λ first begun lines h start stands.
    progress_line g.W.Write.contents g.S.Serve.plenty g.S.Serve.answer_of g.S.Serve.after start
    (g.S.Serve.stands_for c.args.self.now.server) (g.S.Serve.stands_for c.serve.new.self) begun
    c.args.output.now c.serve.new.output lines c.args.line.now c.serve.ensures
    (h start stands)
