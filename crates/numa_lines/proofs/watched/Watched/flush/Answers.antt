use Rattle.std.proofs.Common.{◌≡◌, List, ℕ, Option, Some, subst, sym, unwrap_or, []}
use Rattle.numa_lines.proofs.Saying.{says_flushed}
use Rattle.numa_lines.specs.Written.{IsAppended, IsSaid}
use Rattle.numa_lines.proofs.watched.Watched.flush.Goals as goal

pub returns-clause-says : goal.returns-clause-says
returns-clause-says g c =
    λ start said h.
    let was : c.args.self.now.held ≡ Some c.in-Some.held = sym c.in-Some.ensures.value in
    rw c.clear.ensures
    (says_flushed start (g.W.Write.contents c.args.self.now.inner)
    (g.W.Write.contents c.send.new.self.inner) c.args.self.now.failed c.send.new.self.failed
    c.in-Some.held said
    (subst (IsAppended c.args.self.now.failed (g.W.Write.contents c.args.self.now.inner)
    c.send.new.self.failed (g.W.Write.contents c.send.new.self.inner)) c.bytes.ensures
    c.send.ensures.sent)
    (subst (λ (o : Option (List ℕ)). IsSaid start (g.W.Write.contents c.args.self.now.inner)
    c.args.self.now.failed (unwrap_or o []) said) was h))
