-- A run joins the open one or closes it.
use Rattle.std.proofs.Common.{◌≡◌, true, false, ◌∷◌, ◌++◌, [], length-append, arith, ap, ◌∙◌}
use Rattle.numa_ranges.proofs.Gather.{so_far-closed}
use Rattle.numa_ranges.proofs.pieces.Pieces.add.Goals as goal

pub returns-else-continues-clause-gathered : goal.returns-else-continues-clause-gathered
returns-else-continues-clause-gathered g c added h =
    record {
      closed = h.closed ++ c.in-Some.last ∷ [];
      count =
          omega (
            arith,
            c.close.ensures.count,
            h.count,
            length-append h.closed (c.in-Some.last ∷ []),
          );
      kept = λ e. (c.close.ensures.closed e).1 ∙ ap (λ l. l ++ c.in-Some.last ∷ [])
          (h.kept (c.close.ensures.closed e).0);
      so_far = so_far-closed g.T.PartialEq.eq g.met.T.Exact.exact (g.met.T.Eq.laws.refl) added
          h.closed c.args.self.now.open_run c.in-Some.last c.args.run c.in-Some.is
          (λ k. let odd : false ≡ true = c.if-continues.ensures.1 k in cc) h.so_far;
    }
