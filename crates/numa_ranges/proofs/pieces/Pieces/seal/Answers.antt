-- With the open run closed, all that was added stands among the closed ones.
use Rattle.std.proofs.Common.{◌≡◌, ◌∷◌, ◌++◌, [], length, length-append, arith, ap, ◌∙◌, sym}
use Rattle.numa_ranges.specs.Edits.{maximal_runs}
use Rattle.numa_ranges.proofs.Gather.{sealed-some, sealed-none}
use Rattle.numa_ranges.proofs.pieces.Pieces.seal.Goals as goal

pub returns-in-Some-clause-count : goal.returns-in-Some-clause-count
returns-in-Some-clause-count g c added h =
    let all : maximal_runs g.T.PartialEq.eq added ≡ h.closed ++ c.in-Some.last ∷ [] =
    sealed-some g.T.PartialEq.eq g.met.T.Exact.exact g.met.T.Eq.laws.refl added h.closed
    c.args.self.now.open_run c.in-Some.last c.in-Some.is h.so_far in
    omega (
      arith,
      c.close.ensures.count,
      h.count,
      ap length all,
      length-append h.closed (c.in-Some.last ∷ []),
    )

pub returns-in-Some-clause-closed : goal.returns-in-Some-clause-closed
returns-in-Some-clause-closed g c added h e =
    (c.close.ensures.closed e).1 ∙ ap (λ l. l ++ c.in-Some.last ∷ [])
    (h.kept (c.close.ensures.closed e).0)
    ∙ sym (sealed-some g.T.PartialEq.eq g.met.T.Exact.exact g.met.T.Eq.laws.refl added h.closed
    c.args.self.now.open_run c.in-Some.last c.in-Some.is h.so_far)

pub returns-in_default-clause-count : goal.returns-in_default-clause-count
returns-in_default-clause-count g c added h =
    let all : maximal_runs g.T.PartialEq.eq added ≡ h.closed =
    sealed-none g.T.PartialEq.eq g.met.T.Exact.exact g.met.T.Eq.laws.refl added h.closed
    c.args.self.now.open_run c.in_default.is h.so_far in
    h.count ∙ ap length (sym all)

pub returns-in_default-clause-closed : goal.returns-in_default-clause-closed
returns-in_default-clause-closed g c added h e =
    h.kept e
    ∙ sym (sealed-none g.T.PartialEq.eq g.met.T.Exact.exact g.met.T.Eq.laws.refl added h.closed
    c.args.self.now.open_run c.in_default.is h.so_far)
