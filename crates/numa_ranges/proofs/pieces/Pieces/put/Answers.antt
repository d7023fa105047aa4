-- The closed runs are the joined form of what was added, and are counted also where memory was
-- refused.
use Rattle.std.proofs.Common.{◌≡◌, length, arith, ap, refl, ◌∙◌}
use Rattle.std.specs.List.{splice}
use Rattle.numa_ranges.specs.Edits.{maximal_runs}
use Rattle.numa_ranges.proofs.Window.{length-splice}
use Rattle.numa_ranges.proofs.Spans.{no-memory, too-many}
use Rattle.numa_ranges.proofs.pieces.Pieces.put.Goals as goal

pub returns-clause-ok : goal.returns-clause-ok
returns-clause-ok g c added h =
    let closed : c.seal.new.self.closed.items ≡ maximal_runs g.T.PartialEq.eq added =
    c.seal.ensures.closed added h c.if-is_refused.false in
    let count : c.seal.new.self.count ≡ length (maximal_runs g.T.PartialEq.eq added) =
    c.seal.ensures.count added h in
    let size = length-splice c.args.runs.now (maximal_runs g.T.PartialEq.eq added) c.args.from
    c.args.to c.requires.window.0 c.requires.window.1 in (
      c.in-Ok.ensures.ok ∙ (λ i. splice (c.tidy.ensures i) c.args.from c.args.to
          ((c.deref.ensures.value ∙ closed) i)),
      omega (arith, size, count, c.len.ensures.len),
    )

pub returns-clause-err : goal.returns-clause-err
returns-clause-err g c added h = tt

pub returns-clause-unchanged : goal.returns-clause-unchanged
returns-clause-unchanged g c = tt

pub returns-in_default-clause-err : goal.returns-in_default-clause-err
returns-in_default-clause-err g c added h =
    let count : c.seal.new.self.count ≡ length (maximal_runs g.T.PartialEq.eq added) =
    c.seal.ensures.count added h in
    let size = length-splice c.args.runs.now (maximal_runs g.T.PartialEq.eq added) c.args.from
    c.args.to c.requires.window.0 c.requires.window.1 in
    no-memory c.args.limit
    (length (splice c.args.runs.now c.args.from c.args.to
    (maximal_runs g.T.PartialEq.eq added))) (omega (arith, size, count, c.len.ensures.len))

pub returns-in_default-clause-ok : goal.returns-in_default-clause-ok
returns-in_default-clause-ok g c added h = tt

pub returns-then-is_refused-clause-err : goal.returns-then-is_refused-clause-err
returns-then-is_refused-clause-err g c added h =
    let count : c.seal.new.self.count ≡ length (maximal_runs g.T.PartialEq.eq added) =
    c.seal.ensures.count added h in
    let size = length-splice c.args.runs.now (maximal_runs g.T.PartialEq.eq added) c.args.from
    c.args.to c.requires.window.0 c.requires.window.1 in
    no-memory c.args.limit
    (length (splice c.args.runs.now c.args.from c.args.to
    (maximal_runs g.T.PartialEq.eq added))) (omega (arith, size, count, c.len.ensures.len))

pub returns-then-is_refused-clause-ok : goal.returns-then-is_refused-clause-ok
returns-then-is_refused-clause-ok g c added h = tt

pub returns-then-others-count-clause-err : goal.returns-then-others-count-clause-err
returns-then-others-count-clause-err g c added h =
    let count : c.seal.new.self.count ≡ length (maximal_runs g.T.PartialEq.eq added) =
    c.seal.ensures.count added h in
    let size = length-splice c.args.runs.now (maximal_runs g.T.PartialEq.eq added) c.args.from
    c.args.to c.requires.window.0 c.requires.window.1 in
    too-many c.args.limit
    (length (splice c.args.runs.now c.args.from c.args.to
    (maximal_runs g.T.PartialEq.eq added))) (omega (arith, size, count, c.len.ensures.len))

pub returns-then-others-count-clause-ok : goal.returns-then-others-count-clause-ok
returns-then-others-count-clause-ok g c added h = tt

pub returns-then-is_refused-clause-unchanged : goal.returns-then-is_refused-clause-unchanged
returns-then-is_refused-clause-unchanged g c = refl

pub returns-then-others-count-clause-unchanged : goal.returns-then-others-count-clause-unchanged
returns-then-others-count-clause-unchanged g c = refl

pub splice_near-requires : goal.splice_near-requires
splice_near-requires g c =
    (c.requires.window.0, omega (arith, c.requires.window.1, ap length c.tidy.ensures))

pub returns-in_default-clause-unchanged : goal.returns-in_default-clause-unchanged
returns-in_default-clause-unchanged g c = c.in_default.ensures.unchanged ∙ c.tidy.ensures
