use Rattle.std.proofs.Common.{ℕ, List, [], ◌∷◌, ◌++◌, take, arith, refl}
use Rattle.std.proofs.lemmas.Bool.{false_from_ne_true}
use Rattle.numa_lines.specs.Cuts.{HasCut}
use Rattle.numa_lines.specs.Lines.{IsPiece}
use Rattle.numa_lines.proofs.Cuts.{cut_rest, takes_both, takes_none}
use Rattle.numa_lines.proofs.Cutting.{cut_at}
use Rattle.numa_lines.proofs.lines.LinesTakeText.take.Goals as goal

pub loop-end-init : goal.loop-end-init
loop-end-init g c =
    ([], takes_none (HasCut g.T.TakeLine.has_taken) c.args.self.now c.args.output.now, refl)

pub loop-end-preserved : goal.loop-end-preserved
loop-end-preserved g c =
    let line : List ℕ = take c.in-Some.end c.loop-end.rest.now in
    let taken = c.loop-end.invariant in (
      taken.0 ++ (line ++ 10 ∷ []),
      takes_both (HasCut g.T.TakeLine.has_taken) c.args.self.now c.args.output.now c.loop-end.self
          c.loop-end.output c.end_line.new.self c.end_line.new.output taken.0 (line ++ 10 ∷ [])
          taken.1 c.in_default-end_line.ensures.ok,
      cut_at c.in-Some.end c.args.piece.now taken.0 c.loop-end.rest.now c.in-Some.ensures.0.high
          c.in-Some.ensures.1 taken.2,
    )

pub returns-clause-ok : goal.returns-clause-ok
returns-clause-ok g c =
    let has = g.T.TakeLine.has_taken in
    let piece : IsPiece c.loop-end.rest.now =
    λ k lt. false_from_ne_true _ (c.in_default.ensures k (omega arith) lt) in
    let taken = c.loop-end.invariant in
    rw taken.2
    (takes_both (HasCut has) c.args.self.now c.args.output.now c.loop-end.self c.loop-end.output
    (record c.loop-end.self { line = c.hold.new.self }) c.loop-end.output taken.0
    c.loop-end.rest.now taken.1
    (λ first begun front h.
    cut_rest (has first.taker begun c.loop-end.self.taker c.loop-end.output) c.loop-end.self.line
    c.hold.new.self front c.loop-end.rest.now piece c.hold.ensures h))
