-- The runs so far are apart, and the last of them goes on with those that are left.
use Rattle.std.proofs.Common.{◌≡◌, List, ◌∷◌, sym, subst, arith, false, true}
use Rattle.std.specs.Prelude.{All}
use Rattle.numa_ranges.specs.Edits.{IsInRange}
use Rattle.numa_ranges.specs.Runs.{AreMaximal}
use Rattle.numa_ranges.specs.declared.run.Run.{Run}
use Rattle.numa_ranges.proofs.InPlace.{in-range-behind, in-range-first}
use Rattle.numa_ranges.proofs.join.joins_on.Goals as goal

pub loop-run-init : goal.loop-run-init
loop-run-init g c =
    let start = c.into_iter-run-iterator.ensures.into_iter_gives in
    record {
      in_range = subst (λ (l : List (Run g.row.T.Denot)). All IsInRange (c.args.first ∷ l))
          (sym start) c.requires;
      maximal = subst (λ (l : List (Run g.row.T.Denot)). AreMaximal (c.args.first ∷ l)
          → AreMaximal (c.args.first ∷ c.args.runs)) (sym start) (λ m. m);
    }

pub continues-requires-clause-end : goal.continues-requires-clause-end
continues-requires-clause-end g c = omega (
  arith,
  (in-range-first c.loop-run.last c.loop-run.run-iterator c.loop-run.invariant.in_range).end,
)

pub continues-requires-clause-index : goal.continues-requires-clause-index
continues-requires-clause-index g c = omega (
  arith,
  (in-range-first c.loop-run.last c.loop-run.run-iterator c.loop-run.invariant.in_range).index,
)

pub loop-run-preserved : goal.loop-run-preserved
loop-run-preserved g c =
    let inv = c.loop-run.invariant in
    let last = c.loop-run.last in
    let steps = c.in-Some.ensures.steps in
    record {
      in_range = in-range-behind last (c.in-Some.run' ∷ c.next.new.self)
          (subst (λ (l : List (Run g.row.T.Denot)). All IsInRange (last ∷ l)) steps inv.in_range);
      maximal = λ m. inv.maximal (subst (λ (l : List (Run g.row.T.Denot)). AreMaximal (last ∷ l))
          (sym steps)
          ((λ k. let odd : false ≡ true = c.if-continues.ensures.1 k in cc), m));
    }

pub returns : goal.returns
returns g c = λ none.
    c.loop-run.invariant.maximal
    (subst (λ (l : List (Run g.row.T.Denot)). AreMaximal (c.loop-run.last ∷ l))
    (sym c.in-None.ensures.steps.0) (tt, tt))
