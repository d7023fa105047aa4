use Rattle.std.proofs.Common.{◌++◌, ◌∙◌, ap, sym, subst, refl, List, [], append_assoc, None, Some}
use Rattle.std.proofs.Common.{ℕ}
use Rattle.std.proofs.lemmas.Option.{slice_get-get_or}
use Rattle.std.proofs.Math.ListN.{drop_of_length-le}
use Rattle.numa_pool.specs.Walk.{WalksInOrder}
use Rattle.numa_pool.proofs.Walking.{passes, wins}
use Rattle.numa_pool.proofs.along.take_along.Goals as goal

pub returns-in-Some-clause-walks : goal.returns-in-Some-clause-walks
returns-in-Some-clause-walks c =
    let i = c.loop-rank.invariant.walk in
    let h = c.in-Some.ensures.walk in (
      h.0 ++ i.0,
      h.1 ∙ ap (λ l. h.0 ++ l) i.1 ∙ sym (append_assoc h.0 i.0 c.args.seat.now.log),
      wins c.args.pools.now.frames c.args.nodes.now c.loop-rank.rank c.loop-rank-test.true i.0 i.2
          h.0 h.3 c.in-Some.frame h.2,
    )

pub returns-in-Some-clause-rank : goal.returns-in-Some-clause-rank
returns-in-Some-clause-rank c = slice_get-get_or c.args.nodes.now c.loop-rank.rank 0
    c.loop-rank-test.true ∙ ap Some (sym c.in-Some.ensures.found.0)

pub loop-rank-preserved : goal.loop-rank-preserved
loop-rank-preserved c =
    let i = c.loop-rank.invariant in
    let h = c.in_default.ensures.walk in
    record {
      table = c.in_default.ensures.same ∙ i.table;
      no_other = c.in_default.ensures.no_other ∙ i.no_other;
      held = c.in_default.ensures.held ∙ i.held;
      walk = (
        h.0 ++ i.walk.0,
        h.1 ∙ ap (λ l. h.0 ++ l) i.walk.1 ∙ sym (append_assoc h.0 i.walk.0 c.args.seat.now.log),
        passes c.args.pools.now.frames c.args.nodes.now c.loop-rank.rank c.loop-rank-test.true
            i.walk.0 i.walk.2 h.0 h.3 h.2,
      );
    }

pub returns-clause-walks : goal.returns-clause-walks
returns-clause-walks c =
    let i = c.loop-rank.invariant.walk in (
      i.0,
      i.1,
      i.2 None [] (subst (λ (ns : List ℕ). WalksInOrder c.args.pools.now.frames ns None [])
          (sym (drop_of_length-le c.args.nodes.now c.loop-rank-test.false)) (refl, refl)),
    )
