use Rattle.std.proofs.Common.{rules, ◌≡◌, ◌+◌, ◌<◌, [], length, sym, subst, arith}
use Rattle.std.specs.Prelude.{drop}
use Rattle.std.proofs.lemmas.List.{drop_more, drop_all}
use Rattle.numa_maps.specs.Residents.{IsRising}
use Rattle.numaplan_c.proofs.Placing.{KeepsSoFar, none-kept, all-kept, one-more, two-placed}
use Rattle.numaplan_c.proofs.Placing.{are-refused}
use Rattle.numaplan_c.proofs.listings.keep_all.Goals as goal

pub loop-placed-init : goal.loop-placed-init
loop-placed-init c = record {
  rising = subst IsRising (sym c.new-kept.ensures) (search rules);
  kept = subst (λ kept. KeepsSoFar c.args.placements.now kept c.args.placements.now)
      (sym c.new-kept.ensures) (none-kept c.args.placements.now);
}

pub returns-in-Err-clause-refused : goal.returns-in-Err-clause-refused
returns-in-Err-clause-refused c =
    let inside : c.loop-placed.placed-index < length c.args.placements.now =
    omega (arith, c.loop-placed-test.true) in
    are-refused c.args.placements.now _ c.in-Err.refusal
    (λ is. two-placed c.args.placements.now c.loop-placed.kept
    (drop c.loop-placed.placed-index c.args.placements.now)
    (drop (c.loop-placed.placed-index + 1) c.args.placements.now) _
    (drop_more c.args.placements.now c.loop-placed.placed-index _ inside)
    (c.in-Err.ensures.twice is) c.loop-placed.invariant.kept)

pub loop-placed-preserved : goal.loop-placed-preserved
loop-placed-preserved c =
    let inside : c.loop-placed.placed-index < length c.args.placements.now =
    omega (arith, c.loop-placed-test.true) in
    record {
      rising = c.keep.ensures.rising;
      kept = one-more c.args.placements.now c.loop-placed.kept c.keep.new.kept
          (drop c.loop-placed.placed-index c.args.placements.now)
          (drop (c.loop-placed.placed-index + 1) c.args.placements.now) _
          (drop_more c.args.placements.now c.loop-placed.placed-index _ inside)
          c.in_default.ensures.free c.in_default.ensures.kept c.in_default.ensures.others
          c.loop-placed.invariant.kept;
    }

pub returns-clause-placed : goal.returns-clause-placed
returns-clause-placed c =
    let none : drop c.loop-placed.placed-index c.args.placements.now ≡ [] =
    drop_all c.loop-placed.placed-index c.args.placements.now
    (omega (arith, c.loop-placed-test.false)) in
    record {
      rising = c.loop-placed.invariant.rising;
      each = all-kept c.args.placements.now c.loop-placed.kept
          (subst (KeepsSoFar c.args.placements.now c.loop-placed.kept) none
          c.loop-placed.invariant.kept);
    }
