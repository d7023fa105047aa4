use Rattle.std.proofs.Common.{arith}
use Rattle.numa_ranges.proofs.Apart.{run-bounds}
use Rattle.numa_plan.proofs.NearWindows.{looked-none, looked-on, looked-found, behind-run}
use Rattle.numa_plan.proofs.runs.PlanRuns.window_from.Goals as goal

pub loop-to-init : goal.loop-to-init
loop-to-init c = record {
  looked = looked-none c.args.self.now c.args.first c.args.end c.args.start c.requires;
  part = c.no_part-part.ensures;
}

pub behind_ended-from-requires : goal.behind_ended-from-requires
behind_ended-from-requires c =
    (run-bounds c.args.self.now c.loop-to.to c.run_in-run.result c.len.ensures.apart
    (omega (arith, c.len.ensures.count)) (c.run_in-run.ensures c.run_in-run.result)).0

pub loop-to-preserved : goal.loop-to-preserved
loop-to-preserved c = record {
  looked = looked-on c.args.self.now c.args.first c.args.end c.args.start c.loop-to.from c.loop-to.to
      c.behind_ended-from.result c.run_in-run.result (omega (arith, c.len.ensures.count))
      c.run_in-run.ensures (omega
      (arith, c.begins_behind.ensures.begun c.if-begins_behind.false))
      c.behind_ended-from.ensures.ended c.behind_ended-from.ensures.reaches
      c.loop-to.invariant.looked;
  part = c.part_with-part.ensures.part;
}

pub returns-then-begins_behind : goal.returns-then-begins_behind
returns-then-begins_behind c =
    let found = c.seen_window in
    looked-found c.args.self.now c.args.first c.args.end found.result c.args.start c.loop-to.from
    c.loop-to.to c.len.ensures.apart found.ensures.from found.ensures.to found.ensures.seen
    (behind-run c.args.self.now c.args.first c.args.end c.loop-to.to c.run_in-run.result
    c.len.ensures.apart c.run_in-run.ensures
    (omega (arith, c.begins_behind.ensures.behind c.if-begins_behind.true))) c.loop-to.invariant.looked

pub returns : goal.returns
returns c =
    let found = c.seen_window-2 in
    looked-found c.args.self.now c.args.first c.args.end found.result c.args.start c.loop-to.from
    c.loop-to.to c.len.ensures.apart found.ensures.from found.ensures.to found.ensures.seen
    (λ k d low high. absurd (omega (arith, c.len.ensures.count))) c.loop-to.invariant.looked
