use Rattle.std.proofs.Common.{ℕ, ◌<◌, ◌+◌, get_or, ◌∙◌, ap, arith, rules}
use Rattle.std.proofs.lemmas.List.{take_all}
use Rattle.numa_lanes.specs.Spans.{node_count}
use Rattle.numa_lanes.proofs.LaneLemmas.{page_added, page_fits}
use Rattle.numa_lanes.proofs.counts.tally.Goals as goal

pub overflow_add-counts : goal.overflow_add-counts
overflow_add-counts c =
    let node : ℕ = c.from.result in
    let small : node < 256 = omega (arith, c.type_inv.span c.loop-entry.entry-index) in
    let more = page_fits c.args.span.now c.loop-entry.entry-index node c.loop-entry-test.true
    c.from.ensures in
    record {
      fits = omega (arith, more, c.requires node small, c.loop-entry.invariant.added node small);
    }

pub loop-entry-preserved : goal.loop-entry-preserved
loop-entry-preserved c = record {
  added = page_added c.args.span.now c.args.counts.now c.loop-entry.counts c.loop-entry.entry-index
      c.from.result c.loop-entry-test.true c.from.ensures (omega arith)
      c.loop-entry.invariant.added;
  long = search rules;
}

pub returns : goal.returns
returns c node small = c.loop-entry.invariant.added node small
    ∙ ap (λ span. get_or c.args.counts.now node 0 + node_count node span)
    (take_all c.loop-entry.entry-index c.args.span.now (omega arith))
