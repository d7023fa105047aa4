use Rattle.std.proofs.Common.{◌≡◌, ◌∙◌, ◌++◌, ℕ, List, Option, ap, map, sym}
use Rattle.std.proofs.lemmas.List.{append-nil}
use Rattle.numa_mode.specs.Policy.{PolicyRecord}
use Rattle.numa_ranges.specs.declared.run.Run.{Run}
use Rattle.numa_placed.specs.Spots.{spot_at}
use Rattle.numa_reports.specs.Mapped.{span_of}
use Rattle.numa_reports.specs.declared.outlook.PageSpan.{PageSpan}
use Rattle.numa_reports.proofs.Refusing.{left-all, left-end, left-next}
use Rattle.numa_moves.specs.Shares.{shares_over, stated_in}
use Rattle.numa_moves.proofs.Lists.{span-shares}
use Rattle.numa_moves.proofs.shares.stated_shares.Goals as goal

pub loop-range-init : goal.loop-range-init
loop-range-init c =
    let count = stated_in (spot_at c.args.placed.now) in
    let nodes = c.nodes_of-nodes.result in
    let runs : c.into_iter-range-iterator.result ≡ c.args.space.now.ranges =
    c.into_iter-range-iterator.ensures.into_iter_gives
    ∙ c.range_iter-range-items.ensures.runs in
    record {
      shares =
          ap (λ l. l ++ shares_over count nodes (map span_of c.into_iter-range-iterator.result))
          c.new-shares.ensures.items
          ∙ ap (λ (l : List (Run (Option PolicyRecord))). shares_over count nodes (map span_of l))
          runs;
      rest = left-all c.into_iter-range-iterator.result c.args.space.now.ranges runs
          c.range_iter-range-items.ensures.rising;
    }

pub push_stated-requires-clause-few : goal.push_stated-requires-clause-few
push_stated-requires-clause-few c = c.nodes_of-nodes.ensures.few

pub push_stated-requires-clause-within : goal.push_stated-requires-clause-within
push_stated-requires-clause-within c =
    let ends = left-end c.loop-range.range-iterator c.args.space.now.ranges c.next.new.self
    c.in-Some.range c.loop-range.invariant.rest c.in-Some.ensures.steps in
    rw c.span_by.ensures ends

pub loop-range-preserved : goal.loop-range-preserved
loop-range-preserved c =
    let count = stated_in (spot_at c.args.placed.now) in
    let spans : List (Run (Option PolicyRecord)) → List PageSpan = λ l. map span_of l in
    record {
      shares = span-shares count c.nodes_of-nodes.result (spans c.loop-range.range-iterator)
          (spans c.next.new.self) (spans c.args.space.now.ranges) (span_of c.in-Some.range)
          c.loop-range.shares.items c.push_stated.new.shares.items
          (ap spans c.in-Some.ensures.steps)
          (rw (sym c.span_by.ensures) c.in_ok-push_stated.ensures)
          c.loop-range.invariant.shares;
      rest = left-next c.loop-range.range-iterator c.args.space.now.ranges c.next.new.self
          c.in-Some.range c.loop-range.invariant.rest c.in-Some.ensures.steps;
    }

pub returns : goal.returns
returns c =
    let count = stated_in (spot_at c.args.placed.now) in
    let nodes = c.nodes_of-nodes.result in
    sym (append-nil c.loop-range.shares.items)
    ∙ ap (λ (l : List (Run (Option PolicyRecord))). c.loop-range.shares.items
    ++ shares_over count nodes (map span_of l)) (sym c.in-None.ensures.steps.0)
    ∙ c.loop-range.invariant.shares
    ∙ ap (λ (n : ℕ). shares_over count n (map span_of c.args.space.now.ranges))
    c.nodes_of-nodes.ensures.same
