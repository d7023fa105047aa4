use Rattle.std.proofs.Common.{◌≡◌, ◌∙◌, ◌++◌, ℕ, List, Option, ap, map, sym}
use Rattle.std.proofs.lemmas.List.{append-nil}
use Rattle.numa_mode.specs.Policy.{PolicyRecord}
use Rattle.numa_ranges.specs.declared.run.Run.{Run}
use Rattle.numa_reports.specs.Mapped.{span_of}
use Rattle.numa_reports.specs.declared.outlook.PageSpan.{PageSpan}
use Rattle.numa_reports.proofs.Refusing.{left-all, left-next}
use Rattle.numa_moves.specs.Shares.{shares_over, stated_in, touched_spot}
use Rattle.numa_moves.proofs.Lists.{span-shares}
use Rattle.numa_moves.proofs.Touched.{range-refused}
use Rattle.numa_moves.proofs.shares.touched_shares.Goals as goal

pub loop-range-init : goal.loop-range-init
loop-range-init c =
    let nodes = c.nodes_of-nodes.result in
    let runs : c.into_iter-range-iterator.result ≡ c.args.space.now.ranges =
    c.into_iter-range-iterator.ensures.into_iter_gives
    ∙ c.range_iter-range-items.ensures.runs in
    record {
      shares = λ history stands planned.
          let count = stated_in (touched_spot c.args.space.now.machine history c.args.touch.task
          c.args.touch.cpu) in
          ap (λ l. l ++ shares_over count nodes (map span_of c.into_iter-range-iterator.result))
          c.new-shares.ensures.items
          ∙ ap (λ (l : List (Run (Option PolicyRecord))). shares_over count nodes (map span_of l))
          runs;
      rest = left-all c.into_iter-range-iterator.result c.args.space.now.ranges runs
          c.range_iter-range-items.ensures.rising;
    }

pub push_touched-requires : goal.push_touched-requires
push_touched-requires c = record { few = c.nodes_of-nodes.ensures.few }

pub loop-range-preserved : goal.loop-range-preserved
loop-range-preserved c =
    let spans : List (Run (Option PolicyRecord)) → List PageSpan = λ l. map span_of l in
    record {
      shares = λ history stands planned.
          let count = stated_in (touched_spot c.args.space.now.machine history c.args.touch.task
          c.args.touch.cpu) in
          span-shares count c.nodes_of-nodes.result (spans c.loop-range.range-iterator)
          (spans c.next.new.self) (spans c.args.space.now.ranges) (span_of c.in-Some.range)
          c.loop-range.shares.items c.push_touched.new.shares.items
          (ap spans c.in-Some.ensures.steps)
          (c.in_default.ensures.ok history stands planned)
          (c.loop-range.invariant.shares history stands planned);
      rest = left-next c.loop-range.range-iterator c.args.space.now.ranges c.next.new.self
          c.in-Some.range c.loop-range.invariant.rest c.in-Some.ensures.steps;
    }

pub returns-in-Err-clause-err : goal.returns-in-Err-clause-err
returns-in-Err-clause-err c history stands planned =
    range-refused c.args.space.now history c.loop-range.range-iterator c.next.new.self
    c.in-Some.range c.args.touch.cpu c.in-Err.fault stands c.loop-range.invariant.rest
    c.in-Some.ensures.steps (c.in-Err.ensures.err history planned)

pub returns-clause-ok : goal.returns-clause-ok
returns-clause-ok c history stands planned =
    let count = stated_in (touched_spot c.args.space.now.machine history c.args.touch.task
    c.args.touch.cpu) in
    let nodes = c.nodes_of-nodes.result in
    sym (append-nil c.loop-range.shares.items)
    ∙ ap (λ (l : List (Run (Option PolicyRecord))). c.loop-range.shares.items
    ++ shares_over count nodes (map span_of l)) (sym c.in-None.ensures.steps.0)
    ∙ c.loop-range.invariant.shares history stands planned
    ∙ ap (λ (n : ℕ). shares_over count n (map span_of c.args.space.now.ranges))
    c.nodes_of-nodes.ensures.same
