use Rattle.std.proofs.Common.{◌≡◌, ℕ, ◌+◌, ◌<◌, List, get_or, length}
use Rattle.numa_plan.specs.Meaning.{is_number}
use Rattle.numa_ranges.specs.Runs.{AreApart}
use Rattle.numa_space.specs.Standing.{StandsFor}
use Rattle.numa_requests.specs.declared.command.Command.{Command}
use Rattle.numa_compile.specs.Standing.{PlanStandsFor}
use Rattle.numa_reports.specs.Lying.{planned_node, spots_in}
use Rattle.numa_reports.specs.Predicted.{AreNone, IsLying}
use Rattle.numa_reports.specs.Told.{LacksOne, ToldEach}
use Rattle.numa_reports.proofs.Refusing.{AreLeft}
use Rattle.numa_reports.proofs.Tiling.{count_runs}
use Rattle.numa_reports.proofs.prediction.predict_ranges.Given as goal

abbrev pub invariant-loop-range : goal.invariant-loop-range
invariant-loop-range g l = record {
  none : AreNone l.said.counts;
  all : (node : ℕ) → node < 256
      → get_or l.all node 0 + count_runs
      (λ page. is_number node
      (planned_node l.asked.plan.now (spots_in l.asked.placed) l.asked.touch.task l.asked.touch.cpu
      page)) l.range-iterator
      ≡ count_runs (λ page. is_number node
      (planned_node l.asked.plan.now (spots_in l.asked.placed) l.asked.touch.task l.asked.touch.cpu
      page))
      l.asked.space.now.ranges;
  apart : AreApart 0 l.asked.space.now.ranges;
  rest : AreLeft l.range-iterator l.asked.space.now.ranges;
  lack : LacksOne g.T.TakeRange.lacks l.range-iterator
      → LacksOne g.T.TakeRange.lacks l.asked.space.now.ranges;
  long : length l.all ≡ 256;
  told : (history : List Command) → StandsFor l.asked.space.now history
      → PlanStandsFor l.asked.space.now.machine l.asked.plan.now history → (end : g.row.T.Denot)
      → ToldEach g.T.TakeRange.told (IsLying l.asked.space.now.machine history (spots_in
      l.asked.placed) l.asked.touch.task
      l.asked.touch.cpu)
      l.range-iterator l.taker end
      → ToldEach g.T.TakeRange.told (IsLying l.asked.space.now.machine history (spots_in
      l.asked.placed) l.asked.touch.task
      l.asked.touch.cpu)
      l.asked.space.now.ranges l.fn.taker end;
}
