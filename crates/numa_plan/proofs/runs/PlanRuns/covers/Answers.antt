use Rattle.std.proofs.Common.{arith, inl, inr}
use Rattle.std.proofs.lemmas.Bool.{cases_lt}
use Rattle.numa_plan.proofs.Searching.{is_mapped}
use Rattle.numa_plan.proofs.runs.PlanRuns.covers.Goals as goal

pub returns-then-todo-found-clause-all : goal.returns-then-todo-found-clause-all
returns-then-todo-found-clause-all c page low high =
    elim (cases_lt page c.loop-todo.page) [
      | inl before ↦ c.loop-todo.invariant.seen page low before
      | inr here ↦ is_mapped c.args.self.now c.loop-todo.page c.in-Some.found page
          c.in-Some.ensures.found here (omega (arith, c.loop-todo.invariant.place))
    ]

pub loop-todo-preserved : goal.loop-todo-preserved
loop-todo-preserved c = record {
  place = omega (arith, c.loop-todo.invariant.place);
  low = omega (arith, c.loop-todo.invariant.low);
  seen = λ page low high. elim (cases_lt page c.loop-todo.page) [
    | inl before ↦ c.loop-todo.invariant.seen page low before
    | inr here ↦ is_mapped c.args.self.now c.loop-todo.page c.in-Some.found page
        c.in-Some.ensures.found here high
  ];
  part = c.find_next.ensures.part;
}
