use Rattle.std.proofs.Common.{◌≡◌, ◌≤◌, ℕ, List, Option, replicate, ap, subst, sym, refl, arith}
use Rattle.std.proofs.lemmas.Simd.{get_or-replicate}
use Rattle.numa_ranges.specs.declared.run.Run.{Run}
use Rattle.numa_rows.specs.Searches.{IsChunkOf}
use Rattle.numa_plan.specs.Found.{IsAt}
use Rattle.numa_plan.specs.Meaning.{PlanData}
use Rattle.numa_plan.proofs.FillLemmas.{counted_more, mapped_more, counted_room, counted_none}
use Rattle.numa_plan.proofs.plan.Plan.counts.Goals as goal

pub loop-todo-init : goal.loop-todo-init
loop-todo-init c =
    let own : c.self.inside.runs ≡ c.args.self.now.runs =
    ap (λ (p : PlanData). p.runs) c.self.view_is in
    record {
      place = refl;
      low = omega arith;
      mapped = λ page from to. absurd (omega arith);
      counted = counted_none c.args.self.now c.args.task c.args.cpu c.args.first (replicate 256 0)
          (λ node small. get_or-replicate 256 node 0 0 small);
      long = refl;
      part = subst (λ (runs : List (Run (Option ℕ))). IsChunkOf runs c.walk_on-walk.result.part) own
          c.walk_on-walk.ensures.part;
    }

pub found_next-requires : goal.found_next-requires
found_next-requires c =
    let own : c.self.inside.runs ≡ c.args.self.now.runs =
    ap (λ (p : PlanData). p.runs) c.self.view_is in
    record {
      part = subst (λ (runs : List (Run (Option ℕ))). IsChunkOf runs c.loop-todo.walk.part) (sym own)
          c.loop-todo.invariant.part;
    }

pub count-requires-clause-room : goal.count-requires-clause-room
count-requires-clause-room c =
    let own : c.self.inside.runs ≡ c.args.self.now.runs =
    ap (λ (p : PlanData). p.runs) c.self.view_is in
    let at : IsAt c.args.self.now.runs c.loop-todo.page c.in-Some.found =
    subst (λ (runs : List (Run (Option ℕ))). IsAt runs c.loop-todo.page c.in-Some.found) own
    c.in-Some.ensures.found in
    counted_room c.args.self.now c.args.task c.args.cpu c.args.first c.loop-todo.page
    c.min-part.result c.loop-todo.counts c.in-Some.found c.loop-todo.invariant.low
    (omega (arith, c.min-part.ensures)) at c.loop-todo.invariant.counted

pub loop-todo-preserved : goal.loop-todo-preserved
loop-todo-preserved c =
    let own : c.self.inside.runs ≡ c.args.self.now.runs =
    ap (λ (p : PlanData). p.runs) c.self.view_is in
    let at : IsAt c.args.self.now.runs c.loop-todo.page c.in-Some.found =
    subst (λ (runs : List (Run (Option ℕ))). IsAt runs c.loop-todo.page c.in-Some.found) own
    c.in-Some.ensures.found in
    let short : c.min-part.result ≤ c.in-Some.found.left = omega (arith, c.min-part.ensures) in
    record {
      place = omega (arith, c.loop-todo.invariant.place, c.min-part.ensures);
      low = omega (arith, c.loop-todo.invariant.low);
      mapped = mapped_more c.args.self.now.runs c.args.first c.loop-todo.page c.min-part.result
          c.in-Some.found c.loop-todo.invariant.low short at c.loop-todo.invariant.mapped;
      counted = counted_more c.args.self.now c.args.task c.args.cpu c.args.first c.loop-todo.page
          c.min-part.result c.loop-todo.counts c.count.new.counts c.in-Some.found
          c.rule_for.result.now c.loop-todo.invariant.low short at c.rule_for.ensures.is
          c.loop-todo.invariant.counted c.count.ensures;
      long = c.count.array_long;
      part = subst (λ (runs : List (Run (Option ℕ))). IsChunkOf runs c.found_next.new.walk.part) own
          c.found_next.ensures.part;
    }

pub count-requires-clause-rows : goal.count-requires-clause-rows
count-requires-clause-rows c k =
    c.rule_for.ensures.rows c.args.cpu k
    (omega (arith, c.if-cpu-self.false, ap (λ (p : PlanData). p.nodes) c.self.view_is))

pub returns-then-cpu-self-clause-err : goal.returns-then-cpu-self-clause-err
returns-then-cpu-self-clause-err c =
    omega (arith, c.if-cpu-self.true, ap (λ (p : PlanData). p.nodes) c.self.view_is)

pub overflow_add-page : goal.overflow_add-page
overflow_add-page c = omega (arith, c.in-Some.ensures.found.low, c.min-part.ensures)

pub count-requires-clause-last : goal.count-requires-clause-last
count-requires-clause-last c = omega (arith, c.in-Some.ensures.found.few, c.min-part.ensures)
