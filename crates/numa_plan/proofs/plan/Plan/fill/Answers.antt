use Rattle.std.proofs.Common.{◌≡◌, ℕ, ◌+◌, ◌-◌, List, Option, length, arith, ap, subst, sym, ◌∙◌}
use Rattle.std.proofs.Common.{length-drop}
use Rattle.std.proofs.lemmas.List.{length-take}
use Rattle.numa_ranges.specs.declared.run.Run.{Run}
use Rattle.numa_rows.specs.Searches.{IsChunkOf}
use Rattle.numa_plan.specs.Found.{IsAt}
use Rattle.numa_plan.specs.Meaning.{PlanData}
use Rattle.numa_plan.proofs.FillLemmas.{filled_more, put_length}
use Rattle.numa_plan.proofs.plan.Plan.fill.Goals as goal

pub loop-done-preserved : goal.loop-done-preserved
loop-done-preserved c =
    let long : length c.fill.new.out ≡ c.min-count.result = c.fill.auto.out
    ∙ simp (length-take, length-drop) (omega (arith, c.min-count.ensures)) in
    let own : c.self.inside.runs ≡ c.args.self.now.runs =
    ap (λ (p : PlanData). p.runs) c.self.view_is in
    let here : IsAt c.args.self.now.runs c.loop-done.page c.in-Some.found =
    subst (λ (runs : List (Run (Option ℕ))). IsAt runs c.loop-done.page c.in-Some.found) own
    c.in-Some.ensures.found in
    let at : IsAt c.args.self.now.runs (c.args.first + c.loop-done.done) c.in-Some.found =
    subst (λ (page : ℕ). IsAt c.args.self.now.runs page c.in-Some.found)
    c.loop-done.invariant.place here in
    record {
      place = omega (arith, c.loop-done.invariant.place);
      within =
          rw (put_length c.loop-done.done (c.loop-done.done + c.min-count.result - c.loop-done.done)
          c.loop-done.out c.fill.new.out (omega arith) (omega (arith, c.min-count.ensures)))
          (omega (arith, c.min-count.ensures));
      filled = filled_more c.args.self.now c.args.task c.args.cpu c.args.first c.loop-done.done
          c.min-count.result c.loop-done.out c.fill.new.out c.in-Some.found c.rule_for.result.now
          (omega (arith, c.min-count.ensures)) long (omega (arith, c.min-count.ensures)) at
          c.rule_for.ensures.is c.loop-done.invariant.filled c.fill.ensures;
      part = subst (λ (runs : List (Run (Option ℕ))). IsChunkOf runs c.found_next.new.walk.part) own
          c.found_next.ensures.part;
    }

pub loop-done-init : goal.loop-done-init
loop-done-init c =
    let own : c.self.inside.runs ≡ c.args.self.now.runs =
    ap (λ (p : PlanData). p.runs) c.self.view_is in
    record {
      place = omega arith;
      within = omega arith;
      filled = λ k low. absurd (omega arith);
      part = subst (λ (runs : List (Run (Option ℕ))). IsChunkOf runs c.walk_on-walk.result.part) own
          c.walk_on-walk.ensures.part;
    }

pub found_next-requires : goal.found_next-requires
found_next-requires c =
    let own : c.self.inside.runs ≡ c.args.self.now.runs =
    ap (λ (p : PlanData). p.runs) c.self.view_is in
    record {
      part = subst (λ (runs : List (Run (Option ℕ))). IsChunkOf runs c.loop-done.walk.part) (sym own)
          c.loop-done.invariant.part;
    }

pub fill-requires-clause-rows : goal.fill-requires-clause-rows
fill-requires-clause-rows c k =
    c.rule_for.ensures.rows c.args.cpu k
    (omega (arith, c.if-cpu-self.false, ap (λ (p : PlanData). p.nodes) c.self.view_is))

pub fill-requires-clause-index : goal.fill-requires-clause-index
fill-requires-clause-index c =
    omega (arith, c.in-Some.ensures.found.few, c.in-Some.ensures.found.some)

pub overflow_add-page : goal.overflow_add-page
overflow_add-page c = omega (arith, c.in-Some.ensures.found.low, c.min-count.ensures)

pub returns-then-cpu-self-clause-err : goal.returns-then-cpu-self-clause-err
returns-then-cpu-self-clause-err c =
    omega (arith, c.if-cpu-self.true, ap (λ (p : PlanData). p.nodes) c.self.view_is)

pub returns-clause-ok : goal.returns-clause-ok
returns-clause-ok c = (
  omega (arith, c.if-cpu-self.false, ap (λ (p : PlanData). p.nodes) c.self.view_is),
  λ k lt. c.loop-done.invariant.filled k (omega (arith, c.loop-done-test.false)),
)
