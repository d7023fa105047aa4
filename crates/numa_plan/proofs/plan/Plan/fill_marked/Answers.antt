use Rattle.std.proofs.Common.{◌≡◌, ◌-◌, ◌≤◌, ℕ, List, Option, length, length-drop, arith, subst, ap}
use Rattle.std.proofs.Common.{◌∙◌}
use Rattle.std.proofs.lemmas.List.{length-take}
use Rattle.numa_ranges.specs.Runs.{AreApart}
use Rattle.numa_ranges.specs.declared.run.Run.{Run}
use Rattle.numa_plan.specs.Meaning.{PlanData}
use Rattle.numa_plan.proofs.FillLemmas.{marked_rest, put_length}
use Rattle.numa_plan.proofs.plan.Plan.fill_marked.Goals as goal

pub returns-clause-ok : goal.returns-clause-ok
returns-clause-ok c =
    let own : c.self.inside.runs ≡ c.args.self.now.runs =
    ap (λ (p : PlanData). p.runs) c.self.view_is in
    let within : c.loop-done.done ≤ length c.loop-done.out =
    omega (arith, c.loop-done.invariant.within, c.loop-done.invariant.long, c.min-low.ensures) in
    let long : length c.fill_one.new.out ≡ length c.loop-done.out - c.loop-done.done =
    c.fill_one.auto.out ∙ simp (length-take, length-drop) (omega arith) in (
      omega (arith, c.if-cpu-self.false, ap (λ (p : PlanData). p.nodes) c.self.view_is),
      λ k lt.
          marked_rest c.args.self.now c.args.task c.args.cpu c.args.unmapped c.args.first
          c.loop-done.done c.loop-done.out c.fill_one.new.out
          (subst (λ (runs : List (Run (Option ℕ))). AreApart 0 runs) own c.len.ensures.apart) within long
          (λ more.
          omega (
            arith,
            more,
            c.loop-done-test.false,
            c.loop-done.invariant.long,
            c.min-low.ensures,
            c.saturating_sub.ensures,
          ))
          c.loop-done.invariant.filled c.fill_one.ensures k
          (omega (
            arith,
            lt,
            put_length c.loop-done.done (length c.loop-done.out - c.loop-done.done) c.loop-done.out
                c.fill_one.new.out long (omega (arith, within)),
          )),
    )
