use Rattle.std.proofs.Common.{◌≡◌, ◌≤◌, ◌-◌, ◌∙◌, ℕ, List, Option, length, arith, subst, ap}
use Rattle.std.proofs.Common.{length-drop}
use Rattle.std.proofs.lemmas.List.{length-take}
use Rattle.numa_ranges.specs.declared.run.Run.{Run}
use Rattle.numa_rows.specs.Searches.{IsChunkOf}
use Rattle.numa_plan.specs.Meaning.{PlanData}
use Rattle.numa_plan.proofs.FillLemmas.{marked_more, put_length}
use Rattle.numa_plan.proofs.plan.Plan.nodes_of.Goals as goal

pub loop-done-init : goal.loop-done-init
loop-done-init c =
    let own : c.self.inside.runs ≡ c.args.self.now.runs =
    ap (λ (p : PlanData). p.runs) c.self.view_is in
    record {
      within = omega arith;
      long = omega (arith, c.requires);
      filled = λ k low. absurd (omega arith);
      near = c.nowhere-near.ensures c.args.task;
      part = subst (λ (runs : List (Run (Option ℕ))). IsChunkOf runs c.walk_on-walk.result.part) own
          c.walk_on-walk.ensures.part;
    }

pub loop-done-preserved : goal.loop-done-preserved
loop-done-preserved c =
    let long : length c.put_next-done.new.out ≡ length c.loop-done.out - c.loop-done.done =
    c.put_next-done.ensures.long ∙ simp (length-take, length-drop) (omega arith) in
    let within : c.put_next-done.result ≤ length c.args.pages.now - c.loop-done.done =
    omega (arith, c.put_next-done.ensures.within, length-drop c.loop-done.done c.args.pages.now) in
    record {
      within = omega (arith, within, c.loop-done-test.true);
      long =
          put_length c.loop-done.done (length c.loop-done.out - c.loop-done.done) c.loop-done.out
          c.put_next-done.new.out long
          (omega (arith, c.loop-done-test.true, c.loop-done.invariant.long))
          ∙ c.loop-done.invariant.long;
      filled = marked_more c.args.self.now c.args.task c.args.cpu c.args.unmapped c.loop-done.done
          c.put_next-done.result c.args.pages.now c.loop-done.out c.put_next-done.new.out
          c.loop-done.invariant.long
          (omega (arith, long, c.loop-done-test.true, c.loop-done.invariant.long))
          (omega (arith, long, within, c.loop-done.invariant.long)) c.loop-done.invariant.filled
          c.put_next-done.ensures.put;
      near = c.put_next-done.ensures.near;
      part = c.put_next-done.ensures.part;
    }
