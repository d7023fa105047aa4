use Rattle.std.proofs.Common.{◌++◌, ◌∷◌, [], sym, ap, ◌∙◌, arith}
use Rattle.numa_plan.proofs.NearWindows.{gathered-next}
use Rattle.numa_plan.proofs.runs.PlanRuns.gathered.Goals as goal

pub loop-place-preserved : goal.loop-place-preserved
loop-place-preserved c =
    let run = c.whole.result in
    record {
      gathered = c.in_ok-push.ensures.items
          ∙ (ap (λ l. l ++ run ∷ []) c.loop-place.invariant.gathered
          ∙ sym (gathered-next c.args.self.now c.args.window.from c.loop-place.place run
          (omega arith) (omega (arith, c.requires.within))
          (c.whole.ensures.run ∙ c.run_in.ensures run)));
      part = c.part_with-part.ensures.part;
    }

pub overflow_sub-to : goal.overflow_sub-to
overflow_sub-to c = c.requires.rises

pub part_with-part-requires-clause-place : goal.part_with-part-requires-clause-place
part_with-part-requires-clause-place c = omega (arith, c.requires.within)
