use Rattle.std.proofs.Common.{ℕ, Option, List, length, ap, sym, subst, ◌∙◌, arith}
use Rattle.std.specs.List.{splice}
use Rattle.numa_ranges.specs.Runs.{AreApart}
use Rattle.numa_ranges.specs.declared.run.Run.{Run}
use Rattle.numa_plan.proofs.runs.PlanRuns.splice.Goals as goal

pub splice_near-requires-clause-rises : goal.splice_near-requires-clause-rises
splice_near-requires-clause-rises c = c.requires.rises

pub splice_near-requires-clause-within : goal.splice_near-requires-clause-within
splice_near-requires-clause-within c =
    omega (
      arith,
      c.requires.within,
      ap (λ (runs : List (Run (Option ℕ))). length runs)
          c.self.view_is,
    )

pub invariant_of-self-2 : goal.invariant_of-self-2
invariant_of-self-2 c = subst (λ (runs : List (Run (Option ℕ))). AreApart 0 runs)
    (sym (c.in_ok-splice_near.ensures.ok
    ∙ ap (λ (runs : List (Run (Option ℕ))). splice runs c.args.window.from c.args.window.to
    c.args.runs.now) c.self.view_is)) c.requires.apart

pub returns-clause-ok : goal.returns-clause-ok
returns-clause-ok c = (
  c.in_ok-splice_near.ensures.ok ∙ ap
      (λ (runs : List (Run (Option ℕ))). splice runs c.args.window.from c.args.window.to
      c.args.runs.now) c.self.view_is,
  c.runs_written.ensures,
)
