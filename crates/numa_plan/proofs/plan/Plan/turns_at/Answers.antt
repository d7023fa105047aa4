use Rattle.std.proofs.Common.{◌≡◌, ◌∙◌, ℕ, Option, Some, ap, refl, subst, sym, slice_get}
use Rattle.std.specs.Prelude.{min}
use Rattle.numa_ranges.specs.declared.run.Run.{Run}
use Rattle.numa_plan.specs.Meaning.{rule_for}
use Rattle.numa_plan.specs.Turns.{TellsTurns, cycle_of}
use Rattle.numa_plan.specs.declared.plan.turns.PageTurns.{PageTurns}
use Rattle.numa_plan.proofs.TurnLemmas.{list-again}
use Rattle.numa_plan.proofs.plan.Plan.turns_at.Goals as goal

pub returns : goal.returns
returns c =
    let run : Run (Option ℕ) = c.in_ok-run.run' in
    let turns : PageTurns = record {
      first = run.first;
      pages = run.pages;
      cycle = c.min.result;
    } in
    let is : slice_get c.args.self.now.runs c.args.place ≡ Some run = sym c.in_ok-run.ensures in
    let short : c.min.result
    ≡ min (cycle_of (rule_for c.args.self.now c.args.task run.value) run.index run.pages) run.pages
    =
    c.min.ensures
    ∙ ap (λ (n : ℕ). min n run.pages)
    (c.cycle_len.ensures
    ∙ ap (λ rule. cycle_of rule run.index run.pages) c.rule_for-rule.ensures.is) in
    subst (λ (o : Option (Run (Option ℕ))). TellsTurns c.args.self.now c.args.task o (Some turns))
    (sym is) (
      turns,
      refl,
      record {
        first = refl;
        pages = refl;
        cycle = short;
        again = λ cpu k lt. list-again c.args.self.now c.args.task cpu c.args.place k c.min.result run
            c.run_count.ensures.apart is short lt;
      },
    )
