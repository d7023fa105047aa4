use Rattle.std.proofs.Common.{List, Option, ℕ, sym, ap, subst, ◌∙◌, ◌++◌, All, IsSome}
use Rattle.std.specs.Option.{ForSome}
use Rattle.numa_plan.specs.Slots.{rule_in}
use Rattle.numa_ranges.specs.Runs.{AreApart}
use Rattle.numa_ranges.specs.declared.run.Run.{Run}
use Rattle.numa_plan.specs.Meaning.{PlanData}
use Rattle.numa_compile.proofs.RiseLemmas.{rises-runs, rises-same}
use Rattle.numa_compile.proofs.WaitLemmas.{spliced-end, named-behind, spliced-more}
use Rattle.numa_compile.proofs.compiler.put_waiting.Goals as goal

pub splice_runs-requires-clause-apart : goal.splice_runs-requires-clause-apart
splice_runs-requires-clause-apart c =
    subst (λ (runs : List (Run (Option ℕ))). AreApart 0 runs)
    (ap (λ (items : List (Run (Option ℕ))). c.args.plan.now.runs ++ items)
    (sym c.deref.ensures.value)
    ∙ sym (spliced-end c.args.plan.now.runs c.deref.result.now c.run_count-end.result
    c.run_count-end.ensures.count))
    c.requires.apart

pub splice_runs-requires-clause-named : goal.splice_runs-requires-clause-named
splice_runs-requires-clause-named c =
    named-behind c.args.plan.now.slots c.args.plan.now.runs c.deref.result.now
    (subst (λ (items : List (Run (Option ℕ))).
    All (λ run. ForSome run.value (λ number. IsSome (rule_in c.args.plan.now.slots number)))
    (c.args.plan.now.runs ++ items)) (sym c.deref.ensures.value) c.requires.named)

pub returns-clause-more : goal.returns-clause-more
returns-clause-more c = spliced-more c.args.plan.now c.splice_runs.new.self c.run_count-end.result
    c.run_count-end.result c.deref.result.now c.in_ok-splice_runs.ensures.ok.0
    c.in_ok-splice_runs.ensures.kept

pub returns-clause-runs : goal.returns-clause-runs
returns-clause-runs c =
    ap (λ (p : PlanData). p.runs) c.in_ok-splice_runs.ensures.ok.0
    ∙ spliced-end c.args.plan.now.runs c.deref.result.now c.run_count-end.result
    c.run_count-end.ensures.count
    ∙ ap (λ (items : List (Run (Option ℕ))). c.args.plan.now.runs ++ items) c.deref.ensures.value

pub returns-in_err-splice_runs-clause-rises : goal.returns-in_err-splice_runs-clause-rises
returns-in_err-splice_runs-clause-rises c = rises-same c.args.steps.now c.splice_runs.new.steps
    c.in_err-splice_runs.ensures.err.1

pub returns-clause-rises : goal.returns-clause-rises
returns-clause-rises c = rises-runs c.args.steps.now c.splice_runs.new.steps _
    c.in_ok-splice_runs.ensures.ok.1
