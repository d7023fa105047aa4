use Rattle.std.proofs.Common.{◌≡◌, ℕ, List, Option, sym, ap, subst, ◌∙◌, arith}
use Rattle.std.proofs.lemmas.Result.{on_err_weaker}
use Rattle.std.specs.List.{slice_range}
use Rattle.numa_ranges.specs.declared.run.Run.{Run}
use Rattle.numa_plan.specs.Meaning.{PlanData}
use Rattle.numa_plan.specs.Slots.{policy_in}
use Rattle.numa_compile.specs.Copies.{AreCopies}
use Rattle.numa_compile.specs.Windows.{WereAdded}
use Rattle.numa_compile.proofs.GrownLemmas.{grown-rest, open-grown}
use Rattle.numa_compile.proofs.SpanLemmas.{writes-few}
use Rattle.numa_compile.proofs.recompiler.home.write_homes.Goals as goal

pub returns-in_err-gather_homes-clause-tasks : goal.returns-in_err-gather_homes-clause-tasks
returns-in_err-gather_homes-clause-tasks c =
    ap (λ (p : PlanData). p.tasks)
    (grown-rest c.args.space.now c.args.plan.now c.gather_homes.new.plan
    c.gather_homes.new.added.items c.gather_homes.ensures.added)

pub put_runs-requires-clause-of : goal.put_runs-requires-clause-of
put_runs-requires-clause-of c = open-grown c.args.space.now c.args.plan.now c.gather_homes.new.plan
    c.args.window.now c.gather_homes.new.added.items c.requires.of c.gather_homes.ensures.added

pub put_runs-requires-clause-copies : goal.put_runs-requires-clause-copies
put_runs-requires-clause-copies c =
    subst (λ (runs : List (Run (Option ℕ))). AreCopies (policy_in c.gather_homes.new.plan.slots)
    (slice_range c.args.space.now.ranges c.args.window.now.from c.args.window.now.to_now) runs)
    (sym c.deref.ensures.value) c.in_ok-gather_homes.ensures.copies

pub returns-clause-tasks : goal.returns-clause-tasks
returns-clause-tasks c = c.put_runs.ensures.tasks
    ∙ ap (λ (p : PlanData). p.tasks)
    (grown-rest c.args.space.now c.args.plan.now c.gather_homes.new.plan
    c.gather_homes.new.added.items c.gather_homes.ensures.added)

pub returns-clause-added : goal.returns-clause-added
returns-clause-added c =
    on_err_weaker c.put_runs.result
    (λ (same : c.put_runs.new.plan ≡ c.gather_homes.new.plan).
    subst (λ (p : PlanData). WereAdded c.args.space.now c.args.plan.now
    c.gather_homes.new.added.items p) (sym same) c.gather_homes.ensures.added)
    c.put_runs.ensures.unchanged

pub returns-clause-few : goal.returns-clause-few
returns-clause-few c = writes-few c.args.steps.now c.gather_homes.new.steps c.put_runs.new.steps _ _
    _ c.gather_homes.ensures.few c.put_runs.ensures.few (omega arith)

pub gather_homes-requires-clause-ready : goal.gather_homes-requires-clause-ready
gather_homes-requires-clause-ready c = c.requires.ready

pub gather_homes-requires-clause-of : goal.gather_homes-requires-clause-of
gather_homes-requires-clause-of c = c.requires.of

pub gather_homes-requires-clause-none_added : goal.gather_homes-requires-clause-none_added
gather_homes-requires-clause-none_added c = c.requires.none_added

pub returns-clause-follows : goal.returns-clause-follows
returns-clause-follows c = c.put_runs.ensures.follows
