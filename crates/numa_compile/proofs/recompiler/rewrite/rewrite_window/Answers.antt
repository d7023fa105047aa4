use Rattle.std.proofs.Common.{ℕ, List, Option, sym, subst}
use Rattle.std.specs.List.{slice_range}
use Rattle.numa_ranges.specs.declared.run.Run.{Run}
use Rattle.numa_plan.specs.Slots.{policy_in}
use Rattle.numa_compile.specs.Copies.{AreCopies}
use Rattle.numa_compile.proofs.CommandLemmas.{open-within}
use Rattle.numa_compile.proofs.SpanLemmas.{open-numbered}
use Rattle.numa_compile.proofs.recompiler.rewrite.rewrite_window.Goals as goal

pub gather_runs-requires-clause-rises : goal.gather_runs-requires-clause-rises
gather_runs-requires-clause-rises c =
    (open-within c.args.space.now c.args.plan.now c.args.window.now c.requires.of).0

pub gather_runs-requires-clause-within : goal.gather_runs-requires-clause-within
gather_runs-requires-clause-within c =
    (open-within c.args.space.now c.args.plan.now c.args.window.now c.requires.of).1

pub gather_runs-requires-clause-outside : goal.gather_runs-requires-clause-outside
gather_runs-requires-clause-outside c = open-numbered c.args.space.now c.args.plan.now
    c.args.window.now c.requires.of c.survey.ensures.rising c.survey.ensures.maximal

pub put_runs-requires-clause-copies : goal.put_runs-requires-clause-copies
put_runs-requires-clause-copies c =
    subst (λ (runs : List (Run (Option ℕ))). AreCopies (policy_in c.args.plan.now.slots)
    (slice_range c.args.space.now.ranges c.args.window.now.from c.args.window.now.to_now) runs)
    (sym c.deref.ensures.value) c.in_ok-gather_runs.ensures

pub gather_runs-requires-clause-inside : goal.gather_runs-requires-clause-inside
gather_runs-requires-clause-inside c = c.requires.inside

pub put_runs-requires-clause-of : goal.put_runs-requires-clause-of
put_runs-requires-clause-of c = c.requires.of

pub returns-clause-follows : goal.returns-clause-follows
returns-clause-follows c = c.put_runs.ensures.follows

pub returns-clause-few : goal.returns-clause-few
returns-clause-few c = c.put_runs.ensures.few

pub returns-clause-unchanged : goal.returns-clause-unchanged
returns-clause-unchanged c = c.put_runs.ensures.unchanged
