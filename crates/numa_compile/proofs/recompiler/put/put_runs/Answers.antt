use Rattle.std.proofs.Common.{◌≡◌, ◌-◌, length, length-take, length-drop, drop, ap, ◌∙◌, arith}
use Rattle.std.specs.List.{slice_range}
use Rattle.numa_plan.specs.Counted.{Counted}
use Rattle.numa_plan.specs.Meaning.{PlanData}
use Rattle.numa_plan.specs.Slots.{policy_in}
use Rattle.numa_compile.proofs.CommandLemmas.{open-within}
use Rattle.numa_compile.proofs.CopyLemmas.{copies-apart, copies-length}
use Rattle.numa_compile.proofs.PutLemmas.{follows-put, named-copies}
use Rattle.numa_compile.proofs.SpanLemmas.{open-spliced}
use Rattle.numa_compile.proofs.recompiler.put.put_runs.Goals as goal

pub replace_runs-requires-clause-apart : goal.replace_runs-requires-clause-apart
replace_runs-requires-clause-apart c =
    copies-apart (policy_in c.args.plan.now.slots) 0 c.args.space.now.ranges _
    (open-spliced c.args.space.now c.args.plan.now c.args.window.now c.args.runs.now c.requires.of
    c.requires.copies).copies c.survey.ensures.rising

pub replace_runs-requires-clause-named : goal.replace_runs-requires-clause-named
replace_runs-requires-clause-named c =
    named-copies c.args.plan.now.slots
    (slice_range c.args.space.now.ranges c.args.window.now.from c.args.window.now.to_now)
    c.args.runs.now c.requires.copies

pub returns-clause-follows : goal.returns-clause-follows
returns-clause-follows c =
    follows-put c.args.space.now c.args.plan.now c.replace_runs.new.self c.set_version.new.self
    c.drop_all.new.plan c.args.window.now.from c.args.window.now.to c.args.runs.now
    c.version.result
    c.in_ok-gone.ensures.ok.0 c.in_ok-gone.ensures.kept c.set_version.ensures
    c.version.ensures.version c.drop_all.ensures.rest c.drop_all.ensures.slots
    (open-spliced c.args.space.now c.args.plan.now c.args.window.now c.args.runs.now c.requires.of
    c.requires.copies)

pub returns-clause-few : goal.returns-clause-few
returns-clause-few c =
    let ranges = c.args.space.now.ranges in
    let window = c.args.window.now in
    let within = open-within c.args.space.now c.args.plan.now window c.requires.of in
    let many = copies-length (policy_in c.args.plan.now.slots)
    (slice_range ranges window.from window.to_now) c.args.runs.now c.requires.copies in
    let size : length c.args.runs.now ≡ window.to_now - window.from =
    omega (
      arith,
      many,
      length-take (window.to_now - window.from) (drop window.from ranges),
      length-drop window.from ranges,
      within.0,
      within.1,
    ) in
    let written = c.in_ok-gone.ensures.ok.1 in
    record {
      compares = omega (arith, ap (λ (s : Counted). s.comparisons) written);
      runs = omega (arith, size, ap (λ (s : Counted). s.runs) written);
      runs_rise = omega (arith, ap (λ (s : Counted). s.runs) written);
      rules = omega (arith, ap (λ (s : Counted). s.rules) written);
      rules_rise = omega (arith, ap (λ (s : Counted). s.rules) written);
    }

pub replace_runs-requires-clause-rises : goal.replace_runs-requires-clause-rises
replace_runs-requires-clause-rises c = c.requires.of.rises

pub replace_runs-requires-clause-within : goal.replace_runs-requires-clause-within
replace_runs-requires-clause-within c = c.requires.of.within

pub returns-clause-tasks : goal.returns-clause-tasks
returns-clause-tasks c = ap (λ (p : PlanData). p.tasks) c.drop_all.ensures.rest
    ∙ ap (λ (p : PlanData). p.tasks) c.set_version.ensures
    ∙ ap (λ (p : PlanData). p.tasks) c.in_ok-gone.ensures.ok.0
