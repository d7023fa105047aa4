use Rattle.std.proofs.Common.{[], refl, ap, arith, slice_get}
use Rattle.numa_plan.specs.Meaning.{PlanData}
use Rattle.numa_compile.proofs.CompileSteps.{under-empty, follows-done, shares-done}
use Rattle.numa_compile.proofs.CopyLemmas.{copies-length}
use Rattle.numa_compile.proofs.SeenLemmas.{unique-pairs}
use Rattle.numa_compile.proofs.compiler.copy_space.Goals as goal

pub add_runs-requires-clause-under_way : goal.add_runs-requires-clause-under_way
add_runs-requires-clause-under_way c =
    under-empty c.args.space.now c.args.plan.now c.args.space.now.machine.nodes
    c.args.plan.now.local [] c.requires.empty refl c.requires.local refl

pub add_runs-requires-clause-runs : goal.add_runs-requires-clause-runs
add_runs-requires-clause-runs c = ap (λ (p : PlanData). p.runs) c.requires.empty

pub add_runs-requires-clause-tasks : goal.add_runs-requires-clause-tasks
add_runs-requires-clause-tasks c = ap (λ (p : PlanData). p.tasks) c.requires.empty

pub set_tasks-requires-clause-few : goal.set_tasks-requires-clause-few
set_tasks-requires-clause-few c =
    omega (
      arith,
      copies-length (slice_get c.in_ok-records.records.keys) c.args.space.now.ranges
          c.add_runs.new.plan.runs c.in_ok-records.ensures.copies,
      c.survey.ensures.ranges,
      c.survey.ensures.tasks,
    )

pub set_tasks-requires-clause-room : goal.set_tasks-requires-clause-room
set_tasks-requires-clause-room c =
    omega (arith, c.in_ok-records.ensures.room, c.survey.ensures.ranges, c.survey.ensures.tasks)

pub returns-clause-follows : goal.returns-clause-follows
returns-clause-follows c = follows-done c.args.space.now c.set_tasks.new.plan c.set_version.new.self
    c.set_tasks.new.records.keys c.version.result c.version.ensures.version c.set_version.ensures
    c.in-Ok.ensures.under_way c.in-Ok.ensures.copies c.in-Ok.ensures.tasks

pub returns-clause-rules : goal.returns-clause-rules
returns-clause-rules c =
    shares-done c.args.space.now c.set_tasks.new.plan c.set_version.new.self
    c.set_tasks.new.records.keys c.version.result c.version.ensures.version
    c.set_version.ensures c.in-Ok.ensures.under_way c.in-Ok.ensures.copies c.in-Ok.ensures.tasks
    (unique-pairs c.set_tasks.new.records.keys c.len.ensures.unique)

pub set_tasks-requires-clause-ready : goal.set_tasks-requires-clause-ready
set_tasks-requires-clause-ready c = c.survey.ensures.ready

pub set_tasks-requires-clause-under_way : goal.set_tasks-requires-clause-under_way
set_tasks-requires-clause-under_way c = c.in_ok-records.ensures.under_way

pub set_tasks-requires-clause-copies : goal.set_tasks-requires-clause-copies
set_tasks-requires-clause-copies c = c.in_ok-records.ensures.copies

pub set_tasks-requires-clause-tasks : goal.set_tasks-requires-clause-tasks
set_tasks-requires-clause-tasks c = c.in_ok-records.ensures.tasks
