use Rattle.std.proofs.Common.{◌≡◌, ℕ, List, Option, Some, take, length, refl, sym, ap, subst, ◌∙◌}
use Rattle.std.proofs.Common.{arith, slice_get}
use Rattle.numa_ranges.specs.declared.run.Run.{Run}
use Rattle.numa_plan.specs.Meaning.{PlanData, number_of}
use Rattle.numa_space.specs.Policies.{where_live}
use Rattle.numa_compile.specs.Copies.{AreCopies, AreUsed, HasTasks}
use Rattle.numa_compile.proofs.CompileSteps.{served-number, under-task}
use Rattle.numa_compile.proofs.CopyLemmas.{copies-grow, grows-one, tasks-grow, tasks-next}
use Rattle.numa_compile.proofs.PlanLemmas.{used-task}
use Rattle.numa_compile.proofs.RiseLemmas.{rises-both, rises-none}
use Rattle.numa_compile.proofs.compiler.set_tasks.Goals as goal

pub number_for-requires-clause-in_force : goal.number_for-requires-clause-in_force
number_for-requires-clause-in_force c =
    λ r is. c.requires.ready.sound.tasks c.task_there-held.result.0 r
    (c.task_there-held.ensures.policy ∙ is)

pub loop-k-preserved : goal.loop-k-preserved
loop-k-preserved c =
    let given : c.set_task.new.self ≡ _ = c.in_ok-set_task.ensures.ok in
    let runs : c.set_task.new.self.runs ≡ c.loop-k.plan.runs =
    ap (λ (p : PlanData). p.runs) c.in_ok-set_task.ensures.ok
    ∙ ap (λ (p : PlanData). p.runs) c.in_ok-number.ensures.rest in
    let tasks : c.number_for.new.plan.tasks ≡ c.loop-k.plan.tasks =
    ap (λ (p : PlanData). p.tasks) c.in_ok-number.ensures.rest in
    let used : AreUsed c.args.space.now c.number_for.new.records.keys =
    used-task c.args.space.now c.loop-k.records.keys c.number_for.new.records.keys
    c.task_there-held.result.0 c.task_there-held.result.1 c.task_there-held.ensures.policy
    c.in_ok-number.ensures.grows c.loop-k.invariant.under_way.used in
    let before : HasTasks (slice_get c.number_for.new.records.keys)
    (take c.loop-k.k c.args.space.now.tasks) c.loop-k.plan =
    tasks-grow c.loop-k.records.keys c.number_for.new.records.keys
    (Some c.task_there-held.result.1) (take c.loop-k.k c.args.space.now.tasks) c.loop-k.plan
    c.in_ok-number.ensures.grows c.loop-k.invariant.tasks in
    record {
      under_way = under-task c.args.space.now c.loop-k.plan c.number_for.new.plan
          c.set_task.new.self c.task_there-held.result.0 c.in_ok-number.number c.loop-k.records.keys
          c.number_for.new.records.keys c.loop-k.invariant.under_way c.in_ok-number.ensures.serves
          used c.in_ok-number.ensures.rest c.in_ok-set_task.ensures.ok;
      copies =
          subst (λ (rs : List (Run (Option ℕ))). AreCopies (slice_get c.number_for.new.records.keys)
          c.args.space.now.ranges rs) (sym runs)
          (copies-grow c.loop-k.records.keys c.number_for.new.records.keys
          (Some c.task_there-held.result.1) c.args.space.now.ranges c.loop-k.plan.runs
          c.in_ok-number.ensures.grows c.loop-k.invariant.copies);
      tasks = tasks-next (slice_get c.number_for.new.records.keys) c.args.space.now.tasks c.loop-k.k
          c.task_there-held.result.0 c.task_there-held.result.1 c.loop-k.plan c.set_task.new.self
          c.in_ok-number.number (c.task_there-held.ensures.task)
          c.task_count-k-end.ensures.each_once before c.in_ok-number.ensures.number
          c.in_ok-set_task.ensures.given
          (λ other ne. c.in_ok-set_task.ensures.others other ne
          ∙ ap (λ ts. number_of ts other) tasks);
      runs = runs ∙ c.loop-k.invariant.runs;
      room =
          omega (
            arith,
            grows-one c.loop-k.records.keys (Some c.task_there-held.result.1)
                c.number_for.new.records.keys c.in_ok-number.ensures.grows,
            c.loop-k.invariant.room,
          );
      few = omega (arith, c.in_ok-set_task.ensures.sized, ap length tasks, c.loop-k.invariant.few);
      rises = rises-both c.args.steps.now c.loop-k.steps c.number_for.new.steps
          c.loop-k.invariant.rises c.number_for.ensures.rises;
    }

pub number_for-requires-clause-nodes : goal.number_for-requires-clause-nodes
number_for-requires-clause-nodes c = c.loop-k.invariant.under_way.nodes

pub number_for-requires-clause-serves : goal.number_for-requires-clause-serves
number_for-requires-clause-serves c = c.loop-k.invariant.under_way.serves

pub number_for-requires-clause-room : goal.number_for-requires-clause-room
number_for-requires-clause-room c =
    omega (arith, c.loop-k.invariant.room, c.requires.room, c.task_count-k-end.ensures.tasks)

pub set_task-requires : goal.set_task-requires
set_task-requires c = record {
  named = served-number c.args.space.now c.number_for.new.plan c.number_for.new.records.keys
      (where_live (Some c.task_there-held.result.1)) c.in_ok-number.number
      c.in_ok-number.ensures.serves c.in_ok-number.ensures.number;
}

pub loop-k-init : goal.loop-k-init
loop-k-init c = record {
  under_way = c.requires.under_way;
  copies = c.requires.copies;
  tasks = λ task. ap (λ ts. number_of ts task) c.requires.tasks;
  runs = refl;
  few = omega (arith, ap length c.requires.tasks);
  room = omega arith;
  rises = rises-none c.args.steps.now;
}

pub returns-clause-under_way : goal.returns-clause-under_way
returns-clause-under_way c = c.loop-k.invariant.under_way

pub returns-clause-copies : goal.returns-clause-copies
returns-clause-copies c = c.loop-k.invariant.copies

pub number_for-requires-clause-ready : goal.number_for-requires-clause-ready
number_for-requires-clause-ready c = c.requires.ready

pub returns-in_err-number-clause-rises : goal.returns-in_err-number-clause-rises
returns-in_err-number-clause-rises c = rises-both c.args.steps.now c.loop-k.steps
    c.number_for.new.steps c.loop-k.invariant.rises c.number_for.ensures.rises

pub returns-in_err-set_task-clause-rises : goal.returns-in_err-set_task-clause-rises
returns-in_err-set_task-clause-rises c = rises-both c.args.steps.now c.loop-k.steps
    c.number_for.new.steps c.loop-k.invariant.rises c.number_for.ensures.rises

pub returns-clause-rises : goal.returns-clause-rises
returns-clause-rises c = c.loop-k.invariant.rises
