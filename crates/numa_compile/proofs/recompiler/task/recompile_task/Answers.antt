use Rattle.numa_plan.specs.Meaning.{PlanData, number_of}
use Rattle.numa_compile.proofs.AddedLemmas.{added-rest, follows-dropped}
use Rattle.numa_compile.proofs.PutLemmas.{number-named}
use Rattle.numa_compile.proofs.TaskLemmas.{given, task-follows}
use Rattle.numa_compile.proofs.recompiler.task.recompile_task.Goals as goal
use Rattle.std.proofs.Common.{Option, sym, ap, subst, ◌∙◌}
use Rattle.numa_mode.specs.Policy.{PolicyRecord}
use Rattle.numa_space.specs.Policies.{where_live}
use Rattle.numa_plan.specs.Slots.{policy_in}
use Rattle.numa_compile.specs.Copies.{IsNumber}

pub returns-clause-follows : goal.returns-clause-follows
returns-clause-follows c =
    let numbered =
    subst (λ (p : Option PolicyRecord). IsNumber (policy_in c.number_or_add.new.plan.slots)
    (where_live p) c.in_ok-number.number) c.requires.set
    c.in_ok-number.ensures.number in
    follows-dropped c.args.space.now c.set_version.new.self c.drop_unused.new.plan
    c.drop_unused.ensures.rest c.drop_unused.ensures.slots
    (task-follows c.args.space.now c.args.task c.requires.behind.0 c.requires.behind.1
    c.args.plan.now c.number_or_add.new.plan c.set_task.new.self c.in_ok-number.number
    c.in_ok-number.added
    c.requires.behind.2 c.survey.ensures.rising c.survey.ensures.maximal
    c.in_ok-number.ensures.added numbered c.in-Ok.ensures.ok c.in-Ok.ensures.given
    c.in-Ok.ensures.others
    c.set_version.new.self (c.set_version.ensures
    ∙ ap (λ version. record c.set_task.new.self { version = version })
    c.version.ensures.version))

pub number_or_add-requires-clause-in_force : goal.number_or_add-requires-clause-in_force
number_or_add-requires-clause-in_force c = λ r is. c.survey.ensures.ready.sound.tasks c.args.task r
    (sym c.requires.set ∙ is)

pub number_or_add-requires-clause-nodes : goal.number_or_add-requires-clause-nodes
number_or_add-requires-clause-nodes c = c.requires.behind.2.follows.nodes
    ∙ sym
    (ap (λ machine. machine.nodes)
    (given c.args.task c.requires.behind.2.before c.args.space.now c.requires.behind.0
    c.requires.behind.1 c.requires.behind.2.step.next).machine)

pub set_task-requires : goal.set_task-requires
set_task-requires c =
    record {
      named = number-named c.number_or_add.new.plan.slots
          (where_live c.args.policy) c.in_ok-number.number
          c.in_ok-number.ensures.number;
    }

pub number_or_add-requires-clause-ready : goal.number_or_add-requires-clause-ready
number_or_add-requires-clause-ready c = c.survey.ensures.ready

pub returns-in_err-number-clause-few : goal.returns-in_err-number-clause-few
returns-in_err-number-clause-few c = c.number_or_add.ensures.few

pub returns-in_err-number-clause-others : goal.returns-in_err-number-clause-others
returns-in_err-number-clause-others c = record {
  runs = ap (λ (p : PlanData). p.runs) c.in_err-number.ensures.err;
  tasks = λ other ne. ap (λ (p : PlanData). number_of p.tasks other) c.in_err-number.ensures.err;
}

pub returns-in_default-clause-few : goal.returns-in_default-clause-few
returns-in_default-clause-few c = c.number_or_add.ensures.few

pub returns-clause-few : goal.returns-clause-few
returns-clause-few c = c.number_or_add.ensures.few

pub returns-clause-others : goal.returns-clause-others
returns-clause-others c =
    let rest = added-rest c.args.space.now c.args.plan.now c.number_or_add.new.plan
    c.in_ok-number.added c.in_ok-number.ensures.added in
    record {
      runs = ap (λ (p : PlanData). p.runs) c.drop_unused.ensures.rest
          ∙ ap (λ (p : PlanData). p.runs) c.set_version.ensures
          ∙ ap (λ (p : PlanData). p.runs) c.in-Ok.ensures.ok ∙ ap (λ (p : PlanData). p.runs) rest;
      tasks = λ other ne.
          ap (λ (p : PlanData). number_of p.tasks other) c.drop_unused.ensures.rest
          ∙ ap (λ (p : PlanData). number_of p.tasks other) c.set_version.ensures
          ∙ c.in-Ok.ensures.others other ne ∙ ap (λ (p : PlanData). number_of p.tasks other) rest;
    }
