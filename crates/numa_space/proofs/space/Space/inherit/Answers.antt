-- The task's policy is given, or refused.
use Rattle.std.proofs.Common.{◌≡◌, ◌<◌, ◌+◌, ◌&&◌, Ok, Err, refl, arith, ap, subst, sym, ◌∙◌}
use Rattle.std.proofs.Common.{false, true, is_some, Option}
use Rattle.std.specs.Prelude.{if◌then◌else◌}
use Rattle.numa_mode.specs.Policy.{PolicyRecord}
use Rattle.numa_requests.specs.declared.command.Command.TheVariants.{Inherit}
use Rattle.numa_requests.specs.declared.refusal.Refusal.TheVariants.{NoMemory, TooManyTasks}
use Rattle.numa_space.specs.Inside.{shown_of}
use Rattle.numa_space.specs.Standing.{SpaceState, lacks_place, record_of}
use Rattle.numa_space.specs.Steps.{IsAnswer, IsGiven, record_now}
use Rattle.numa_space.specs.declared.change.Change.{Change}
use Rattle.numa_space.specs.declared.change.Change.TheVariants.{TaskSet}
use Rattle.numa_space.specs.declared.space.Space.TheInside.{Inside}
use Rattle.numa_space.proofs.Answers.{answer-done}
use Rattle.numa_space.proofs.Changes.{inherit-given, inherit-refused}
use Rattle.numa_space.proofs.Kept.{kept-answer}
use Rattle.numa_space.proofs.space.Space.inherit.Goals as goal
use Rattle.numa_space.proofs.space.Space.inherit.Goals.{In_default, In-Err}

abbrev next : (c : In_default) → Inside
next c = record c.self.inside { tasks = c.give.new.tasks; version = c.self.inside.version + 1 }

done : (c : In_default) → IsAnswer (shown_of c.self.inside) (Inherit c.args.task c.args.from) (Ok
    (tt {0}))
    (shown_of (next c))
done c =
    let is : c.get-policy.result ≡ record_of c.self.inside.tasks c.args.from =
    c.get-policy.ensures in
    let room : c.self.inside.version < c.self.inside.limits.max_commands =
    omega (
      arith,
      c.requires,
      ap (λ (s : SpaceState). s.version) c.self.view_is,
      ap (λ (s : SpaceState). s.bounds.max_commands) c.self.view_is,
    ) in
    let fits : (is_some (record_of c.self.inside.tasks c.args.from)
    && lacks_place c.self.inside.limits.max_tasks c.self.inside.tasks c.args.task) ≡ false =
    sym (λ i. is_some (is i) && lacks_place (c.max_tasks.ensures.limit i) c.self.inside.tasks c.args.task)
    ∙ c.in_default.ensures.ok.0 in
    let given : IsGiven c.self.inside.tasks c.args.task (record_of c.self.inside.tasks c.args.from)
    c.give.new.tasks =
    subst (λ (r : Option PolicyRecord). IsGiven c.self.inside.tasks c.args.task r
    c.give.new.tasks) is c.in_default.ensures.ok.1 in
    inherit-given (shown_of c.self.inside) c.args.task c.args.from room c.give.new.tasks fits given

pub invariant_of-self-2 : goal.invariant_of-self-2
invariant_of-self-2 c =
    kept-answer c.self.inside (next (goal.at.invariant_of-self-2 c).In_default) (Inherit c.args.task
    c.args.from) (Ok (tt {0}))
    c.self.invariant refl refl (λ none. (none, refl)) (done (goal.at.invariant_of-self-2
    c).In_default)

pub returns-clause-answer : goal.returns-clause-answer
returns-clause-answer c =
    let there = (goal.at.returns-clause-answer c).In_default in
    let told : Change = TaskSet c.args.task c.get-policy.result in
    let Q : SpaceState → Type 0 = λ s. IsAnswer s (Inherit c.args.task c.args.from) (Ok told)
    (shown_of (next there)) in
    subst Q c.self.view_is
    (answer-done (shown_of c.self.inside) (shown_of (next there)) (Inherit c.args.task c.args.from)
    (tt {0}) told
    (done there))

pub returns-in-Err-clause-answer : goal.returns-in-Err-clause-answer
returns-in-Err-clause-answer c =
    let is : c.get-policy.result ≡ record_of c.self.inside.tasks c.args.from =
    c.get-policy.ensures in
    let room : c.self.inside.version < c.self.inside.limits.max_commands =
    omega (
      arith,
      c.requires,
      ap (λ (s : SpaceState). s.version) c.self.view_is,
      ap (λ (s : SpaceState). s.bounds.max_commands) c.self.view_is,
    ) in
    let some : is_some (record_of c.self.inside.tasks c.args.from) ≡ true = sym (ap is_some is) ∙
    c.in-Err.ensures.err.0 in
    let cause : c.in-Err.refusal ≡ (if lacks_place c.self.inside.limits.max_tasks
    c.self.inside.tasks c.args.task then TooManyTasks else NoMemory) = c.in-Err.ensures.err.1
    ∙ (λ i. if lacks_place (c.max_tasks.ensures.limit i) c.self.inside.tasks c.args.task then TooManyTasks
    else NoMemory) in
    let Q : SpaceState → Type 0 = λ s. IsAnswer {A = Change} s (Inherit c.args.task c.args.from)
    (Err c.in-Err.refusal)
    (record (shown_of c.self.inside) { tasks = c.give.new.tasks }) in
    subst Q c.self.view_is
    (inherit-refused (shown_of c.self.inside) c.args.task c.args.from room c.in-Err.refusal
    c.give.new.tasks some
    cause c.in-Err.ensures.unchanged)

pub returns-clause-change : goal.returns-clause-change
returns-clause-change c = (
  0,
  ap (TaskSet c.args.task) (c.get-policy.ensures
      ∙ ap (λ (s : SpaceState). record_of s.tasks c.args.from) c.self.view_is),
)
