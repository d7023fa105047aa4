-- The task's policy is given, or refused.
use Rattle.std.proofs.Common.{◌≡◌, ◌<◌, ◌+◌, ◌&&◌, Ok, Err, refl, arith, ap, subst, sym, ◌∙◌}
use Rattle.std.proofs.Common.{false, true, is_some, Option}
use Rattle.std.specs.Prelude.{if◌then◌else◌}
use Rattle.numa_mode.specs.Policy.{PolicyRecord}
use Rattle.numa_requests.specs.declared.command.Command.TheVariants.{SetTask}
use Rattle.numa_requests.specs.declared.refusal.Refusal.TheVariants.{NoMemory, TooManyTasks}
use Rattle.numa_space.specs.Inside.{shown_of}
use Rattle.numa_space.specs.Refusals.{has_no_node}
use Rattle.numa_space.specs.Standing.{SpaceState, lacks_place, record_of}
use Rattle.numa_space.specs.Steps.{IsAnswer, IsGiven, record_now}
use Rattle.numa_space.specs.declared.change.Change.{Change}
use Rattle.numa_space.specs.declared.change.Change.TheVariants.{TaskSet}
use Rattle.numa_space.specs.declared.space.Space.TheInside.{Inside}
use Rattle.numa_space.proofs.Answers.{answer-done}
use Rattle.numa_space.proofs.Changes.{set-given, set-refused, set-some}
use Rattle.numa_space.proofs.Kept.{kept-answer}
use Rattle.numa_space.proofs.space.Space.set_task.Goals as goal
use Rattle.numa_space.proofs.space.Space.set_task.Goals.{In_default, In-Err}

abbrev next : (c : In_default) → Inside
next c = record c.self.inside { tasks = c.give.new.tasks; version = c.self.inside.version + 1 }

done : (c : In_default) → IsAnswer (shown_of c.self.inside) (SetTask c.args.task c.args.spec.now)
    (Ok (tt {0}))
    (shown_of (next c))
done c =
    let node : has_no_node (shown_of c.self.inside).allowed c.args.spec.now ≡ false =
    ap (λ (s : SpaceState). has_no_node s.allowed c.args.spec.now) c.self.view_is
    ∙ c.in_ok-record_of.ensures.0 in
    let is : c.policy-policy.result ≡ record_now (shown_of c.self.inside).allowed c.args.spec.now =
    c.policy-policy.ensures ∙ c.in_ok-record_of.ensures.1
    ∙ ap (λ (s : SpaceState). record_now s.allowed c.args.spec.now) (sym c.self.view_is) in
    let room : c.self.inside.version < c.self.inside.limits.max_commands =
    omega (
      arith,
      c.requires,
      ap (λ (s : SpaceState). s.version) c.self.view_is,
      ap (λ (s : SpaceState). s.bounds.max_commands) c.self.view_is,
    ) in
    let fits : (is_some (record_now (shown_of c.self.inside).allowed c.args.spec.now)
    && lacks_place c.self.inside.limits.max_tasks c.self.inside.tasks c.args.task) ≡ false =
    sym (λ i. is_some (is i) && lacks_place (c.max_tasks.ensures.limit i) c.self.inside.tasks c.args.task)
    ∙ c.in_default.ensures.ok.0 in
    let given : IsGiven c.self.inside.tasks c.args.task (record_now (shown_of
    c.self.inside).allowed c.args.spec.now) c.give.new.tasks =
    subst (λ (r : Option PolicyRecord). IsGiven c.self.inside.tasks c.args.task r
    c.give.new.tasks) is c.in_default.ensures.ok.1 in
    set-given (shown_of c.self.inside) c.args.task c.args.spec.now room node c.give.new.tasks fits
    given

pub invariant_of-self-2 : goal.invariant_of-self-2
invariant_of-self-2 c =
    kept-answer c.self.inside (next (goal.at.invariant_of-self-2 c).In_default) (SetTask c.args.task
    c.args.spec.now) (Ok (tt {0}))
    c.self.invariant refl refl (λ none. (none, refl)) (done (goal.at.invariant_of-self-2
    c).In_default)

pub returns-clause-answer : goal.returns-clause-answer
returns-clause-answer c =
    let there = (goal.at.returns-clause-answer c).In_default in
    let told : Change = TaskSet c.args.task c.policy-policy.result in
    let Q : SpaceState → Type 0 = λ s. IsAnswer s (SetTask c.args.task c.args.spec.now) (Ok told)
    (shown_of (next there)) in
    subst Q c.self.view_is
    (answer-done (shown_of c.self.inside) (shown_of (next there)) (SetTask c.args.task
    c.args.spec.now) (tt {0}) told
    (done there))

pub returns-in-Err-clause-answer : goal.returns-in-Err-clause-answer
returns-in-Err-clause-answer c =
    let node : has_no_node (shown_of c.self.inside).allowed c.args.spec.now ≡ false =
    ap (λ (s : SpaceState). has_no_node s.allowed c.args.spec.now) c.self.view_is
    ∙ c.in_ok-record_of.ensures.0 in
    let is : c.policy-policy.result ≡ record_now (shown_of c.self.inside).allowed c.args.spec.now =
    c.policy-policy.ensures ∙ c.in_ok-record_of.ensures.1
    ∙ ap (λ (s : SpaceState). record_now s.allowed c.args.spec.now) (sym c.self.view_is) in
    let room : c.self.inside.version < c.self.inside.limits.max_commands =
    omega (
      arith,
      c.requires,
      ap (λ (s : SpaceState). s.version) c.self.view_is,
      ap (λ (s : SpaceState). s.bounds.max_commands) c.self.view_is,
    ) in
    let some : is_some (record_now (shown_of c.self.inside).allowed c.args.spec.now) ≡ true = sym
    (ap is_some is) ∙ c.in-Err.ensures.err.0 in
    let cause : c.in-Err.refusal ≡ (if lacks_place c.self.inside.limits.max_tasks
    c.self.inside.tasks c.args.task then TooManyTasks else NoMemory) = c.in-Err.ensures.err.1
    ∙ (λ i. if lacks_place (c.max_tasks.ensures.limit i) c.self.inside.tasks c.args.task then TooManyTasks
    else NoMemory) in
    let Q : SpaceState → Type 0 = λ s. IsAnswer {A = Change} s (SetTask c.args.task
    c.args.spec.now) (Err c.in-Err.refusal)
    (record (shown_of c.self.inside) { tasks = c.give.new.tasks }) in
    subst Q c.self.view_is
    (set-refused (shown_of c.self.inside) c.args.task c.args.spec.now room node c.in-Err.refusal
    c.give.new.tasks some
    cause c.in-Err.ensures.unchanged)

pub returns-in-Err-clause-room : goal.returns-in-Err-clause-room
returns-in-Err-clause-room c = λ lacks.
    let node : has_no_node (shown_of c.self.inside).allowed c.args.spec.now ≡ false =
    ap (λ (s : SpaceState). has_no_node s.allowed c.args.spec.now) c.self.view_is
    ∙ c.in_ok-record_of.ensures.0 in
    let room : c.self.inside.version < c.self.inside.limits.max_commands =
    omega (
      arith,
      c.requires,
      ap (λ (s : SpaceState). s.version) c.self.view_is,
      ap (λ (s : SpaceState). s.bounds.max_commands) c.self.view_is,
    ) in
    let is : c.policy-policy.result ≡ record_now (shown_of c.self.inside).allowed c.args.spec.now =
    c.policy-policy.ensures ∙ c.in_ok-record_of.ensures.1
    ∙ ap (λ (s : SpaceState). record_now s.allowed c.args.spec.now) (sym c.self.view_is) in
    set-some (shown_of c.self.inside) c.args.task c.args.spec.now room node
    (sym (ap is_some is) ∙ c.in-Err.ensures.err.0)

pub returns-clause-change : goal.returns-clause-change
returns-clause-change c =
    (0, ap (TaskSet c.args.task) (c.policy-policy.ensures ∙ c.in_ok-record_of.ensures.1))
