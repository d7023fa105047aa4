use Rattle.std.proofs.Common.{◌∷◌, ◌≡◌, List, None, Ok, Err, OnOk, OnErr, Result, length, ap, sym}
use Rattle.std.proofs.Common.{◌∙◌, subst, rules}
use Rattle.std.proofs.lemmas.Result.{IfOk-at_ok}
use Rattle.numa_machine.specs.Machine.{Hardware}
use Rattle.numa_space.specs.Changed.{IsChange}
use Rattle.numa_space.specs.Refusals.{refusal_of}
use Rattle.numa_space.specs.Standing.{SpaceState, StandsFor}
use Rattle.numa_space.specs.Steps.{IsApplied, IsStep}
use Rattle.numa_space.specs.declared.change.Change.{Change}
use Rattle.numa_requests.specs.declared.command.Command.{Command}
use Rattle.numa_requests.specs.declared.refusal.Refusal.{Refusal}
use Rattle.numa_requests.specs.declared.event.Event.TheVariants.{Accept}
use Rattle.numa_requests.specs.declared.event.CoreReply.TheVariants.{Accepted}
use Rattle.numa_requests.specs.declared.event.CoreRefusal.TheVariants.{Command as Because}
use Rattle.numa_core.specs.Executions.{CoreStep}
use Rattle.numa_core.specs.Kept.{core_state, Follows, IsKept}
use Rattle.numa_core.specs.Standing.{CoreState, HasPast, LeadsTo, core_step_after}
use Rattle.numa_core.specs.Standing.{setup_of}
use Rattle.numa_core.specs.declared.state.State.{State}
use Rattle.numa_core.proofs.CoreExecutions.{leads_on, past_more}
use Rattle.numa_core.proofs.CoreSteps.{accept-follows}
use Rattle.numa_core.proofs.Core.accept.Goals as goal

-- the core's machine, limits and workers stay
same_setup : (old : State) (after : SpaceState) → after.machine ≡ old.space.machine
    → after.bounds ≡ old.space.bounds → setup_of (core_state (record old { space = after }))
    ≡ setup_of (core_state old)
same_setup old after machine bounds = λ i. record {
  machine = machine i;
  bounds = bounds i;
  workers = length (core_state old).workers;
}

-- an accepted command was refused by no cause
done : {old after : SpaceState} {command : Command} {result : Result Change Refusal}
    {change : Change} → result ≡ Ok change → IsApplied old command result after
    → (history : List Command) → StandsFor old history
    → (refusal_of old.machine old.bounds history command ≡ None)
    × StandsFor after (command ∷ history)
done {old} {after} {command} is applied history stands =
    subst (λ (r : Result Change Refusal). OnOk r
    ((refusal_of old.machine old.bounds history command ≡ None)
    × StandsFor after (command ∷ history))) is (applied.ok history stands)

pub invariant_of-self : goal.invariant_of-self
invariant_of-self c =
    let old : State = c.self.inside.state in (
      record {
        places = c.self.invariant.0.places
            ∙ ap (λ (m : Hardware). m.frames) (sym c.apply-answer.ensures.applied.machine);
        seats = c.self.invariant.0.seats;
        owners = c.self.invariant.0.owners;
        few = c.self.invariant.0.few;
        taken = c.self.invariant.0.taken;
        behind = c.note.ensures old.space c.apply-answer.new.self c.args.command.now
            old.plan c.self.invariant.0.behind (subst (λ (r : Result Change Refusal).
            OnOk r (IsStep old.space c.args.command.now c.apply-answer.new.self)) c.in-Ok.is
            c.apply-answer.ensures.applied.step)
            (IfOk-at_ok (IsChange old.space c.args.command.now) c.in-Ok.is
            c.apply-answer.ensures.change);
      },
      past_more (core_state old) (core_state (record old { space = c.apply-answer.new.self }))
          (Accept c.args.command.now) (Ok (Accepted c.version-version.result))
          (same_setup old c.apply-answer.new.self c.apply-answer.ensures.applied.machine c.apply-answer.ensures.applied.bounds)
          (accept-follows old.space c.apply-answer.new.self old.plan old.seats.items old.owners.items
          c.args.command.now c.version-version.result (done c.in-Ok.is c.apply-answer.ensures.applied) c.apply-answer.ensures.applied.machine
          (c.version-version.ensures.version ∙ ap (λ (s : SpaceState). s.version) c.space.ensures))
          c.self.invariant.1,
    )

pub returns-in-Ok-clause-answer : goal.returns-in-Ok-clause-answer
returns-in-Ok-clause-answer c =
    let old : State = c.self.inside.state in
    let new : CoreState = core_state (record old { space = c.apply-answer.new.self }) in
    let P : CoreState → Type 0 =
    λ core. Follows core (Accept c.args.command.now) (Ok (Accepted c.version-version.result)) new in
    subst P c.self.view_is (accept-follows old.space c.apply-answer.new.self old.plan old.seats.items
    old.owners.items c.args.command.now c.version-version.result (done c.in-Ok.is c.apply-answer.ensures.applied)
    c.apply-answer.ensures.applied.machine
    (c.version-version.ensures.version ∙ ap (λ (s : SpaceState). s.version) c.space.ensures))

pub returns-in-Ok-clause-executions : goal.returns-in-Ok-clause-executions
returns-in-Ok-clause-executions c =
    let old : State = c.self.inside.state in
    let new : CoreState = core_state (record old { space = c.apply-answer.new.self }) in
    let P : CoreState → Type 0 = λ core. (past : List CoreStep) → LeadsTo past core
    → LeadsTo (core_step_after (setup_of core) past (Accept c.args.command.now)
    (Ok (Accepted c.version-version.result)) ∷ past) new in
    subst P c.self.view_is (leads_on (core_state old) new (Accept c.args.command.now)
    (Ok (Accepted c.version-version.result))
    (same_setup old c.apply-answer.new.self c.apply-answer.ensures.applied.machine c.apply-answer.ensures.applied.bounds)
    (accept-follows old.space c.apply-answer.new.self old.plan old.seats.items old.owners.items
    c.args.command.now c.version-version.result (done c.in-Ok.is c.apply-answer.ensures.applied) c.apply-answer.ensures.applied.machine
    (c.version-version.ensures.version ∙ ap (λ (s : SpaceState). s.version) c.space.ensures)))

pub returns-in-Ok-clause-setup : goal.returns-in-Ok-clause-setup
returns-in-Ok-clause-setup c =
    same_setup c.self.inside.state c.apply-answer.new.self c.apply-answer.ensures.applied.machine
    c.apply-answer.ensures.applied.bounds ∙ ap setup_of c.self.view_is

-- a refused command leaves the space
left : {old after : SpaceState} {result : Result Change Refusal} {refusal : Refusal}
    → result ≡ Err refusal → OnErr result (after ≡ old) → after ≡ old
left {old} {after} is same =
    subst (λ (r : Result Change Refusal). OnErr r (after ≡ old)) is same

pub invariant_of-self-in-Err : goal.invariant_of-self-in-Err
invariant_of-self-in-Err c =
    let old : State = c.self.inside.state in
    let P : SpaceState → Type 0 = λ s. IsKept (record old { space = s })
    × HasPast (core_state (record old { space = s })) in
    subst P (sym (left c.in-Err.is c.apply-answer.ensures.applied.unchanged)) c.self.invariant

pub returns-in-Err-clause-setup : goal.returns-in-Err-clause-setup
returns-in-Err-clause-setup c =
    same_setup c.self.inside.state c.apply-answer.new.self c.apply-answer.ensures.applied.machine
    c.apply-answer.ensures.applied.bounds ∙ ap setup_of c.self.view_is

pub returns-in-Err-clause-executions : goal.returns-in-Err-clause-executions
returns-in-Err-clause-executions c =
    let old : State = c.self.inside.state in
    let new : CoreState = core_state (record old { space = c.apply-answer.new.self }) in
    let follows : Follows c.args.self.now (Accept c.args.command.now)
    (Err (Because c.in-Err.refusal)) new = search rules in
    leads_on c.args.self.now new (Accept c.args.command.now) (Err (Because c.in-Err.refusal))
    (same_setup old c.apply-answer.new.self c.apply-answer.ensures.applied.machine
    c.apply-answer.ensures.applied.bounds ∙ ap setup_of c.self.view_is) follows
