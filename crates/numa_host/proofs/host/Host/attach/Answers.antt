use Rattle.std.proofs.Common.{◌≡◌, ◌<◌, ℕ, true, false, List}
use Rattle.std.proofs.Common.{None, Err, refl, sym, ap}
use Rattle.std.proofs.Common.{◌∙◌, subst}
use Rattle.std.specs.List.{position}
use Rattle.numa_machine.specs.Machine.{Hardware}
use Rattle.numa_requests.specs.declared.host_command.HostCommand.TheVariants.{Attach}
use Rattle.numa_host.specs.declared.group.ControlGroup.{ControlGroup}
use Rattle.numa_host.specs.declared.process.Process.{Process}
use Rattle.numa_requests.specs.declared.host_refusal.HostRefusal.TheVariants as cause
use Rattle.numa_host.specs.Following.{IsMoved}
use Rattle.numa_host.specs.Groups.{effective_mems, is_group}
use Rattle.numa_host.specs.Inside.{shown_of}
use Rattle.numa_host.specs.Standing.{HostState, IsHostApplied}
use Rattle.numa_host.proofs.Found.{has_id}
use Rattle.numa_host.proofs.Steps.{IsHostStep, step-kept, step-shown}
use Rattle.numa_host.proofs.Told.{IsPlaceOf, position-some}
use Rattle.numa_host.proofs.Attached.{attach-step, next}
use Rattle.numa_host.proofs.Grouped.{room-held}
use Rattle.numa_host.proofs.Refusing.{attach-absent, attach-nowhere}
use Rattle.numa_host.proofs.host.Host.attach.Goals as goal

pub returns-in_default : goal.returns-in_default
returns-in_default c =
    let host : HostState = shown_of c.self.inside in
    let room : host.version < host.blank.bounds.max_commands =
    subst (λ (h : HostState). h.version < h.blank.bounds.max_commands) (sym c.self.view_is)
    c.requires in
    let none : position (has_id c.args.process) host.processes ≡ None =
    ap (λ (ps : List Process). position (has_id c.args.process) ps) (sym c.deref.ensures.value)
    ∙ sym c.in_default.ensures in
    subst (λ (h : HostState). IsHostApplied h (Attach c.args.process c.args.group)
    (Err cause.NoSuchProcess) h) c.self.view_is
    (attach-absent host room c.args.process c.args.group none)

pub returns-then-not-is_group : goal.returns-then-not-is_group
returns-then-not-is_group c =
    let host : HostState = shown_of c.self.inside in
    let room : host.version < host.blank.bounds.max_commands =
    subst (λ (h : HostState). h.version < h.blank.bounds.max_commands) (sym c.self.view_is)
    c.requires in
    let place : ℕ = c.in-Some.place in
    let at : IsPlaceOf host.processes c.args.process place =
    position-some host.processes c.args.process place
    (ap (λ (ps : List Process). position (has_id c.args.process) ps) (sym c.deref.ensures.value)
    ∙ sym c.in-Some.ensures) in
    let known : is_group host.groups c.args.group ≡ false = ap (λ gs. is_group gs c.args.group)
    (sym c.deref-2.ensures.value) ∙ sym c.is_group.ensures ∙ c.if-not-is_group.true in
    subst (λ (h : HostState). IsHostApplied h (Attach c.args.process c.args.group)
    (Err cause.NoSuchGroup) h) c.self.view_is
    (attach-nowhere host room c.args.process c.args.group place c.self.invariant.sound at known)

pub move_to-requires-clause-room : goal.move_to-requires-clause-room
move_to-requires-clause-room c =
    let host : HostState = shown_of c.self.inside in
    let room : host.version < host.blank.bounds.max_commands =
    subst (λ (h : HostState). h.version < h.blank.bounds.max_commands) (sym c.self.view_is)
    c.requires in
    let memory : c.memory-memory.result ≡ host.blank.machine.memory =
    c.memory-memory.ensures.memory ∙ ap (λ (m : Hardware). m.memory) c.machine.ensures in
    room-held host c.self.invariant.history.history c.memory-memory.result
    c.self.invariant.history.stands room memory

pub invariant_of-self : goal.invariant_of-self
invariant_of-self c =
    let host : HostState = shown_of c.self.inside in
    let room : host.version < host.blank.bounds.max_commands =
    subst (λ (h : HostState). h.version < h.blank.bounds.max_commands) (sym c.self.view_is)
    c.requires in
    let place : ℕ = c.in-Some.place in
    let at : IsPlaceOf host.processes c.args.process place =
    position-some host.processes c.args.process place
    (ap (λ (ps : List Process). position (has_id c.args.process) ps) (sym c.deref.ensures.value)
    ∙ sym c.in-Some.ensures) in
    let known : is_group host.groups c.args.group ≡ true = ap (λ gs. is_group gs c.args.group)
    (sym c.deref-2.ensures.value) ∙ sym c.is_group.ensures ∙ c.if-not-is_group.false in
    let memory : c.memory-memory.result ≡ host.blank.machine.memory =
    c.memory-memory.ensures.memory ∙ ap (λ (m : Hardware). m.memory) c.machine.ensures in
    let news : List Process = c.move_to.new.processes.items in
    let M : ℕ → List ControlGroup
    → Type 0 = λ m gs. IsMoved place c.args.group (effective_mems m gs c.args.group)
    host.processes news in
    let moved : M host.blank.machine.memory host.groups =
    subst (λ gs. M host.blank.machine.memory gs) c.deref-3.ensures.value
    (subst (λ m. M m c.deref-3.result.now) memory c.move_to.ensures) in
    let after : HostState = next host c.args.process place c.args.group news in
    let step : IsHostStep host (Attach c.args.process c.args.group) after =
    attach-step host c.args.process place c.args.group news c.self.invariant.sound at moved room
    known in
    step-kept host _ (Attach c.args.process c.args.group) after step c.self.invariant.history
    refl c.self.invariant.limits

pub returns : goal.returns
returns c =
    let host : HostState = shown_of c.self.inside in
    let room : host.version < host.blank.bounds.max_commands =
    subst (λ (h : HostState). h.version < h.blank.bounds.max_commands) (sym c.self.view_is)
    c.requires in
    let place : ℕ = c.in-Some.place in
    let at : IsPlaceOf host.processes c.args.process place =
    position-some host.processes c.args.process place
    (ap (λ (ps : List Process). position (has_id c.args.process) ps) (sym c.deref.ensures.value)
    ∙ sym c.in-Some.ensures) in
    let known : is_group host.groups c.args.group ≡ true = ap (λ gs. is_group gs c.args.group)
    (sym c.deref-2.ensures.value) ∙ sym c.is_group.ensures ∙ c.if-not-is_group.false in
    let memory : c.memory-memory.result ≡ host.blank.machine.memory =
    c.memory-memory.ensures.memory ∙ ap (λ (m : Hardware). m.memory) c.machine.ensures in
    let news : List Process = c.move_to.new.processes.items in
    let M : ℕ → List ControlGroup
    → Type 0 = λ m gs. IsMoved place c.args.group (effective_mems m gs c.args.group)
    host.processes news in
    let moved : M host.blank.machine.memory host.groups =
    subst (λ gs. M host.blank.machine.memory gs) c.deref-3.ensures.value
    (subst (λ m. M m c.deref-3.result.now) memory c.move_to.ensures) in
    let after : HostState = next host c.args.process place c.args.group news in
    let step : IsHostStep host (Attach c.args.process c.args.group) after =
    attach-step host c.args.process place c.args.group news c.self.invariant.sound at moved room
    known in
    step-shown host after c.args.self.now after (Attach c.args.process c.args.group) step
    c.self.view_is refl
