use Rattle.std.proofs.Common.{◌≡◌, ◌<◌, ◌≤◌, ℕ, true, false, List, length, get_or, None, Some, sym}
use Rattle.std.proofs.Common.{ap, ◌∙◌, subst, arith}
use Rattle.std.specs.List.{list_any, position}
use Rattle.numa_space.specs.Limited.{Bounds}
use Rattle.numa_requests.specs.declared.host_command.HostCommand.TheVariants.{Fork}
use Rattle.numa_requests.specs.declared.host_refusal.HostRefusal.TheVariants as cause
use Rattle.numa_requests.specs.declared.refusal.Refusal.TheVariants.{TooManyTasks}
use Rattle.numa_host.specs.Following.{lacks_place}
use Rattle.numa_host.specs.Inside.{shown_of}
use Rattle.numa_host.specs.Standing.{HostState}
use Rattle.numa_host.specs.declared.process.Process.{Process}
use Rattle.numa_host.proofs.Caused.{IsCause, stated}
use Rattle.numa_host.proofs.Forked.{fork-crowded, fork-none}
use Rattle.numa_host.proofs.Found.{has_id}
use Rattle.numa_host.proofs.Refusing.{fork-absent, fork-exists, fork-many}
use Rattle.numa_host.proofs.Steps.{refused}
use Rattle.numa_host.proofs.Told.{IsPlaceOf, position-some, some-process}
use Rattle.numa_host.proofs.host.Host.fork_cause.Goals as goal

pub returns-then-is_there : goal.returns-then-is_there
returns-then-is_there c =
    let host : HostState = shown_of c.self.inside in
    let room : host.version < host.blank.bounds.max_commands =
    subst (λ (h : HostState). h.version < h.blank.bounds.max_commands) (sym c.self.view_is)
    c.requires in
    let new : list_any (has_id c.args.child) host.processes ≡ true =
    ap (λ (ps : List Process). list_any (has_id c.args.child) ps) (sym c.deref.ensures.value)
    ∙ sym c.is_there.ensures ∙ c.if-is_there.true in
    subst (λ (h : HostState). IsCause h c.args.parent c.args.child c.args.from c.args.task
    (Some cause.ProcessExists)) c.self.view_is
    (stated host c.args.parent c.args.child c.args.from c.args.task cause.ProcessExists
    (λ same. cc) (fork-exists host room c.args.parent c.args.child c.args.from c.args.task new))

pub returns-in_default : goal.returns-in_default
returns-in_default c =
    let host : HostState = shown_of c.self.inside in
    let room : host.version < host.blank.bounds.max_commands =
    subst (λ (h : HostState). h.version < h.blank.bounds.max_commands) (sym c.self.view_is)
    c.requires in
    let new : list_any (has_id c.args.child) host.processes ≡ false =
    ap (λ (ps : List Process). list_any (has_id c.args.child) ps) (sym c.deref.ensures.value)
    ∙ sym c.is_there.ensures ∙ c.if-is_there.false in
    let none : position (has_id c.args.parent) host.processes ≡ None =
    ap (λ (ps : List Process). position (has_id c.args.parent) ps) (sym c.deref-2.ensures.value)
    ∙ sym c.in_default.ensures in
    subst (λ (h : HostState). IsCause h c.args.parent c.args.child c.args.from c.args.task
    (Some cause.NoSuchProcess)) c.self.view_is
    (stated host c.args.parent c.args.child c.args.from c.args.task cause.NoSuchProcess
    (λ same. cc) (fork-absent host room c.args.parent c.args.child c.args.from c.args.task new none))

pub returns-then-len-ge-MAX_PROCESSES : goal.returns-then-len-ge-MAX_PROCESSES
returns-then-len-ge-MAX_PROCESSES c =
    let host : HostState = shown_of c.self.inside in
    let room : host.version < host.blank.bounds.max_commands =
    subst (λ (h : HostState). h.version < h.blank.bounds.max_commands) (sym c.self.view_is)
    c.requires in
    let new : list_any (has_id c.args.child) host.processes ≡ false =
    ap (λ (ps : List Process). list_any (has_id c.args.child) ps) (sym c.deref.ensures.value)
    ∙ sym c.is_there.ensures ∙ c.if-is_there.false in
    let place : ℕ = c.in-Some.place in
    let at : IsPlaceOf host.processes c.args.parent place =
    position-some host.processes c.args.parent place
    (ap (λ (ps : List Process). position (has_id c.args.parent) ps) (sym c.deref-2.ensures.value)
    ∙ sym c.in-Some.ensures) in
    let many : 4096 ≤ length host.processes =
    omega (
      arith,
      c.if-len-ge-MAX_PROCESSES.true,
      c.len.ensures,
      c.deref.ensures.len,
      ap (λ (ps : List Process). length ps) c.deref.ensures.value,
    ) in
    subst (λ (h : HostState). IsCause h c.args.parent c.args.child c.args.from c.args.task
    (Some cause.TooManyProcesses)) c.self.view_is
    (stated host c.args.parent c.args.child c.args.from c.args.task cause.TooManyProcesses
    (λ same. cc) (fork-many host room c.args.parent c.args.child c.args.from c.args.task place
    c.self.invariant.sound new at many))

pub returns-then-has_no_place : goal.returns-then-has_no_place
returns-then-has_no_place c =
    let host : HostState = shown_of c.self.inside in
    let room : host.version < host.blank.bounds.max_commands =
    subst (λ (h : HostState). h.version < h.blank.bounds.max_commands) (sym c.self.view_is)
    c.requires in
    let new : list_any (has_id c.args.child) host.processes ≡ false =
    ap (λ (ps : List Process). list_any (has_id c.args.child) ps) (sym c.deref.ensures.value)
    ∙ sym c.is_there.ensures ∙ c.if-is_there.false in
    let place : ℕ = c.in-Some.place in
    let at : IsPlaceOf host.processes c.args.parent place =
    position-some host.processes c.args.parent place
    (ap (λ (ps : List Process). position (has_id c.args.parent) ps) (sym c.deref-2.ensures.value)
    ∙ sym c.in-Some.ensures) in
    let few : length host.processes < 4096 =
    omega (
      arith,
      c.if-len-ge-MAX_PROCESSES.false,
      c.len.ensures,
      c.deref.ensures.len,
      ap (λ (ps : List Process). length ps) c.deref.ensures.value,
    ) in
    let most : ℕ = c.max_tasks-most.result in
    let is_most : most ≡ host.blank.bounds.max_tasks = c.max_tasks-most.ensures.limit
    ∙ ap (λ (b : Bounds). b.max_tasks) c.self.invariant.limits in
    let d : Process = some-process host.processes place at.inside in
    let full : lacks_place (get_or host.processes place d).space c.args.from c.args.task most
    ≡ true =
    ap (λ (ps : List Process). lacks_place (get_or ps place d).space c.args.from c.args.task
    most) (sym c.deref-3.ensures.value) ∙ sym (c.has_no_place.ensures d)
    ∙ c.if-has_no_place.true in
    subst (λ (h : HostState). IsCause h c.args.parent c.args.child c.args.from c.args.task
    (Some (cause.OfSpace TooManyTasks))) c.self.view_is
    (stated host c.args.parent c.args.child c.args.from c.args.task (cause.OfSpace TooManyTasks)
    (λ same. cc) (refused host (Fork c.args.parent c.args.child c.args.from c.args.task)
    (cause.OfSpace TooManyTasks) (λ same. cc)
    (fork-crowded host c.args.parent c.args.child c.args.from c.args.task place most
    c.self.invariant.sound room at is_most new few full)))

pub returns : goal.returns
returns c =
    let host : HostState = shown_of c.self.inside in
    let room : host.version < host.blank.bounds.max_commands =
    subst (λ (h : HostState). h.version < h.blank.bounds.max_commands) (sym c.self.view_is)
    c.requires in
    let new : list_any (has_id c.args.child) host.processes ≡ false =
    ap (λ (ps : List Process). list_any (has_id c.args.child) ps) (sym c.deref.ensures.value)
    ∙ sym c.is_there.ensures ∙ c.if-is_there.false in
    let place : ℕ = c.in-Some.place in
    let at : IsPlaceOf host.processes c.args.parent place =
    position-some host.processes c.args.parent place
    (ap (λ (ps : List Process). position (has_id c.args.parent) ps) (sym c.deref-2.ensures.value)
    ∙ sym c.in-Some.ensures) in
    let few : length host.processes < 4096 =
    omega (
      arith,
      c.if-len-ge-MAX_PROCESSES.false,
      c.len.ensures,
      c.deref.ensures.len,
      ap (λ (ps : List Process). length ps) c.deref.ensures.value,
    ) in
    let most : ℕ = c.max_tasks-most.result in
    let is_most : most ≡ host.blank.bounds.max_tasks = c.max_tasks-most.ensures.limit
    ∙ ap (λ (b : Bounds). b.max_tasks) c.self.invariant.limits in
    let d : Process = some-process host.processes place at.inside in
    let full : lacks_place (get_or host.processes place d).space c.args.from c.args.task most
    ≡ false =
    ap (λ (ps : List Process). lacks_place (get_or ps place d).space c.args.from c.args.task
    most) (sym c.deref-3.ensures.value) ∙ sym (c.has_no_place.ensures d)
    ∙ c.if-has_no_place.false in
    subst (λ (h : HostState). IsCause h c.args.parent c.args.child c.args.from c.args.task None)
    c.self.view_is (λ history stands. sym (fork-none host c.args.parent c.args.child c.args.from c.args.task place
    most c.self.invariant.sound room at is_most new few full history stands))
