use Rattle.std.proofs.Common.{◌≡◌, ◌<◌, ◌+◌, true, false, List, length}
use Rattle.std.proofs.Common.{Err, sym, ap}
use Rattle.std.proofs.Common.{◌∙◌, subst, arith}
use Rattle.numa_requests.specs.declared.host_command.HostCommand.TheVariants.{NewGroup}
use Rattle.numa_host.specs.declared.group.ControlGroup.{ControlGroup}
use Rattle.numa_requests.specs.declared.host_refusal.HostRefusal.TheVariants as cause
use Rattle.numa_host.specs.Groups.{is_group}
use Rattle.numa_host.specs.Inside.{shown_of}
use Rattle.numa_host.specs.Standing.{HostState, IsHostApplied}
use Rattle.numa_host.proofs.Steps.{IsHostStep, lacked, step-kept, step-shown}
use Rattle.numa_host.proofs.NewGroups.{new_group-none, new_group-step, next}
use Rattle.numa_host.proofs.Refusing.{new_group-exists, new_group-orphan, new_group-many}
use Rattle.numa_host.proofs.host.Host.new_group.Goals as goal

pub returns-then-is_group : goal.returns-then-is_group
returns-then-is_group c =
    let host : HostState = shown_of c.self.inside in
    let room : host.version < host.blank.bounds.max_commands =
    subst (λ (h : HostState). h.version < h.blank.bounds.max_commands) (sym c.self.view_is)
    c.requires in
    let name : is_group host.groups c.args.name ≡ true =
    ap (λ gs. is_group gs c.args.name) (sym c.deref.ensures.value) ∙ sym c.is_group.ensures
    ∙ c.if-is_group.true in
    subst (λ (h : HostState). IsHostApplied h (NewGroup c.args.name c.args.parent)
    (Err cause.GroupExists) h) c.self.view_is
    (new_group-exists host room c.args.name c.args.parent name)

pub returns-then-not-is_group : goal.returns-then-not-is_group
returns-then-not-is_group c =
    let host : HostState = shown_of c.self.inside in
    let room : host.version < host.blank.bounds.max_commands =
    subst (λ (h : HostState). h.version < h.blank.bounds.max_commands) (sym c.self.view_is)
    c.requires in
    let name : is_group host.groups c.args.name ≡ false =
    ap (λ gs. is_group gs c.args.name) (sym c.deref.ensures.value) ∙ sym c.is_group.ensures
    ∙ c.if-is_group.false in
    let parent : is_group host.groups c.args.parent ≡ false =
    ap (λ gs. is_group gs c.args.parent) (sym c.deref-2.ensures.value) ∙ sym c.is_group-2.ensures
    ∙ c.if-not-is_group.true in
    subst (λ (h : HostState). IsHostApplied h (NewGroup c.args.name c.args.parent)
    (Err cause.NoSuchGroup) h) c.self.view_is
    (new_group-orphan host room c.args.name c.args.parent name parent)

pub returns-then-len-ge-MAX_GROUPS : goal.returns-then-len-ge-MAX_GROUPS
returns-then-len-ge-MAX_GROUPS c =
    let host : HostState = shown_of c.self.inside in
    let room : host.version < host.blank.bounds.max_commands =
    subst (λ (h : HostState). h.version < h.blank.bounds.max_commands) (sym c.self.view_is)
    c.requires in
    let name : is_group host.groups c.args.name ≡ false =
    ap (λ gs. is_group gs c.args.name) (sym c.deref.ensures.value) ∙ sym c.is_group.ensures
    ∙ c.if-is_group.false in
    let parent : is_group host.groups c.args.parent ≡ true = ap (λ gs. is_group gs c.args.parent)
    (sym c.deref-2.ensures.value) ∙ sym c.is_group-2.ensures ∙ c.if-not-is_group.false in
    subst (λ (h : HostState). IsHostApplied h (NewGroup c.args.name c.args.parent)
    (Err cause.TooManyGroups) h) c.self.view_is
    (new_group-many host room c.args.name c.args.parent name parent
    (omega (
      arith,
      c.if-len-ge-MAX_GROUPS.true,
      c.len.ensures,
      c.deref.ensures.len,
      ap (λ (gs : List ControlGroup). length gs) c.deref.ensures.value,
    )))

pub returns-in_default : goal.returns-in_default
returns-in_default c =
    let host : HostState = shown_of c.self.inside in
    let room : host.version < host.blank.bounds.max_commands =
    subst (λ (h : HostState). h.version < h.blank.bounds.max_commands) (sym c.self.view_is)
    c.requires in
    let name : is_group host.groups c.args.name ≡ false =
    ap (λ gs. is_group gs c.args.name) (sym c.deref.ensures.value) ∙ sym c.is_group.ensures
    ∙ c.if-is_group.false in
    let parent : is_group host.groups c.args.parent ≡ true = ap (λ gs. is_group gs c.args.parent)
    (sym c.deref-2.ensures.value) ∙ sym c.is_group-2.ensures ∙ c.if-not-is_group.false in
    let few : length host.groups < 1024 =
    omega (
      arith,
      c.if-len-ge-MAX_GROUPS.false,
      c.len.ensures,
      c.deref.ensures.len,
      ap (λ (gs : List ControlGroup). length gs) c.deref.ensures.value,
    ) in
    let shown : HostState =
    record {
      blank = host.blank;
      version = host.version;
      groups =
          c.insert.new.self.items;
      processes = host.processes;
    } in
    let is : host ≡ shown =
    λ i. record {
      blank = host.blank;
      version = host.version;
      groups =
          sym c.in_default.ensures.items i;
      processes = host.processes;
    } in
    let told : IsHostApplied host (NewGroup c.args.name c.args.parent) (Err cause.NoMemory)
    host = lacked host (NewGroup c.args.name c.args.parent) tt
    (new_group-none host c.args.name c.args.parent room name parent few) in
    subst (λ (h : HostState). IsHostApplied h (NewGroup c.args.name c.args.parent)
    (Err cause.NoMemory) shown) c.self.view_is
    (subst (λ (n : HostState). IsHostApplied host (NewGroup c.args.name c.args.parent)
    (Err cause.NoMemory) n) is told)

pub invariant_of-self-2 : goal.invariant_of-self-2
invariant_of-self-2 c =
    let host : HostState = shown_of c.self.inside in
    let room : host.version < host.blank.bounds.max_commands =
    subst (λ (h : HostState). h.version < h.blank.bounds.max_commands) (sym c.self.view_is)
    c.requires in
    let name : is_group host.groups c.args.name ≡ false =
    ap (λ gs. is_group gs c.args.name) (sym c.deref.ensures.value) ∙ sym c.is_group.ensures
    ∙ c.if-is_group.false in
    let parent : is_group host.groups c.args.parent ≡ true = ap (λ gs. is_group gs c.args.parent)
    (sym c.deref-2.ensures.value) ∙ sym c.is_group-2.ensures ∙ c.if-not-is_group.false in
    let few : length host.groups < 1024 =
    omega (
      arith,
      c.if-len-ge-MAX_GROUPS.false,
      c.len.ensures,
      c.deref.ensures.len,
      ap (λ (gs : List ControlGroup). length gs) c.deref.ensures.value,
    ) in
    let after : HostState = next host c.args.name c.args.parent in
    let step : IsHostStep host (NewGroup c.args.name c.args.parent) after =
    new_group-step host c.args.name c.args.parent c.self.invariant.sound room name parent few in
    let shown : HostState =
    record {
      blank = host.blank;
      version = host.version + 1;
      groups =
          c.insert.new.self.items;
      processes = host.processes;
    } in
    let is : after ≡ shown =
    λ i. record {
      blank = host.blank;
      version = host.version + 1;
      groups =
          sym c.in-Ok.ensures.items i;
      processes = host.processes;
    } in
    step-kept host _ (NewGroup c.args.name c.args.parent) after step c.self.invariant.history is
    c.self.invariant.limits

pub returns : goal.returns
returns c =
    let host : HostState = shown_of c.self.inside in
    let room : host.version < host.blank.bounds.max_commands =
    subst (λ (h : HostState). h.version < h.blank.bounds.max_commands) (sym c.self.view_is)
    c.requires in
    let name : is_group host.groups c.args.name ≡ false =
    ap (λ gs. is_group gs c.args.name) (sym c.deref.ensures.value) ∙ sym c.is_group.ensures
    ∙ c.if-is_group.false in
    let parent : is_group host.groups c.args.parent ≡ true = ap (λ gs. is_group gs c.args.parent)
    (sym c.deref-2.ensures.value) ∙ sym c.is_group-2.ensures ∙ c.if-not-is_group.false in
    let few : length host.groups < 1024 =
    omega (
      arith,
      c.if-len-ge-MAX_GROUPS.false,
      c.len.ensures,
      c.deref.ensures.len,
      ap (λ (gs : List ControlGroup). length gs) c.deref.ensures.value,
    ) in
    let after : HostState = next host c.args.name c.args.parent in
    let step : IsHostStep host (NewGroup c.args.name c.args.parent) after =
    new_group-step host c.args.name c.args.parent c.self.invariant.sound room name parent few in
    let shown : HostState =
    record {
      blank = host.blank;
      version = host.version + 1;
      groups =
          c.insert.new.self.items;
      processes = host.processes;
    } in
    let is : after ≡ shown =
    λ i. record {
      blank = host.blank;
      version = host.version + 1;
      groups =
          sym c.in-Ok.ensures.items i;
      processes = host.processes;
    } in
    step-shown host shown c.args.self.now after (NewGroup c.args.name c.args.parent) step
    c.self.view_is is
