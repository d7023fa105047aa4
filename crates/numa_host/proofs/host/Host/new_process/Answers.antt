use Rattle.std.proofs.Common.{◌≡◌, ◌<◌, ◌+◌, true, false, List, [], ◌∷◌, ◌++◌, length}
use Rattle.std.proofs.Common.{Err, sym, ap}
use Rattle.std.proofs.Common.{◌∙◌, subst, arith}
use Rattle.std.specs.List.{list_any}
use Rattle.numa_requests.specs.declared.host_command.HostCommand.TheVariants.{NewProcess}
use Rattle.numa_host.specs.declared.group.ControlGroup.{ControlGroup}
use Rattle.numa_host.specs.declared.process.Process.{Process}
use Rattle.numa_requests.specs.declared.host_refusal.HostRefusal.TheVariants as cause
use Rattle.numa_host.specs.Following.{IsBorn}
use Rattle.numa_host.specs.Groups.{effective_mems, is_group}
use Rattle.numa_host.specs.Inside.{shown_of}
use Rattle.numa_host.specs.Standing.{HostState, IsHostApplied}
use Rattle.numa_host.proofs.Found.{has_id}
use Rattle.numa_host.proofs.Steps.{IsHostStep, lacked, step-kept, step-shown}
use Rattle.numa_host.proofs.Born.{added-step, blank-room, new_process-adds, new_process-none}
use Rattle.numa_host.proofs.Born.{next}
use Rattle.numa_host.proofs.Refusing.{new_process-exists, new_process-nowhere, new_process-many}
use Rattle.numa_host.proofs.host.Host.new_process.Goals as goal

pub returns-then-is_there : goal.returns-then-is_there
returns-then-is_there c =
    let host : HostState = shown_of c.self.inside in
    let room : host.version < host.blank.bounds.max_commands =
    subst (λ (h : HostState). h.version < h.blank.bounds.max_commands) (sym c.self.view_is)
    c.requires in
    let new : list_any (has_id c.args.process) host.processes ≡ true =
    ap (λ (ps : List Process). list_any (has_id c.args.process) ps) (sym c.deref.ensures.value)
    ∙ sym c.is_there.ensures ∙ c.if-is_there.true in
    subst (λ (h : HostState). IsHostApplied h (NewProcess c.args.process c.args.group)
    (Err cause.ProcessExists) h) c.self.view_is
    (new_process-exists host room c.args.process c.args.group new)

pub returns-then-not-is_group : goal.returns-then-not-is_group
returns-then-not-is_group c =
    let host : HostState = shown_of c.self.inside in
    let room : host.version < host.blank.bounds.max_commands =
    subst (λ (h : HostState). h.version < h.blank.bounds.max_commands) (sym c.self.view_is)
    c.requires in
    let new : list_any (has_id c.args.process) host.processes ≡ false =
    ap (λ (ps : List Process). list_any (has_id c.args.process) ps) (sym c.deref.ensures.value)
    ∙ sym c.is_there.ensures ∙ c.if-is_there.false in
    let known : is_group host.groups c.args.group ≡ false = ap (λ gs. is_group gs c.args.group)
    (sym c.deref-2.ensures.value) ∙ sym c.is_group.ensures ∙ c.if-not-is_group.true in
    subst (λ (h : HostState). IsHostApplied h (NewProcess c.args.process c.args.group)
    (Err cause.NoSuchGroup) h) c.self.view_is
    (new_process-nowhere host room c.args.process c.args.group new known)

pub returns-then-len-ge-MAX_PROCESSES : goal.returns-then-len-ge-MAX_PROCESSES
returns-then-len-ge-MAX_PROCESSES c =
    let host : HostState = shown_of c.self.inside in
    let room : host.version < host.blank.bounds.max_commands =
    subst (λ (h : HostState). h.version < h.blank.bounds.max_commands) (sym c.self.view_is)
    c.requires in
    let new : list_any (has_id c.args.process) host.processes ≡ false =
    ap (λ (ps : List Process). list_any (has_id c.args.process) ps) (sym c.deref.ensures.value)
    ∙ sym c.is_there.ensures ∙ c.if-is_there.false in
    let known : is_group host.groups c.args.group ≡ true = ap (λ gs. is_group gs c.args.group)
    (sym c.deref-2.ensures.value) ∙ sym c.is_group.ensures ∙ c.if-not-is_group.false in
    subst (λ (h : HostState). IsHostApplied h (NewProcess c.args.process c.args.group)
    (Err cause.TooManyProcesses) h) c.self.view_is
    (new_process-many host room c.args.process c.args.group new known
    (omega (
      arith,
      c.if-len-ge-MAX_PROCESSES.true,
      c.len.ensures,
      c.deref.ensures.len,
      ap (λ (ps : List Process). length ps) c.deref.ensures.value,
    )))

pub returns-in_default : goal.returns-in_default
returns-in_default c =
    let host : HostState = shown_of c.self.inside in
    let room : host.version < host.blank.bounds.max_commands =
    subst (λ (h : HostState). h.version < h.blank.bounds.max_commands) (sym c.self.view_is)
    c.requires in
    let new : list_any (has_id c.args.process) host.processes ≡ false =
    ap (λ (ps : List Process). list_any (has_id c.args.process) ps) (sym c.deref.ensures.value)
    ∙ sym c.is_there.ensures ∙ c.if-is_there.false in
    let known : is_group host.groups c.args.group ≡ true = ap (λ gs. is_group gs c.args.group)
    (sym c.deref-2.ensures.value) ∙ sym c.is_group.ensures ∙ c.if-not-is_group.false in
    let few : length host.processes < 4096 =
    omega (
      arith,
      c.if-len-ge-MAX_PROCESSES.false,
      c.len.ensures,
      c.deref.ensures.len,
      ap (λ (ps : List Process). length ps) c.deref.ensures.value,
    ) in
    let shown : HostState =
    record {
      blank = host.blank;
      version = host.version;
      groups = host.groups;
      processes =
          c.reserve.new.self.items;
    } in
    let is : host ≡ shown =
    λ i. record {
      blank = host.blank;
      version = host.version;
      groups = host.groups;
      processes =
          sym c.reserve.ensures.items i;
    } in
    let told : IsHostApplied host (NewProcess c.args.process c.args.group) (Err cause.NoMemory)
    host = lacked host (NewProcess c.args.process c.args.group) tt
    (new_process-none host c.args.process c.args.group room new known few) in
    subst (λ (h : HostState). IsHostApplied h (NewProcess c.args.process c.args.group)
    (Err cause.NoMemory) shown) c.self.view_is
    (subst (λ (n : HostState). IsHostApplied host (NewProcess c.args.process c.args.group)
    (Err cause.NoMemory) n) is told)

pub returns-in_default-born : goal.returns-in_default-born
returns-in_default-born c =
    let host : HostState = shown_of c.self.inside in
    let room : host.version < host.blank.bounds.max_commands =
    subst (λ (h : HostState). h.version < h.blank.bounds.max_commands) (sym c.self.view_is)
    c.requires in
    let new : list_any (has_id c.args.process) host.processes ≡ false =
    ap (λ (ps : List Process). list_any (has_id c.args.process) ps) (sym c.deref.ensures.value)
    ∙ sym c.is_there.ensures ∙ c.if-is_there.false in
    let known : is_group host.groups c.args.group ≡ true = ap (λ gs. is_group gs c.args.group)
    (sym c.deref-2.ensures.value) ∙ sym c.is_group.ensures ∙ c.if-not-is_group.false in
    let few : length host.processes < 4096 =
    omega (
      arith,
      c.if-len-ge-MAX_PROCESSES.false,
      c.len.ensures,
      c.deref.ensures.len,
      ap (λ (ps : List Process). length ps) c.deref.ensures.value,
    ) in
    let shown : HostState =
    record {
      blank = host.blank;
      version = host.version;
      groups = host.groups;
      processes =
          c.reserve.new.self.items;
    } in
    let is : host ≡ shown =
    λ i. record {
      blank = host.blank;
      version = host.version;
      groups = host.groups;
      processes =
          sym c.reserve.ensures.items i;
    } in
    let told : IsHostApplied host (NewProcess c.args.process c.args.group) (Err cause.NoMemory)
    host = lacked host (NewProcess c.args.process c.args.group) tt
    (new_process-none host c.args.process c.args.group room new known few) in
    subst (λ (h : HostState). IsHostApplied h (NewProcess c.args.process c.args.group)
    (Err cause.NoMemory) shown) c.self.view_is
    (subst (λ (n : HostState). IsHostApplied host (NewProcess c.args.process c.args.group)
    (Err cause.NoMemory) n) is told)

pub born-requires : goal.born-requires
born-requires c =
    let host : HostState = shown_of c.self.inside in
    let room : host.version < host.blank.bounds.max_commands =
    subst (λ (h : HostState). h.version < h.blank.bounds.max_commands) (sym c.self.view_is)
    c.requires in
    blank-room host c.self.invariant.history.history c.self.invariant.history.stands room

pub invariant_of-self-2 : goal.invariant_of-self-2
invariant_of-self-2 c =
    let host : HostState = shown_of c.self.inside in
    let room : host.version < host.blank.bounds.max_commands =
    subst (λ (h : HostState). h.version < h.blank.bounds.max_commands) (sym c.self.view_is)
    c.requires in
    let new : list_any (has_id c.args.process) host.processes ≡ false =
    ap (λ (ps : List Process). list_any (has_id c.args.process) ps) (sym c.deref.ensures.value)
    ∙ sym c.is_there.ensures ∙ c.if-is_there.false in
    let known : is_group host.groups c.args.group ≡ true = ap (λ gs. is_group gs c.args.group)
    (sym c.deref-2.ensures.value) ∙ sym c.is_group.ensures ∙ c.if-not-is_group.false in
    let few : length host.processes < 4096 =
    omega (
      arith,
      c.if-len-ge-MAX_PROCESSES.false,
      c.len.ensures,
      c.deref.ensures.len,
      ap (λ (ps : List Process). length ps) c.deref.ensures.value,
    ) in
    let made : Process = c.in-Ok-born.made in
    let born : IsBorn host.blank c.args.process c.args.group
    (effective_mems host.blank.machine.memory host.groups c.args.group) made =
    subst (λ (gs : List ControlGroup). IsBorn host.blank c.args.process c.args.group
    (effective_mems host.blank.machine.memory gs c.args.group) made) c.deref-3.ensures.value
    c.in-Ok-born.ensures in
    let after : HostState = next host (NewProcess c.args.process c.args.group) made in
    let step : IsHostStep host (NewProcess c.args.process c.args.group) after =
    added-step host (NewProcess c.args.process c.args.group) made
    (new_process-adds host c.args.process c.args.group made c.self.invariant.sound room new known
    few born) c.self.invariant.sound room in
    let shown : HostState =
    record {
      blank = host.blank;
      version = host.version + 1;
      groups = host.groups;
      processes =
          c.push_reserved.new.self.items;
    } in
    let items : c.push_reserved.new.self.items ≡ host.processes ++ made ∷ [] =
    c.push_reserved.ensures.items
    ∙ ap (λ (ps : List Process). ps ++ made ∷ []) c.reserve.ensures.items in
    let is : after ≡ shown =
    λ i. record {
      blank = host.blank;
      version = host.version + 1;
      groups =
          host.groups;
      processes = sym items i;
    } in
    step-kept host _ (NewProcess c.args.process c.args.group) after step c.self.invariant.history
    is c.self.invariant.limits

pub returns : goal.returns
returns c =
    let host : HostState = shown_of c.self.inside in
    let room : host.version < host.blank.bounds.max_commands =
    subst (λ (h : HostState). h.version < h.blank.bounds.max_commands) (sym c.self.view_is)
    c.requires in
    let new : list_any (has_id c.args.process) host.processes ≡ false =
    ap (λ (ps : List Process). list_any (has_id c.args.process) ps) (sym c.deref.ensures.value)
    ∙ sym c.is_there.ensures ∙ c.if-is_there.false in
    let known : is_group host.groups c.args.group ≡ true = ap (λ gs. is_group gs c.args.group)
    (sym c.deref-2.ensures.value) ∙ sym c.is_group.ensures ∙ c.if-not-is_group.false in
    let few : length host.processes < 4096 =
    omega (
      arith,
      c.if-len-ge-MAX_PROCESSES.false,
      c.len.ensures,
      c.deref.ensures.len,
      ap (λ (ps : List Process). length ps) c.deref.ensures.value,
    ) in
    let made : Process = c.in-Ok-born.made in
    let born : IsBorn host.blank c.args.process c.args.group
    (effective_mems host.blank.machine.memory host.groups c.args.group) made =
    subst (λ (gs : List ControlGroup). IsBorn host.blank c.args.process c.args.group
    (effective_mems host.blank.machine.memory gs c.args.group) made) c.deref-3.ensures.value
    c.in-Ok-born.ensures in
    let after : HostState = next host (NewProcess c.args.process c.args.group) made in
    let step : IsHostStep host (NewProcess c.args.process c.args.group) after =
    added-step host (NewProcess c.args.process c.args.group) made
    (new_process-adds host c.args.process c.args.group made c.self.invariant.sound room new known
    few born) c.self.invariant.sound room in
    let shown : HostState =
    record {
      blank = host.blank;
      version = host.version + 1;
      groups = host.groups;
      processes =
          c.push_reserved.new.self.items;
    } in
    let items : c.push_reserved.new.self.items ≡ host.processes ++ made ∷ [] =
    c.push_reserved.ensures.items
    ∙ ap (λ (ps : List Process). ps ++ made ∷ []) c.reserve.ensures.items in
    let is : after ≡ shown =
    λ i. record {
      blank = host.blank;
      version = host.version + 1;
      groups =
          host.groups;
      processes = sym items i;
    } in
    step-shown host shown c.args.self.now after (NewProcess c.args.process c.args.group) step
    c.self.view_is is
