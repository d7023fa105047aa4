use Rattle.std.proofs.Common.{◌≡◌, ◌<◌, ℕ, ◌+◌, true, false, List, [], ◌∷◌, ◌++◌, length}
use Rattle.std.proofs.Common.{get_or, None, Err, sym, ap}
use Rattle.std.proofs.Common.{◌∙◌, subst, arith}
use Rattle.std.specs.List.{list_any, position}
use Rattle.numa_requests.specs.declared.host_command.HostCommand.TheVariants.{Fork}
use Rattle.numa_host.specs.declared.process.Process.{Process}
use Rattle.numa_requests.specs.declared.host_refusal.HostRefusal.TheVariants as cause
use Rattle.numa_host.specs.Following.{IsChildOf, lacks_place}
use Rattle.numa_host.specs.Inside.{shown_of}
use Rattle.numa_host.specs.Standing.{HostState, IsHostApplied}
use Rattle.numa_host.proofs.Found.{has_id}
use Rattle.numa_host.proofs.Steps.{IsHostStep, lacked, step-kept, step-shown}
use Rattle.numa_host.proofs.Told.{IsPlaceOf, position-some, some-process}
use Rattle.numa_host.proofs.Born.{added-step, next}
use Rattle.numa_host.proofs.Forked.{fork-adds, fork-crowded, fork-none}
use Rattle.numa_host.proofs.Refusing.{fork-absent, fork-exists, fork-many}
use Rattle.numa_host.proofs.Steps.{refused}
use Rattle.numa_space.specs.Limited.{Bounds}
use Rattle.numa_requests.specs.declared.refusal.Refusal.TheVariants.{TooManyTasks}
use Rattle.numa_host.proofs.host.Host.fork.Goals as goal

pub returns-then-is_there : goal.returns-then-is_there
returns-then-is_there c =
    let host : HostState = shown_of c.self.inside in
    let room : host.version < host.blank.bounds.max_commands =
    subst (λ (h : HostState). h.version < h.blank.bounds.max_commands) (sym c.self.view_is)
    c.requires in
    let new : list_any (has_id c.args.child) host.processes ≡ true =
    ap (λ (ps : List Process). list_any (has_id c.args.child) ps) (sym c.deref.ensures.value)
    ∙ sym c.is_there.ensures ∙ c.if-is_there.true in
    subst (λ (h : HostState). IsHostApplied h
    (Fork c.args.parent c.args.child c.args.from c.args.task) (Err cause.ProcessExists) h)
    c.self.view_is (fork-exists host room c.args.parent c.args.child c.args.from c.args.task new)

pub returns-in_default : goal.returns-in_default
returns-in_default c =
    let host : HostState = shown_of c.self.inside in
    let room : host.version < host.blank.bounds.max_commands =
    subst (λ (h : HostState). h.version < h.blank.bounds.max_commands) (sym c.self.view_is)
    c.requires in
    let new : list_any (has_id c.args.child) host.processes ≡ false =
    ap (λ (ps : List Process). list_any (has_id c.args.child) ps) (sym c.deref.ensures.value)
    ∙ sym c.is_there.ensures ∙ c.if-is_there.false in
    let none : position (has_id c.args.parent) host.processes ≡ None =
    ap (λ (ps : List Process). position (has_id c.args.parent) ps) (sym c.deref-2.ensures.value)
    ∙ sym c.in_default.ensures in
    subst (λ (h : HostState). IsHostApplied h
    (Fork c.args.parent c.args.child c.args.from c.args.task) (Err cause.NoSuchProcess) h)
    c.self.view_is (fork-absent host room c.args.parent c.args.child c.args.from c.args.task new
    none)

pub returns-then-len-ge-MAX_PROCESSES : goal.returns-then-len-ge-MAX_PROCESSES
returns-then-len-ge-MAX_PROCESSES c =
    let host : HostState = shown_of c.self.inside in
    let room : host.version < host.blank.bounds.max_commands =
    subst (λ (h : HostState). h.version < h.blank.bounds.max_commands) (sym c.self.view_is)
    c.requires in
    let new : list_any (has_id c.args.child) host.processes ≡ false =
    ap (λ (ps : List Process). list_any (has_id c.args.child) ps) (sym c.deref.ensures.value)
    ∙ sym c.is_there.ensures ∙ c.if-is_there.false in
    let place : ℕ = c.in-Some.place in
    let at : IsPlaceOf host.processes c.args.parent place =
    position-some host.processes c.args.parent place
    (ap (λ (ps : List Process). position (has_id c.args.parent) ps) (sym c.deref-2.ensures.value)
    ∙ sym c.in-Some.ensures) in
    subst (λ (h : HostState). IsHostApplied h
    (Fork c.args.parent c.args.child c.args.from c.args.task) (Err cause.TooManyProcesses) h)
    c.self.view_is (fork-many host room c.args.parent c.args.child c.args.from c.args.task place
    c.self.invariant.sound new at
    (omega (
      arith,
      c.if-len-ge-MAX_PROCESSES.true,
      c.len.ensures,
      c.deref.ensures.len,
      ap (λ (ps : List Process). length ps) c.deref.ensures.value,
    )))

pub returns-then-has_no_place : goal.returns-then-has_no_place
returns-then-has_no_place c =
    let host : HostState = shown_of c.self.inside in
    let room : host.version < host.blank.bounds.max_commands =
    subst (λ (h : HostState). h.version < h.blank.bounds.max_commands) (sym c.self.view_is)
    c.requires in
    let new : list_any (has_id c.args.child) host.processes ≡ false =
    ap (λ (ps : List Process). list_any (has_id c.args.child) ps) (sym c.deref.ensures.value)
    ∙ sym c.is_there.ensures ∙ c.if-is_there.false in
    let place : ℕ = c.in-Some.place in
    let at : IsPlaceOf host.processes c.args.parent place =
    position-some host.processes c.args.parent place
    (ap (λ (ps : List Process). position (has_id c.args.parent) ps) (sym c.deref-2.ensures.value)
    ∙ sym c.in-Some.ensures) in
    let few : length host.processes < 4096 =
    omega (
      arith,
      c.if-len-ge-MAX_PROCESSES.false,
      c.len.ensures,
      c.deref.ensures.len,
      ap (λ (ps : List Process). length ps) c.deref.ensures.value,
    ) in
    let most : ℕ = c.max_tasks-most.result in
    let is_most : most ≡ host.blank.bounds.max_tasks = c.max_tasks-most.ensures.limit
    ∙ ap (λ (b : Bounds). b.max_tasks) c.self.invariant.limits in
    let d : Process = some-process host.processes place at.inside in
    let full : lacks_place (get_or host.processes place d).space c.args.from c.args.task most
    ≡ true =
    ap (λ (ps : List Process). lacks_place (get_or ps place d).space c.args.from c.args.task
    most) (sym c.deref-3.ensures.value) ∙ sym (c.has_no_place.ensures d)
    ∙ c.if-has_no_place.true in
    subst (λ (h : HostState). IsHostApplied h
    (Fork c.args.parent c.args.child c.args.from c.args.task) (Err (cause.OfSpace TooManyTasks))
    h) c.self.view_is
    (refused host (Fork c.args.parent c.args.child c.args.from c.args.task)
    (cause.OfSpace TooManyTasks) (λ same. cc)
    (fork-crowded host c.args.parent c.args.child c.args.from c.args.task place most
    c.self.invariant.sound room at is_most new few full))

pub returns-in_default-reserve : goal.returns-in_default-reserve
returns-in_default-reserve c =
    let host : HostState = shown_of c.self.inside in
    let room : host.version < host.blank.bounds.max_commands =
    subst (λ (h : HostState). h.version < h.blank.bounds.max_commands) (sym c.self.view_is)
    c.requires in
    let new : list_any (has_id c.args.child) host.processes ≡ false =
    ap (λ (ps : List Process). list_any (has_id c.args.child) ps) (sym c.deref.ensures.value)
    ∙ sym c.is_there.ensures ∙ c.if-is_there.false in
    let place : ℕ = c.in-Some.place in
    let at : IsPlaceOf host.processes c.args.parent place =
    position-some host.processes c.args.parent place
    (ap (λ (ps : List Process). position (has_id c.args.parent) ps) (sym c.deref-2.ensures.value)
    ∙ sym c.in-Some.ensures) in
    let few : length host.processes < 4096 =
    omega (
      arith,
      c.if-len-ge-MAX_PROCESSES.false,
      c.len.ensures,
      c.deref.ensures.len,
      ap (λ (ps : List Process). length ps) c.deref.ensures.value,
    ) in
    let most : ℕ = c.max_tasks-most.result in
    let is_most : most ≡ host.blank.bounds.max_tasks = c.max_tasks-most.ensures.limit
    ∙ ap (λ (b : Bounds). b.max_tasks) c.self.invariant.limits in
    let d : Process = some-process host.processes place at.inside in
    let full : lacks_place (get_or host.processes place d).space c.args.from c.args.task most
    ≡ false =
    ap (λ (ps : List Process). lacks_place (get_or ps place d).space c.args.from c.args.task
    most) (sym c.deref-3.ensures.value) ∙ sym (c.has_no_place.ensures d)
    ∙ c.if-has_no_place.false in
    let shown : HostState =
    record {
      blank = host.blank;
      version = host.version;
      groups = host.groups;
      processes =
          c.reserve.new.self.items;
    } in
    let is : host ≡ shown =
    λ i. record {
      blank = host.blank;
      version = host.version;
      groups = host.groups;
      processes =
          sym c.reserve.ensures.items i;
    } in
    let told : IsHostApplied host (Fork c.args.parent c.args.child c.args.from c.args.task)
    (Err cause.NoMemory) host =
    lacked host (Fork c.args.parent c.args.child c.args.from c.args.task) tt
    (fork-none host c.args.parent c.args.child c.args.from c.args.task place most
    c.self.invariant.sound room at is_most new few full) in
    subst (λ (h : HostState). IsHostApplied h
    (Fork c.args.parent c.args.child c.args.from c.args.task) (Err cause.NoMemory) shown)
    c.self.view_is (subst
    (λ (n : HostState). IsHostApplied host
    (Fork c.args.parent c.args.child c.args.from c.args.task) (Err cause.NoMemory) n) is told)

pub returns-in_default-child_of : goal.returns-in_default-child_of
returns-in_default-child_of c =
    let host : HostState = shown_of c.self.inside in
    let room : host.version < host.blank.bounds.max_commands =
    subst (λ (h : HostState). h.version < h.blank.bounds.max_commands) (sym c.self.view_is)
    c.requires in
    let new : list_any (has_id c.args.child) host.processes ≡ false =
    ap (λ (ps : List Process). list_any (has_id c.args.child) ps) (sym c.deref.ensures.value)
    ∙ sym c.is_there.ensures ∙ c.if-is_there.false in
    let place : ℕ = c.in-Some.place in
    let at : IsPlaceOf host.processes c.args.parent place =
    position-some host.processes c.args.parent place
    (ap (λ (ps : List Process). position (has_id c.args.parent) ps) (sym c.deref-2.ensures.value)
    ∙ sym c.in-Some.ensures) in
    let few : length host.processes < 4096 =
    omega (
      arith,
      c.if-len-ge-MAX_PROCESSES.false,
      c.len.ensures,
      c.deref.ensures.len,
      ap (λ (ps : List Process). length ps) c.deref.ensures.value,
    ) in
    let most : ℕ = c.max_tasks-most.result in
    let is_most : most ≡ host.blank.bounds.max_tasks = c.max_tasks-most.ensures.limit
    ∙ ap (λ (b : Bounds). b.max_tasks) c.self.invariant.limits in
    let d : Process = some-process host.processes place at.inside in
    let full : lacks_place (get_or host.processes place d).space c.args.from c.args.task most
    ≡ false =
    ap (λ (ps : List Process). lacks_place (get_or ps place d).space c.args.from c.args.task
    most) (sym c.deref-3.ensures.value) ∙ sym (c.has_no_place.ensures d)
    ∙ c.if-has_no_place.false in
    let shown : HostState =
    record {
      blank = host.blank;
      version = host.version;
      groups = host.groups;
      processes =
          c.reserve.new.self.items;
    } in
    let is : host ≡ shown =
    λ i. record {
      blank = host.blank;
      version = host.version;
      groups = host.groups;
      processes =
          sym c.reserve.ensures.items i;
    } in
    let told : IsHostApplied host (Fork c.args.parent c.args.child c.args.from c.args.task)
    (Err cause.NoMemory) host =
    lacked host (Fork c.args.parent c.args.child c.args.from c.args.task) tt
    (fork-none host c.args.parent c.args.child c.args.from c.args.task place most
    c.self.invariant.sound room at is_most new few full) in
    subst (λ (h : HostState). IsHostApplied h
    (Fork c.args.parent c.args.child c.args.from c.args.task) (Err cause.NoMemory) shown)
    c.self.view_is (subst
    (λ (n : HostState). IsHostApplied host
    (Fork c.args.parent c.args.child c.args.from c.args.task) (Err cause.NoMemory) n) is told)

pub invariant_of-self-2 : goal.invariant_of-self-2
invariant_of-self-2 c =
    let host : HostState = shown_of c.self.inside in
    let room : host.version < host.blank.bounds.max_commands =
    subst (λ (h : HostState). h.version < h.blank.bounds.max_commands) (sym c.self.view_is)
    c.requires in
    let new : list_any (has_id c.args.child) host.processes ≡ false =
    ap (λ (ps : List Process). list_any (has_id c.args.child) ps) (sym c.deref.ensures.value)
    ∙ sym c.is_there.ensures ∙ c.if-is_there.false in
    let place : ℕ = c.in-Some.place in
    let at : IsPlaceOf host.processes c.args.parent place =
    position-some host.processes c.args.parent place
    (ap (λ (ps : List Process). position (has_id c.args.parent) ps) (sym c.deref-2.ensures.value)
    ∙ sym c.in-Some.ensures) in
    let few : length host.processes < 4096 =
    omega (
      arith,
      c.if-len-ge-MAX_PROCESSES.false,
      c.len.ensures,
      c.deref.ensures.len,
      ap (λ (ps : List Process). length ps) c.deref.ensures.value,
    ) in
    let most : ℕ = c.max_tasks-most.result in
    let is_most : most ≡ host.blank.bounds.max_tasks = c.max_tasks-most.ensures.limit
    ∙ ap (λ (b : Bounds). b.max_tasks) c.self.invariant.limits in
    let d : Process = some-process host.processes place at.inside in
    let full : lacks_place (get_or host.processes place d).space c.args.from c.args.task most
    ≡ false =
    ap (λ (ps : List Process). lacks_place (get_or ps place d).space c.args.from c.args.task
    most) (sym c.deref-3.ensures.value) ∙ sym (c.has_no_place.ensures d)
    ∙ c.if-has_no_place.false in
    let made : Process = c.in-Ok-child_of.made in
    let born : IsChildOf (get_or host.processes place d) c.args.child c.args.from c.args.task
    made =
    subst (λ (ps : List Process). IsChildOf (get_or ps place d) c.args.child c.args.from
    c.args.task made) (c.deref-4.ensures.value ∙ c.reserve.ensures.items)
    (c.in-Ok-child_of.ensures d) in
    let after : HostState = next host (Fork c.args.parent c.args.child c.args.from c.args.task)
    made in
    let step : IsHostStep host (Fork c.args.parent c.args.child c.args.from c.args.task) after =
    added-step host (Fork c.args.parent c.args.child c.args.from c.args.task) made
    (fork-adds host c.args.parent c.args.child c.args.from c.args.task place most
    c.self.invariant.sound room at is_most new few made full born) c.self.invariant.sound room in
    let shown : HostState =
    record {
      blank = host.blank;
      version = host.version + 1;
      groups = host.groups;
      processes =
          c.push_reserved.new.self.items;
    } in
    let items : c.push_reserved.new.self.items ≡ host.processes ++ made ∷ [] =
    c.push_reserved.ensures.items
    ∙ ap (λ (ps : List Process). ps ++ made ∷ []) c.reserve.ensures.items in
    let is : after ≡ shown =
    λ i. record {
      blank = host.blank;
      version = host.version + 1;
      groups =
          host.groups;
      processes = sym items i;
    } in
    step-kept host _ (Fork c.args.parent c.args.child c.args.from c.args.task) after step
    c.self.invariant.history is c.self.invariant.limits

pub returns : goal.returns
returns c =
    let host : HostState = shown_of c.self.inside in
    let room : host.version < host.blank.bounds.max_commands =
    subst (λ (h : HostState). h.version < h.blank.bounds.max_commands) (sym c.self.view_is)
    c.requires in
    let new : list_any (has_id c.args.child) host.processes ≡ false =
    ap (λ (ps : List Process). list_any (has_id c.args.child) ps) (sym c.deref.ensures.value)
    ∙ sym c.is_there.ensures ∙ c.if-is_there.false in
    let place : ℕ = c.in-Some.place in
    let at : IsPlaceOf host.processes c.args.parent place =
    position-some host.processes c.args.parent place
    (ap (λ (ps : List Process). position (has_id c.args.parent) ps) (sym c.deref-2.ensures.value)
    ∙ sym c.in-Some.ensures) in
    let few : length host.processes < 4096 =
    omega (
      arith,
      c.if-len-ge-MAX_PROCESSES.false,
      c.len.ensures,
      c.deref.ensures.len,
      ap (λ (ps : List Process). length ps) c.deref.ensures.value,
    ) in
    let most : ℕ = c.max_tasks-most.result in
    let is_most : most ≡ host.blank.bounds.max_tasks = c.max_tasks-most.ensures.limit
    ∙ ap (λ (b : Bounds). b.max_tasks) c.self.invariant.limits in
    let d : Process = some-process host.processes place at.inside in
    let full : lacks_place (get_or host.processes place d).space c.args.from c.args.task most
    ≡ false =
    ap (λ (ps : List Process). lacks_place (get_or ps place d).space c.args.from c.args.task
    most) (sym c.deref-3.ensures.value) ∙ sym (c.has_no_place.ensures d)
    ∙ c.if-has_no_place.false in
    let made : Process = c.in-Ok-child_of.made in
    let born : IsChildOf (get_or host.processes place d) c.args.child c.args.from c.args.task
    made =
    subst (λ (ps : List Process). IsChildOf (get_or ps place d) c.args.child c.args.from
    c.args.task made) (c.deref-4.ensures.value ∙ c.reserve.ensures.items)
    (c.in-Ok-child_of.ensures d) in
    let after : HostState = next host (Fork c.args.parent c.args.child c.args.from c.args.task)
    made in
    let step : IsHostStep host (Fork c.args.parent c.args.child c.args.from c.args.task) after =
    added-step host (Fork c.args.parent c.args.child c.args.from c.args.task) made
    (fork-adds host c.args.parent c.args.child c.args.from c.args.task place most
    c.self.invariant.sound room at is_most new few made full born) c.self.invariant.sound room in
    let shown : HostState =
    record {
      blank = host.blank;
      version = host.version + 1;
      groups = host.groups;
      processes =
          c.push_reserved.new.self.items;
    } in
    let items : c.push_reserved.new.self.items ≡ host.processes ++ made ∷ [] =
    c.push_reserved.ensures.items
    ∙ ap (λ (ps : List Process). ps ++ made ∷ []) c.reserve.ensures.items in
    let is : after ≡ shown =
    λ i. record {
      blank = host.blank;
      version = host.version + 1;
      groups =
          host.groups;
      processes = sym items i;
    } in
    step-shown host shown c.args.self.now after
    (Fork c.args.parent c.args.child c.args.from c.args.task) step c.self.view_is is
