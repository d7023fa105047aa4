use Rattle.std.proofs.Common.{is_some, ◌&&◌, ◌≡◌, ◌<◌, ℕ, ◌+◌, true, false, not, List, ◌∷◌, map}
use Rattle.std.proofs.Common.{length, take, drop, ◌++◌, All, Ok, Err, sym, ap, ◌∙◌, subst, arith}
use Rattle.std.proofs.lemmas.Bool.{ne_eqb}
use Rattle.std.proofs.Math.Seq.{take-append_seam}
use Rattle.std.proofs.lemmas.List.{length-map}
use Rattle.std.proofs.Math.Facts.{Fits-of_lt}
use Rattle.std.specs.List.{list_any}
use Rattle.std.specs.Option.{option_map_or}
use Rattle.std.specs.Prelude.{nat_le}
use Rattle.numa_mask.specs.NodeSet.{members}
use Rattle.numa_machine.specs.Machine.{Hardware}
use Rattle.numa_requests.specs.declared.host_command.HostCommand.TheVariants.{SetGroupMems}
use Rattle.numa_host.specs.declared.group.ControlGroup.{ControlGroup}
use Rattle.numa_host.specs.declared.process.Process.{Process}
use Rattle.numa_requests.specs.declared.host_refusal.HostRefusal.TheVariants.{Populated}
use Rattle.numa_space.specs.Limited.{Bounds}
use Rattle.numa_host.specs.Groups.{effective_mems, has_own_mems, is_group, is_within, with_mems}
use Rattle.numa_host.specs.Processes.{when_moved}
use Rattle.numa_host.specs.Following.{AreFollowed, HasMore}
use Rattle.numa_host.specs.Inside.{shown_of}
use Rattle.numa_host.specs.Standing.{HostState, IsHostSound, HasHostHistory, IsHostApplied}
use Rattle.numa_host.proofs.Grouped.{became, next, group_mems-none, group_mems-populated}
use Rattle.numa_host.proofs.Grouped.{populated-refused, room-held, group_mems-stands}
use Rattle.numa_host.proofs.Grouped.{group_mems-sound, group_mems-applied}
use Rattle.numa_host.proofs.host.Host.set_group_mems.Goals as goal

whole_vec : {X : Type 0} (n : ℕ) (new old : List X) → n ≡ length new
    → take n (new ++ drop (length new) old) ≡ new
whole_vec n new old e = ap (λ k. take k (new ++ drop (length new) old)) e
    ∙ take-append_seam new (drop (length new) old)

pub allow_all-requires-clause-room : goal.allow_all-requires-clause-room
allow_all-requires-clause-room c =
    let host : HostState = shown_of c.self.inside in
    let room : host.version < host.blank.bounds.max_commands =
    subst (λ (h : HostState). h.version < h.blank.bounds.max_commands) (sym c.self.view_is)
    c.requires in
    let memory : c.memory-memory.result ≡ host.blank.machine.memory =
    c.memory-memory.ensures.memory ∙ ap (λ (m : Hardware). m.memory) c.machine-2.ensures in
    let P : List Process → Type 0 =
    λ ps. All (λ (p : Process). (p.space.version < p.space.bounds.max_commands)
    × (p.space.machine.memory ≡ c.memory-memory.result)) ps in
    subst P (sym c.deref_mut-2.ensures.value)
    (room-held host c.self.invariant.history.history c.memory-memory.result
    c.self.invariant.history.stands room memory)

pub overflow_add-self : goal.overflow_add-self
overflow_add-self c =
    let room : c.self.inside.version < c.self.inside.blank.bounds.max_commands =
    subst (λ (h : HostState). h.version < h.blank.bounds.max_commands) (sym c.self.view_is)
    c.requires in
    Fits-of_lt (omega (
      arith,
      room,
      c.max_commands.type_inv,
      c.max_commands.ensures.limit,
      ap (λ (b : Bounds). b.max_commands) c.self.invariant.limits,
    ))

pub invariant_of-self : goal.invariant_of-self
invariant_of-self c =
    let host : HostState = shown_of c.self.inside in
    let mems = c.args.mems.now in
    let news : List Process = c.allow_all.new.processes in
    let room : host.version < host.blank.bounds.max_commands =
    subst (λ (h : HostState). h.version < h.blank.bounds.max_commands) (sym c.self.view_is)
    c.requires in
    let memory : c.memory-memory.result ≡ host.blank.machine.memory =
    c.memory-memory.ensures.memory ∙ ap (λ (m : Hardware). m.memory) c.machine-2.ensures in
    let groups : c.set_mems.new.groups ≡ map (with_mems c.args.name mems) host.groups =
    c.set_mems.ensures ∙ ap (λ gs. map (with_mems c.args.name mems) gs)
    c.deref_mut.ensures.value in
    let seam_groups = whole_vec c.self.inside.groups.len c.set_mems.new.groups
    c.self.inside.groups.items
    (sym (ap length (c.set_mems.ensures)
    ∙ length-map c.deref_mut.result.now (with_mems c.args.name mems)
    ∙ c.deref_mut.ensures.len)) in
    let lent : c.deref-4.result.now ≡ map (with_mems c.args.name mems) host.groups =
    c.deref-4.ensures.value ∙ seam_groups ∙ groups in
    let F : ℕ → List ControlGroup → List Process
    → Type 0 = λ m gs olds. AreFollowed
    (λ (p q : Process). HasMore (when_moved p.space.allowed (effective_mems m gs p.group))
    (effective_mems m gs p.group) p q) olds news in
    let followed : AreFollowed (became host c.args.name mems news c.self.invariant.sound)
    host.processes news =
    subst (λ olds. F host.blank.machine.memory (map (with_mems c.args.name mems) host.groups)
    olds) c.deref_mut-2.ensures.value
    (subst (λ gs. F host.blank.machine.memory gs c.deref_mut-2.result.now) lent
    (subst (λ m. F m c.deref-4.result.now c.deref_mut-2.result.now) memory
    c.allow_all.ensures)) in
    let there : is_group host.groups c.args.name ≡ true =
    ap (λ gs. is_group gs c.args.name) (sym c.deref.ensures.value) ∙ sym c.is_group.ensures
    ∙ c.if-not-is_group.false in
    let known : option_map_or
    (λ mask. list_any (λ node. nat_le host.blank.machine.nodes node) (members mask)) mems false
    ≡ false =
    ap (λ n. option_map_or (λ mask. list_any (λ node. nat_le n node) (members mask)) mems false)
    (sym (c.nodes.ensures.nodes ∙ ap (λ (m : Hardware). m.nodes) c.machine.ensures))
    ∙ sym c.names_beyond.ensures ∙ c.if-names_beyond.false in
    let free : (not (is_some mems)
    && (has_own_mems host.groups c.args.name && list_any
    (λ (p : Process). is_within host.groups p.group c.args.name) host.processes)) ≡ false =
    ap (λ gs. not (is_some mems)
    && (has_own_mems gs c.args.name && list_any
    (λ (p : Process). is_within gs p.group c.args.name) host.processes))
    (sym c.deref-3.ensures.value)
    ∙ ap (λ (ps : List Process). not (is_some mems)
    && (has_own_mems c.deref-3.result.now c.args.name && list_any
    (λ (p : Process). is_within c.deref-3.result.now p.group c.args.name) ps))
    (sym c.deref-2.ensures.value)
    ∙ sym c.unsets_populated.ensures ∙ c.if-unsets_populated.false in
    let had = c.self.invariant.history in
    let seam_processes = whole_vec c.self.inside.processes.len news c.self.inside.processes.items
    (sym (c.allow_all.ensures.count ∙ c.deref_mut-2.ensures.len)) in
    let shown : HostState = record {
      blank = host.blank;
      version = host.version + 1;
      groups = take c.self.inside.groups.len
          (c.set_mems.new.groups ++ drop (length c.set_mems.new.groups)
          c.self.inside.groups.items);
      processes = take c.self.inside.processes.len
          (news ++ drop (length news) c.self.inside.processes.items);
    } in
    let is : next host c.args.name mems news c.self.invariant.sound ≡ shown =
    λ i. record {
      blank = host.blank;
      version = host.version + 1;
      groups =
          sym (seam_groups ∙ groups) i;
      processes = sym seam_processes i;
    } in
    record {
      sound = subst IsHostSound is
          (group_mems-sound host c.args.name mems news c.self.invariant.sound followed room);
      history = subst HasHostHistory is (record {
        history = SetGroupMems c.args.name mems ∷ had.history;
        accepted = (
          group_mems-none host c.args.name mems had.history had.stands room there
              (ne_eqb c.args.name 0 c.if-name-eq0.false) known free,
          had.accepted,
        );
        stands = group_mems-stands host c.args.name mems news c.self.invariant.sound followed
            had.history had.stands;
      });
      limits = c.self.invariant.limits;
    }

pub returns : goal.returns
returns c =
    let host : HostState = shown_of c.self.inside in
    let mems = c.args.mems.now in
    let news : List Process = c.allow_all.new.processes in
    let room : host.version < host.blank.bounds.max_commands =
    subst (λ (h : HostState). h.version < h.blank.bounds.max_commands) (sym c.self.view_is)
    c.requires in
    let memory : c.memory-memory.result ≡ host.blank.machine.memory =
    c.memory-memory.ensures.memory ∙ ap (λ (m : Hardware). m.memory) c.machine-2.ensures in
    let groups : c.set_mems.new.groups ≡ map (with_mems c.args.name mems) host.groups =
    c.set_mems.ensures ∙ ap (λ gs. map (with_mems c.args.name mems) gs)
    c.deref_mut.ensures.value in
    let seam_groups = whole_vec c.self.inside.groups.len c.set_mems.new.groups
    c.self.inside.groups.items
    (sym (ap length (c.set_mems.ensures)
    ∙ length-map c.deref_mut.result.now (with_mems c.args.name mems)
    ∙ c.deref_mut.ensures.len)) in
    let lent : c.deref-4.result.now ≡ map (with_mems c.args.name mems) host.groups =
    c.deref-4.ensures.value ∙ seam_groups ∙ groups in
    let F : ℕ → List ControlGroup → List Process
    → Type 0 = λ m gs olds. AreFollowed
    (λ (p q : Process). HasMore (when_moved p.space.allowed (effective_mems m gs p.group))
    (effective_mems m gs p.group) p q) olds news in
    let followed : AreFollowed (became host c.args.name mems news c.self.invariant.sound)
    host.processes news =
    subst (λ olds. F host.blank.machine.memory (map (with_mems c.args.name mems) host.groups)
    olds) c.deref_mut-2.ensures.value
    (subst (λ gs. F host.blank.machine.memory gs c.deref_mut-2.result.now) lent
    (subst (λ m. F m c.deref-4.result.now c.deref_mut-2.result.now) memory
    c.allow_all.ensures)) in
    let there : is_group host.groups c.args.name ≡ true =
    ap (λ gs. is_group gs c.args.name) (sym c.deref.ensures.value) ∙ sym c.is_group.ensures
    ∙ c.if-not-is_group.false in
    let known : option_map_or
    (λ mask. list_any (λ node. nat_le host.blank.machine.nodes node) (members mask)) mems false
    ≡ false =
    ap (λ n. option_map_or (λ mask. list_any (λ node. nat_le n node) (members mask)) mems false)
    (sym (c.nodes.ensures.nodes ∙ ap (λ (m : Hardware). m.nodes) c.machine.ensures))
    ∙ sym c.names_beyond.ensures ∙ c.if-names_beyond.false in
    let free : (not (is_some mems)
    && (has_own_mems host.groups c.args.name && list_any
    (λ (p : Process). is_within host.groups p.group c.args.name) host.processes)) ≡ false =
    ap (λ gs. not (is_some mems)
    && (has_own_mems gs c.args.name && list_any
    (λ (p : Process). is_within gs p.group c.args.name) host.processes))
    (sym c.deref-3.ensures.value)
    ∙ ap (λ (ps : List Process). not (is_some mems)
    && (has_own_mems c.deref-3.result.now c.args.name && list_any
    (λ (p : Process). is_within c.deref-3.result.now p.group c.args.name) ps))
    (sym c.deref-2.ensures.value)
    ∙ sym c.unsets_populated.ensures ∙ c.if-unsets_populated.false in
    let seam_processes = whole_vec c.self.inside.processes.len news c.self.inside.processes.items
    (sym (c.allow_all.ensures.count ∙ c.deref_mut-2.ensures.len)) in
    let shown : HostState = record {
      blank = host.blank;
      version = host.version + 1;
      groups = take c.self.inside.groups.len
          (c.set_mems.new.groups ++ drop (length c.set_mems.new.groups)
          c.self.inside.groups.items);
      processes = take c.self.inside.processes.len
          (news ++ drop (length news) c.self.inside.processes.items);
    } in
    let is : next host c.args.name mems news c.self.invariant.sound ≡ shown =
    λ i. record {
      blank = host.blank;
      version = host.version + 1;
      groups =
          sym (seam_groups ∙ groups) i;
      processes = sym seam_processes i;
    } in
    let done : IsHostApplied host (SetGroupMems c.args.name mems) (Ok tt)
    (next host c.args.name mems news c.self.invariant.sound) =
    group_mems-applied host c.args.name mems news c.self.invariant.sound followed
    (λ history stands. group_mems-none host c.args.name mems history stands room there
    (ne_eqb c.args.name 0 c.if-name-eq0.false) known free) in
    let Q : HostState → Type 0 = λ h. IsHostApplied h (SetGroupMems c.args.name mems)
    (Ok tt) shown in
    subst Q c.self.view_is
    (subst (λ n. IsHostApplied host (SetGroupMems c.args.name mems) (Ok tt) n) is done)

pub returns-then-unsets_populated : goal.returns-then-unsets_populated
returns-then-unsets_populated c =
    let host : HostState = shown_of c.self.inside in
    let mems = c.args.mems.now in
    let room : host.version < host.blank.bounds.max_commands =
    subst (λ (h : HostState). h.version < h.blank.bounds.max_commands) (sym c.self.view_is)
    c.requires in
    let there : is_group host.groups c.args.name ≡ true =
    ap (λ gs. is_group gs c.args.name) (sym c.deref.ensures.value) ∙ sym c.is_group.ensures
    ∙ c.if-not-is_group.false in
    let known : option_map_or
    (λ mask. list_any (λ node. nat_le host.blank.machine.nodes node) (members mask)) mems false
    ≡ false =
    ap (λ n. option_map_or (λ mask. list_any (λ node. nat_le n node) (members mask)) mems false)
    (sym (c.nodes.ensures.nodes ∙ ap (λ (m : Hardware). m.nodes) c.machine.ensures))
    ∙ sym c.names_beyond.ensures ∙ c.if-names_beyond.false in
    let held : (not (is_some mems)
    && (has_own_mems host.groups c.args.name && list_any
    (λ (p : Process). is_within host.groups p.group c.args.name) host.processes)) ≡ true =
    ap (λ gs. not (is_some mems)
    && (has_own_mems gs c.args.name && list_any
    (λ (p : Process). is_within gs p.group c.args.name) host.processes))
    (sym c.deref-3.ensures.value)
    ∙ ap (λ (ps : List Process). not (is_some mems)
    && (has_own_mems c.deref-3.result.now c.args.name && list_any
    (λ (p : Process). is_within c.deref-3.result.now p.group c.args.name) ps))
    (sym c.deref-2.ensures.value)
    ∙ sym c.unsets_populated.ensures ∙ c.if-unsets_populated.true in
    let Q : HostState → Type 0 = λ h. IsHostApplied h (SetGroupMems c.args.name mems)
    (Err Populated) h in
    subst Q c.self.view_is
    (populated-refused host c.args.name mems
    (λ history stands. group_mems-populated host c.args.name mems history stands room there
    (ne_eqb c.args.name 0 c.if-name-eq0.false) known held))
