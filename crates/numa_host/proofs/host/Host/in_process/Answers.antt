use Rattle.std.proofs.Common.{◌≡◌, ◌<◌, List, ◌∷◌, None, Ok, Err, false, refl, sym, ap, ◌∙◌}
use Rattle.std.proofs.Common.{subst}
use Rattle.std.specs.List.{position}
use Rattle.numa_requests.specs.declared.host_command.HostCommand.{HostCommand}
use Rattle.numa_requests.specs.declared.host_command.HostCommand.TheVariants.{In}
use Rattle.numa_host.specs.declared.process.Process.{Process}
use Rattle.numa_requests.specs.declared.host_refusal.HostRefusal.{HostRefusal}
use Rattle.numa_requests.specs.declared.host_refusal.HostRefusal.TheVariants.{NoSuchProcess}
use Rattle.numa_requests.specs.declared.host_refusal.HostRefusal.TheVariants.{GroupMems}
use Rattle.numa_requests.specs.HostErrors.{of_space}
use Rattle.numa_host.specs.Causes.{is_the_host_s}
use Rattle.numa_host.specs.Inside.{shown_of}
use Rattle.numa_host.specs.Standing.{HostState, HasHostHistory, IsHostApplied, IsHostSound}
use Rattle.numa_host.proofs.Found.{has_id}
use Rattle.numa_host.proofs.Told.{IsPlaceOf, position-some, absent-refused, group_mems-refused}
use Rattle.numa_host.proofs.Told.{next, told-kept, told-none, told-stands, told-sound}
use Rattle.numa_host.proofs.Told.{told-applied, told-refused}
use Rattle.numa_host.proofs.host.Host.in_process.Goals as goal

pub returns-in_default : goal.returns-in_default
returns-in_default c =
    let host : HostState = shown_of c.self.inside in
    let room : host.version < host.blank.bounds.max_commands =
    subst (λ (h : HostState). h.version < h.blank.bounds.max_commands) (sym c.self.view_is)
    c.requires in
    let none : position (has_id c.args.process) host.processes ≡ None =
    ap (λ (ps : List Process). position (has_id c.args.process) ps) (sym c.deref.ensures.value)
    ∙ sym c.in_default.ensures in
    subst (λ (h : HostState). IsHostApplied h (In c.args.process c.args.command.now)
    (Err NoSuchProcess) h) c.self.view_is
    (absent-refused host c.args.process c.args.command.now room none)

pub returns-then-is_the_host_s : goal.returns-then-is_the_host_s
returns-then-is_the_host_s c =
    let host : HostState = shown_of c.self.inside in
    let command = c.args.command.now in
    let room : host.version < host.blank.bounds.max_commands =
    subst (λ (h : HostState). h.version < h.blank.bounds.max_commands) (sym c.self.view_is)
    c.requires in
    let at : IsPlaceOf host.processes c.args.process c.in-Some.place =
    position-some host.processes c.args.process c.in-Some.place
    (ap (λ (ps : List Process). position (has_id c.args.process) ps) (sym c.deref.ensures.value)
    ∙ sym c.in-Some.ensures) in
    subst (λ (h : HostState). IsHostApplied h (In c.args.process command) (Err GroupMems) h)
    c.self.view_is (group_mems-refused host c.args.process c.in-Some.place command room
    c.self.invariant.sound at (sym c.is_the_host_s.ensures ∙ c.if-is_the_host_s.true))

pub invariant_of-self : goal.invariant_of-self
invariant_of-self c =
    let host : HostState = shown_of c.self.inside in
    let command = c.args.command.now in
    let room : host.version < host.blank.bounds.max_commands =
    subst (λ (h : HostState). h.version < h.blank.bounds.max_commands) (sym c.self.view_is)
    c.requires in
    let at : IsPlaceOf host.processes c.args.process c.in-Some.place =
    position-some host.processes c.args.process c.in-Some.place
    (ap (λ (ps : List Process). position (has_id c.args.process) ps) (sym c.deref.ensures.value)
    ∙ sym c.in-Some.ensures) in
    let its : is_the_host_s command ≡ false = sym c.is_the_host_s.ensures
    ∙ c.if-is_the_host_s.false in
    let news : List Process = c.tell.new.processes.items in
    let kept : news ≡ host.processes = told-kept host c.args.process c.in-Some.place command
    (Err c.in-Err.refusal) news at c.in-Err.ensures c.in-Err.refusal refl in
    let shown : HostState =
    record {
      blank = host.blank;
      version = host.version;
      groups = host.groups;
      processes =
          news;
    } in
    let is : host ≡ shown =
    λ i. record {
      blank = host.blank;
      version = host.version;
      groups = host.groups;
      processes =
          sym kept i;
    } in
    record {
      sound = subst IsHostSound is c.self.invariant.sound;
      history =
          subst HasHostHistory is c.self.invariant.history;
      limits = c.self.invariant.limits;
    }

pub returns-in-Err : goal.returns-in-Err
returns-in-Err c =
    let host : HostState = shown_of c.self.inside in
    let command = c.args.command.now in
    let room : host.version < host.blank.bounds.max_commands =
    subst (λ (h : HostState). h.version < h.blank.bounds.max_commands) (sym c.self.view_is)
    c.requires in
    let at : IsPlaceOf host.processes c.args.process c.in-Some.place =
    position-some host.processes c.args.process c.in-Some.place
    (ap (λ (ps : List Process). position (has_id c.args.process) ps) (sym c.deref.ensures.value)
    ∙ sym c.in-Some.ensures) in
    let its : is_the_host_s command ≡ false = sym c.is_the_host_s.ensures
    ∙ c.if-is_the_host_s.false in
    let news : List Process = c.tell.new.processes.items in
    let asked : HostCommand = In c.args.process command in
    let kept : news ≡ host.processes = told-kept host c.args.process c.in-Some.place command
    (Err c.in-Err.refusal) news at c.in-Err.ensures c.in-Err.refusal refl in
    let shown : HostState =
    record {
      blank = host.blank;
      version = host.version;
      groups = host.groups;
      processes =
          news;
    } in
    let is : host ≡ shown =
    λ i. record {
      blank = host.blank;
      version = host.version;
      groups = host.groups;
      processes =
          sym kept i;
    } in
    let done : IsHostApplied host asked (Err (of_space c.in-Err.refusal)) host =
    told-refused host c.args.process c.in-Some.place command (Err c.in-Err.refusal) news at
    c.in-Err.ensures c.self.invariant.sound its c.in-Err.refusal refl room in
    let named : IsHostApplied host asked (Err c.of_space.result) host =
    subst (λ (r : HostRefusal). IsHostApplied host asked (Err r) host) (sym c.of_space.ensures)
    done in
    subst (λ (h : HostState). IsHostApplied h asked (Err c.of_space.result) shown) c.self.view_is
    (subst (λ (n : HostState). IsHostApplied host asked (Err c.of_space.result) n) is named)

pub invariant_of-self-2 : goal.invariant_of-self-2
invariant_of-self-2 c =
    let host : HostState = shown_of c.self.inside in
    let command = c.args.command.now in
    let room : host.version < host.blank.bounds.max_commands =
    subst (λ (h : HostState). h.version < h.blank.bounds.max_commands) (sym c.self.view_is)
    c.requires in
    let at : IsPlaceOf host.processes c.args.process c.in-Some.place =
    position-some host.processes c.args.process c.in-Some.place
    (ap (λ (ps : List Process). position (has_id c.args.process) ps) (sym c.deref.ensures.value)
    ∙ sym c.in-Some.ensures) in
    let its : is_the_host_s command ≡ false = sym c.is_the_host_s.ensures
    ∙ c.if-is_the_host_s.false in
    let news : List Process = c.tell.new.processes.items in
    let had = c.self.invariant.history in
    record {
      sound = told-sound host c.args.process c.in-Some.place command (Ok tt) news at
          c.in_default-tell.ensures c.self.invariant.sound its refl room;
      history = record {
        history = In c.args.process command ∷ had.history;
        accepted = (
          told-none host c.args.process c.in-Some.place command (Ok tt) news at
              c.in_default-tell.ensures c.self.invariant.sound its refl room had.history
              had.stands,
          had.accepted,
        );
        stands = told-stands host c.args.process c.in-Some.place command (Ok tt) news at
            c.in_default-tell.ensures c.self.invariant.sound its refl had.history had.stands;
      };
      limits = c.self.invariant.limits;
    }

pub returns : goal.returns
returns c =
    let host : HostState = shown_of c.self.inside in
    let command = c.args.command.now in
    let room : host.version < host.blank.bounds.max_commands =
    subst (λ (h : HostState). h.version < h.blank.bounds.max_commands) (sym c.self.view_is)
    c.requires in
    let at : IsPlaceOf host.processes c.args.process c.in-Some.place =
    position-some host.processes c.args.process c.in-Some.place
    (ap (λ (ps : List Process). position (has_id c.args.process) ps) (sym c.deref.ensures.value)
    ∙ sym c.in-Some.ensures) in
    let its : is_the_host_s command ≡ false = sym c.is_the_host_s.ensures
    ∙ c.if-is_the_host_s.false in
    let news : List Process = c.tell.new.processes.items in
    let after : HostState = next host c.args.process c.in-Some.place command (Ok tt) news at
    c.in_default-tell.ensures in
    subst (λ (h : HostState). IsHostApplied h (In c.args.process command) (Ok tt) after)
    c.self.view_is (told-applied host c.args.process c.in-Some.place command (Ok tt) news at
    c.in_default-tell.ensures c.self.invariant.sound its refl room)
