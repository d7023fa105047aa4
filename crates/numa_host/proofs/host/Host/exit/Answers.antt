use Rattle.std.proofs.Common.{◌≡◌, ◌<◌, ◌+◌, true, false, List}
use Rattle.std.proofs.Common.{Err, sym, ap}
use Rattle.std.proofs.Common.{◌∙◌, subst}
use Rattle.std.specs.List.{list_any}
use Rattle.numa_requests.specs.declared.host_command.HostCommand.TheVariants.{Exit}
use Rattle.numa_host.specs.declared.process.Process.{Process}
use Rattle.numa_requests.specs.declared.host_refusal.HostRefusal.TheVariants as cause
use Rattle.numa_host.specs.Inside.{shown_of}
use Rattle.numa_host.specs.Standing.{HostState, IsHostApplied}
use Rattle.numa_host.proofs.Found.{has_id}
use Rattle.numa_host.proofs.Steps.{IsHostStep, step-kept, step-shown}
use Rattle.numa_host.proofs.Ended.{exit-step, next}
use Rattle.numa_host.proofs.Refusing.{exit-absent}
use Rattle.numa_host.proofs.host.Host.exit.Goals as goal

pub returns-then-not-is_there : goal.returns-then-not-is_there
returns-then-not-is_there c =
    let host : HostState = shown_of c.self.inside in
    let room : host.version < host.blank.bounds.max_commands =
    subst (λ (h : HostState). h.version < h.blank.bounds.max_commands) (sym c.self.view_is)
    c.requires in
    let there : list_any (has_id c.args.process) host.processes ≡ false =
    ap (λ (ps : List Process). list_any (has_id c.args.process) ps) (sym c.deref.ensures.value)
    ∙ sym c.is_there.ensures ∙ c.if-not-is_there.true in
    subst (λ (h : HostState). IsHostApplied h (Exit c.args.process) (Err cause.NoSuchProcess) h)
    c.self.view_is (exit-absent host room c.args.process there)

pub invariant_of-self : goal.invariant_of-self
invariant_of-self c =
    let host : HostState = shown_of c.self.inside in
    let room : host.version < host.blank.bounds.max_commands =
    subst (λ (h : HostState). h.version < h.blank.bounds.max_commands) (sym c.self.view_is)
    c.requires in
    let there : list_any (has_id c.args.process) host.processes ≡ true =
    ap (λ (ps : List Process). list_any (has_id c.args.process) ps) (sym c.deref.ensures.value)
    ∙ sym c.is_there.ensures ∙ c.if-not-is_there.false in
    let after : HostState = next host c.args.process in
    let step : IsHostStep host (Exit c.args.process) after =
    exit-step host c.args.process c.self.invariant.sound room there in
    let shown : HostState =
    record {
      blank = host.blank;
      version = host.version + 1;
      groups = host.groups;
      processes =
          c.remove.new.processes.items;
    } in
    let is : after ≡ shown =
    λ i. record {
      blank = host.blank;
      version = host.version + 1;
      groups =
          host.groups;
      processes = sym c.remove.ensures i;
    } in
    step-kept host _ (Exit c.args.process) after step c.self.invariant.history is
    c.self.invariant.limits

pub returns : goal.returns
returns c =
    let host : HostState = shown_of c.self.inside in
    let room : host.version < host.blank.bounds.max_commands =
    subst (λ (h : HostState). h.version < h.blank.bounds.max_commands) (sym c.self.view_is)
    c.requires in
    let there : list_any (has_id c.args.process) host.processes ≡ true =
    ap (λ (ps : List Process). list_any (has_id c.args.process) ps) (sym c.deref.ensures.value)
    ∙ sym c.is_there.ensures ∙ c.if-not-is_there.false in
    let after : HostState = next host c.args.process in
    let step : IsHostStep host (Exit c.args.process) after =
    exit-step host c.args.process c.self.invariant.sound room there in
    let shown : HostState =
    record {
      blank = host.blank;
      version = host.version + 1;
      groups = host.groups;
      processes =
          c.remove.new.processes.items;
    } in
    let is : after ≡ shown =
    λ i. record {
      blank = host.blank;
      version = host.version + 1;
      groups =
          host.groups;
      processes = sym c.remove.ensures i;
    } in
    step-shown host shown c.args.self.now after (Exit c.args.process) step c.self.view_is is
