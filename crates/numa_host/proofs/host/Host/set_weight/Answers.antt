use Rattle.std.proofs.Common.{◌≡◌, ◌<◌, ℕ, ◌+◌, List, ◌∷◌, length, take, drop, ◌++◌, All, None}
use Rattle.std.proofs.Common.{Ok, sym, ap, ◌∙◌, subst}
use Rattle.std.proofs.Math.Seq.{take-append_seam}
use Rattle.numa_machine.specs.Machine.{Hardware}
use Rattle.numa_space.specs.Limited.{Bounds}
use Rattle.numa_space.specs.Refusals.{refusal_in}
use Rattle.numa_space.specs.Standing.{SpaceState}
use Rattle.numa_space.specs.Steps.{scene_in}
use Rattle.numa_requests.specs.declared.command.Command.TheVariants as own
use Rattle.numa_requests.specs.declared.host_command.HostCommand.{HostCommand}
use Rattle.numa_requests.specs.declared.host_command.HostCommand.TheVariants.{SetWeight}
use Rattle.numa_host.specs.declared.process.Process.{Process}
use Rattle.numa_host.specs.Following.{AreFollowed, HasMore}
use Rattle.numa_host.specs.Inside.{shown_of}
use Rattle.numa_host.specs.Processes.{weights_of}
use Rattle.numa_host.specs.Standing.{HostState, IsHostAccepted, IsHostSound, HasHostHistory}
use Rattle.numa_host.specs.Standing.{IsHostApplied}
use Rattle.numa_host.proofs.Weighed.{weighed, next, weight-stands, weight-sound, weights-free}
use Rattle.numa_host.proofs.Weighed.{weight-none}
use Rattle.numa_host.proofs.host.Host.set_weight.Goals as goal

whole_vec : {X : Type 0} (n : ℕ) (new old : List X) → n ≡ length new
    → take n (new ++ drop (length new) old) ≡ new
whole_vec n new old e = ap (λ k. take k (new ++ drop (length new) old)) e
    ∙ take-append_seam new (drop (length new) old)

pub weigh_all-requires : goal.weigh_all-requires
weigh_all-requires c =
    let host : HostState = shown_of c.self.inside in
    let room : host.version < host.blank.bounds.max_commands =
    subst (λ (h : HostState). h.version < h.blank.bounds.max_commands) (sym c.self.view_is)
    c.requires in
    let had = c.self.invariant.history in
    let P : List Process → Type 0 =
    λ ps. All (λ (p : Process). refusal_in
    (scene_in p.space (own.SetWeight c.args.node c.args.weight))
    (own.SetWeight c.args.node c.args.weight) ≡ None) ps in
    record {
      free = subst P (sym c.deref_mut.ensures.value)
          (weights-free host had.history c.args.node c.args.weight had.stands room
          c.in_default.ensures.applied.step.accepted);
    }

pub invariant_of-self-2 : goal.invariant_of-self-2
invariant_of-self-2 c =
    let host : HostState = shown_of c.self.inside in
    let node = c.args.node in
    let weight = c.args.weight in
    let blank : SpaceState = c.apply.new.self in
    let news : List Process = c.weigh_all.new.processes in
    let machine : blank.machine ≡ host.blank.machine = c.in_default.ensures.applied.machine in
    let bounds : blank.bounds ≡ host.blank.bounds = c.in_default.ensures.applied.bounds in
    let room : host.version < host.blank.bounds.max_commands =
    subst (λ (h : HostState). h.version < h.blank.bounds.max_commands) (sym c.self.view_is)
    c.requires in
    let followed : AreFollowed (weighed host node weight blank news machine bounds)
    host.processes news =
    subst (λ (olds : List Process). AreFollowed
    (λ (p q : Process). HasMore (λ history. own.SetWeight node weight ∷ history) p.space.allowed
    p q) olds news) c.deref_mut.ensures.value c.weigh_all.ensures in
    let seam = whole_vec c.self.inside.processes.len news c.self.inside.processes.items
    (sym (c.weigh_all.ensures.count ∙ c.deref_mut.ensures.len)) in
    let shown : HostState =
    record {
      blank = blank;
      version = host.version + 1;
      groups = host.groups;
      processes =
          take c.self.inside.processes.len
          (news ++ drop (length news) c.self.inside.processes.items);
    } in
    let is : next host node weight blank news machine bounds ≡ shown =
    λ i. record {
      blank = blank;
      version = host.version + 1;
      groups = host.groups;
      processes =
          sym seam i;
    } in
    let had = c.self.invariant.history in
    let took = c.in_default.ensures.applied.ok (weights_of had.history) had.stands.blank in
    let all : List HostCommand = SetWeight node weight ∷ had.history in
    record {
      sound = subst IsHostSound is
          (weight-sound host node weight blank news machine bounds followed
          c.self.invariant.sound c.in_default.ensures.applied.step.next.allowed room);
      history = subst HasHostHistory is (record {
        history = all;
        accepted = subst (λ (m : Hardware). IsHostAccepted m blank.bounds all) (sym machine)
            (subst (λ (b : Bounds). IsHostAccepted host.blank.machine b all) (sym bounds)
            (weight-none host had.history node weight had.stands room took.0, had.accepted));
        stands = weight-stands host node weight blank news machine bounds followed had.history
            had.stands took.1;
      });
      limits = c.self.invariant.limits ∙ sym bounds;
    }

pub returns : goal.returns
returns c =
    let host : HostState = shown_of c.self.inside in
    let node = c.args.node in
    let weight = c.args.weight in
    let blank : SpaceState = c.apply.new.self in
    let news : List Process = c.weigh_all.new.processes in
    let machine : blank.machine ≡ host.blank.machine = c.in_default.ensures.applied.machine in
    let bounds : blank.bounds ≡ host.blank.bounds = c.in_default.ensures.applied.bounds in
    let room : host.version < host.blank.bounds.max_commands =
    subst (λ (h : HostState). h.version < h.blank.bounds.max_commands) (sym c.self.view_is)
    c.requires in
    let followed : AreFollowed (weighed host node weight blank news machine bounds)
    host.processes news =
    subst (λ (olds : List Process). AreFollowed
    (λ (p q : Process). HasMore (λ history. own.SetWeight node weight ∷ history) p.space.allowed
    p q) olds news) c.deref_mut.ensures.value c.weigh_all.ensures in
    let seam = whole_vec c.self.inside.processes.len news c.self.inside.processes.items
    (sym (c.weigh_all.ensures.count ∙ c.deref_mut.ensures.len)) in
    let shown : HostState =
    record {
      blank = blank;
      version = host.version + 1;
      groups = host.groups;
      processes =
          take c.self.inside.processes.len
          (news ++ drop (length news) c.self.inside.processes.items);
    } in
    let is : next host node weight blank news machine bounds ≡ shown =
    λ i. record {
      blank = blank;
      version = host.version + 1;
      groups = host.groups;
      processes =
          sym seam i;
    } in
    let done : IsHostApplied host (SetWeight node weight) (Ok tt)
    (next host node weight blank news machine bounds) = record {
      ok = λ history stands.
          let took = c.in_default.ensures.applied.ok (weights_of history) stands.blank in (
            weight-none host history node weight stands room took.0,
            weight-stands host node weight blank news machine bounds followed history stands
                took.1,
          );
      err = λ history stands. tt;
      unchanged = tt;
      room = tt;
      machine = machine;
      bounds = bounds;
    } in
    subst (λ (h : HostState). IsHostApplied h (SetWeight node weight) (Ok tt) shown)
    c.self.view_is (subst
    (λ (n : HostState). IsHostApplied host (SetWeight node weight) (Ok tt) n) is done)
