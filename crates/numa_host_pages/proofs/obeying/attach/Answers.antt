use Rattle.std.proofs.Common.{◌≡◌, ℕ, List, Bool, false, sym, ap, subst, ◌∙◌}
use Rattle.numa_host.specs.Groups.{effective_mems, groups_of}
use Rattle.numa_host.specs.declared.group.ControlGroup.{ControlGroup}
use Rattle.numa_requests.specs.declared.host_command.HostCommand.TheVariants.{Attach}
use Rattle.numa_host_pages.specs.Homes.{with_attached}
use Rattle.numa_host_pages.specs.Standing.{HostLies}
use Rattle.numa_host_pages.proofs.Obeyed.{accepted, attach-there, attached-are, member-once}
use Rattle.numa_host_pages.proofs.Obeyed.{others-few, refused}
use Rattle.numa_host_pages.proofs.obeying.attach.Goals as goal

pub returns-in-Ok : goal.returns-in-Ok
returns-in-Ok c =
    let old = c.args.host.now in
    let process = c.args.process in
    let group = c.args.group in
    accepted old c.args.pages.now (Attach process group) c.apply.new.self c.attached.new.self
    c.in-Ok.ensures (λ history at stands lies are none.
    let nodes : c.nodes_of-nodes.result
    ≡ effective_mems old.blank.machine.memory (groups_of history) group =
    c.nodes_of-nodes.ensures
    ∙ ap (λ (gs : List ControlGroup). effective_mems old.blank.machine.memory gs group)
    stands.groups in
    let had = (c.place_of-old.ensures history stands).1 in
    let once = member-once old history process stands c.processes.ensures.sound
    (attach-there old.blank.machine old.blank.bounds history process group none) in
    let small = others-few old history at process stands c.version.ensures.history are once in
    let done = c.attached.ensures at lies small in (
      λ place member. done.0,
      subst (λ n. HostLies c.attached.new.self (with_attached done.0 process group n
          (effective_mems old.blank.machine.memory (groups_of history) group) at)) had
          (subst (λ n. HostLies c.attached.new.self
          (with_attached done.0 process group c.place_of-old.result.1 n at)) nodes done.1),
      attached-are at history done.0 process group _ _ are once,
    ))

pub returns-in-Err : goal.returns-in-Err
returns-in-Err c = refused c.args.host.now c.args.pages.now _ c.in-Err.refusal c.apply.new.self
    c.in-Err.ensures
