use Rattle.std.proofs.Common.{◌≡◌, ◌<◌, ℕ, List, false, sym, ap, subst, refl, ◌∙◌, length}
use Rattle.numa_host.specs.Groups.{effective_mems, groups_of}
use Rattle.numa_host.specs.Processes.{members_of}
use Rattle.numa_host.specs.declared.group.ControlGroup.{ControlGroup}
use Rattle.numa_requests.specs.declared.host_command.HostCommand.TheVariants.{NewProcess}
use Rattle.numa_page_state.specs.Outcomes.{Enough}
use Rattle.numa_host_pages.specs.Homes.{with_born}
use Rattle.numa_host_pages.specs.Standing.{HostLies}
use Rattle.numa_host_pages.proofs.Obeyed.{accepted, born-are, homes-count, new-few, refused}
use Rattle.numa_host_pages.proofs.obeying.begin.Goals as goal

pub returns-in-Ok : goal.returns-in-Ok
returns-in-Ok c =
    let old = c.args.host.now in
    let process = c.args.process in
    let group = c.args.group in
    accepted old c.args.pages.now (NewProcess process group) c.apply.new.self c.born.new.self
    c.in-Ok.ensures (λ history at stands lies are none.
    let nodes : c.nodes_of-nodes.result
    ≡ effective_mems old.blank.machine.memory (groups_of history) group =
    c.nodes_of-nodes.ensures
    ∙ ap (λ (gs : List ControlGroup). effective_mems old.blank.machine.memory gs group)
    stands.groups in
    let small : length at.homes < 4096 = subst (λ n. n < 4096) (sym (homes-count at history are))
    (new-few old.blank.machine old.blank.bounds history process group none) in (
      λ place member. Enough,
      subst (λ n. HostLies c.born.new.self (with_born process group n at)) nodes
          (c.born.ensures at lies small),
      born-are at history process group _ (NewProcess process group) are refl refl,
    ))

pub returns-in-Err : goal.returns-in-Err
returns-in-Err c = refused c.args.host.now c.args.pages.now _ c.in-Err.refusal c.apply.new.self
    c.in-Err.ensures
