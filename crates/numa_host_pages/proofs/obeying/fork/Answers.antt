use Rattle.std.proofs.Common.{◌≡◌, ◌<◌, ℕ, Err, sym, subst, refl, length}
use Rattle.numa_host.specs.Processes.{nodes_of}
use Rattle.numa_requests.specs.declared.host_command.HostCommand.TheVariants.{Fork}
use Rattle.numa_page_state.specs.Outcomes.{Enough}
use Rattle.numa_host_pages.specs.Homes.{with_child}
use Rattle.numa_host_pages.specs.Standing.{HostLies}
use Rattle.numa_host_pages.proofs.Obeyed.{accepted, born-are, childless, fork-few, homes-count}
use Rattle.numa_host_pages.proofs.Obeyed.{refused}
use Rattle.numa_host_pages.proofs.obeying.fork.Goals as goal

pub returns-in_default : goal.returns-in_default
returns-in_default c =
    refused c.args.host.now c.args.pages.now _ c.no_child.result c.args.host.now
    (childless c.args.host.now c.args.parent c.args.child c.args.from c.args.task
    c.no_child.result c.no_child.ensures)

pub returns-in-Ok-apply : goal.returns-in-Ok-apply
returns-in-Ok-apply c =
    let old = c.args.host.now in
    let parent = c.args.parent in
    let child = c.args.child in
    let from = c.args.from in
    let task = c.args.task in
    accepted old c.args.pages.now (Fork parent child from task) c.apply.new.self
    c.forked.new.self c.in-Ok-apply.ensures (λ history at stands lies are none.
    let place = c.place_of-group.ensures history stands in
    let small : length at.homes < 4096 = subst (λ n. n < 4096) (sym (homes-count at history are))
    (fork-few old.blank.machine old.blank.bounds history parent child from task none) in
    let born = born-are at history child _ _ (Fork parent child from task) are refl refl in (
      λ place member. Enough,
      subst (λ n. HostLies c.forked.new.self
          (with_child parent child n (nodes_of old.blank.machine history parent) at)) place.0
          (subst (λ n. HostLies c.forked.new.self
          (with_child parent child c.place_of-group.result.0 n at)) place.1
          (c.forked.ensures at parent lies small (c.in-Ok.ensures.child child))),
      record { order = born.order; same = born.same },
    ))

pub returns-in-Err : goal.returns-in-Err
returns-in-Err c = refused c.args.host.now c.args.pages.now _ c.in-Err.refusal c.apply.new.self
    c.in-Err.ensures
