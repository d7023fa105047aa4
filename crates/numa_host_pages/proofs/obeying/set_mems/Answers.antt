use Rattle.std.proofs.Common.{◌≡◌, ◌∷◌, ℕ, List, ap, subst, ◌∙◌}
use Rattle.numa_machine.specs.Machine.{Hardware}
use Rattle.numa_host.specs.Groups.{effective_mems, groups_of}
use Rattle.numa_host.specs.declared.group.ControlGroup.{ControlGroup}
use Rattle.numa_requests.specs.declared.host_command.HostCommand.TheVariants.{SetGroupMems}
use Rattle.numa_host_pages.specs.Homes.{FollowEach, all_still}
use Rattle.numa_host_pages.specs.Standing.{HostLies}
use Rattle.numa_host_pages.specs.TopDown.{top_down}
use Rattle.numa_host_pages.proofs.Arrived.{calm-arrivals, each-arrivals}
use Rattle.numa_host_pages.proofs.Obeyed.{accepted, refused}
use Rattle.numa_host_pages.proofs.Walked.{each-lacks}
use Rattle.numa_host_pages.proofs.obeying.set_mems.Goals as goal

pub returns-in-Ok : goal.returns-in-Ok
returns-in-Ok c =
    let old = c.args.host.now in
    let said = SetGroupMems c.args.group c.args.mems.now in
    accepted old c.args.pages.now said c.apply.new.self c.follow.new.self c.in-Ok.ensures
    (λ history at stands lies are none.
    let told = c.follow.ensures at lies in
    let memory : c.memory-memory.result ≡ old.blank.machine.memory = c.memory-memory.ensures.memory
    ∙ ap (λ (m : Hardware). m.memory) (c.machine.ensures ∙ c.in-Ok.ensures.machine) in
    let groups = c.groups.ensures.groups ∙ (c.in-Ok.ensures.ok history stands).1.groups in
    let went = subst (λ (m : ℕ). FollowEach (effective_mems m (groups_of (said ∷ history)))
    (top_down (groups_of (said ∷ history))) (all_still at) told.0) memory
    (subst (λ (gs : List ControlGroup). FollowEach (effective_mems c.memory-memory.result gs)
    (top_down gs) (all_still at) told.0) groups told.1) in
    let lacks = each-lacks (effective_mems old.blank.machine.memory (groups_of (said ∷ history)))
    (top_down (groups_of (said ∷ history))) (all_still at) told.0 went in (
      lacks.0,
      subst (HostLies c.follow.new.self) lacks.1 told.2,
      record {
        order = each-arrivals lacks.0
            (effective_mems old.blank.machine.memory (groups_of (said ∷ history)))
            (top_down (groups_of (said ∷ history))) (all_still at)
            ∙ calm-arrivals at.homes ∙ are.order;
        same = are.same;
      },
    ))

pub returns-in-Err : goal.returns-in-Err
returns-in-Err c = refused c.args.host.now c.args.pages.now _ c.in-Err.refusal c.apply.new.self
    c.in-Err.ensures
