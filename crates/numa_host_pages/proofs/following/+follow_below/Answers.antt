use Rattle.std.proofs.Common.{Bool, ℕ, subst}
use Rattle.std.proofs.lemmas.Bool.{eq-eqb, ne_eqb}
use Rattle.numa_host.specs.Groups.{effective_mems}
use Rattle.numa_page_state.specs.Outcomes.{Lack}
use Rattle.numa_page_state.specs.Standing.{HaveRoom}
use Rattle.numa_host_huge.specs.Standing.{HugeLies}
use Rattle.numa_host_pages.specs.Homes.{HostLying, group_followed, homes_followed, huge_of_group}
use Rattle.numa_host_pages.specs.Standing.{AreHomes}
use Rattle.numa_host_pages.proofs.Walked.{below-here, below-passed, each-after}
use Rattle.numa_host_pages.proofs.following.+follow_below.Goals as goal

pub returns-then-group-name : goal.returns-then-group-name
returns-then-group-name t c = λ at are have huge same.
    rw (below-passed c.args.groups.now c.in-Some.newer.now c.in-Some.group.now c.args.name
    c.in-Some.ensures.cases.0
    (ne_eqb c.in-Some.group.now.parent c.args.name c.if-group-name.true))
    (c.follow_below.ensures at are have huge same)

pub returns : goal.returns
returns t c = λ at are have huge same.
    let nodes = effective_mems c.args.memory c.args.all.now in
    let told = subst (λ (f : Bool). (lacks : ℕ → Lack)
    × AreHomes c.follow_group.new.members (homes_followed lacks f c.in-Some.group.now.name
    (nodes c.in-Some.group.now.name) at.homes at.room).0
    × HaveRoom c.follow_group.new.rooms (homes_followed lacks f c.in-Some.group.now.name
    (nodes c.in-Some.group.now.name) at.homes at.room).1) same
    (rw (← c.effective-nodes.ensures) (c.follow_group.ensures at.homes at.room are have)) in
    let sharers = subst (λ (f : Bool). HugeLies c.follow_sharers.new.huge
    (huge_of_group f c.in-Some.group.now.name (nodes c.in-Some.group.now.name) at.homes at.huge))
    same (rw (← c.effective-nodes.ensures) (c.follow_sharers.ensures at.homes at.huge are huge)) in
    let one : HostLying = group_followed told.0 c.in-Some.group.now.name
    (nodes c.in-Some.group.now.name) at in
    let below = c.follow_below-2.ensures one told.1 told.2 sharers same in
    let rest = c.follow_below-3.ensures below.0 below.2 below.3 below.4 below.5 in (
      rest.0,
      rw (below-here c.args.groups.now c.in-Some.newer.now c.in-Some.group.now c.args.name
          c.in-Some.ensures.cases.0
          (eq-eqb c.in-Some.group.now.parent c.args.name c.if-group-name.false))
          (told.0, each-after nodes _ _ one below.0 rest.0 below.1 rest.1),
      rest.2,
      rest.3,
      rest.4,
      rest.5,
    )
