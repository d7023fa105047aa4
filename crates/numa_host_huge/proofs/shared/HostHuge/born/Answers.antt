use Rattle.std.proofs.Common.{Box, List, Option, Some, arith, refl, sym, subst}
use Rattle.std.specs.Global.{Global}
use Rattle.numa_pools.specs.Pools.{PoolCounts}
use Rattle.numa_huge.specs.declared.pages.HugePages.{HugePages}
use Rattle.numa_host_huge.specs.Kept.{AreShared, HugeKept, IsMade}
use Rattle.numa_host_huge.specs.Sharing.{forked}
use Rattle.numa_host_huge.specs.Standing.{HugeLies}
use Rattle.numa_host_huge.specs.declared.sharer.Sharer.{Sharer}
use Rattle.numa_host_huge.proofs.Made.{born-none, born-shared, born-some}
use Rattle.numa_host_huge.proofs.shared.HostHuge.born.Goals as goal

pub add-requires : goal.add-requires
add-requires c =
    let made = subst (λ (k : HugeKept). IsMade (Some c.in-Some.pages) k.sharers)
    (sym c.self.view_is) (subst (λ (m : Option (Box HugePages Global)).
    IsMade m c.args.self.now.sharers) c.in-Some.is c.requires) in
    record { few = made.1; room = c.self.invariant.1 }

pub invariant_of-self : goal.invariant_of-self
invariant_of-self c =
    let pools : PoolCounts = c.self.inside.pools in
    let xs : List Sharer = c.self.inside.sharers.items in
    let y : Sharer = record { id = c.args.child; pages = c.in-Some.pages } in
    let made = subst (λ (k : HugeKept). IsMade (Some c.in-Some.pages) k.sharers)
    (sym c.self.view_is) (subst (λ (m : Option (Box HugePages Global)).
    IsMade m c.args.self.now.sharers) c.in-Some.is c.requires) in (
      subst (λ (s : List Sharer). AreShared pools s) (sym c.add.ensures.items)
          (born-shared pools xs y c.self.invariant.0 made.0 made.1),
      omega (arith, c.self.invariant.1, c.add.ensures.room),
    )

pub returns-in_default : goal.returns-in_default
returns-in_default c = λ there parent lies child.
    born-none c.args.self.now there parent c.args.child lies
    (rw (← c.in_default.is) (child there lies))

pub returns : goal.returns
returns c = λ there parent lies child.
    let pools : PoolCounts = c.self.inside.pools in
    let xs : List Sharer = c.self.inside.sharers.items in
    let y : Sharer = record { id = c.args.child; pages = c.in-Some.pages } in
    subst (λ (s : List Sharer). HugeLies (record { pools = pools; sharers = s })
    (forked parent c.args.child there)) (sym c.add.ensures.items)
    (born-some pools xs there parent c.args.child y refl
    (subst (λ (k : HugeKept). HugeLies k there) (sym c.self.view_is) lies)
    (rw (← c.in-Some.is) (child there lies)))
