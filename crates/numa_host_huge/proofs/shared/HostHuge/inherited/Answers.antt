use Rattle.std.proofs.Common.{◌<◌, ◌∙◌, ℕ, List, length, get_or, arith, ap, sym, subst}
use Rattle.numa_pools.specs.Pools.{PoolCounts}
use Rattle.numa_huge.specs.declared.pages.HugePages.{HugePages}
use Rattle.numa_host_huge.specs.Kept.{HugeKept, place_in}
use Rattle.numa_host_huge.specs.Standing.{HugeLies, LiesApart}
use Rattle.numa_host_huge.specs.declared.sharer.Sharer.{Sharer}
use Rattle.numa_host_huge.proofs.Places.{IsAt, IsNowhere, at-home, at-inside, nowhere-home}
use Rattle.numa_host_huge.proofs.Places.{place-none, place-some, some-sharer}
use Rattle.numa_host_huge.proofs.shared.HostHuge.inherited.Goals as goal

pub at_place-requires : goal.at_place-requires
at_place-requires c =
    let pools : PoolCounts = c.self.inside.pools in
    let xs : List Sharer = c.self.inside.sharers.items in
    let at : IsAt xs c.args.parent c.in-Some.at = place-some xs c.args.parent c.in-Some.at
    (ap (λ (s : List Sharer). place_in c.args.parent s) (sym c.deref.ensures.value)
    ∙ sym c.in-Some.ensures) in
    let place : ℕ = c.in-Some.at in
    let d : Sharer = some-sharer xs place (at-inside xs c.args.parent place at) in
    subst (λ (s : List Sharer). place < length s) (sym c.deref-2.ensures.value)
    (at-inside xs c.args.parent place at)

pub returns-in_default-clause-child : goal.returns-in_default-clause-child
returns-in_default-clause-child c = λ child there lies.
    let pools : PoolCounts = c.self.inside.pools in
    let xs : List Sharer = c.self.inside.sharers.items in
    let absent : IsNowhere xs c.args.parent = place-none xs c.args.parent
    (ap (λ (s : List Sharer). place_in c.args.parent s) (sym c.deref.ensures.value)
    ∙ sym c.in_default.ensures) in
    let here = subst (λ (k : HugeKept). HugeLies k there) (sym c.self.view_is) lies in
    rw (nowhere-home xs there.homes c.args.parent here.homes absent) tt

pub returns-in-Ok-clause-child : goal.returns-in-Ok-clause-child
returns-in-Ok-clause-child c = λ child there lies.
    let pools : PoolCounts = c.self.inside.pools in
    let xs : List Sharer = c.self.inside.sharers.items in
    let at : IsAt xs c.args.parent c.in-Some.at = place-some xs c.args.parent c.in-Some.at
    (ap (λ (s : List Sharer). place_in c.args.parent s) (sym c.deref.ensures.value)
    ∙ sym c.in-Some.ensures) in
    let place : ℕ = c.in-Some.at in
    let d : Sharer = some-sharer xs place (at-inside xs c.args.parent place at) in
    let here = subst (λ (k : HugeKept). HugeLies k there) (sym c.self.view_is) lies in
    let has = at-home xs there.homes c.args.parent place d here.homes at in
    rw has.is (c.in-Ok.ensures.child child has.home
    (subst (λ (p : HugePages). LiesApart p has.home)
    (sym (c.at_place.ensures d ∙ ap (λ (s : List Sharer). (get_or s place d).pages.value)
    c.deref-2.ensures.value)) has.stands.pages))

pub returns-in-Ok-clause-made : goal.returns-in-Ok-clause-made
returns-in-Ok-clause-made c = (
  c.in-Ok.ensures.untouched,
  subst (λ (k : HugeKept). length k.sharers < 4096) c.self.view_is
      (omega (arith, c.if-len-ge-MAX_PROCESSES.false, c.len.ensures)),
)
