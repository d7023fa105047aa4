use Rattle.std.proofs.Common.{◌<◌, ◌≤◌, ◌∙◌, ℕ, List, ap, sym, subst}
use Rattle.numa_pools.specs.Pools.{PoolCounts}
use Rattle.numa_huge.specs.Moves.{HugeMemory}
use Rattle.numa_huge.specs.Tallies.{IsMemory}
use Rattle.numa_huge.specs.declared.pages.HugePages.{HugePages}
use Rattle.numa_host_huge.specs.Kept.{AreShared, HugeKept, IsAfter, place_in}
use Rattle.numa_host_huge.specs.Sharing.{lent}
use Rattle.numa_host_huge.specs.Standing.{Changes}
use Rattle.numa_host_huge.specs.declared.sharer.Sharer.{Sharer}
use Rattle.numa_host_huge.proofs.Acted.{changed-both, settled-shared}
use Rattle.numa_host_huge.proofs.Given.{changes-at, changes-nowhere}
use Rattle.numa_host_huge.proofs.Places.{IsAt, IsNowhere, at-inside, place-none, place-some}
use Rattle.numa_host_huge.proofs.Places.{some-sharer}
use Rattle.numa_host_huge.proofs.shared.HostHuge.settle_sent.Goals as goal

pub settle_at-requires : goal.settle_at-requires
settle_at-requires c =
    let pools : PoolCounts = c.self.inside.pools in
    let xs : List Sharer = c.self.inside.sharers.items in
    let at : IsAt xs c.args.process c.in-Some.place = place-some xs c.args.process c.in-Some.place
    (ap (λ (s : List Sharer). place_in c.args.process s) (sym c.deref.ensures.value)
    ∙ sym c.in-Some.ensures) in
    let place : ℕ = c.in-Some.place in
    let d : Sharer = some-sharer xs place (at-inside xs c.args.process place at) in
    at-inside xs c.args.process place at

pub tell_sent-requires : goal.tell_sent-requires
tell_sent-requires c =
    let pools : PoolCounts = c.self.inside.pools in
    let xs : List Sharer = c.self.inside.sharers.items in
    let at : IsAt xs c.args.process c.in-Some.place = place-some xs c.args.process c.in-Some.place
    (ap (λ (s : List Sharer). place_in c.args.process s) (sym c.deref.ensures.value)
    ∙ sym c.in-Some.ensures) in
    let place : ℕ = c.in-Some.place in
    let d : Sharer = some-sharer xs place (at-inside xs c.args.process place at) in
    subst (λ n. place < n) (sym c.settle_at.ensures.settled.at.length)
    (at-inside xs c.args.process place at)

pub invariant_of-self : goal.invariant_of-self
invariant_of-self c =
    let pools : PoolCounts = c.self.inside.pools in
    let xs : List Sharer = c.self.inside.sharers.items in
    let at : IsAt xs c.args.process c.in-Some.place = place-some xs c.args.process c.in-Some.place
    (ap (λ (s : List Sharer). place_in c.args.process s) (sym c.deref.ensures.value)
    ∙ sym c.in-Some.ensures) in
    let place : ℕ = c.in-Some.place in
    let d : Sharer = some-sharer xs place (at-inside xs c.args.process place at) in
    let ys : List Sharer = c.settle_at.new.sharers.items in
    let zs : List Sharer = c.tell_sent.new.sharers.items in
    let keeps = subst (λ (k : HugeKept). IsAfter c.args.process k c.args.after)
    (sym c.self.view_is) c.requires.keeps in
    let both = changed-both place xs ys zs _ _ c.settle_at.ensures.settled
    c.tell_sent.ensures.told in (
      subst (λ (p : PoolCounts). AreShared p zs) (sym c.pools-pools.ensures)
          (settled-shared pools xs zs c.args.process place d c.args.after c.self.invariant.0 at
          keeps both.at (ap (λ (p : HugePages). p.places) (both.pages d))),
      subst (λ n. 4096 ≤ n) (sym (c.tell_sent.ensures.room ∙ c.settle_at.ensures.room))
          c.self.invariant.1,
    )

pub returns-in_default : goal.returns-in_default
returns-in_default c = λ walk went.
    let pools : PoolCounts = c.self.inside.pools in
    let xs : List Sharer = c.self.inside.sharers.items in
    let absent : IsNowhere xs c.args.process = place-none xs c.args.process
    (ap (λ (s : List Sharer). place_in c.args.process s) (sym c.deref.ensures.value)
    ∙ sym c.in_default.ensures) in
    subst (λ (k : HugeKept). Changes c.args.process k k (λ (memory : HugeMemory). record memory {
      pages = walk.huge;
      told = walk.told;
    })) c.self.view_is
    (changes-nowhere (record { pools = pools; sharers = xs }) c.args.process
    (λ (memory : HugeMemory). record memory { pages = walk.huge; told = walk.told }) absent)

pub returns : goal.returns
returns c = λ walk went.
    let pools : PoolCounts = c.self.inside.pools in
    let xs : List Sharer = c.self.inside.sharers.items in
    let at : IsAt xs c.args.process c.in-Some.place = place-some xs c.args.process c.in-Some.place
    (ap (λ (s : List Sharer). place_in c.args.process s) (sym c.deref.ensures.value)
    ∙ sym c.in-Some.ensures) in
    let place : ℕ = c.in-Some.place in
    let d : Sharer = some-sharer xs place (at-inside xs c.args.process place at) in
    let ys : List Sharer = c.settle_at.new.sharers.items in
    let zs : List Sharer = c.tell_sent.new.sharers.items in
    let both = changed-both place xs ys zs _ _ c.settle_at.ensures.settled
    c.tell_sent.ensures.told in
    let new : HugeKept = record { pools = c.pools-pools.result.now; sharers = zs } in
    subst (λ (k : HugeKept). Changes c.args.process k new
    (λ (memory : HugeMemory). record memory { pages = walk.huge; told = walk.told }))
    c.self.view_is
    (changes-at (record { pools = pools; sharers = xs }) new c.args.process place d at both.at
    (c.pools-pools.ensures
    ∙ sym (ap (λ (p : HugePages). p.places.pools) (both.pages d)))
    (λ (memory : HugeMemory). record memory { pages = walk.huge; told = walk.told })
    (λ home is. subst (λ (p : HugePages). IsMemory p ((λ (memory : HugeMemory). record memory {
      pages = walk.huge;
      told = walk.told;
    }) (lent pools home)))
    (sym (both.pages d)) (record {
      pages = went.pages;
      told = went.told;
      arrived = is.pages.1.arrived;
    })))
