use Rattle.std.proofs.Common.{◌≤◌, ◌∙◌, ℕ, List, ap, refl, sym, subst}
use Rattle.numa_pools.specs.Pools.{PoolCounts}
use Rattle.numa_huge.specs.Huge.{places_of}
use Rattle.numa_huge.specs.Moves.{HugeMemory}
use Rattle.numa_huge.specs.Tallies.{IsMemory}
use Rattle.numa_huge.specs.declared.pages.HugePages.{HugePages}
use Rattle.numa_host_huge.specs.Kept.{AreShared, HugeKept, IsAfter, place_in}
use Rattle.numa_host_huge.specs.Sharing.{lent}
use Rattle.numa_host_huge.specs.Standing.{Changes}
use Rattle.numa_host_huge.specs.declared.sharer.Sharer.{Sharer}
use Rattle.numa_host_huge.proofs.Acted.{settled-shared}
use Rattle.numa_host_huge.proofs.Given.{changes-at, changes-nowhere}
use Rattle.numa_host_huge.proofs.Places.{IsAt, IsNowhere, at-inside, place-none, place-some}
use Rattle.numa_host_huge.proofs.Places.{some-sharer}
use Rattle.numa_host_huge.proofs.shared.HostHuge.settle.Goals as goal

pub settle_at-requires : goal.settle_at-requires
settle_at-requires c =
    let pools : PoolCounts = c.self.inside.pools in
    let xs : List Sharer = c.self.inside.sharers.items in
    let at : IsAt xs c.args.process c.in-Some.place = place-some xs c.args.process c.in-Some.place
    (ap (λ (s : List Sharer). place_in c.args.process s) (sym c.deref.ensures.value)
    ∙ sym c.in-Some.ensures) in
    let place : ℕ = c.in-Some.place in
    let d : Sharer = some-sharer xs place (at-inside xs c.args.process place at) in
    at-inside xs c.args.process place at

pub invariant_of-self : goal.invariant_of-self
invariant_of-self c =
    let pools : PoolCounts = c.self.inside.pools in
    let xs : List Sharer = c.self.inside.sharers.items in
    let at : IsAt xs c.args.process c.in-Some.place = place-some xs c.args.process c.in-Some.place
    (ap (λ (s : List Sharer). place_in c.args.process s) (sym c.deref.ensures.value)
    ∙ sym c.in-Some.ensures) in
    let place : ℕ = c.in-Some.place in
    let d : Sharer = some-sharer xs place (at-inside xs c.args.process place at) in
    let ys : List Sharer = c.settle_at.new.sharers.items in
    let keeps = subst (λ (k : HugeKept). IsAfter c.args.process k c.args.after)
    (sym c.self.view_is) c.requires.keeps in (
      subst (λ (p : PoolCounts). AreShared p ys) (sym c.pools-pools.ensures)
          (settled-shared pools xs ys c.args.process place d c.args.after c.self.invariant.0 at
          keeps c.settle_at.ensures.settled.at
          (ap (λ (p : HugePages). p.places) (c.settle_at.ensures.settled.pages d))),
      subst (λ n. 4096 ≤ n) (sym c.settle_at.ensures.room) c.self.invariant.1,
    )

pub returns-in_default : goal.returns-in_default
returns-in_default c =
    let pools : PoolCounts = c.self.inside.pools in
    let xs : List Sharer = c.self.inside.sharers.items in
    let absent : IsNowhere xs c.args.process = place-none xs c.args.process
    (ap (λ (s : List Sharer). place_in c.args.process s) (sym c.deref.ensures.value)
    ∙ sym c.in_default.ensures) in
    subst (λ (k : HugeKept). Changes c.args.process k k (λ (memory : HugeMemory). record memory {
      pages = places_of c.args.after;
    })) c.self.view_is
    (changes-nowhere (record { pools = pools; sharers = xs }) c.args.process
    (λ (memory : HugeMemory). record memory { pages = places_of c.args.after }) absent)

pub returns : goal.returns
returns c =
    let pools : PoolCounts = c.self.inside.pools in
    let xs : List Sharer = c.self.inside.sharers.items in
    let at : IsAt xs c.args.process c.in-Some.place = place-some xs c.args.process c.in-Some.place
    (ap (λ (s : List Sharer). place_in c.args.process s) (sym c.deref.ensures.value)
    ∙ sym c.in-Some.ensures) in
    let place : ℕ = c.in-Some.place in
    let d : Sharer = some-sharer xs place (at-inside xs c.args.process place at) in
    let ys : List Sharer = c.settle_at.new.sharers.items in
    let new : HugeKept = record { pools = c.pools-pools.result.now; sharers = ys } in
    subst (λ (k : HugeKept). Changes c.args.process k new
    (λ (memory : HugeMemory). record memory { pages = places_of c.args.after })) c.self.view_is
    (changes-at (record { pools = pools; sharers = xs }) new c.args.process place d at
    c.settle_at.ensures.settled.at
    (c.pools-pools.ensures
    ∙ sym (ap (λ (p : HugePages). p.places.pools) (c.settle_at.ensures.settled.pages d)))
    (λ (memory : HugeMemory). record memory { pages = places_of c.args.after }) (λ home is.
    subst (λ (p : HugePages). IsMemory p (record (lent pools home) {
      pages = places_of c.args.after;
    })) (sym (c.settle_at.ensures.settled.pages d)) (record {
      pages = refl;
      told = is.pages.1.told;
      arrived = is.pages.1.arrived;
    })))
