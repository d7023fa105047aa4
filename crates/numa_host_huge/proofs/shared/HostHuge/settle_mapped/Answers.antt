use Rattle.std.proofs.Common.{◌≡◌, ◌<◌, ◌≤◌, ◌∙◌, ℕ, true, List, length, get_or, arith, ap, refl}
use Rattle.std.proofs.Common.{sym, subst}
use Rattle.numa_pools.specs.Pools.{PoolCounts}
use Rattle.numa_huge.specs.Huge.{HugePlaced, places_of}
use Rattle.numa_huge.specs.Moves.{HugeMemory}
use Rattle.numa_huge.specs.Tallies.{IsMemory}
use Rattle.numa_huge.specs.declared.pages.HugePages.{HugePages}
use Rattle.numa_host_huge.specs.Kept.{AreShared, HugeKept, IsAfter, has_place, place_in}
use Rattle.numa_host_huge.specs.Sharing.{lent}
use Rattle.numa_host_huge.specs.Standing.{Becomes}
use Rattle.numa_host_huge.specs.declared.sharer.Sharer.{Sharer}
use Rattle.numa_host_huge.proofs.Acted.{begun-shared, settled-shared}
use Rattle.numa_host_huge.proofs.Given.{becomes-at, becomes-behind}
use Rattle.numa_host_huge.proofs.Places.{IsAt, IsNowhere, at-inside, place-few, place-none}
use Rattle.numa_host_huge.proofs.Places.{place-some, some-sharer}
use Rattle.numa_host_huge.proofs.shared.HostHuge.settle_mapped.Goals as goal

pub settle_at-requires : goal.settle_at-requires
settle_at-requires c =
    let pools : PoolCounts = c.self.inside.pools in
    let xs : List Sharer = c.self.inside.sharers.items in
    let at : IsAt xs c.args.process c.in-Some.place = place-some xs c.args.process c.in-Some.place
    (ap (λ (s : List Sharer). place_in c.args.process s) (sym c.deref-2.ensures.value)
    ∙ sym c.in-Some.ensures) in
    let place : ℕ = c.in-Some.place in
    let d : Sharer = some-sharer xs place (at-inside xs c.args.process place at) in
    at-inside xs c.args.process place at

pub add-requires : goal.add-requires
add-requires c =
    let pools : PoolCounts = c.self.inside.pools in
    let xs : List Sharer = c.self.inside.sharers.items in
    let absent : IsNowhere xs c.args.process = place-none xs c.args.process
    (ap (λ (s : List Sharer). place_in c.args.process s) (sym c.deref-2.ensures.value)
    ∙ sym c.in_default.ensures) in
    let few : length xs < 4096 = place-few xs c.args.process absent
    (subst (λ (k : HugeKept). has_place c.args.process k.sharers ≡ true) (sym c.self.view_is)
    c.requires.can.place) in
    record { few = few; room = c.self.invariant.1 }

pub invariant_of-self-2 : goal.invariant_of-self-2
invariant_of-self-2 c =
    let pools : PoolCounts = c.self.inside.pools in
    let xs : List Sharer = c.self.inside.sharers.items in
    let at : IsAt xs c.args.process c.in-Some.place = place-some xs c.args.process c.in-Some.place
    (ap (λ (s : List Sharer). place_in c.args.process s) (sym c.deref-2.ensures.value)
    ∙ sym c.in-Some.ensures) in
    let place : ℕ = c.in-Some.place in
    let d : Sharer = some-sharer xs place (at-inside xs c.args.process place at) in
    let ys : List Sharer = c.settle_at.new.sharers.items in
    let keeps = subst (λ (k : HugeKept). IsAfter c.args.process k c.args.after.value.places)
    (sym c.self.view_is) c.requires.can.keeps in (
      subst (λ (p : PoolCounts). AreShared p ys) (sym (c.pools-pools.ensures
          ∙ ap (λ (p : HugePages). p.places.pools) c.deref.ensures))
          (settled-shared pools xs ys c.args.process place d c.args.after.value.places
          c.self.invariant.0 at keeps c.settle_at.ensures.settled.at
          (ap (λ (p : HugePages). p.places) (c.settle_at.ensures.settled.pages d)
          ∙ c.places_out.ensures)),
      subst (λ n. 4096 ≤ n) (sym c.settle_at.ensures.room) c.self.invariant.1,
    )

pub invariant_of-self : goal.invariant_of-self
invariant_of-self c =
    let pools : PoolCounts = c.self.inside.pools in
    let xs : List Sharer = c.self.inside.sharers.items in
    let absent : IsNowhere xs c.args.process = place-none xs c.args.process
    (ap (λ (s : List Sharer). place_in c.args.process s) (sym c.deref-2.ensures.value)
    ∙ sym c.in_default.ensures) in
    let few : length xs < 4096 = place-few xs c.args.process absent
    (subst (λ (k : HugeKept). has_place c.args.process k.sharers ≡ true) (sym c.self.view_is)
    c.requires.can.place) in
    let keeps = subst (λ (k : HugeKept). IsAfter c.args.process k c.args.after.value.places)
    (sym c.self.view_is) c.requires.can.keeps in
    let y : Sharer = record { id = c.args.process; pages = c.args.after } in (
      subst (λ (p : PoolCounts). AreShared p c.add.new.sharers.items) (sym (c.pools-pools.ensures
          ∙ ap (λ (p : HugePages). p.places.pools) c.deref.ensures))
          (subst (λ (s : List Sharer). AreShared c.args.after.value.places.pools s)
          (sym c.add.ensures.items) (begun-shared pools xs c.args.process y
          c.args.after.value.places c.self.invariant.0 absent few keeps refl)),
      omega (arith, c.self.invariant.1, c.add.ensures.room),
    )

pub returns : goal.returns
returns c =
    let pools : PoolCounts = c.self.inside.pools in
    let xs : List Sharer = c.self.inside.sharers.items in
    let at : IsAt xs c.args.process c.in-Some.place = place-some xs c.args.process c.in-Some.place
    (ap (λ (s : List Sharer). place_in c.args.process s) (sym c.deref-2.ensures.value)
    ∙ sym c.in-Some.ensures) in
    let place : ℕ = c.in-Some.place in
    let d : Sharer = some-sharer xs place (at-inside xs c.args.process place at) in
    let ys : List Sharer = c.settle_at.new.sharers.items in
    let new : HugeKept = record { pools = c.pools-pools.result.now; sharers = ys } in
    let same : (get_or ys place d).pages.value
    ≡ record ((get_or xs place d).pages.value) { places = c.args.after.value.places } =
    c.settle_at.ensures.settled.pages d
    ∙ ap (λ (p : HugePlaced). record ((get_or xs place d).pages.value) { places = p })
    c.places_out.ensures in
    subst (λ (k : HugeKept). Becomes c.args.process k new
    (λ (memory : HugeMemory). record memory { pages = places_of c.args.after.value.places }))
    c.self.view_is
    (becomes-at (record { pools = pools; sharers = xs }) new c.args.process place d at
    c.settle_at.ensures.settled.at
    (c.pools-pools.ensures ∙ ap (λ (p : HugePages). p.places.pools) c.deref.ensures
    ∙ sym (ap (λ (p : HugePages). p.places.pools) same))
    (λ (memory : HugeMemory). record memory { pages = places_of c.args.after.value.places })
    (λ home is. subst (λ (p : HugePages). IsMemory p (record (lent pools home) {
      pages = places_of c.args.after.value.places;
    })) (sym same) (record {
      pages = refl;
      told = is.pages.1.told;
      arrived = is.pages.1.arrived;
    })))

pub returns-in_default : goal.returns-in_default
returns-in_default c =
    let pools : PoolCounts = c.self.inside.pools in
    let xs : List Sharer = c.self.inside.sharers.items in
    let absent : IsNowhere xs c.args.process = place-none xs c.args.process
    (ap (λ (s : List Sharer). place_in c.args.process s) (sym c.deref-2.ensures.value)
    ∙ sym c.in_default.ensures) in
    let y : Sharer = record { id = c.args.process; pages = c.args.after } in
    let new : HugeKept = record {
      pools = c.pools-pools.result.now;
      sharers = c.add.new.sharers.items;
    } in
    subst (λ (k : HugeKept). Becomes c.args.process k new
    (λ (memory : HugeMemory). record memory { pages = places_of c.args.after.value.places }))
    c.self.view_is
    (becomes-behind (record { pools = pools; sharers = xs }) new c.args.process y
    (λ (memory : HugeMemory). record memory { pages = places_of c.args.after.value.places }) absent
    c.add.ensures.items
    (c.pools-pools.ensures ∙ ap (λ (p : HugePages). p.places.pools) c.deref.ensures) refl
    (λ p. c.requires.begins))
