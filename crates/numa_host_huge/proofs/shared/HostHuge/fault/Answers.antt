use Rattle.std.proofs.Common.{◌≡◌, ◌<◌, ◌≤◌, ◌∙◌, ℕ, true, List, Option, is_some, length, get_or}
use Rattle.std.proofs.Common.{ap, sym, subst}
use Rattle.numa_pools.specs.Pools.{PoolCounts}
use Rattle.numa_huge.specs.Huge.{HugeLying}
use Rattle.numa_huge.specs.Tallies.{IsMemory}
use Rattle.numa_huge.specs.declared.pages.HugePages.{HugePages}
use Rattle.numa_huge.specs.declared.spot.HugeSpot.{HugeSpot}
use Rattle.numa_page_state.specs.Huge.{huge_page, huge_fault}
use Rattle.numa_host_huge.specs.Kept.{HugeKept, place_in, spots_in}
use Rattle.numa_host_huge.specs.Sharing.{lent}
use Rattle.numa_host_huge.specs.Standing.{FaultsIn}
use Rattle.numa_host_huge.specs.declared.sharer.Sharer.{Sharer}
use Rattle.numa_host_huge.proofs.Acted.{acted-shared, changed-then}
use Rattle.numa_host_huge.proofs.Given.{faults-at}
use Rattle.numa_host_huge.proofs.Lent.{lent-spots}
use Rattle.numa_host_huge.proofs.Places.{IsAt, IsNowhere, at-inside, at-spots, nowhere-page}
use Rattle.numa_host_huge.proofs.Places.{place-none, place-some, some-sharer}
use Rattle.numa_host_huge.proofs.Prepared.{have-pages, lent-memory}
use Rattle.numa_host_huge.proofs.shared.HostHuge.fault.Goals as goal

pub unreachable-requires : goal.unreachable-requires
unreachable-requires c =
    let pools : PoolCounts = c.self.inside.pools in
    let xs : List Sharer = c.self.inside.sharers.items in
    let absent : IsNowhere xs c.args.process = place-none xs c.args.process
    (ap (λ (s : List Sharer). place_in c.args.process s) (sym c.deref.ensures.value)
    ∙ sym c.in_default.ensures) in
    nowhere-page xs c.args.process (huge_page c.args.address) absent
    (subst (λ (k : HugeKept). is_some (spots_in c.args.process k.sharers
    (huge_page c.args.address)) ≡ true) (sym c.self.view_is) c.requires)

pub lend_at-requires : goal.lend_at-requires
lend_at-requires c =
    let pools : PoolCounts = c.self.inside.pools in
    let xs : List Sharer = c.self.inside.sharers.items in
    let at : IsAt xs c.args.process c.in-Some.place = place-some xs c.args.process c.in-Some.place
    (ap (λ (s : List Sharer). place_in c.args.process s) (sym c.deref.ensures.value)
    ∙ sym c.in-Some.ensures) in
    let place : ℕ = c.in-Some.place in
    let d : Sharer = some-sharer xs place (at-inside xs c.args.process place at) in
    record {
      place = at-inside xs c.args.process place at;
      pools = λ e. have-pages pools xs c.args.process place e c.self.invariant.0 at;
    }

pub fault_at-given-requires : goal.fault_at-given-requires
fault_at-given-requires c =
    let pools : PoolCounts = c.self.inside.pools in
    let xs : List Sharer = c.self.inside.sharers.items in
    let at : IsAt xs c.args.process c.in-Some.place = place-some xs c.args.process c.in-Some.place
    (ap (λ (s : List Sharer). place_in c.args.process s) (sym c.deref.ensures.value)
    ∙ sym c.in-Some.ensures) in
    let place : ℕ = c.in-Some.place in
    let d : Sharer = some-sharer xs place (at-inside xs c.args.process place at) in
    let ys : List Sharer = c.lend_at.new.sharers.items in
    let lends = c.lend_at.ensures.lent in
    record {
      place = subst (λ n. place < n) (sym lends.at.length) (at-inside xs c.args.process place at);
      mapped = λ e. subst (λ (spots : ℕ → Option HugeSpot). is_some (spots
          (huge_page c.args.address)) ≡ true)
          (sym (lent-spots pools xs ys place e lends ∙ sym (at-spots xs c.args.process place e
          at)))
          (subst (λ (k : HugeKept). is_some (spots_in c.args.process k.sharers
          (huge_page c.args.address)) ≡ true) (sym c.self.view_is) c.requires);
    }

pub pools_at-self-inside-requires : goal.pools_at-self-inside-requires
pools_at-self-inside-requires c =
    let pools : PoolCounts = c.self.inside.pools in
    let xs : List Sharer = c.self.inside.sharers.items in
    let at : IsAt xs c.args.process c.in-Some.place = place-some xs c.args.process c.in-Some.place
    (ap (λ (s : List Sharer). place_in c.args.process s) (sym c.deref.ensures.value)
    ∙ sym c.in-Some.ensures) in
    let place : ℕ = c.in-Some.place in
    let d : Sharer = some-sharer xs place (at-inside xs c.args.process place at) in
    let ys : List Sharer = c.lend_at.new.sharers.items in
    let lends = c.lend_at.ensures.lent in
    let zs : List Sharer = c.fault_at-given.new.sharers.items in
    subst (λ (s : List Sharer). place < length s) (sym c.deref-2.ensures.value)
    (subst (λ n. place < n) (sym (c.fault_at-given.ensures.others.length ∙ lends.at.length))
    (at-inside xs c.args.process place at))

pub invariant_of-self : goal.invariant_of-self
invariant_of-self c =
    let pools : PoolCounts = c.self.inside.pools in
    let xs : List Sharer = c.self.inside.sharers.items in
    let at : IsAt xs c.args.process c.in-Some.place = place-some xs c.args.process c.in-Some.place
    (ap (λ (s : List Sharer). place_in c.args.process s) (sym c.deref.ensures.value)
    ∙ sym c.in-Some.ensures) in
    let place : ℕ = c.in-Some.place in
    let d : Sharer = some-sharer xs place (at-inside xs c.args.process place at) in
    let ys : List Sharer = c.lend_at.new.sharers.items in
    let lends = c.lend_at.ensures.lent in
    let zs : List Sharer = c.fault_at-given.new.sharers.items in (
      acted-shared pools c.pools_at-self-inside.result xs ys zs place d c.self.invariant.0
          (at-inside xs c.args.process place at) lends c.fault_at-given.ensures.others
          (c.fault_at-given.ensures.keeps d) (c.pools_at-self-inside.ensures d
          ∙ ap (λ (s : List Sharer). (get_or s place d).pages.value.places.pools)
          c.deref-2.ensures.value),
      subst (λ n. 4096 ≤ n) (sym (c.fault_at-given.ensures.room ∙ c.lend_at.ensures.room))
          c.self.invariant.1,
    )

pub returns : goal.returns
returns c =
    let pools : PoolCounts = c.self.inside.pools in
    let xs : List Sharer = c.self.inside.sharers.items in
    let at : IsAt xs c.args.process c.in-Some.place = place-some xs c.args.process c.in-Some.place
    (ap (λ (s : List Sharer). place_in c.args.process s) (sym c.deref.ensures.value)
    ∙ sym c.in-Some.ensures) in
    let place : ℕ = c.in-Some.place in
    let d : Sharer = some-sharer xs place (at-inside xs c.args.process place at) in
    let ys : List Sharer = c.lend_at.new.sharers.items in
    let lends = c.lend_at.ensures.lent in
    let zs : List Sharer = c.fault_at-given.new.sharers.items in
    let new : HugeKept = record { pools = c.pools_at-self-inside.result; sharers = zs } in
    let did = c.fault_at-given.ensures.faults d in
    subst (λ (k : HugeKept). FaultsIn c.args.process k c.fault_at-given.result new
    (huge_page c.args.address) c.args.nodes.now) c.self.view_is
    (faults-at (record { pools = pools; sharers = xs }) new c.args.process place d at
    (changed-then place xs ys zs lends.at c.fault_at-given.ensures.others)
    (c.pools_at-self-inside.ensures d
    ∙ ap (λ (s : List Sharer). (get_or s place d).pages.value.places.pools)
    c.deref-2.ensures.value) c.fault_at-given.result (huge_page c.args.address) c.args.nodes.now
    (λ home is.
    let memory = lent-memory pools xs ys c.args.process place d at lends home is in (
      did.0,
      subst (λ (l : HugeLying). (huge_fault did.0 (huge_page c.args.address) c.args.nodes.now l).0
          ≡ c.fault_at-given.result) memory.pages did.1,
      subst (λ (p : HugePages). IsMemory p (record (lent pools home) {
        pages = (huge_fault did.0 (huge_page c.args.address) c.args.nodes.now
            (lent pools home).pages).1;
      })) (sym (c.fault_at-given.ensures.same d)) (record {
        pages = sym did.2 ∙ ap (λ (l : HugeLying). (huge_fault did.0 (huge_page c.args.address)
            c.args.nodes.now l).1) memory.pages;
        told = memory.told;
        arrived = memory.arrived;
      }),
    )))
