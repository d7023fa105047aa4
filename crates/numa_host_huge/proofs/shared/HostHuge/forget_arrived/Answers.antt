use Rattle.std.proofs.Common.{◌≤◌, ◌∙◌, ℕ, List, None, ap, refl, sym, subst}
use Rattle.numa_pools.specs.Pools.{PoolCounts}
use Rattle.numa_huge.specs.Moves.{HugeMemory}
use Rattle.numa_huge.specs.Tallies.{IsMemory}
use Rattle.numa_huge.specs.declared.pages.HugePages.{HugePages}
use Rattle.numa_host_huge.specs.Kept.{HugeKept, place_in}
use Rattle.numa_host_huge.specs.Sharing.{lent}
use Rattle.numa_host_huge.specs.Standing.{Changes}
use Rattle.numa_host_huge.specs.declared.sharer.Sharer.{Sharer}
use Rattle.numa_host_huge.proofs.Acted.{told-shared}
use Rattle.numa_host_huge.proofs.Given.{changes-nowhere, tells-at}
use Rattle.numa_host_huge.proofs.Places.{IsAt, IsNowhere, at-inside, place-none, place-some}
use Rattle.numa_host_huge.proofs.Places.{some-sharer}
use Rattle.numa_host_huge.proofs.shared.HostHuge.forget_arrived.Goals as goal

pub tell_arrived-requires : goal.tell_arrived-requires
tell_arrived-requires c =
    let pools : PoolCounts = c.self.inside.pools in
    let xs : List Sharer = c.self.inside.sharers.items in
    let at : IsAt xs c.args.process c.in-Some.place = place-some xs c.args.process c.in-Some.place
    (ap (λ (s : List Sharer). place_in c.args.process s) (sym c.deref.ensures.value)
    ∙ sym c.in-Some.ensures) in
    let place : ℕ = c.in-Some.place in
    let d : Sharer = some-sharer xs place (at-inside xs c.args.process place at) in
    at-inside xs c.args.process place at

pub invariant_of-self : goal.invariant_of-self
invariant_of-self c =
    let pools : PoolCounts = c.self.inside.pools in
    let xs : List Sharer = c.self.inside.sharers.items in
    let at : IsAt xs c.args.process c.in-Some.place = place-some xs c.args.process c.in-Some.place
    (ap (λ (s : List Sharer). place_in c.args.process s) (sym c.deref.ensures.value)
    ∙ sym c.in-Some.ensures) in
    let place : ℕ = c.in-Some.place in
    let d : Sharer = some-sharer xs place (at-inside xs c.args.process place at) in
    let ys : List Sharer = c.tell_arrived.new.sharers.items in (
      told-shared pools xs ys place d c.self.invariant.0 (at-inside xs c.args.process place at)
          c.tell_arrived.ensures.told.at
          (ap (λ (p : HugePages). p.places) (c.tell_arrived.ensures.told.pages d)),
      subst (λ n. 4096 ≤ n) (sym c.tell_arrived.ensures.room) c.self.invariant.1,
    )

pub returns-in_default : goal.returns-in_default
returns-in_default c =
    let pools : PoolCounts = c.self.inside.pools in
    let xs : List Sharer = c.self.inside.sharers.items in
    let absent : IsNowhere xs c.args.process = place-none xs c.args.process
    (ap (λ (s : List Sharer). place_in c.args.process s) (sym c.deref.ensures.value)
    ∙ sym c.in_default.ensures) in
    subst (λ (k : HugeKept). Changes c.args.process k k (λ (memory : HugeMemory). record memory {
      arrived = None;
    })) c.self.view_is
    (changes-nowhere (record { pools = pools; sharers = xs }) c.args.process
    (λ (memory : HugeMemory). record memory { arrived = None }) absent)

pub returns : goal.returns
returns c =
    let pools : PoolCounts = c.self.inside.pools in
    let xs : List Sharer = c.self.inside.sharers.items in
    let at : IsAt xs c.args.process c.in-Some.place = place-some xs c.args.process c.in-Some.place
    (ap (λ (s : List Sharer). place_in c.args.process s) (sym c.deref.ensures.value)
    ∙ sym c.in-Some.ensures) in
    let place : ℕ = c.in-Some.place in
    let d : Sharer = some-sharer xs place (at-inside xs c.args.process place at) in
    let ys : List Sharer = c.tell_arrived.new.sharers.items in
    let new : HugeKept = record { pools = pools; sharers = ys } in
    subst (λ (k : HugeKept). Changes c.args.process k new (λ (memory : HugeMemory). record memory
    { arrived = None }))
    c.self.view_is
    (tells-at pools xs ys c.args.process place d at c.tell_arrived.ensures.told.at
    (λ (memory : HugeMemory). record memory { arrived = None })
    (λ q home is. (
      is.pages.0,
      subst (λ (p : HugePages). IsMemory p (record {
        pages = (lent is.pages.0 home).pages;
        told = home.told;
        arrived = None;
      })) (sym (c.tell_arrived.ensures.told.pages d)) (record {
        pages = is.pages.1.pages;
        told = is.pages.1.told;
        arrived = tt;
      }),
    ))
    (λ q home. refl))
