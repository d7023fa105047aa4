use Rattle.std.proofs.Common.{◌≤◌, ◌∙◌, ℕ, List, ap, refl, sym, subst}
use Rattle.numa_pools.specs.Pools.{PoolCounts}
use Rattle.numa_page_state.specs.Huge.{huge_rested}
use Rattle.numa_host_huge.specs.Kept.{HugeKept, place_in}
use Rattle.numa_host_huge.specs.Sharing.{lent}
use Rattle.numa_host_huge.specs.Standing.{Changes}
use Rattle.numa_host_huge.specs.declared.sharer.Sharer.{Sharer}
use Rattle.numa_host_huge.proofs.Acted.{told-shared}
use Rattle.numa_host_huge.proofs.Given.{changes-nowhere, tells-at}
use Rattle.numa_host_huge.proofs.Places.{IsAt, IsNowhere, at-inside, place-none, place-some}
use Rattle.numa_host_huge.proofs.Places.{some-sharer}
use Rattle.numa_host_huge.proofs.shared.HostHuge.rest.Goals as goal

pub rest_at-requires : goal.rest_at-requires
rest_at-requires c =
    let pools : PoolCounts = c.self.inside.pools in
    let xs : List Sharer = c.self.inside.sharers.items in
    let at : IsAt xs c.args.process c.in-Some.place = place-some xs c.args.process c.in-Some.place
    (ap (λ (s : List Sharer). place_in c.args.process s) (sym c.deref.ensures.value)
    ∙ sym c.in-Some.ensures) in
    let place : ℕ = c.in-Some.place in
    let d : Sharer = some-sharer xs place (at-inside xs c.args.process place at) in
    at-inside xs c.args.process place at

pub invariant_of-self : goal.invariant_of-self
invariant_of-self c =
    let pools : PoolCounts = c.self.inside.pools in
    let xs : List Sharer = c.self.inside.sharers.items in
    let at : IsAt xs c.args.process c.in-Some.place = place-some xs c.args.process c.in-Some.place
    (ap (λ (s : List Sharer). place_in c.args.process s) (sym c.deref.ensures.value)
    ∙ sym c.in-Some.ensures) in
    let place : ℕ = c.in-Some.place in
    let d : Sharer = some-sharer xs place (at-inside xs c.args.process place at) in
    let ys : List Sharer = c.rest_at.new.sharers.items in (
      told-shared pools xs ys place d c.self.invariant.0 (at-inside xs c.args.process place at)
          c.rest_at.ensures.others (c.rest_at.ensures.places d),
      subst (λ n. 4096 ≤ n) (sym c.rest_at.ensures.room) c.self.invariant.1,
    )

pub returns-in_default : goal.returns-in_default
returns-in_default c =
    let pools : PoolCounts = c.self.inside.pools in
    let xs : List Sharer = c.self.inside.sharers.items in
    let absent : IsNowhere xs c.args.process = place-none xs c.args.process
    (ap (λ (s : List Sharer). place_in c.args.process s) (sym c.deref.ensures.value)
    ∙ sym c.in_default.ensures) in
    subst (λ (k : HugeKept). Changes c.args.process k k huge_rested) c.self.view_is
    (changes-nowhere (record { pools = pools; sharers = xs }) c.args.process huge_rested absent)

pub returns : goal.returns
returns c =
    let pools : PoolCounts = c.self.inside.pools in
    let xs : List Sharer = c.self.inside.sharers.items in
    let at : IsAt xs c.args.process c.in-Some.place = place-some xs c.args.process c.in-Some.place
    (ap (λ (s : List Sharer). place_in c.args.process s) (sym c.deref.ensures.value)
    ∙ sym c.in-Some.ensures) in
    let place : ℕ = c.in-Some.place in
    let d : Sharer = some-sharer xs place (at-inside xs c.args.process place at) in
    let ys : List Sharer = c.rest_at.new.sharers.items in
    let new : HugeKept = record { pools = pools; sharers = ys } in
    subst (λ (k : HugeKept). Changes c.args.process k new huge_rested) c.self.view_is
    (tells-at pools xs ys c.args.process place d at c.rest_at.ensures.others huge_rested
    (λ q home is. (is.pages.0, c.rest_at.ensures.rests d (lent is.pages.0 home) is.pages.1))
    (λ q home. refl))
