use Rattle.std.proofs.Common.{◌<◌, ◌≤◌, ◌∙◌, ℕ, List, length, get_or, ap, sym, subst}
use Rattle.numa_pools.specs.Pools.{PoolCounts}
use Rattle.numa_page_state.specs.Huge.{huge_followed}
use Rattle.numa_host_huge.specs.Kept.{HugeKept, place_in}
use Rattle.numa_host_huge.specs.Sharing.{lent}
use Rattle.numa_host_huge.specs.Standing.{Changes}
use Rattle.numa_host_huge.specs.declared.sharer.Sharer.{Sharer}
use Rattle.numa_host_huge.proofs.Acted.{acted-shared, changed-then}
use Rattle.numa_host_huge.proofs.Given.{changes-at, changes-nowhere}
use Rattle.numa_host_huge.proofs.Places.{IsAt, IsNowhere, at-inside, place-none, place-some}
use Rattle.numa_host_huge.proofs.Places.{some-sharer}
use Rattle.numa_host_huge.proofs.Prepared.{have-pages, lent-memory}
use Rattle.numa_host_huge.proofs.shared.HostHuge.follow.Goals as goal

pub lend_at-requires : goal.lend_at-requires
lend_at-requires c =
    let pools : PoolCounts = c.self.inside.pools in
    let xs : List Sharer = c.self.inside.sharers.items in
    let at : IsAt xs c.args.process c.in-Some.place = place-some xs c.args.process c.in-Some.place
    (ap (λ (s : List Sharer). place_in c.args.process s) (sym c.deref.ensures.value)
    ∙ sym c.in-Some.ensures) in
    let place : ℕ = c.in-Some.place in
    let d : Sharer = some-sharer xs place (at-inside xs c.args.process place at) in
    record {
      place = at-inside xs c.args.process place at;
      pools = λ e. have-pages pools xs c.args.process place e c.self.invariant.0 at;
    }

pub follow_at-requires : goal.follow_at-requires
follow_at-requires c =
    let pools : PoolCounts = c.self.inside.pools in
    let xs : List Sharer = c.self.inside.sharers.items in
    let at : IsAt xs c.args.process c.in-Some.place = place-some xs c.args.process c.in-Some.place
    (ap (λ (s : List Sharer). place_in c.args.process s) (sym c.deref.ensures.value)
    ∙ sym c.in-Some.ensures) in
    let place : ℕ = c.in-Some.place in
    let d : Sharer = some-sharer xs place (at-inside xs c.args.process place at) in
    let ys : List Sharer = c.lend_at.new.sharers.items in
    let lends = c.lend_at.ensures.lent in
    subst (λ n. place < n) (sym lends.at.length) (at-inside xs c.args.process place at)

pub pools_at-self-inside-requires : goal.pools_at-self-inside-requires
pools_at-self-inside-requires c =
    let pools : PoolCounts = c.self.inside.pools in
    let xs : List Sharer = c.self.inside.sharers.items in
    let at : IsAt xs c.args.process c.in-Some.place = place-some xs c.args.process c.in-Some.place
    (ap (λ (s : List Sharer). place_in c.args.process s) (sym c.deref.ensures.value)
    ∙ sym c.in-Some.ensures) in
    let place : ℕ = c.in-Some.place in
    let d : Sharer = some-sharer xs place (at-inside xs c.args.process place at) in
    let ys : List Sharer = c.lend_at.new.sharers.items in
    let lends = c.lend_at.ensures.lent in
    let zs : List Sharer = c.follow_at.new.sharers.items in
    subst (λ (s : List Sharer). place < length s) (sym c.deref-2.ensures.value)
    (subst (λ n. place < n) (sym (c.follow_at.ensures.others.length ∙ lends.at.length))
    (at-inside xs c.args.process place at))

pub invariant_of-self : goal.invariant_of-self
invariant_of-self c =
    let pools : PoolCounts = c.self.inside.pools in
    let xs : List Sharer = c.self.inside.sharers.items in
    let at : IsAt xs c.args.process c.in-Some.place = place-some xs c.args.process c.in-Some.place
    (ap (λ (s : List Sharer). place_in c.args.process s) (sym c.deref.ensures.value)
    ∙ sym c.in-Some.ensures) in
    let place : ℕ = c.in-Some.place in
    let d : Sharer = some-sharer xs place (at-inside xs c.args.process place at) in
    let ys : List Sharer = c.lend_at.new.sharers.items in
    let lends = c.lend_at.ensures.lent in
    let zs : List Sharer = c.follow_at.new.sharers.items in (
      acted-shared pools c.pools_at-self-inside.result xs ys zs place d c.self.invariant.0
          (at-inside xs c.args.process place at) lends c.follow_at.ensures.others
          (c.follow_at.ensures.keeps d) (c.pools_at-self-inside.ensures d
          ∙ ap (λ (s : List Sharer). (get_or s place d).pages.value.places.pools)
          c.deref-2.ensures.value),
      subst (λ n. 4096 ≤ n) (sym (c.follow_at.ensures.room ∙ c.lend_at.ensures.room))
          c.self.invariant.1,
    )

pub returns-in_default : goal.returns-in_default
returns-in_default c =
    let pools : PoolCounts = c.self.inside.pools in
    let xs : List Sharer = c.self.inside.sharers.items in
    let absent : IsNowhere xs c.args.process = place-none xs c.args.process
    (ap (λ (s : List Sharer). place_in c.args.process s) (sym c.deref.ensures.value)
    ∙ sym c.in_default.ensures) in
    subst (λ (k : HugeKept). Changes c.args.process k k
    (huge_followed c.args.follows c.args.old.now c.args.new.now)) c.self.view_is
    (changes-nowhere (record { pools = pools; sharers = xs }) c.args.process
    (huge_followed c.args.follows c.args.old.now c.args.new.now) absent)

pub returns : goal.returns
returns c =
    let pools : PoolCounts = c.self.inside.pools in
    let xs : List Sharer = c.self.inside.sharers.items in
    let at : IsAt xs c.args.process c.in-Some.place = place-some xs c.args.process c.in-Some.place
    (ap (λ (s : List Sharer). place_in c.args.process s) (sym c.deref.ensures.value)
    ∙ sym c.in-Some.ensures) in
    let place : ℕ = c.in-Some.place in
    let d : Sharer = some-sharer xs place (at-inside xs c.args.process place at) in
    let ys : List Sharer = c.lend_at.new.sharers.items in
    let lends = c.lend_at.ensures.lent in
    let zs : List Sharer = c.follow_at.new.sharers.items in
    let new : HugeKept = record { pools = c.pools_at-self-inside.result; sharers = zs } in
    subst (λ (k : HugeKept). Changes c.args.process k new
    (huge_followed c.args.follows c.args.old.now c.args.new.now))
    c.self.view_is (changes-at (record { pools = pools; sharers = xs }) new c.args.process place d
    at
    (changed-then place xs ys zs lends.at c.follow_at.ensures.others)
    (c.pools_at-self-inside.ensures d
    ∙ ap (λ (s : List Sharer). (get_or s place d).pages.value.places.pools)
    c.deref-2.ensures.value) (huge_followed c.args.follows c.args.old.now c.args.new.now)
    (λ home is. c.follow_at.ensures.follows d (lent pools home)
    (lent-memory pools xs ys c.args.process place d at lends home is)))
