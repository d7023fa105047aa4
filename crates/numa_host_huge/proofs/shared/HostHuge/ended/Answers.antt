use Rattle.std.proofs.Common.{◌<◌, ◌≤◌, ◌∙◌, ℕ, List, None, length, get_or, ap, refl, sym, subst}
use Rattle.numa_pools.specs.Pools.{PoolCounts}
use Rattle.numa_huge.specs.Huge.{all_gone, places_of, with_span, most_pages}
use Rattle.numa_huge.specs.Kept.{ArePooled, Keeps}
use Rattle.numa_host_huge.specs.Kept.{AreShared, HugeKept, place_in, spots_of}
use Rattle.numa_host_huge.specs.Sharing.{lent, others_of}
use Rattle.numa_host_huge.specs.Standing.{AreHomes, HugeLies}
use Rattle.numa_host_huge.specs.declared.sharer.Sharer.{Sharer}
use Rattle.numa_host_huge.proofs.Changed.{homes-kept}
use Rattle.numa_host_huge.proofs.Ended.{at-changed, ended-shared, homes-without, removed-is}
use Rattle.numa_host_huge.proofs.Lent.{lent-home, lent-pools, lent-shared}
use Rattle.numa_host_huge.proofs.Made.{ended-none}
use Rattle.numa_host_huge.proofs.Places.{IsAt, IsNowhere, at-home, at-inside, nowhere-home}
use Rattle.numa_host_huge.proofs.Places.{place-none, place-some, some-sharer}
use Rattle.numa_host_huge.proofs.Prepared.{have-pages, lent-memory}
use Rattle.numa_host_huge.proofs.Sums.{others_at, pooled-at}
use Rattle.numa_host_huge.proofs.shared.HostHuge.ended.Goals as goal

pub lend_at-requires : goal.lend_at-requires
lend_at-requires c =
    let pools : PoolCounts = c.self.inside.pools in
    let xs : List Sharer = c.self.inside.sharers.items in
    let at : IsAt xs c.args.process c.in-Some.at = place-some xs c.args.process c.in-Some.at
    (ap (λ (s : List Sharer). place_in c.args.process s) (sym c.deref.ensures.value)
    ∙ sym c.in-Some.ensures) in
    let place : ℕ = c.in-Some.at in
    let d : Sharer = some-sharer xs place (at-inside xs c.args.process place at) in
    record {
      place = at-inside xs c.args.process place at;
      pools = λ e. have-pages pools xs c.args.process place e c.self.invariant.0 at;
    }

pub pools_without-self-inside-requires : goal.pools_without-self-inside-requires
pools_without-self-inside-requires c =
    let pools : PoolCounts = c.self.inside.pools in
    let xs : List Sharer = c.self.inside.sharers.items in
    let at : IsAt xs c.args.process c.in-Some.at = place-some xs c.args.process c.in-Some.at
    (ap (λ (s : List Sharer). place_in c.args.process s) (sym c.deref.ensures.value)
    ∙ sym c.in-Some.ensures) in
    let place : ℕ = c.in-Some.at in
    let d : Sharer = some-sharer xs place (at-inside xs c.args.process place at) in
    let ys : List Sharer = c.lend_at.new.sharers.items in
    let lends = c.lend_at.ensures.lent in
    subst (λ (s : List Sharer). place < length s) (sym c.deref-2.ensures.value)
    (subst (λ n. place < n) (sym lends.at.length) (at-inside xs c.args.process place at))

pub invariant_of-self : goal.invariant_of-self
invariant_of-self c =
    let pools : PoolCounts = c.self.inside.pools in
    let xs : List Sharer = c.self.inside.sharers.items in
    let at : IsAt xs c.args.process c.in-Some.at = place-some xs c.args.process c.in-Some.at
    (ap (λ (s : List Sharer). place_in c.args.process s) (sym c.deref.ensures.value)
    ∙ sym c.in-Some.ensures) in
    let place : ℕ = c.in-Some.at in
    let d : Sharer = some-sharer xs place (at-inside xs c.args.process place at) in
    let ys : List Sharer = c.lend_at.new.sharers.items in
    let lends = c.lend_at.ensures.lent in
    let after : PoolCounts = c.pools_without-self-inside.result in
    let inside : place < length ys = subst (λ n. place < n) (sym lends.at.length)
    (at-inside xs c.args.process place at) in
    let shared = lent-shared pools xs ys place d lends c.self.invariant.0
    (at-inside xs c.args.process place at) in
    let before : ArePooled (others_at ys place shared.few)
    (get_or ys place d).pages.value.places.pools (spots_of (get_or ys place d)) =
    subst (λ (p : PoolCounts). ArePooled (others_at ys place shared.few) p
    (spots_of (get_or ys place d))) (sym (lent-pools pools xs ys place d lends))
    (pooled-at pools ys place d shared inside) in
    let left = subst (λ (s : List Sharer). Keeps (places_of (get_or s place d).pages.value.places)
    (record { pools = after; spots = with_span 0 most_pages None (spots_of (get_or s place d)) }))
    c.deref-2.ensures.value (c.pools_without-self-inside.ensures.keeps d) in (
      subst (λ (s : List Sharer). AreShared after s)
          (sym (c.remove-gone.ensures.by_index.2 ∙ removed-is ys place))
          (ended-shared pools after ys place d shared inside
          (left (others_at ys place shared.few) before)),
      subst (λ n. 4096 ≤ n) (sym (c.remove-gone.ensures.capacity ∙ c.lend_at.ensures.room))
          c.self.invariant.1,
    )

pub returns-in_default : goal.returns-in_default
returns-in_default c = λ there lies.
    let pools : PoolCounts = c.self.inside.pools in
    let xs : List Sharer = c.self.inside.sharers.items in
    let absent : IsNowhere xs c.args.process = place-none xs c.args.process
    (ap (λ (s : List Sharer). place_in c.args.process s) (sym c.deref.ensures.value)
    ∙ sym c.in_default.ensures) in
    let here = subst (λ (k : HugeKept). HugeLies k there) (sym c.self.view_is) lies in
    ended-none c.args.self.now there c.args.process lies
    (nowhere-home xs there.homes c.args.process here.homes absent)

pub returns : goal.returns
returns c = λ there lies.
    let pools : PoolCounts = c.self.inside.pools in
    let xs : List Sharer = c.self.inside.sharers.items in
    let at : IsAt xs c.args.process c.in-Some.at = place-some xs c.args.process c.in-Some.at
    (ap (λ (s : List Sharer). place_in c.args.process s) (sym c.deref.ensures.value)
    ∙ sym c.in-Some.ensures) in
    let place : ℕ = c.in-Some.at in
    let d : Sharer = some-sharer xs place (at-inside xs c.args.process place at) in
    let ys : List Sharer = c.lend_at.new.sharers.items in
    let lends = c.lend_at.ensures.lent in
    let here = subst (λ (k : HugeKept). HugeLies k there) (sym c.self.view_is) lies in
    let has = at-home xs there.homes c.args.process place d here.homes at in
    let memory = lent-memory pools xs ys c.args.process place d at lends has.home has.stands in
    let homes = homes-without ys there.homes c.args.process place
    (homes-kept xs ys there.homes place d lends.at here.homes
    (lent-home pools xs ys place d lends))
    (at-changed xs ys c.args.process place d lends.at at) in
    record {
      pools = c.pools_without-self-inside.ensures.pools d
          ∙ ap (λ (s : List Sharer). all_gone (places_of (get_or s place d).pages.value.places))
          c.deref-2.ensures.value ∙ ap all_gone memory.pages
          ∙ ap (λ (p : PoolCounts). all_gone (lent p has.home).pages) here.pools
          ∙ rw has.is refl;
      homes = subst (λ (s : List Sharer). AreHomes s (others_of c.args.process there.homes))
          (sym (c.remove-gone.ensures.by_index.2 ∙ removed-is ys place)) homes;
    }
