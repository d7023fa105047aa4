use Rattle.std.proofs.Common.{◌≡◌, ◌<◌, ◌≤◌, ◌∙◌, ℕ, true, List, Option, None, Some, IfOk, IfErr}
use Rattle.std.proofs.Common.{length, get_or, ap, refl, sym, subst}
use Rattle.numa_pools.specs.Pools.{PoolCounts, unreserved}
use Rattle.numa_huge.specs.Huge.{HugeLying, HugePlaced, fits, fresh_spot, mapping, places_of}
use Rattle.numa_huge.specs.Huge.{with_span}
use Rattle.numa_huge.specs.Kept.{Keeps}
use Rattle.numa_huge.specs.Tallies.{IsLackFor}
use Rattle.numa_huge.specs.declared.spot.HugeSpot.{HugeSpot}
use Rattle.numa_host_huge.specs.Kept.{HugeKept, has_place, lying_of, place_in, spots_in, spots_of}
use Rattle.numa_host_huge.specs.Standing.{IsSame}
use Rattle.numa_host_huge.specs.declared.sharer.Sharer.{Sharer}
use Rattle.numa_host_huge.proofs.Boxed.{IfOk-both, boxed-err, boxed-ok}
use Rattle.numa_host_huge.proofs.Lent.{lent-pools, lent-same, lent-shared, lent-spots}
use Rattle.numa_host_huge.proofs.Places.{IsAt, IsNowhere, at-inside, at-spots, nowhere-spots}
use Rattle.numa_host_huge.proofs.Places.{place-none, place-some, some-sharer}
use Rattle.numa_host_huge.proofs.Prepared.{can-be, have-pages, lying-old}
use Rattle.numa_host_huge.proofs.Sums.{all_of, pooled-all}
use Rattle.numa_host_huge.proofs.shared.HostHuge.mapped.Goals as goal

pub returns-then-not-has_place-clause-err : goal.returns-then-not-has_place-clause-err
returns-then-not-has_place-clause-err c = (true, refl)

pub lent-places-requires : goal.lent-places-requires
lent-places-requires c =
    let pools : PoolCounts = c.self.inside.pools in
    let xs : List Sharer = c.self.inside.sharers.items in
    (all_of xs c.self.invariant.0.few, pooled-all pools xs c.self.invariant.0)

pub mapped-requires : goal.mapped-requires
mapped-requires c =
    let pools : PoolCounts = c.self.inside.pools in
    let xs : List Sharer = c.self.inside.sharers.items in
    let absent : IsNowhere xs c.args.process = place-none xs c.args.process
    (ap (λ (s : List Sharer). place_in c.args.process s) (sym c.deref-2.ensures.value)
    ∙ sym c.in_default.ensures) in
    let none : spots_in c.args.process xs ≡ (λ page. None) = nowhere-spots xs c.args.process
    absent in
    let is : places_of c.lent-places.result ≡ lying_of c.args.process c.args.self.now =
    c.lent-places.ensures ∙ (λ i. record { pools = pools; spots = sym none i })
    ∙ ap (λ (k : HugeKept). lying_of c.args.process k) c.self.view_is in
    record {
      fits = subst (λ (l : HugeLying). fits l.spots c.args.first c.args.pages ≡ true) (sym is)
          c.requires.fits;
      room = λ asked. subst (λ (l : HugeLying). c.args.pages ≤ unreserved l.pools) (sym is)
          (c.requires.room asked);
    }

pub returns-in_default-clause-ok : goal.returns-in_default-clause-ok
returns-in_default-clause-ok c =
    let pools : PoolCounts = c.self.inside.pools in
    let xs : List Sharer = c.self.inside.sharers.items in
    let absent : IsNowhere xs c.args.process = place-none xs c.args.process
    (ap (λ (s : List Sharer). place_in c.args.process s) (sym c.deref-2.ensures.value)
    ∙ sym c.in_default.ensures) in
    let none : spots_in c.args.process xs ≡ (λ page. None) = nowhere-spots xs c.args.process
    absent in
    let is : places_of c.lent-places.result ≡ lying_of c.args.process c.args.self.now =
    c.lent-places.ensures ∙ (λ i. record { pools = pools; spots = sym none i })
    ∙ ap (λ (k : HugeKept). lying_of c.args.process k) c.self.view_is in
    boxed-ok c.boxed_if.result c.mapped.result (λ (p : HugePlaced). places_of p
    ≡ mapping c.args.first c.args.pages c.args.reserves (lying_of c.args.process c.args.self.now))
    c.boxed_if.ensures.ok
    (subst (λ (l : HugeLying). IfOk c.mapped.result (λ after. places_of after
    ≡ mapping c.args.first c.args.pages c.args.reserves l)) is c.mapped.ensures.ok)

pub returns-in_default-clause-can : goal.returns-in_default-clause-can
returns-in_default-clause-can c =
    let pools : PoolCounts = c.self.inside.pools in
    let xs : List Sharer = c.self.inside.sharers.items in
    let absent : IsNowhere xs c.args.process = place-none xs c.args.process
    (ap (λ (s : List Sharer). place_in c.args.process s) (sym c.deref-2.ensures.value)
    ∙ sym c.in_default.ensures) in
    let none : spots_in c.args.process xs ≡ (λ page. None) = nowhere-spots xs c.args.process
    absent in
    let is : places_of c.lent-places.result ≡ lying_of c.args.process c.args.self.now =
    c.lent-places.ensures ∙ (λ i. record { pools = pools; spots = sym none i })
    ∙ ap (λ (k : HugeKept). lying_of c.args.process k) c.self.view_is in
    let few = (ap (λ (s : List Sharer). has_place c.args.process s) (sym c.deref.ensures.value)
    ∙ sym c.has_place.ensures ∙ c.if-not-has_place.false) in
    let keeps = boxed-ok c.boxed_if.result c.mapped.result
    (λ (p : HugePlaced). Keeps (lying_of c.args.process c.args.self.now) (places_of p))
    c.boxed_if.ensures.ok
    (subst (λ (l : HugeLying). IfOk c.mapped.result (λ after. Keeps l (places_of after))) is
    c.mapped.ensures.keeps) in
    let place : has_place c.args.process c.args.self.now.sharers ≡ true =
    subst (λ (k : HugeKept). has_place c.args.process k.sharers ≡ true) c.self.view_is few in
    IfOk-both c.boxed_if.result _ _ _ (λ after kept begins. record {
      can = record { keeps = kept; place = place };
      begins = begins;
    }) keeps c.boxed_if.ensures.begins

pub returns-in_default-clause-err : goal.returns-in_default-clause-err
returns-in_default-clause-err c =
    let pools : PoolCounts = c.self.inside.pools in
    let xs : List Sharer = c.self.inside.sharers.items in
    let absent : IsNowhere xs c.args.process = place-none xs c.args.process
    (ap (λ (s : List Sharer). place_in c.args.process s) (sym c.deref-2.ensures.value)
    ∙ sym c.in_default.ensures) in
    let none : spots_in c.args.process xs ≡ (λ page. None) = nowhere-spots xs c.args.process
    absent in
    let is : places_of c.lent-places.result ≡ lying_of c.args.process c.args.self.now =
    c.lent-places.ensures ∙ (λ i. record { pools = pools; spots = sym none i })
    ∙ ap (λ (k : HugeKept). lying_of c.args.process k) c.self.view_is in
    boxed-err c.boxed_if.result c.mapped.result
    (IsLackFor (with_span c.args.first c.args.pages (Some (fresh_spot c.args.reserves))
    (spots_in c.args.process c.args.self.now.sharers))) (true, refl) c.boxed_if.ensures.err
    (subst (λ (l : HugeLying). IfErr c.mapped.result (IsLackFor
    (with_span c.args.first c.args.pages (Some (fresh_spot c.args.reserves)) l.spots))) is
    c.mapped.ensures.err)

pub lend_at-requires : goal.lend_at-requires
lend_at-requires c =
    let pools : PoolCounts = c.self.inside.pools in
    let xs : List Sharer = c.self.inside.sharers.items in
    let at : IsAt xs c.args.process c.in-Some.place = place-some xs c.args.process c.in-Some.place
    (ap (λ (s : List Sharer). place_in c.args.process s) (sym c.deref-2.ensures.value)
    ∙ sym c.in-Some.ensures) in
    let place : ℕ = c.in-Some.place in
    let d : Sharer = some-sharer xs place (at-inside xs c.args.process place at) in
    record {
      place = at-inside xs c.args.process place at;
      pools = λ e. have-pages pools xs c.args.process place e c.self.invariant.0 at;
    }

pub mapped_at-requires : goal.mapped_at-requires
mapped_at-requires c =
    let pools : PoolCounts = c.self.inside.pools in
    let xs : List Sharer = c.self.inside.sharers.items in
    let at : IsAt xs c.args.process c.in-Some.place = place-some xs c.args.process c.in-Some.place
    (ap (λ (s : List Sharer). place_in c.args.process s) (sym c.deref-2.ensures.value)
    ∙ sym c.in-Some.ensures) in
    let place : ℕ = c.in-Some.place in
    let d : Sharer = some-sharer xs place (at-inside xs c.args.process place at) in
    let ys : List Sharer = c.lend_at.new.sharers.items in
    let lends = c.lend_at.ensures.lent in
    let was : (e : Sharer) → spots_in c.args.process xs ≡ spots_of (get_or ys place e) =
    λ e. at-spots xs c.args.process place e at ∙ sym (lent-spots pools xs ys place e lends) in
    record {
      place = subst (λ (s : List Sharer). place < length s) (sym c.deref-3.ensures.value)
          (subst (λ n. place < n) (sym lends.at.length) (at-inside xs c.args.process place at));
      fits = λ e. subst (λ (s : List Sharer). fits (spots_of (get_or s place e)) c.args.first
          c.args.pages ≡ true) (sym c.deref-3.ensures.value)
          (subst (λ (spots : ℕ → Option HugeSpot). fits spots c.args.first c.args.pages ≡ true)
          (was e) (subst (λ (k : HugeKept). fits (spots_in c.args.process k.sharers) c.args.first
          c.args.pages
          ≡ true) (sym c.self.view_is) c.requires.fits));
      room = λ e asked. subst (λ (s : List Sharer). c.args.pages
          ≤ unreserved (get_or s place e).pages.value.places.pools) (sym c.deref-3.ensures.value)
          (subst (λ (p : PoolCounts). c.args.pages ≤ unreserved p)
          (sym (lent-pools pools xs ys place e lends)) (subst (λ (k : HugeKept). c.args.pages ≤
          unreserved k.pools) (sym c.self.view_is)
          (c.requires.room asked)));
    }

pub invariant_of-self : goal.invariant_of-self
invariant_of-self c =
    let pools : PoolCounts = c.self.inside.pools in
    let xs : List Sharer = c.self.inside.sharers.items in
    let at : IsAt xs c.args.process c.in-Some.place = place-some xs c.args.process c.in-Some.place
    (ap (λ (s : List Sharer). place_in c.args.process s) (sym c.deref-2.ensures.value)
    ∙ sym c.in-Some.ensures) in
    let place : ℕ = c.in-Some.place in
    let d : Sharer = some-sharer xs place (at-inside xs c.args.process place at) in
    let ys : List Sharer = c.lend_at.new.sharers.items in
    let lends = c.lend_at.ensures.lent in (
      lent-shared pools xs ys place d lends c.self.invariant.0
          (at-inside xs c.args.process place at),
      subst (λ n. 4096 ≤ n) (sym c.lend_at.ensures.room) c.self.invariant.1,
    )

pub returns-clause-ok : goal.returns-clause-ok
returns-clause-ok c =
    let pools : PoolCounts = c.self.inside.pools in
    let xs : List Sharer = c.self.inside.sharers.items in
    let at : IsAt xs c.args.process c.in-Some.place = place-some xs c.args.process c.in-Some.place
    (ap (λ (s : List Sharer). place_in c.args.process s) (sym c.deref-2.ensures.value)
    ∙ sym c.in-Some.ensures) in
    let place : ℕ = c.in-Some.place in
    let d : Sharer = some-sharer xs place (at-inside xs c.args.process place at) in
    let ys : List Sharer = c.lend_at.new.sharers.items in
    let lends = c.lend_at.ensures.lent in
    let read : places_of (get_or c.deref-3.result.now place d).pages.value.places
    ≡ places_of (get_or ys place d).pages.value.places =
    ap (λ (s : List Sharer). places_of (get_or s place d).pages.value.places)
    c.deref-3.ensures.value in
    let is = read ∙ lying-old pools xs ys c.args.process place d at lends
    ∙ ap (λ (k : HugeKept). lying_of c.args.process k) c.self.view_is in
    boxed-ok c.boxed_if-2.result c.mapped_at.result (λ (p : HugePlaced). places_of p
    ≡ mapping c.args.first c.args.pages c.args.reserves (lying_of c.args.process c.args.self.now))
    c.boxed_if-2.ensures.ok
    (subst (λ (l : HugeLying). IfOk c.mapped_at.result (λ after. places_of after
    ≡ mapping c.args.first c.args.pages c.args.reserves l)) is (c.mapped_at.ensures.ok d))

pub returns-clause-can : goal.returns-clause-can
returns-clause-can c =
    let pools : PoolCounts = c.self.inside.pools in
    let xs : List Sharer = c.self.inside.sharers.items in
    let at : IsAt xs c.args.process c.in-Some.place = place-some xs c.args.process c.in-Some.place
    (ap (λ (s : List Sharer). place_in c.args.process s) (sym c.deref-2.ensures.value)
    ∙ sym c.in-Some.ensures) in
    let place : ℕ = c.in-Some.place in
    let d : Sharer = some-sharer xs place (at-inside xs c.args.process place at) in
    let ys : List Sharer = c.lend_at.new.sharers.items in
    let lends = c.lend_at.ensures.lent in
    let read : places_of (get_or c.deref-3.result.now place d).pages.value.places
    ≡ places_of (get_or ys place d).pages.value.places =
    ap (λ (s : List Sharer). places_of (get_or s place d).pages.value.places)
    c.deref-3.ensures.value in
    let keeps = boxed-ok c.boxed_if-2.result c.mapped_at.result
    (λ (p : HugePlaced). Keeps (places_of (get_or ys place d).pages.value.places) (places_of p))
    c.boxed_if-2.ensures.ok
    (subst (λ (l : HugeLying). IfOk c.mapped_at.result (λ after. Keeps l (places_of after))) read
    (c.mapped_at.ensures.keeps d)) in
    IfOk-both c.boxed_if-2.result _ _ _ (λ after kept begins. record {
      can = can-be pools xs ys c.args.process place d at lends after.value.places kept;
      begins = begins;
    }) keeps c.boxed_if-2.ensures.begins

pub returns-clause-err : goal.returns-clause-err
returns-clause-err c =
    let pools : PoolCounts = c.self.inside.pools in
    let xs : List Sharer = c.self.inside.sharers.items in
    let at : IsAt xs c.args.process c.in-Some.place = place-some xs c.args.process c.in-Some.place
    (ap (λ (s : List Sharer). place_in c.args.process s) (sym c.deref-2.ensures.value)
    ∙ sym c.in-Some.ensures) in
    let place : ℕ = c.in-Some.place in
    let d : Sharer = some-sharer xs place (at-inside xs c.args.process place at) in
    let ys : List Sharer = c.lend_at.new.sharers.items in
    let lends = c.lend_at.ensures.lent in
    let read : places_of (get_or c.deref-3.result.now place d).pages.value.places
    ≡ places_of (get_or ys place d).pages.value.places =
    ap (λ (s : List Sharer). places_of (get_or s place d).pages.value.places)
    c.deref-3.ensures.value in
    let is = read ∙ lying-old pools xs ys c.args.process place d at lends
    ∙ ap (λ (k : HugeKept). lying_of c.args.process k) c.self.view_is in
    boxed-err c.boxed_if-2.result c.mapped_at.result
    (IsLackFor (with_span c.args.first c.args.pages (Some (fresh_spot c.args.reserves))
    (spots_in c.args.process c.args.self.now.sharers))) (true, refl) c.boxed_if-2.ensures.err
    (subst (λ (l : HugeLying). IfErr c.mapped_at.result (IsLackFor
    (with_span c.args.first c.args.pages (Some (fresh_spot c.args.reserves)) l.spots))) is
    (c.mapped_at.ensures.err d))

pub returns-clause-same : goal.returns-clause-same
returns-clause-same c =
    let pools : PoolCounts = c.self.inside.pools in
    let xs : List Sharer = c.self.inside.sharers.items in
    let at : IsAt xs c.args.process c.in-Some.place = place-some xs c.args.process c.in-Some.place
    (ap (λ (s : List Sharer). place_in c.args.process s) (sym c.deref-2.ensures.value)
    ∙ sym c.in-Some.ensures) in
    let place : ℕ = c.in-Some.place in
    let d : Sharer = some-sharer xs place (at-inside xs c.args.process place at) in
    let ys : List Sharer = c.lend_at.new.sharers.items in
    let lends = c.lend_at.ensures.lent in
    subst (λ (k : HugeKept). IsSame k (record { pools = pools; sharers = ys })) c.self.view_is
    (lent-same (record { pools = pools; sharers = xs }) ys place
    (at-inside xs c.args.process place at) lends)

pub returns-clause-pools : goal.returns-clause-pools
returns-clause-pools c = ap (λ (k : HugeKept). k.pools) c.self.view_is
