use Rattle.std.proofs.Common.{◌≡◌, ◌<◌, ◌≤◌, ◌∙◌, ℕ, true, List, length, get_or, ap, sym, subst}
use Rattle.std.proofs.lemmas.Result.{IfOk-weaker}
use Rattle.numa_space.specs.History.{page_count, page_of}
use Rattle.numa_pools.specs.Pools.{PoolCounts}
use Rattle.numa_huge.specs.Huge.{HugeLying, has_huge, places_of}
use Rattle.numa_huge.specs.Kept.{Keeps}
use Rattle.numa_page_state.specs.Huge.{huge_count, huge_first}
use Rattle.numa_host_huge.specs.Kept.{HugeKept, lying_of, place_in, spots_in}
use Rattle.numa_host_huge.specs.Standing.{IsSame}
use Rattle.numa_host_huge.specs.declared.sharer.Sharer.{Sharer}
use Rattle.numa_host_huge.proofs.Lent.{lent-same, lent-shared}
use Rattle.numa_host_huge.proofs.Places.{IsAt, IsNowhere, at-inside, nowhere-absent, place-none}
use Rattle.numa_host_huge.proofs.Places.{place-some, some-sharer}
use Rattle.numa_host_huge.proofs.Prepared.{can-be, have-pages, lying-old}
use Rattle.numa_host_huge.proofs.shared.HostHuge.populated.Goals as goal

pub unreachable-requires : goal.unreachable-requires
unreachable-requires c =
    let pools : PoolCounts = c.self.inside.pools in
    let xs : List Sharer = c.self.inside.sharers.items in
    let absent : IsNowhere xs c.args.process = place-none xs c.args.process
    (ap (λ (s : List Sharer). place_in c.args.process s) (sym c.deref.ensures.value)
    ∙ sym c.in_default.ensures) in
    nowhere-absent xs c.args.process (huge_first (page_of c.args.start))
    (huge_count (page_of c.args.start) (page_count c.args.length)) absent
    (subst (λ (k : HugeKept). has_huge (spots_in c.args.process k.sharers)
    (huge_first (page_of c.args.start))
    (huge_count (page_of c.args.start) (page_count c.args.length)) ≡ true)
    (sym c.self.view_is) c.requires)

pub lend_at-requires : goal.lend_at-requires
lend_at-requires c =
    let pools : PoolCounts = c.self.inside.pools in
    let xs : List Sharer = c.self.inside.sharers.items in
    let at : IsAt xs c.args.process c.in-Some.place = place-some xs c.args.process c.in-Some.place
    (ap (λ (s : List Sharer). place_in c.args.process s) (sym c.deref.ensures.value)
    ∙ sym c.in-Some.ensures) in
    let place : ℕ = c.in-Some.place in
    let d : Sharer = some-sharer xs place (at-inside xs c.args.process place at) in
    record {
      place = at-inside xs c.args.process place at;
      pools = λ e. have-pages pools xs c.args.process place e c.self.invariant.0 at;
    }

pub populated_at-requires : goal.populated_at-requires
populated_at-requires c =
    let pools : PoolCounts = c.self.inside.pools in
    let xs : List Sharer = c.self.inside.sharers.items in
    let at : IsAt xs c.args.process c.in-Some.place = place-some xs c.args.process c.in-Some.place
    (ap (λ (s : List Sharer). place_in c.args.process s) (sym c.deref.ensures.value)
    ∙ sym c.in-Some.ensures) in
    let place : ℕ = c.in-Some.place in
    let d : Sharer = some-sharer xs place (at-inside xs c.args.process place at) in
    let ys : List Sharer = c.lend_at.new.sharers.items in
    let lends = c.lend_at.ensures.lent in
    subst (λ (s : List Sharer). place < length s) (sym c.deref-2.ensures.value)
    (subst (λ n. place < n) (sym lends.at.length) (at-inside xs c.args.process place at))

pub invariant_of-self : goal.invariant_of-self
invariant_of-self c =
    let pools : PoolCounts = c.self.inside.pools in
    let xs : List Sharer = c.self.inside.sharers.items in
    let at : IsAt xs c.args.process c.in-Some.place = place-some xs c.args.process c.in-Some.place
    (ap (λ (s : List Sharer). place_in c.args.process s) (sym c.deref.ensures.value)
    ∙ sym c.in-Some.ensures) in
    let place : ℕ = c.in-Some.place in
    let d : Sharer = some-sharer xs place (at-inside xs c.args.process place at) in
    let ys : List Sharer = c.lend_at.new.sharers.items in
    let lends = c.lend_at.ensures.lent in (
      lent-shared pools xs ys place d lends c.self.invariant.0
          (at-inside xs c.args.process place at),
      subst (λ n. 4096 ≤ n) (sym c.lend_at.ensures.room) c.self.invariant.1,
    )

pub returns-clause-touched : goal.returns-clause-touched
returns-clause-touched c = λ memory old.
    let pools : PoolCounts = c.self.inside.pools in
    let xs : List Sharer = c.self.inside.sharers.items in
    let at : IsAt xs c.args.process c.in-Some.place = place-some xs c.args.process c.in-Some.place
    (ap (λ (s : List Sharer). place_in c.args.process s) (sym c.deref.ensures.value)
    ∙ sym c.in-Some.ensures) in
    let place : ℕ = c.in-Some.place in
    let d : Sharer = some-sharer xs place (at-inside xs c.args.process place at) in
    let ys : List Sharer = c.lend_at.new.sharers.items in
    let lends = c.lend_at.ensures.lent in
    let read : places_of (get_or c.deref-2.result.now place d).pages.value.places
    ≡ places_of (get_or ys place d).pages.value.places =
    ap (λ (s : List Sharer). places_of (get_or s place d).pages.value.places)
    c.deref-2.ensures.value in
    let is = read ∙ lying-old pools xs ys c.args.process place d at lends
    ∙ ap (λ (k : HugeKept). lying_of c.args.process k) c.self.view_is in
    c.populated_at.ensures.touched d memory (is ∙ old)

pub returns-clause-can : goal.returns-clause-can
returns-clause-can c =
    let pools : PoolCounts = c.self.inside.pools in
    let xs : List Sharer = c.self.inside.sharers.items in
    let at : IsAt xs c.args.process c.in-Some.place = place-some xs c.args.process c.in-Some.place
    (ap (λ (s : List Sharer). place_in c.args.process s) (sym c.deref.ensures.value)
    ∙ sym c.in-Some.ensures) in
    let place : ℕ = c.in-Some.place in
    let d : Sharer = some-sharer xs place (at-inside xs c.args.process place at) in
    let ys : List Sharer = c.lend_at.new.sharers.items in
    let lends = c.lend_at.ensures.lent in
    let read : places_of (get_or c.deref-2.result.now place d).pages.value.places
    ≡ places_of (get_or ys place d).pages.value.places =
    ap (λ (s : List Sharer). places_of (get_or s place d).pages.value.places)
    c.deref-2.ensures.value in
    IfOk-weaker c.populated_at.result _ _ (λ done keeps.
    can-be pools xs ys c.args.process place d at lends done.0
    (subst (λ (l : HugeLying). Keeps l (places_of done.0)) read keeps))
    (c.populated_at.ensures.keeps d)

pub returns-clause-same : goal.returns-clause-same
returns-clause-same c =
    let pools : PoolCounts = c.self.inside.pools in
    let xs : List Sharer = c.self.inside.sharers.items in
    let at : IsAt xs c.args.process c.in-Some.place = place-some xs c.args.process c.in-Some.place
    (ap (λ (s : List Sharer). place_in c.args.process s) (sym c.deref.ensures.value)
    ∙ sym c.in-Some.ensures) in
    let place : ℕ = c.in-Some.place in
    let d : Sharer = some-sharer xs place (at-inside xs c.args.process place at) in
    let ys : List Sharer = c.lend_at.new.sharers.items in
    let lends = c.lend_at.ensures.lent in
    subst (λ (k : HugeKept). IsSame k (record { pools = pools; sharers = ys })) c.self.view_is
    (lent-same (record { pools = pools; sharers = xs }) ys place
    (at-inside xs c.args.process place at) lends)
