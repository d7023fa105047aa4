-- The pools have as many used and reserved pages as pages lie on their nodes and are reserved,
-- whatever is done.
use Rattle.std.proofs.Common.{◌≡◌, ◌≢◌, ℕ, zero, suc, ◌+◌, ◌-◌, ◌<◌, ◌≤◌, ◌∙◌, Bool, true, false}
use Rattle.std.proofs.Common.{Option, Some, None, length, refl, sym, ap, subst, arith, inl}
use Rattle.std.proofs.Common.{inr}
use Rattle.std.specs.Prelude.{◌==◌, if◌then◌else◌, nat_lt, is_some, slice_index}
use Rattle.std.proofs.lemmas.Bool.{cases_Bool, cases_eq, eq-eqb, ne_eqb}
use Rattle.std.proofs.lemmas.List.{get_or-set_other, get_or-set_same}
use Rattle.numa_ranges.proofs.Counted.{count-none}
use Rattle.numa_ranges.proofs.Pages.{any_page-true}
use Rattle.numa_pools.specs.Kept.{AreKept}
use Rattle.numa_pools.specs.Pools.{PoolCounts, free_at, freeing, giving_back}
use Rattle.numa_pools.specs.Pools.{refusing, reserving, taking, total_at, unreserved}
use Rattle.numa_pools.specs.Resize.{resized}
use Rattle.numa_pools.specs.Turns.{one_less_at}
use Rattle.numa_pools.proofs.Asked.{resize-keeps}
use Rattle.numa_pools.proofs.Carrying.{two-of}
use Rattle.numa_pools.proofs.Moving.{freeing-is, kept-freed}
use Rattle.numa_pools.proofs.Serving.{AreFreed, freed-are}
use Rattle.numa_pools.proofs.Using.{giving-used, refusing-used}
use Rattle.numa_huge.specs.Huge.{freeing_below, fresh_spot, has_huge, has_reserved, most_pages}
use Rattle.numa_huge.specs.Huge.{node_of, on_node, pages_in, pages_of, with_span}
use Rattle.numa_huge.specs.Kept.{ArePooled, Others}
use Rattle.numa_huge.specs.Shared.{pages_if}
use Rattle.numa_huge.specs.declared.spot.HugeSpot.{HugeSpot}
use Rattle.numa_huge.specs.declared.spot.HugeSpot.TheVariants.{Bare, Reserved, On}
use Rattle.numa_huge.proofs.Changed.{count-page, count-span}

-- ---- resizes

pub pooled-resized : (others : Others) (pools : PoolCounts) (spots : ℕ → Option HugeSpot)
    (nodes allowed goal : ℕ)
    → AreKept pools → ArePooled others pools spots
    → ArePooled others (resized nodes allowed goal pools) spots
unfolding resized
pooled-resized others pools spots nodes allowed goal kept pooled = record {
  used = λ node small. omega (
    arith,
    resize-keeps nodes allowed goal pools kept node,
    pooled.used node small,
  );
  reserved = pooled.reserved;
}

-- ---- reservations that are given back

pub giving-keeps : (pools : PoolCounts) (pages : ℕ) → AreKept pools
    → AreKept (giving_back pools pages) → (node : ℕ)
    → total_at (giving_back pools pages) node + free_at pools node
    ≡ total_at pools node + free_at (giving_back pools pages) node
giving-keeps pools pages kept after node =
    omega (arith, giving-used pools pages kept node, kept.within node, after.within node)

pub pooled-refusing : (others : Others) (pools : PoolCounts) (spots : ℕ → Option HugeSpot)
    (pages : ℕ) → AreKept pools → AreKept (refusing pools pages) → ArePooled others pools spots
    → ArePooled others (refusing pools pages) spots
pooled-refusing others pools spots pages kept after pooled = record {
  used = λ node small. omega (
    arith,
    refusing-used pools pages kept node,
    kept.within node,
    after.within node,
    pooled.used node small,
  );
  reserved = same (nat_lt (unreserved pools) pages) ∙ pooled.reserved;
}
  where
    same : (b : Bool)
        → (if b then pools else giving_back (reserving pools pages) pages).reserved ≡ pools.reserved
    same true = refl
    same false = omega arith

-- ---- pages that become free

-- the pages of the nodes below one became free, so many of each
pub record AreBelow (pools : PoolCounts) (count : ℕ → ℕ) (k : ℕ) : Type 0 where
  pub kept : AreKept (freeing_below k count pools)
  pub gone : (node : ℕ) → node < k
      → free_at (freeing_below k count pools) node + total_at pools node
      ≡ free_at pools node + count node + total_at (freeing_below k count pools) node
  pub stay : (node : ℕ) → k ≤ node → node < 256
      → (free_at (freeing_below k count pools) node ≡ free_at pools node)
      × (total_at (freeing_below k count pools) node ≡ total_at pools node)
  pub reserved : (freeing_below k count pools).reserved ≡ pools.reserved

-- of a node alone
freed-here : (pools : PoolCounts) (node pages : ℕ) → AreKept pools → node < 256
    → free_at pools node + pages ≤ total_at pools node
    → free_at (freeing pools node pages) node + total_at pools node
    ≡ free_at pools node + pages + total_at (freeing pools node pages) node
freed-here pools zero pages kept small used =
    (freed-are pools 0 1 pages (two-of pools 0 1 kept (λ e. absurd (omega (arith, e))) small
    (omega arith)) used).used
freed-here pools (suc node) pages kept small used =
    (freed-are pools (suc node) 0 pages (two-of pools (suc node) 0 kept
    (λ e. absurd (omega (arith, e))) small (omega arith)) used).used

freed-kept : (pools : PoolCounts) (node pages : ℕ) → AreKept pools → node < 256
    → free_at pools node + pages ≤ total_at pools node → AreKept (freeing pools node pages)
freed-kept pools node pages kept small used =
    subst AreKept (sym (freeing-is pages pools node (omega (arith, small, kept.frees))))
    (kept-freed pools node pages kept small used)

pub below-none : (count : ℕ → ℕ) (pools : PoolCounts) → freeing_below 0 count pools ≡ pools
unfolding freeing_below
below-none count pools = refl

pub below-next : (k n : ℕ) (count : ℕ → ℕ) (pools : PoolCounts) → n ≡ suc k
    → freeing_below n count pools ≡ freeing (freeing_below k count pools) k (count k)
unfolding freeing_below
below-next k n count pools is = rw is refl

pub below-are : (k : ℕ) (pools : PoolCounts) (count : ℕ → ℕ) → k ≤ 256 → AreKept pools
    → ((node : ℕ) → node < 256 → free_at pools node + count node ≤ total_at pools node)
    → AreBelow pools count k
unfolding freeing_below
below-are zero pools count few kept used = record {
  kept = kept;
  gone = λ node l. absurd (omega (arith, l));
  stay = λ node l small. (refl, refl);
  reserved = refl;
}
below-are (suc k) pools count few kept used =
    let q : PoolCounts = freeing_below k count pools in
    let rest : AreBelow pools count k = below-are k pools count (omega (arith, few)) kept used in
    let small : k < 256 = omega (arith, few) in
    let here = rest.stay k (omega arith) small in
    let fits : free_at q k + count k ≤ total_at q k =
    omega (arith, here.0, here.1, used k small) in
    let other : (node : ℕ) → node ≢ k → node < 256 → AreFreed q k node (count k) =
    λ node ne l. freed-are q k node (count k)
    (two-of q k node rest.kept (λ e. ne (sym e)) small l) fits in
    record {
      kept = freed-kept q k (count k) rest.kept small fits;
      gone = λ node l. elim (cases_eq node k) [
        | inl e ↦ subst (λ (n : ℕ). free_at (freeing q k (count k)) n + total_at pools n
            ≡ free_at pools n + count n + total_at (freeing q k (count k)) n) (sym e)
            (omega (arith, freed-here q k (count k) rest.kept small fits, here.0, here.1))
        | inr ne ↦
            let of = other node ne (omega (arith, l, few)) in
            omega (arith, of.room, of.free, rest.gone node (omega (arith, l, ne)))
      ];
      stay = λ node l s.
          let ne : node ≢ k = λ e. absurd (omega (arith, e, l)) in
          let of = other node ne s in
          let old = rest.stay node (omega (arith, l)) s in
          (of.free ∙ old.0, of.room ∙ old.1);
      reserved = ap (λ (p : PoolCounts). p.reserved)
          (freeing-is (count k) q k (omega (arith, small, rest.kept.frees))) ∙ rest.reserved;
    }

-- ---- a span that is unmapped

pub pooled-unmapping : (others : Others) (pools : PoolCounts) (spots : ℕ → Option HugeSpot)
    (first n : ℕ)
    → first + n ≤ most_pages → AreKept pools → AreKept (giving_back
    (freeing_below 256 (λ node. pages_in (on_node node) spots first n) pools)
    (pages_in has_reserved spots first n)) → ArePooled others pools spots
    → ArePooled others (giving_back
    (freeing_below 256 (λ node. pages_in (on_node node) spots first n) pools)
    (pages_in has_reserved spots first n)) (with_span first n None spots)
pooled-unmapping others pools spots first n within kept after pooled =
    let count : ℕ → ℕ = λ node. pages_in (on_node node) spots first n in
    let p : PoolCounts = freeing_below 256 count pools in
    let gone : (node : ℕ) → pages_of (on_node node) (with_span first n None spots) + count node
    ≡ pages_of (on_node node) spots =
    λ node. omega (arith, count-span (on_node node) first n None spots within) in
    let below : AreBelow pools count 256 = below-are 256 pools count (omega arith) kept
    (λ node small. omega (arith, gone node, pooled.used node small)) in
    record {
      used = λ node small. omega (
        arith,
        giving-keeps p (pages_in has_reserved spots first n) below.kept after node,
        below.gone node small,
        pooled.used node small,
        gone node,
      );
      reserved = omega (
        arith,
        below.reserved,
        pooled.reserved,
        count-span has_reserved first n None spots within,
      );
    }

-- what is asked of the pools when a span is unmapped
pub unmapping-fits : (others : Others) (pools : PoolCounts) (spots : ℕ → Option HugeSpot)
    (first n node : ℕ)
    → first + n ≤ most_pages → ArePooled others pools spots → node < 256
    → free_at pools node + pages_in (on_node node) spots first n ≤ total_at pools node
unmapping-fits others pools spots first n node within pooled small =
    omega (arith, count-span (on_node node) first n None spots within, pooled.used node small)

pub giving-fits : (others : Others) (pools : PoolCounts) (spots : ℕ → Option HugeSpot) (first n : ℕ)
    → first + n ≤ most_pages → ArePooled others pools spots
    → pages_in has_reserved spots first n ≤ pools.reserved
giving-fits others pools spots first n within pooled =
    omega (arith, count-span has_reserved first n None spots within, pooled.reserved)

pub unmapping-reserved : (others : Others) (pools : PoolCounts) (spots : ℕ → Option HugeSpot)
    (first n : ℕ) (on : ℕ → ℕ) → first + n ≤ most_pages → AreKept pools
    → ArePooled others pools spots
    → ((node : ℕ) → node < 256 → on node ≡ pages_in (on_node node) spots first n)
    → (freeing_below 256 on pools).reserved ≡ pools.reserved
unmapping-reserved others pools spots first n on within kept pooled same =
    let below : AreBelow pools on 256 = below-are 256 pools on (omega arith) kept
    (λ node small. omega (
      arith,
      same node small,
      unmapping-fits others pools spots first n node within pooled small,
    )) in
    below.reserved

-- ---- a span that is mapped

-- where nothing of a span is mapped, none of its pages passes a test
pub none-in : (test : Option HugeSpot → Bool) (spots : ℕ → Option HugeSpot) (first n : ℕ)
    → test None ≡ false → has_huge spots first n ≡ false → pages_in test spots first n ≡ 0
none-in test spots first n nowhere none =
    count-none (λ page. test (spots page)) first n (λ page low high.
    none-of (spots page) (elim (cases_Bool (is_some (spots page))) [
      | inl t ↦ absurd (let both = sym (any_page-true (λ p. is_some (spots p)) first n page low high
          t) ∙ none in cc)
      | inr e ↦ e
    ]))
  where
    none-of : (spot : Option HugeSpot) → is_some spot ≡ false → test spot ≡ false
    none-of None e = nowhere
    none-of (Some spot) e = absurd (cc)

pub pooled-mapping : (others : Others) (pools : PoolCounts) (spots : ℕ → Option HugeSpot)
    (first n : ℕ) (reserves : Bool) → first + n ≤ most_pages → has_huge spots first n ≡ false
    → ArePooled others pools spots
    → ArePooled others (if reserves then reserving pools n else pools)
    (with_span first n (Some (fresh_spot reserves)) spots)
pooled-mapping others pools spots first n true within none pooled = record {
  used = λ node small. omega (
    arith,
    pooled.used node small,
    count-span (on_node node) first n (Some Reserved) spots within,
    none-in (on_node node) spots first n refl none,
  );
  reserved = omega (
    arith,
    pooled.reserved,
    count-span has_reserved first n (Some Reserved) spots within,
    none-in has_reserved spots first n refl none,
  );
}
pooled-mapping others pools spots first n false within none pooled = record {
  used = λ node small. omega (
    arith,
    pooled.used node small,
    count-span (on_node node) first n (Some Bare) spots within,
    none-in (on_node node) spots first n refl none,
  );
  reserved = omega (
    arith,
    pooled.reserved,
    count-span has_reserved first n (Some Bare) spots within,
    none-in has_reserved spots first n refl none,
  );
}

-- ---- a page that is touched first

-- a page that lies nowhere lies on no node
pub on-nowhere : (spot : Option HugeSpot) (node : ℕ) → node_of spot ≡ None
    → on_node node spot ≡ false
on-nowhere None node e = refl
on-nowhere (Some Bare) node e = refl
on-nowhere (Some Reserved) node e = refl
on-nowhere (Some (On other)) node e = absurd (cc)

pub pooled-touch : (others : Others) (pools : PoolCounts) (spots : ℕ → Option HugeSpot)
    (page node : ℕ)
    → page < most_pages → node < length pools.free → node_of (spots page) ≡ None
    → 0 < free_at pools node → ArePooled others pools spots
    → ArePooled others (taking pools node (has_reserved (spots page)))
    (with_span page 1 (Some (On node)) spots)
pooled-touch others pools spots page node within there nowhere some pooled = record {
  used = λ other small.
      let count = count-page (on_node other) page (Some (On node)) spots within in
      let was : pages_if (on_node other (spots page)) 1 ≡ 0 =
      ap (λ (b : Bool). pages_if b 1) (on-nowhere (spots page) other nowhere) in
      elim (cases_eq other node) [
        | inl e ↦
            let here : slice_index (one_less_at pools.free node) node ≡ free_at pools node - 1 =
            get_or-set_same pools.free node (free_at pools node - 1) 0 there in
            let is : pages_if (node == node) 1 ≡ 1 =
            ap (λ (b : Bool). pages_if b 1) (eq-eqb node node refl) in
            subst (λ (m : ℕ). total_at pools m
            ≡ slice_index (one_less_at pools.free node) m
            + (pages_of (on_node m) (with_span page 1 (Some (On node)) spots) + others.on m))
            (sym e)
            (omega (
              arith,
              here,
              is,
              some,
              pooled.used node (omega (arith, small, e)),
              count-page (on_node node) page (Some (On node)) spots within,
              ap (λ (b : Bool). pages_if b 1) (on-nowhere (spots page) node nowhere),
            ))
        | inr ne ↦
            let here : slice_index (one_less_at pools.free node) other ≡ free_at pools other =
            get_or-set_other pools.free node other (free_at pools node - 1) 0 ne in
            let not_it : pages_if (node == other) 1 ≡ 0 =
            ap (λ (b : Bool). pages_if b 1) (ne_eqb node other (λ e. ne (sym e))) in
            omega (arith, here, not_it, was, count, pooled.used other small)
      ];
  reserved =
      let count = count-page has_reserved page (Some (On node)) spots within in
      elim (cases_Bool (has_reserved (spots page))) [
        | inl t ↦ rw t (let one = ap (λ (b : Bool). pages_if b 1) t in
            omega (arith, one, count, pooled.reserved))
        | inr e ↦ rw e (let one = ap (λ (b : Bool). pages_if b 1) e in
            omega (arith, one, count, pooled.reserved))
      ];
}
