-- What is kept of pages and pools stays so, whatever a call does.
use Rattle.std.proofs.Common.{◌≡◌, ◌≢◌, ℕ, zero, suc, ◌+◌, ◌<◌, ◌≤◌, ◌∙◌, Bool, true, false, length}
use Rattle.std.proofs.Common.{Option, Some, None, List, [], Result, Ok, Err, OnOk, OnErr, refl, sym}
use Rattle.std.proofs.Common.{ap, subst, arith, not}
use Rattle.std.specs.Prelude.{◌==◌, ◌&&◌, if◌then◌else◌, nat_le}
use Rattle.std.proofs.lemmas.Bool.{and_left, and_parts, and_right, eqb-false, le-leb, leb-true}
use Rattle.std.proofs.lemmas.Bool.{lt-leb, ne_eqb, not-true}
use Rattle.numa_mask.specs.NodeSet.{with_node}
use Rattle.numa_ranges.specs.Maps.{Shows, without_span}
use Rattle.numa_ranges.specs.Maps.{with_span as mapped_span}
use Rattle.numa_ranges.specs.Runs.{page_at}
use Rattle.numa_ranges.specs.declared.run.Run.{Run}
use Rattle.numa_ranges.proofs.Counted.{count-none}
use Rattle.numa_pools.specs.Kept.{AreKept as ArePools}
use Rattle.numa_pools.specs.Pools.{PoolCounts, free_at, freeing, giving_back, moving_one, no_pages}
use Rattle.numa_pools.specs.Pools.{refusing, renewing, reserving, taking}
use Rattle.numa_pools.specs.Resize.{goal_for, resized, resized_node}
use Rattle.numa_huge.specs.Huge.{HugeLying, fits, freeing_below, fresh_spot, has_huge, has_reserved}
use Rattle.numa_huge.specs.Huge.{huge_at, most_pages, node_of, on_node, pages_in, with_span}
use Rattle.numa_huge.specs.Huge.{HugePlaced, places_of}
use Rattle.numa_huge.specs.Kept.{AreKept, AreOwn, ArePooled, HasNode, Keeps, Others}
use Rattle.numa_huge.specs.declared.spot.HugeSpot.{HugeSpot}
use Rattle.numa_huge.specs.declared.spot.HugeSpot.TheVariants.{On}
use Rattle.numa_huge.proofs.Own.{own-mapped, own-node, own-page, own-without, spots-mapped}
use Rattle.numa_huge.proofs.Own.{spots-without}
use Rattle.numa_huge.proofs.Pooled.{pooled-mapping, pooled-refusing}
use Rattle.numa_huge.proofs.Pooled.{pooled-resized, pooled-touch, pooled-unmapping}
use Rattle.numa_huge.proofs.Passing.{pooled-passing, pooled-renewing}

-- ---- the same pages

pub pooled-same : (others : Others) (pools : PoolCounts) (spots after : ℕ → Option HugeSpot)
    → ((page : ℕ) → after page ≡ spots page) → ArePooled others pools spots
    → ArePooled others pools after
pooled-same others pools spots after same pooled =
    subst (ArePooled others pools) (λ i page. sym (same page) i) pooled

pub lying-is : (pools one : PoolCounts) (spots other : ℕ → Option HugeSpot) → pools ≡ one
    → ((page : ℕ) → spots page ≡ other page)
    → ◌≡◌ {A = HugeLying} (record { pools = pools; spots = spots })
    (record { pools = one; spots = other })
lying-is pools one spots other same alike = λ i. record {
  pools = same i;
  spots = λ page. alike page i;
}

-- ---- nothing is mapped

-- no other process has pages
abbrev pub nobody : Others
nobody = record { on = λ node. 0; reserved = 0; few = λ node small. omega arith }

pub kept-none : (memory : ℕ) → (others : Others) × AreKept others (no_pages memory) []
kept-none memory = (
  nobody,
  record {
    own = λ page. tt;
    pooled = record {
      used = λ node small. omega (
        arith,
        count-none (λ page. on_node node (huge_at [] page)) 0 most_pages (λ page low high. refl),
      );
      reserved = omega (
        arith,
        count-none (λ page. has_reserved (huge_at [] page)) 0 most_pages (λ page low high. refl),
      );
    };
  },
)

-- where nothing is mapped yet, pools can have pages of others alone
pub kept-empty : (others : Others) (pools : PoolCounts)
    → ArePooled others pools (λ page. None) → AreKept others pools []
kept-empty others pools pooled = record {
  own = λ page. tt;
  pooled = pooled-same others pools (λ page. None) (huge_at []) (λ page. refl) pooled;
}

-- ---- a span is mapped

pub record IsFit (spots : ℕ → Option HugeSpot) (first n : ℕ) : Type 0 where
  pub some : 0 < n
  pub within : first + n ≤ most_pages
  pub free : has_huge spots first n ≡ false

pub fits-are : (spots : ℕ → Option HugeSpot) (first n : ℕ) → fits spots first n ≡ true
    → IsFit spots first n
fits-are spots first n fit =
    let some = and_parts (not (n == 0))
    (nat_le (first + n) most_pages && not (has_huge spots first n)) fit in
    let rest = and_parts (nat_le (first + n) most_pages) (not (has_huge spots first n)) some.1 in
    record {
      some = omega (arith, eqb-false n 0 (not-true (n == 0) some.0));
      within = leb-true (first + n) most_pages rest.0;
      free = not-true (has_huge spots first n) rest.1;
    }

pub fits-none : (spots : ℕ → Option HugeSpot) (first n : ℕ) → n ≡ 0 → fits spots first n ≡ false
fits-none spots first n none = rw none refl

pub fits-far : (spots : ℕ → Option HugeSpot) (first n : ℕ) → most_pages < first + n
    → fits spots first n ≡ false
fits-far spots first n far =
    and_right (not (n == 0)) (nat_le (first + n) most_pages && not (has_huge spots first n))
    (and_left (nat_le (first + n) most_pages) (not (has_huge spots first n))
    (lt-leb (first + n) most_pages far))

pub fits-is : (spots : ℕ → Option HugeSpot) (first n : ℕ) → n ≢ 0 → first + n ≤ most_pages
    → fits spots first n ≡ not (has_huge spots first n)
fits-is spots first n some within =
    rw (ne_eqb n 0 some, le-leb (first + n) most_pages within) refl

pub kept-mapped : (others : Others) (pools after : PoolCounts) (runs new : List (Run HugeSpot))
    (first n : ℕ) (reserves : Bool) (spot : HugeSpot) → IsFit (huge_at runs) first n
    → AreKept others pools runs → spot ≡ fresh_spot reserves
    → Shows new (mapped_span first n first spot (page_at runs))
    → after ≡ (if reserves then reserving pools n else pools) → AreKept others after new
kept-mapped others pools after runs new first n reserves spot fit kept fresh shows is = record {
  own = own-mapped runs new first n spot fit.within
      (subst HasNode (sym fresh) (fresh-node reserves)) kept.own shows;
  pooled = subst (λ (p : PoolCounts). ArePooled others p (huge_at new)) (sym is)
      (pooled-same others (if reserves then reserving pools n else pools)
      (with_span first n (Some (fresh_spot reserves)) (huge_at runs)) (huge_at new)
      (λ page. spots-mapped runs new first n spot shows page
      ∙ ap (λ (s : HugeSpot). with_span first n (Some s) (huge_at runs) page) fresh)
      (pooled-mapping others pools (huge_at runs) first n reserves fit.within fit.free
      kept.pooled));
}
  where
    fresh-node : (b : Bool) → HasNode (fresh_spot b)
    fresh-node true = tt
    fresh-node false = tt

-- ---- a span is unmapped

pub freeing-same : (k : ℕ) (f g : ℕ → ℕ) (pools : PoolCounts) → k ≤ 256
    → ((node : ℕ) → node < 256 → f node ≡ g node)
    → freeing_below k f pools ≡ freeing_below k g pools
unfolding freeing_below
freeing-same zero f g pools few same = refl
freeing-same (suc k) f g pools few same =
    let rest = freeing-same k f g pools (omega (arith, few)) same in
    let here = same k (omega (arith, few)) in
    λ i. freeing (rest i) k (here i)

-- the pools once the pages of a span became free, by counts of them
pub unmapped-pools : (pools : PoolCounts) (spots : ℕ → Option HugeSpot) (first n reserved : ℕ)
    (on : ℕ → ℕ) → ((node : ℕ) → node < 256 → on node ≡ pages_in (on_node node) spots first n)
    → reserved ≡ pages_in has_reserved spots first n
    → giving_back (freeing_below 256 on pools) reserved ≡ giving_back
    (freeing_below 256 (λ node. pages_in (on_node node) spots first n) pools)
    (pages_in has_reserved spots first n)
unmapped-pools pools spots first n reserved on same is =
    let free = freeing-same 256 on (λ node. pages_in (on_node node) spots first n) pools
    (omega arith) same in
    λ i. giving_back (free i) (is i)

pub kept-unmapped : (others : Others) (pools after : PoolCounts) (runs new : List (Run HugeSpot))
    (first n : ℕ) → first + n ≤ most_pages → ArePools pools → ArePools after
    → AreKept others pools runs → Shows new (without_span first n (page_at runs))
    → after ≡ giving_back
    (freeing_below 256 (λ node. pages_in (on_node node) (huge_at runs) first n) pools)
    (pages_in has_reserved (huge_at runs) first n) → AreKept others after new
kept-unmapped others pools after runs new first n within are so kept shows is = record {
  own = own-without runs new first n kept.own shows;
  pooled = subst (λ (p : PoolCounts). ArePooled others p (huge_at new)) (sym is)
      (pooled-same others (giving_back
      (freeing_below 256 (λ node. pages_in (on_node node) (huge_at runs) first n) pools)
      (pages_in has_reserved (huge_at runs) first n)) (with_span first n None (huge_at runs))
      (huge_at new) (spots-without runs new first n shows)
      (pooled-unmapping others pools (huge_at runs) first n within are (subst ArePools is so)
      kept.pooled));
}

-- ---- a page is touched, or goes

pub kept-touched : (others : Others) (pools after : PoolCounts) (runs new : List (Run HugeSpot))
    (page node : ℕ) → page < most_pages → node < length pools.free
    → node_of (huge_at runs page) ≡ None → 0 < free_at pools node → AreKept others pools runs
    → AreOwn new
    → ((other : ℕ) → huge_at new other ≡ with_span page 1 (Some (On node)) (huge_at runs) other)
    → after ≡ taking pools node (has_reserved (huge_at runs page)) → AreKept others after new
kept-touched others pools after runs new page node within there nowhere some kept own spots is =
    record {
      own = own;
      pooled = subst (λ (p : PoolCounts). ArePooled others p (huge_at new)) (sym is)
          (pooled-same others (taking pools node (has_reserved (huge_at runs page)))
          (with_span page 1 (Some (On node)) (huge_at runs)) (huge_at new) spots
          (pooled-touch others pools (huge_at runs) page node within there nowhere some
          kept.pooled));
    }

pub kept-passed : (others : Others) (pools after : PoolCounts) (runs new : List (Run HugeSpot))
    (page from to : ℕ) → huge_at runs page ≡ Some (On from) → to < 256 → from ≢ to → ArePools pools
    → ArePools after → AreKept others pools runs → AreOwn new
    → ((other : ℕ) → huge_at new other ≡ with_span page 1 (Some (On to)) (huge_at runs) other)
    → after ≡ moving_one pools from to → AreKept others after new
kept-passed others pools after runs new page from to lies small ne are so kept own spots is =
    record {
      own = own;
      pooled = subst (λ (p : PoolCounts). ArePooled others p (huge_at new)) (sym is)
          (pooled-same others (moving_one pools from to)
          (with_span page 1 (Some (On to)) (huge_at runs)) (huge_at new) spots
          (pooled-passing (huge_at runs) page from (own-page runs page (On from) kept.own lies) lies
          others pools to (own-node runs page from kept.own lies) small ne are
          (subst ArePools is so) kept.pooled));
    }

-- ---- the pools alone change

pub kept-resized : (others : Others) (pools after : PoolCounts) (runs : List (Run HugeSpot))
    (nodes allowed goal : ℕ) → ArePools pools → AreKept others pools runs
    → after ≡ resized nodes allowed goal pools → AreKept others after runs
kept-resized others pools after runs nodes allowed goal are kept is = record {
  own = kept.own;
  pooled = subst (λ (p : PoolCounts). ArePooled others p (huge_at runs)) (sym is)
      (pooled-resized others pools (huge_at runs) nodes allowed goal are kept.pooled);
}

pub kept-node : {E : Type 0} (r : Result (Unit {0}) E) (others : Others) (pools after : PoolCounts)
    (runs : List (Run HugeSpot)) (node allowed count : ℕ) → ArePools pools
    → AreKept others pools runs → OnOk r (after ≡ resized_node node allowed count pools)
    → OnErr r (after ≡ pools) → AreKept others after runs
kept-node (Ok done) others pools after runs node allowed count are kept is same =
    kept-resized others pools after runs (with_node 0 node) allowed (goal_for pools node count) are
    kept is
kept-node (Err why) others pools after runs node allowed count are kept is same =
    subst (λ (p : PoolCounts). AreKept others p runs) (sym same) kept

pub kept-refused : (others : Others) (pools after : PoolCounts) (runs : List (Run HugeSpot))
    (pages : ℕ) → ArePools pools → ArePools after → AreKept others pools runs
    → after ≡ refusing pools pages → AreKept others after runs
kept-refused others pools after runs pages are so kept is = record {
  own = kept.own;
  pooled = subst (λ (p : PoolCounts). ArePooled others p (huge_at runs)) (sym is)
      (pooled-refusing others pools (huge_at runs) pages are (subst ArePools is so) kept.pooled);
}

pub kept-renewed : (others : Others) (pools after : PoolCounts) (runs : List (Run HugeSpot))
    (node : ℕ) → node < 256 → ArePools pools → ArePools after → AreKept others pools runs
    → after ≡ renewing pools node → AreKept others after runs
kept-renewed others pools after runs node small are so kept is = record {
  own = kept.own;
  pooled = subst (λ (p : PoolCounts). ArePooled others p (huge_at runs)) (sym is)
      (pooled-renewing others pools (huge_at runs) node small are (subst ArePools is so)
      kept.pooled);
}

-- ---- what others have is kept

pub keeps-same : (old new : HugePlaced) → new ≡ old → Keeps (places_of old) (places_of new)
keeps-same old new same others pooled =
    subst (λ (p : HugePlaced). ArePooled others p.pools (huge_at p.runs)) (sym same) pooled

pub keeps-then : (a b c : HugeLying) → Keeps a b → Keeps b c → Keeps a c
keeps-then a b c one other others pooled = other others (one others pooled)

-- pages are kept as they are shown
pub keeps-shown : (inside shown after : HugePlaced) → inside ≡ shown
    → Keeps (places_of inside) (places_of after) → Keeps (places_of shown) (places_of after)
keeps-shown inside shown after is keeps =
    subst (λ (p : HugePlaced). Keeps (places_of p) (places_of after)) is keeps
