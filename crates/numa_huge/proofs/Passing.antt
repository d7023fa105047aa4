-- The pools have as many used pages as lie on their nodes, once pages went to other nodes.
use Rattle.std.proofs.Common.{◌≡◌, ◌≢◌, ℕ, ◌+◌, ◌<◌, ◌≤◌, ◌∙◌, Bool, Option, Some, None, refl}
use Rattle.std.proofs.Common.{sym, ap, arith, inl, inr, subst}
use Rattle.std.specs.Prelude.{◌==◌}
use Rattle.std.proofs.lemmas.Bool.{cases_eq, eq-eqb, ne_eqb}
use Rattle.numa_placed.proofs.Shared.{count-le}
use Rattle.numa_pools.specs.Kept.{AreKept}
use Rattle.numa_pools.specs.Moves.{movable}
use Rattle.numa_pools.specs.Pools.{PoolCounts, free_at, moving_one, renewing, total_at, used_at}
use Rattle.numa_pools.proofs.Using.{AreElsewhere, movable-all, moving-used, renewing-reserved}
use Rattle.numa_pools.proofs.Using.{renewing-used}
use Rattle.numa_huge.specs.Huge.{has_reserved, most_pages, on_node, pages_of, with_span}
use Rattle.numa_huge.specs.Kept.{ArePooled, Others}
use Rattle.numa_huge.specs.Shared.{pages_if}
use Rattle.numa_huge.specs.declared.spot.HugeSpot.{HugeSpot}
use Rattle.numa_huge.specs.declared.spot.HugeSpot.TheVariants.{On}
use Rattle.numa_huge.proofs.Changed.{count-page}

pub used-of : (others : Others) (pools : PoolCounts) (spots : ℕ → Option HugeSpot) (node : ℕ)
    → ArePooled others pools spots → node < 256
    → used_at pools node ≡ pages_of (on_node node) spots + others.on node
used-of others pools spots node pooled small = omega (arith, pooled.used node small)

pub pooled-by : (others : Others) (pools : PoolCounts) (spots : ℕ → Option HugeSpot) → AreKept pools
    → ((node : ℕ) → node < 256
    → used_at pools node ≡ pages_of (on_node node) spots + others.on node)
    → pools.reserved ≡ pages_of has_reserved spots + others.reserved → ArePooled others pools spots
pooled-by others pools spots kept used reserved = record {
  used = λ node small. omega (arith, used node small, kept.within node);
  reserved = reserved;
}

-- the pages that are used on a node, and the reserved ones, are not too many
pub pooled-few : (others : Others) (pools : PoolCounts) (spots : ℕ → Option HugeSpot) (node : ℕ)
    → ArePooled others pools spots → node < 256 → used_at pools node + pools.reserved ≤ 549890031616
pooled-few others pools spots node pooled small = omega (
  arith,
  used-of others pools spots node pooled small,
  pooled.reserved,
  others.few node small,
  count-le (λ page. on_node node (spots page)) 0 most_pages,
  count-le (λ page. has_reserved (spots page)) 0 most_pages,
)

-- ---- a page that goes

module _ (spots : ℕ → Option HugeSpot) (page from : ℕ) (within : page < most_pages)
    (is : spots page ≡ Some (On from)) where
  -- it lies on its node
  was : (node : ℕ) → pages_if (on_node node (spots page)) 1 ≡ pages_if (from == node) 1
  was node = ap (λ (spot : Option HugeSpot). pages_if (on_node node spot) 1) is

  here : pages_if (from == from) 1 ≡ 1
  here = ap (λ (b : Bool). pages_if b 1) (eq-eqb from from refl)

  elsewhere : (node : ℕ) → from ≢ node → pages_if (from == node) 1 ≡ 0
  elsewhere node ne = ap (λ (b : Bool). pages_if b 1) (ne_eqb from node ne)

  pub pass-used : (others : Others) (pools : PoolCounts) → from < 256 → ArePooled others pools spots
      → free_at pools from < total_at pools from
  pass-used others pools small pooled = omega (
    arith,
    pooled.used from small,
    count-page (on_node from) page None spots within,
    was from,
    here,
  )

  pub pooled-passing : (others : Others) (pools : PoolCounts) (to : ℕ) → from < 256
      → to < 256 → from ≢ to → AreKept pools → AreKept (moving_one pools from to)
      → ArePooled others pools spots
      → ArePooled others (moving_one pools from to) (with_span page 1 (Some (On to)) spots)
  pooled-passing others pools to f t ne kept after pooled =
      let there : free_at pools from < total_at pools from = pass-used others pools f pooled in
      let all : movable pools from to 1 ≡ 1 =
      movable-all pools from to 1 kept ne f t
      (omega (arith, pooled-few others pools spots to pooled t)) in
      let so : AreElsewhere pools (moving_one pools from to) from to (movable pools from to 1) =
      moving-used pools from to 1 kept ne f t (omega (arith, there)) in
      let back : to ≢ from = λ e. ne (sym e) in
      let come : pages_if (to == to) 1 ≡ 1 =
      ap (λ (b : Bool). pages_if b 1) (eq-eqb to to refl) in
      pooled-by others (moving_one pools from to) (with_span page 1 (Some (On to)) spots) after
      (λ node small. elim (cases_eq node from) [
        | inl e ↦ subst (λ (k : ℕ). used_at (moving_one pools from to) k
            ≡ pages_of (on_node k) (with_span page 1 (Some (On to)) spots) + others.on k)
            (sym e) (omega (
              arith,
              so.leave,
              all,
              used-of others pools spots from pooled f,
              count-page (on_node from) page (Some (On to)) spots within,
              was from,
              here,
              ap (λ (b : Bool). pages_if b 1) (ne_eqb to from back),
            ))
        | inr other ↦ elim (cases_eq node to) [
          | inl e ↦ subst (λ (k : ℕ). used_at (moving_one pools from to) k
              ≡ pages_of (on_node k) (with_span page 1 (Some (On to)) spots) + others.on k)
              (sym e) (omega (
                arith,
                so.come,
                all,
                used-of others pools spots to pooled t,
                count-page (on_node to) page (Some (On to)) spots within,
                was to,
                elsewhere to ne,
                come,
              ))
          | inr third ↦ omega (
            arith,
            so.stay node other third,
            used-of others pools spots node pooled small,
            count-page (on_node node) page (Some (On to)) spots within,
            was node,
            elsewhere node (λ e. other (sym e)),
            ap (λ (b : Bool). pages_if b 1) (ne_eqb to node (λ e. third (sym e))),
          )
        ]
      ])
      (so.reserved ∙ pooled.reserved ∙ ap (λ (n : ℕ). n + others.reserved) kept-reserved)
    where
      kept-reserved : pages_of has_reserved spots
          ≡ pages_of has_reserved (with_span page 1 (Some (On to)) spots)
      kept-reserved = omega (
        arith,
        count-page has_reserved page (Some (On to)) spots within,
        ap (λ (spot : Option HugeSpot). pages_if (has_reserved spot) 1) is,
      )

-- ---- a page that stays, whose place a free one takes

pub pooled-renewing : (others : Others) (pools : PoolCounts) (spots : ℕ → Option HugeSpot)
    (node : ℕ) → node < 256 → AreKept pools → AreKept (renewing pools node)
    → ArePooled others pools spots → ArePooled others (renewing pools node) spots
pooled-renewing others pools spots node l kept after pooled =
    pooled-by others (renewing pools node) spots after
    (λ other small. renewing-used pools node kept l other
    ∙ used-of others pools spots other pooled small)
    (renewing-reserved pools node ∙ pooled.reserved)
