-- The pools have as many used pages as lie on their nodes, while the pages of one node after the
-- other leave.
use Rattle.std.proofs.Common.{◌≡◌, ◌≢◌, ℕ, zero, suc, ◌+◌, ◌<◌, ◌≤◌, ◌∙◌, ◌&&◌, Bool, true, false}
use Rattle.std.proofs.Common.{not, Option, Some, None, refl, sym, ap, subst, arith, inl, inr}
use Rattle.std.specs.Prelude.{◌==◌, if◌then◌else◌}
use Rattle.std.proofs.lemmas.Bool.{and_right, both_ways, cases_Bool, cases_eq, eq-eqb, eqb-true}
use Rattle.std.proofs.lemmas.Bool.{ne_eqb}
use Rattle.numa_ranges.specs.Counts.{count_pages}
use Rattle.numa_ranges.proofs.Counted.{count-none}
use Rattle.numa_placed.specs.Shifts.{may_go, source_from}
use Rattle.numa_placed.proofs.Shared.{count-le, count-same, one-page, zero-none}
use Rattle.numa_pools.specs.Kept.{AreKept}
use Rattle.numa_pools.specs.Moves.{movable, moving}
use Rattle.numa_pools.specs.Pools.{PoolCounts, used_at}
use Rattle.numa_pools.proofs.Using.{AreElsewhere, movable-all, moving-used}
use Rattle.numa_huge.specs.Huge.{has_reserved, most_pages, on_node, pages_of}
use Rattle.numa_huge.specs.Kept.{ArePooled, Others}
use Rattle.numa_huge.specs.Moves.{count_on, gone_spot}
use Rattle.numa_huge.specs.Shared.{pages_if}
use Rattle.numa_huge.specs.declared.spot.HugeSpot.{HugeSpot}
use Rattle.numa_huge.specs.declared.spot.HugeSpot.TheVariants.{Bare, Reserved, On}
use Rattle.numa_huge.proofs.Changed.{count-outside}
use Rattle.numa_huge.proofs.Passing.{pooled-by, pooled-few, used-of}
use Rattle.numa_huge.proofs.Sourcing.{none-may}

-- ---- counts

-- two tests together pass as often as two others
count-both : (f g h k : ℕ → Bool) (a n : ℕ) → ((p : ℕ) → a ≤ p
    → pages_if (f p) 1 + pages_if (g p) 1 ≡ pages_if (h p) 1 + pages_if (k p) 1)
    → count_pages f a n + count_pages g a n ≡ count_pages h a n + count_pages k a n
unfolding count_pages
count-both f g h k a zero same = refl
count-both f g h k a (suc n) same =
    let here : pages_if (f a) 1 + pages_if (g a) 1 ≡ pages_if (h a) 1 + pages_if (k a) 1 =
    same a (omega arith) in
    let rest = count-both f g h k (a + 1) n (λ p low. same p (omega (arith, low))) in
    omega (arith, here, rest)

and-true : (b : Bool) → (b && true) ≡ b
and-true true = refl
and-true false = refl

-- pages that pass a test, where another passes for all
count-where : (b : Bool) (f : ℕ → Bool) (a n : ℕ)
    → count_pages (λ p. f p && b) a n ≡ pages_if b (count_pages f a n)
count-where true f a n = count-same (λ p. f p && true) f a n (λ p low high. and-true (f p))
count-where false f a n =
    count-none (λ p. f p && false) a n (λ p low high. and_right (f p) false refl)

-- ---- the nodes that wait

-- the nodes that wait, once one doesn't
abbrev pub less : (ℕ → Bool) → ℕ → ℕ → Bool
less still source node = still node && not (node == source)

-- where the pages of a node are: those of nodes that wait lie there, the others have gone
abbrev pub next_of : (ℕ → ℕ) → (ℕ → Bool) → ℕ → ℕ
next_of go still node = if still node then node else go node

-- and so does each page
abbrev pub next_spots : (ℕ → ℕ) → (ℕ → Bool) → (ℕ → Option HugeSpot) → ℕ → Option HugeSpot
next_spots go still spots page = gone_spot (next_of go still) (spots page)

pub count-less : (still : ℕ → Bool) (source : ℕ) → source < 256 → still source ≡ true
    → count_pages (less still source) 0 256 + 1 ≡ count_pages still 0 256
count-less still source small waits =
    let gone : less still source source ≡ false =
    rw (eq-eqb source source refl) (and_right (still source) false refl) in
    omega (
      arith,
      count-outside still (less still source) source 1 256 (omega (arith, small))
          (λ p l. other p (λ e. absurd (omega (arith, e, l))))
          (λ p l. other p (λ e. absurd (omega (arith, e, l)))),
      one-page still source,
      ap (λ (b : Bool). pages_if b 1) waits,
      one-page (less still source) source,
      ap (λ (b : Bool). pages_if b 1) gone,
    )
  where
    other : (p : ℕ) → p ≢ source → still p ≡ less still source p
    other p ne = rw (ne_eqb p source ne) (sym (and-true (still p)))

-- ---- a node's pages go

module _ (go : ℕ → ℕ) (still : ℕ → Bool) (source : ℕ) (waits : still source ≡ true) where
  -- a page that lies there goes, each other lies where it lay
  spot-goes : (node : ℕ) (spot : Option HugeSpot)
      → pages_if (on_node node (gone_spot (next_of go (less still source)) spot)) 1
      + pages_if (on_node source spot && (source == node)) 1
      ≡ pages_if (on_node node (gone_spot (next_of go still) spot)) 1
      + pages_if (on_node source spot && (go source == node)) 1
  spot-goes node None = refl
  spot-goes node (Some Bare) = refl
  spot-goes node (Some Reserved) = refl
  spot-goes node (Some (On other)) = elim (cases_eq other source) [
    | inl e ↦ rw (e, eq-eqb source source refl, waits) (omega arith)
    | inr ne ↦
        let off : (other == source) ≡ false = ne_eqb other source ne in
        let same : less still source other ≡ still other =
        ap (λ (b : Bool). still other && not b) off ∙ and-true (still other) in
        (λ i. pages_if ((if same i then other else go other) == node) 1
        + pages_if (off i && (source == node)) 1)
        ∙ sym (λ i. pages_if (next_of go still other == node) 1
        + pages_if (off i && (go source == node)) 1)
  ]

  pub count-goes : (spots : ℕ → Option HugeSpot) (node : ℕ)
      → pages_of (on_node node) (next_spots go (less still source) spots)
      + pages_if (source == node) (count_on spots source)
      ≡ pages_of (on_node node) (next_spots go still spots)
      + pages_if (go source == node) (count_on spots source)
  count-goes spots node =
      let there : ℕ → Bool = λ page. on_node source (spots page) in
      omega (
        arith,
        count-both (λ page. on_node node (next_spots go (less still source) spots page))
            (λ page. there page && (source == node))
            (λ page. on_node node (next_spots go still spots page))
            (λ page. there page && (go source == node)) 0 most_pages
            (λ page low. spot-goes node (spots page)),
        count-where (source == node) there 0 most_pages,
        count-where (go source == node) there 0 most_pages,
      )

-- no reservation goes
pub reserved-goes : (go : ℕ → ℕ) (spots : ℕ → Option HugeSpot)
    → pages_of has_reserved (λ page. gone_spot go (spots page)) ≡ pages_of has_reserved spots
reserved-goes go spots =
    count-same (λ page. has_reserved (gone_spot go (spots page)))
    (λ page. has_reserved (spots page)) 0 most_pages (λ page low high. same (spots page))
  where
    same : (spot : Option HugeSpot) → has_reserved (gone_spot go spot) ≡ has_reserved spot
    same None = refl
    same (Some Bare) = refl
    same (Some Reserved) = refl
    same (Some (On node)) = refl

module _ (go : ℕ → ℕ) (still : ℕ → Bool) (source : ℕ) (small : source < 256)
    (near : go source < 256) (waits : still source ≡ true) (ne : source ≢ go source)
    (spots : ℕ → Option HugeSpot) (others : Others) (pools : PoolCounts) (kept : AreKept pools)
    (pooled : ArePooled others pools (next_spots go still spots)) where
  back : pages_if (go source == source) (count_on spots source) ≡ 0
  back = ap (λ (b : Bool). pages_if b (count_on spots source))
      (ne_eqb (go source) source (λ e. ne (sym e)))

  there : pages_if (source == source) (count_on spots source) ≡ count_on spots source
  there = ap (λ (b : Bool). pages_if b (count_on spots source)) (eq-eqb source source refl)

  -- its pages are there
  pub goes-used : count_on spots source ≤ used_at pools source
  goes-used = omega (
    arith,
    used-of others pools (next_spots go still spots) source pooled small,
    count-goes go still source waits spots source,
    back,
    there,
  )

  pub pooled-goes : (after : PoolCounts) → AreKept after
      → after ≡ moving pools source (go source) (count_on spots source)
      → ArePooled others after (next_spots go (less still source) spots)
  pooled-goes after later is =
      let to : ℕ = go source in
      let count : ℕ = count_on spots source in
      let now : ℕ → Option HugeSpot = next_spots go still spots in
      let few : count ≤ most_pages = count-le (λ page. on_node source (spots page)) 0 most_pages in
      let all : movable pools source to count ≡ count = movable-all pools source to count kept ne
      small near (omega (arith, pooled-few others pools now to pooled near, few)) in
      let so : AreElsewhere pools after source to (movable pools source to count) =
      subst (λ (p : PoolCounts). AreElsewhere pools p source to (movable pools source to count))
      (sym is) (moving-used pools source to count kept ne small near
      (omega (arith, goes-used, kept.within source))) in
      pooled-by others after (next_spots go (less still source) spots) later
      (λ node l. elim (cases_eq node source) [
        | inl e ↦ subst (λ (k : ℕ). used_at after k
            ≡ pages_of (on_node k) (next_spots go (less still source) spots) + others.on k) (sym e)
            (omega (
              arith,
              so.leave,
              all,
              used-of others pools now source pooled small,
              count-goes go still source waits spots source,
              back,
              there,
            ))
        | inr other ↦ elim (cases_eq node to) [
          | inl e ↦ subst (λ (k : ℕ). used_at after k
              ≡ pages_of (on_node k) (next_spots go (less still source) spots) + others.on k)
              (sym e) (omega (
                arith,
                so.come,
                all,
                used-of others pools now to pooled near,
                count-goes go still source waits spots to,
                ap (λ (b : Bool). pages_if b count) (ne_eqb source to ne),
                ap (λ (b : Bool). pages_if b count) (eq-eqb to to refl),
              ))
          | inr third ↦ omega (
            arith,
            so.stay node other third,
            used-of others pools now node pooled l,
            count-goes go still source waits spots node,
            ap (λ (b : Bool). pages_if b count) (ne_eqb source node (λ e. other (sym e))),
            ap (λ (b : Bool). pages_if b count) (ne_eqb to node (λ e. third (sym e))),
          )
        ]
      ])
      (omega (
        arith,
        so.reserved,
        pooled.reserved,
        reserved-goes (next_of go still) spots,
        reserved-goes (next_of go (less still source)) spots,
      ))

-- ---- before the first goes, and once all have gone

-- pages that lie on nodes for which two moves are the same
gone-near : (go other : ℕ → ℕ) (spot : Option HugeSpot)
    → ((node : ℕ) → spot ≡ Some (On node) → go node ≡ other node)
    → gone_spot go spot ≡ gone_spot other spot
gone-near go other None same = refl
gone-near go other (Some Bare) same = refl
gone-near go other (Some Reserved) same = refl
gone-near go other (Some (On node)) same = ap (λ (n : ℕ). Some (On n)) (same node refl)

-- pages that stay
gone-stay : (spot : Option HugeSpot) → gone_spot (λ node. node) spot ≡ spot
gone-stay None = refl
gone-stay (Some Bare) = refl
gone-stay (Some Reserved) = refl
gone-stay (Some (On node)) = refl

module _ (go : ℕ → ℕ) (still : ℕ → Bool) (spots : ℕ → Option HugeSpot) (others : Others)
    (pools : PoolCounts) (nodes : (page node : ℕ) → spots page ≡ Some (On node) → node < 256) where
  -- where all nodes wait whose pages go
  pub pooled-first : ((node : ℕ) → node < 256 → still node ≡ false → go node ≡ node)
      → ArePooled others pools spots → ArePooled others pools (next_spots go still spots)
  pooled-first stay =
      let same : (page : ℕ) → spots page ≡ next_spots go still spots page =
      λ page. sym (gone-near (next_of go still) (λ node. node) (spots page)
      (λ node is. stays node (nodes page node is)) ∙ gone-stay (spots page)) in
      subst (λ (s : ℕ → Option HugeSpot). ArePooled others pools s) (λ i page. same page i)
    where
      stays : (node : ℕ) → node < 256 → next_of go still node ≡ node
      stays node small = elim (cases_Bool (still node)) [
        | inl t ↦ rw t refl
        | inr e ↦ rw e (stay node small e)
      ]

  -- where no node waits whose pages go
  pub pooled-last : ((node : ℕ) → node < 256 → may_go go still node ≡ false)
      → ArePooled others pools (next_spots go still spots)
      → ArePooled others pools (λ page. gone_spot go (spots page))
  pooled-last none =
      let same : (page : ℕ) → next_spots go still spots page ≡ gone_spot go (spots page) =
      λ page. gone-near (next_of go still) go (spots page)
      (λ node is. went node (nodes page node is)) in
      subst (λ (s : ℕ → Option HugeSpot). ArePooled others pools s) (λ i page. same page i)
    where
      went : (node : ℕ) → node < 256 → next_of go still node ≡ go node
      went node small = elim (cases_Bool (still node)) [
        | inr e ↦ rw e refl
        | inl t ↦ elim (cases_Bool (go node == node)) [
          | inl same ↦ rw t (sym (eqb-true (go node) node same))
          | inr other ↦ absurd (both_ways (may_go go still node) (none node small)
              (rw (t, other) refl))
        ]
      ]

-- once so many nodes went as there are, none waits
pub none-wait : (go : ℕ → ℕ) (still : ℕ → Bool) (turn : ℕ) → 256 ≤ turn
    → count_pages still 0 256 + turn ≤ 256 → (node : ℕ) → node < 256
    → may_go go still node ≡ false
none-wait go still turn end few node small =
    rw (zero-none still 0 256 node (omega (arith, end, few)) (omega arith) (omega (arith, small)))
    refl

-- if none is next, none goes
pub none-next : (go : ℕ → ℕ) (still : ℕ → Bool) → source_from go still None 0 256 ≡ None
    → (node : ℕ) → node < 256 → may_go go still node ≡ false
none-next go still none node small =
    none-may go still 256 0 None none node (omega arith) (omega (arith, small))
