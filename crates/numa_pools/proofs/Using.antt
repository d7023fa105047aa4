-- How many pages of each node are used, whatever takes and gives.
use Rattle.std.proofs.Common.{◌≡◌, ◌≢◌, ℕ, ◌+◌, ◌-◌, ◌<◌, ◌≤◌, Bool, List, length, min, sym}
use Rattle.std.proofs.Common.{ap, ◌∙◌, arith, inl, inr, refl, set, subst, true, false}
use Rattle.std.specs.Prelude.{if◌then◌else◌, nat_lt, slice_index, sum}
use Rattle.std.proofs.lemmas.Bool.{cases_Bool, cases_eq, cases_lt, le-ltb, lt-ltb}
use Rattle.std.proofs.lemmas.List.{get_or-set_other, get_or-set_same}
use Rattle.numa_pools.specs.declared.shares.Shares.{Shares}
use Rattle.numa_pools.specs.Turns.{in_turn, least, one_less_at}
use Rattle.numa_pools.specs.Pools.{PoolCounts, end_surplus, free_at, freeing, freeing_one}
use Rattle.numa_pools.specs.Pools.{giving_back, has_spare, most, one_more_at, refusing, renewing}
use Rattle.numa_pools.specs.Pools.{reserving, surplus_at, taking, total_at, unreserved, used_at}
use Rattle.numa_pools.specs.Moves.{carried, movable, moving, served}
use Rattle.numa_pools.specs.Resize.{resized}
use Rattle.numa_pools.specs.Kept.{AreKept}
use Rattle.numa_pools.proofs.Asked.{resize-keeps}
use Rattle.numa_pools.proofs.Carrying.{AreMoved, AreTwo, over-at, two-of}
use Rattle.numa_pools.proofs.Each.{at-le-sum, least-at, length-each, less-at}
use Rattle.numa_pools.proofs.Keeping.{AreShares, kept-reserved, kept-taking, shares-are}
use Rattle.numa_pools.proofs.Moving.{freed, freeing-is}
use Rattle.numa_pools.proofs.Serving.{AreFreed, AreServing, carried_of, freed-are, moved-are}
use Rattle.numa_pools.proofs.Serving.{served-few, served_of, serving-most, spare-both}

-- ---- pages that come and go free

used-same : (pools after : PoolCounts) (node : ℕ) → free_at pools node ≤ total_at pools node
    → total_at after node + free_at pools node ≡ total_at pools node + free_at after node
    → used_at after node ≡ used_at pools node
used-same pools after node within same = omega (arith, within, same)

pub resize-used : (nodes allowed goal : ℕ) (pools : PoolCounts) → AreKept pools → (node : ℕ)
    → used_at (resized nodes allowed goal pools) node ≡ used_at pools node
resize-used nodes allowed goal pools kept node =
    used-same pools (resized nodes allowed goal pools) node (kept.within node)
    (resize-keeps nodes allowed goal pools kept node)

end-used : (pools : PoolCounts) (pages : ℕ) → AreKept pools → (node : ℕ)
    → used_at (end_surplus pools pages) node ≡ used_at pools node
end-used pools pages kept node =
    let room : List ℕ = least pools.surplus pools.free in
    let times : ℕ = min pages (sum pools.surplus) in
    let shares : Shares = in_turn times pools.memory pools.shrink room in
    let those : AreShares times room shares.taken =
    shares-are times pools.memory pools.shrink room shares refl in
    let even : length pools.surplus ≡ length pools.free = kept.surpluses ∙ sym kept.frees in
    let long : length shares.taken ≡ 256 =
    those.long ∙ length-each min pools.surplus pools.free even ∙ kept.surpluses in
    used-same pools (end_surplus pools pages) node (kept.within node)
    (omega (
      arith,
      those.at node,
      least-at pools.surplus pools.free node even,
      kept.within node,
      less-at pools.total shares.taken node (kept.totals ∙ sym long),
      less-at pools.free shares.taken node (kept.frees ∙ sym long),
    ))

pub giving-used : (pools : PoolCounts) (pages : ℕ) → AreKept pools → (node : ℕ)
    → used_at (giving_back pools pages) node ≡ used_at pools node
giving-used pools pages kept node =
    end-used (record pools { reserved = pools.reserved - pages }) pages
    (kept-reserved pools (pools.reserved - pages) kept (omega (arith, kept.reserved))) node

pub refusing-used : (pools : PoolCounts) (pages : ℕ) → AreKept pools → (node : ℕ)
    → used_at (refusing pools pages) node ≡ used_at pools node
refusing-used pools pages kept node = elim (cases_lt (unreserved pools) pages) [
  | inl l ↦ rw (lt-ltb (unreserved pools) pages l) refl
  | inr l ↦
      let there : AreKept (reserving pools pages) =
      kept-reserved pools (pools.reserved + pages) kept (omega (arith, l, kept.reserved)) in
      rw (le-ltb (unreserved pools) pages l) (giving-used (reserving pools pages) pages there node)
]

-- ---- a page that is taken

pub taking-used : (pools : PoolCounts) (node : ℕ) (by_reservation : Bool) → AreKept pools
    → node < 256 → 0 < free_at pools node
    → used_at (taking pools node by_reservation) node ≡ used_at pools node + 1
taking-used pools node by_reservation kept l some =
    omega (
      arith,
      some,
      kept.within node,
      get_or-set_same pools.free node (free_at pools node - 1) 0 (omega (arith, l, kept.frees)),
    )

pub taking-others : (pools : PoolCounts) (node : ℕ) (by_reservation : Bool) (other : ℕ)
    → other ≢ node → used_at (taking pools node by_reservation) other ≡ used_at pools other
taking-others pools node by_reservation other ne =
    ap (λ (n : ℕ). total_at pools other - n)
    (get_or-set_other pools.free node other (free_at pools node - 1) 0 ne)

-- ---- pages that become free

pub freeing-used : (pools : PoolCounts) (node pages : ℕ) → AreKept pools → node < 256
    → free_at pools node + pages ≤ total_at pools node
    → used_at (freeing pools node pages) node + pages ≡ used_at pools node
freeing-used pools node pages kept l used =
    let few : ℕ = min pages (surplus_at pools node) in
    let total : ℕ = total_at pools node - few in
    let free : ℕ = free_at pools node + (pages - few) in
    let is : freeing pools node pages ≡ freed pools node pages =
    freeing-is pages pools node (omega (arith, l, kept.frees)) in
    omega (
      arith,
      used,
      ap (λ (p : PoolCounts). total_at p node) is,
      ap (λ (p : PoolCounts). free_at p node) is,
      get_or-set_same pools.total node total 0 (omega (arith, l, kept.totals)),
      get_or-set_same pools.free node free 0 (omega (arith, l, kept.frees)),
    )

pub freeing-others : (pools : PoolCounts) (node pages : ℕ) → AreKept pools → node < 256
    → (other : ℕ) → other ≢ node
    → used_at (freeing pools node pages) other ≡ used_at pools other
freeing-others pools node pages kept l other ne =
    let few : ℕ = min pages (surplus_at pools node) in
    let is : freeing pools node pages ≡ freed pools node pages =
    freeing-is pages pools node (omega (arith, l, kept.frees)) in
    ap (λ (p : PoolCounts). used_at p other) is
    ∙ ap (λ (n : ℕ). n - slice_index (set pools.free node (free_at pools node + (pages - few)))
    other) (get_or-set_other pools.total node other (total_at pools node - few) 0 ne)
    ∙ ap (λ (n : ℕ). total_at pools other - n)
    (get_or-set_other pools.free node other (free_at pools node + (pages - few)) 0 ne)

-- ---- a page that moves to its own node

-- as many pages of each node are used as before
pub renewing-used : (pools : PoolCounts) (node : ℕ) → AreKept pools → node < 256 → (other : ℕ)
    → used_at (renewing pools node) other ≡ used_at pools other
unfolding renewing
renewing-used pools node kept l other = elim (cases_Bool (has_spare pools node)) [
  | inl spare ↦
      let both = spare-both pools node spare in
      let taken : PoolCounts = taking pools node false in
      let so : AreKept taken = kept-taking pools node false kept l both.1
      (lt-ltb pools.reserved (sum pools.free) (omega (arith, both.0))) in
      rw spare (elim (cases_eq other node) [
        | inl e ↦ subst (λ (k : ℕ). used_at (freeing taken node 1) k ≡ used_at pools k) (sym e)
            (omega (
              arith,
              freeing-used taken node 1 so l (omega (
                arith,
                both.1,
                kept.within node,
                get_or-set_same pools.free node (free_at pools node - 1) 0
                    (omega (arith, l, kept.frees)),
              )),
              taking-used pools node false kept l both.1,
            ))
        | inr ne ↦ freeing-others taken node 1 so l other ne
            ∙ taking-others pools node false other ne
      ])
  | inr none ↦ rw none refl
]

pub renewing-reserved : (pools : PoolCounts) (node : ℕ)
    → (renewing pools node).reserved ≡ pools.reserved
unfolding renewing freeing_one
renewing-reserved pools node = by (has_spare pools node) (nat_lt 0 (surplus_at pools node))
  where
    by : (spare some : Bool) → (if spare
        then if some then record pools {
          total = one_less_at pools.total node;
          free = one_less_at pools.free node;
          surplus = one_less_at pools.surplus node;
        } else record pools { free = one_more_at (one_less_at pools.free node) node }
        else pools).reserved ≡ pools.reserved
    by true true = refl
    by true false = refl
    by false some = refl

-- ---- pages that move

-- as many as can move are used elsewhere
pub record AreElsewhere (pools after : PoolCounts) (from to count : ℕ) : Type 0 where
  pub leave : used_at after from + count ≡ used_at pools from
  pub come : used_at after to ≡ used_at pools to + count
  pub stay : (node : ℕ) → node ≢ from → node ≢ to → used_at after node ≡ used_at pools node
  pub reserved : after.reserved ≡ pools.reserved

pub moving-used : (pools : PoolCounts) (from to pages : ℕ) → AreKept pools → from ≢ to
    → from < 256 → to < 256 → free_at pools from + pages ≤ total_at pools from
    → AreElsewhere pools (moving pools from to pages) from to (movable pools from to pages)
moving-used pools from to pages kept ne f t used =
    let two : AreTwo pools from to = two-of pools from to kept ne f t in
    let k : ℕ = served_of pools from to pages in
    let m : ℕ = carried_of pools from to pages in
    let first : PoolCounts = served pools from to k in
    let last : PoolCounts = carried first from to m in
    let all : AreMoved pools from to pages (k + m) last = moved-are pages pools from to two in
    let so : AreServing pages (free_at pools to) (surplus_at pools from) (unreserved pools) k =
    served-few pools from to pages k refl in
    let few : free_at pools from + k ≤ total_at pools from = omega (arith, used, so.all) in
    let of : AreFreed pools from to k = freed-are pools from to k two few in
    let base : PoolCounts = freeing pools from k in
    let less : free_at first to ≡ free_at pools to - k =
    get_or-set_same base.free to (free_at base to - k) 0 of.long
    ∙ ap (λ (n : ℕ). n - k) of.free in
    let same : free_at first from ≡ free_at base from =
    get_or-set_other base.free to from (free_at base to - k) 0 ne in
    let over = over-at first.total from to m ne of.total-node of.total-other in
    record {
      leave = omega (
        arith,
        all.many,
        ap (λ (p : PoolCounts). total_at p from) all.are,
        ap (λ (p : PoolCounts). free_at p from) all.are,
        over.0,
        same,
        of.used,
        used,
        so.all,
      );
      come = omega (
        arith,
        all.many,
        ap (λ (p : PoolCounts). total_at p to) all.are,
        ap (λ (p : PoolCounts). free_at p to) all.are,
        over.1,
        less,
        of.room,
        so.there,
        kept.within to,
      );
      stay = λ node a b. ap (λ (p : PoolCounts). used_at p node) all.are
          ∙ ap (λ (n : ℕ). n - free_at first node) (over.2 node a b)
          ∙ ap (λ (n : ℕ). total_at base node - n)
          (get_or-set_other base.free to node (free_at base to - k) 0 b)
          ∙ freeing-others pools from k kept f node a;
      reserved = ap (λ (p : PoolCounts). p.reserved) all.are ∙ of.reserved;
    }

-- pages can move as long as the target's used pages, all reserved ones and they fit on a node
pub movable-all : (pools : PoolCounts) (from to pages : ℕ) → AreKept pools → from ≢ to
    → from < 256 → to < 256 → used_at pools to + pools.reserved + pages ≤ most
    → movable pools from to pages ≡ pages
movable-all pools from to pages kept ne f t room =
    let two : AreTwo pools from to = two-of pools from to kept ne f t in
    let k : ℕ = served_of pools from to pages in
    let m : ℕ = carried_of pools from to pages in
    let all : AreMoved pools from to pages (k + m) (carried (served pools from to k) from to m) =
    moved-are pages pools from to two in
    omega (
      arith,
      all.many,
      serving-most pages (free_at pools to) (surplus_at pools from) (unreserved pools),
      (served-few pools from to pages k refl).all,
      at-le-sum pools.free to,
      kept.within to,
      kept.few to,
      room,
    )
