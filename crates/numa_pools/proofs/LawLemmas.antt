-- Laws of pools.
use Rattle.std.proofs.Common.{◌≡◌, ℕ, zero, suc, ◌+◌, ◌-◌, ◌<◌, false, List, length, min}
use Rattle.std.proofs.Common.{max, [], refl, sym, ap, ◌∙◌, arith, inl, inr, set, subst}
use Rattle.std.specs.Prelude.{slice_index, sum, nat_lt}
use Rattle.std.proofs.lemmas.Bool.{cases_lt, le-ltb}
use Rattle.std.proofs.lemmas.List.{set-get_or, set-set}
use Rattle.numa_pools.specs.declared.shares.Shares.{Shares}
use Rattle.numa_pools.specs.Turns.{Turns, after_turns, in_turn, least, less, on, one_less_at, plus}
use Rattle.numa_pools.specs.Turns.{ring, turn, turn_behind, turns_of}
use Rattle.numa_pools.specs.Pools.{PoolCounts, freeing_one, giving_back}
use Rattle.numa_pools.specs.Pools.{lasting}
use Rattle.numa_pools.specs.Pools.{one_more_at, reserving, taking, used}
use Rattle.numa_pools.specs.Resize.{add_fresh, adopt, call_surplus}
use Rattle.numa_pools.specs.Resize.{drop_free, left_of, resized}
use Rattle.numa_pools.specs.Kept.{AreKept}
use Rattle.numa_pools.proofs.Each.{each-is, length-each, length-on, less-at, on-out, sum-less}
use Rattle.numa_pools.proofs.Keeping.{length-left}
use Rattle.numa_pools.proofs.Ringing.{IsOutside, ring-covers}
use Rattle.numa_pools.proofs.Turning.{AreLeft, Covers, IsTurned, after-left, after-nothing, turned}
use Rattle.numa_pools.proofs.Turning.{weight-covered, less-same}

-- ---- no turns

-- without turns nothing is taken
record IsNothing (mark : ℕ) (room : List ℕ) (shares : Shares) : Type 0 where
  long : length shares.taken ≡ length room
  none : (node : ℕ) → slice_index shares.taken node ≡ 0
  stays : shares.mark ≡ mark

no-turn : (nodes mark : ℕ) (room : List ℕ) → IsNothing mark room (in_turn 0 nodes mark room)
unfolding in_turn
no-turn nodes mark room =
    let those : List ℕ = on nodes room in
    record {
      long = length-each (λ a b. a - b) those those refl ∙ length-on nodes room;
      none = λ node. omega (arith, less-at those those node refl);
      stays = refl;
    }

no-turns : (times nodes mark : ℕ) (room : List ℕ) → times ≡ 0
    → IsNothing mark room (in_turn times nodes mark room)
no-turns times nodes mark room is =
    subst (λ (n : ℕ). IsNothing mark room (in_turn n nodes mark room)) (sym is)
    (no-turn nodes mark room)

less-nothing-each : (xs ys : List ℕ) → length xs ≡ length ys
    → ((node : ℕ) → slice_index ys node ≡ 0) → less xs ys ≡ xs
less-nothing-each xs ys even none =
    sym (each-is (λ a b. a - b) xs xs ys refl even (λ k l. omega (arith, none k)))

plus-nothing-each : (xs ys : List ℕ) → length xs ≡ length ys
    → ((node : ℕ) → slice_index ys node ≡ 0) → plus xs ys ≡ xs
plus-nothing-each xs ys even none =
    sym (each-is (λ a b. a + b) xs xs ys refl even (λ k l. omega (arith, none k)))

-- ---- a resize to what is there

adopt-nothing : (nodes : ℕ) (pools : PoolCounts) → AreKept pools → adopt nodes (lasting pools) pools
    ≡ pools
adopt-nothing nodes pools kept =
    let times : ℕ = min (lasting pools - lasting pools) (sum pools.surplus) in
    let none : IsNothing pools.grow pools.surplus (in_turn times nodes pools.grow pools.surplus) =
    no-turns times nodes pools.grow pools.surplus (omega arith) in
    rw (less-nothing-each pools.surplus _ (sym none.long) none.none, none.stays) refl

add-nothing : (nodes allowed : ℕ) (pools : PoolCounts) → AreKept pools
    → add_fresh nodes allowed (lasting pools) pools ≡ pools
add-nothing nodes allowed pools kept =
    let room : List ℕ = on allowed (left_of pools.total) in
    let times : ℕ = lasting pools - lasting pools in
    let none : IsNothing pools.grow room (in_turn times nodes pools.grow room) =
    no-turns times nodes pools.grow room (omega arith) in
    let long : length room ≡ 256 =
    length-on allowed (left_of pools.total) ∙ length-left pools.total ∙ kept.totals in
    rw (
      plus-nothing-each pools.total _ (kept.totals ∙ sym long ∙ sym none.long) none.none,
      plus-nothing-each pools.free _ (kept.frees ∙ sym long ∙ sym none.long) none.none,
      none.stays,
    )
    refl

drop-nothing : (nodes : ℕ) (pools : PoolCounts) → AreKept pools
    → drop_free nodes (lasting pools) pools ≡ pools
drop-nothing nodes pools kept =
    let times : ℕ = lasting pools - max (lasting pools) (used pools + pools.reserved) in
    let none : IsNothing pools.shrink pools.free (in_turn times nodes pools.shrink pools.free) =
    no-turns times nodes pools.shrink pools.free (omega arith) in
    rw (
      less-nothing-each pools.total _ (kept.totals ∙ sym kept.frees ∙ sym none.long) none.none,
      less-nothing-each pools.free _ (sym none.long) none.none,
      none.stays,
    ) refl

call-nothing : (nodes : ℕ) (pools : PoolCounts) → AreKept pools
    → call_surplus nodes (lasting pools) pools ≡ pools
call-nothing nodes pools kept =
    let room : List ℕ = less pools.total pools.surplus in
    let times : ℕ = lasting pools - lasting pools in
    let none : IsNothing pools.shrink room (in_turn times nodes pools.shrink room) =
    no-turns times nodes pools.shrink room (omega arith) in
    let even : length pools.total ≡ length pools.surplus = kept.totals ∙ sym kept.surpluses in
    let long : length room ≡ length pools.surplus =
    length-each (λ a b. a - b) pools.total pools.surplus even ∙ even in
    rw (plus-nothing-each pools.surplus _ (sym long ∙ sym none.long) none.none, none.stays) refl

pub resize-to-itself : (nodes allowed : ℕ) (pools : PoolCounts) → AreKept pools
    → resized nodes allowed (lasting pools) pools ≡ pools
unfolding resized
resize-to-itself nodes allowed pools kept =
    let goal : ℕ = lasting pools in
    ap (λ (p : PoolCounts). call_surplus nodes goal (drop_free nodes goal
    (add_fresh nodes allowed goal p))) (adopt-nothing nodes pools kept)
    ∙ ap (λ (p : PoolCounts). call_surplus nodes goal (drop_free nodes goal p))
    (add-nothing nodes allowed pools kept)
    ∙ ap (call_surplus nodes goal) (drop-nothing nodes pools kept)
    ∙ call-nothing nodes pools kept

-- ---- reserved, and given back

pub give-back-all : (pools : PoolCounts) (pages : ℕ) → AreKept pools → sum pools.surplus ≡ 0
    → giving_back (reserving pools pages) pages ≡ pools
give-back-all pools pages kept nothing =
    let room : List ℕ = least pools.surplus pools.free in
    let times : ℕ = min pages (sum pools.surplus) in
    let none : IsNothing pools.shrink room (in_turn times pools.memory pools.shrink room) =
    no-turns times pools.memory pools.shrink room (omega (arith, nothing)) in
    let even : length pools.surplus ≡ length pools.free = kept.surpluses ∙ sym kept.frees in
    let long : length room ≡ 256 =
    length-each min pools.surplus pools.free even ∙ kept.surpluses in
    let back : pools.reserved + pages - pages ≡ pools.reserved = omega arith in
    rw (
      less-nothing-each pools.total _ (kept.totals ∙ sym long ∙ sym none.long) none.none,
      less-nothing-each pools.free _ (kept.frees ∙ sym long ∙ sym none.long) none.none,
      less-nothing-each pools.surplus _ (kept.surpluses ∙ sym long ∙ sym none.long) none.none,
      none.stays,
      back,
    ) refl

-- ---- taken, and freed

pub free-taken : (pools : PoolCounts) (node : ℕ) → slice_index pools.surplus node ≡ 0
    → 0 < slice_index pools.free node → freeing_one (taking pools node false) node ≡ pools
unfolding freeing_one
free-taken pools node nothing some =
    let is_out : nat_lt 0 (slice_index pools.surplus node) ≡ false =
    le-ltb 0 (slice_index pools.surplus node) (omega (arith, nothing)) in
    let one : slice_index (one_less_at pools.free node) node + 1 ≡ slice_index pools.free node =
    omega (arith, less-same pools.free node, some) in
    let same : one_more_at (one_less_at pools.free node) node ≡ pools.free =
    ap (set (one_less_at pools.free node) node) one
    ∙ set-set pools.free node (slice_index pools.free node - 1) (slice_index pools.free node)
    ∙ set-get_or pools.free node 0 in
    rw is_out (ap (λ (free : List ℕ). let p : PoolCounts = record pools { free = free } in p) same)

-- ---- all turns are used, as long as there is room

pub after-exact : (times : ℕ) (room ring : List ℕ) → Covers ring room
    → sum (after_turns times (turns_of room ring)).room + min times (sum room) ≡ sum room
unfolding turn
after-exact zero room ring covers = omega arith
after-exact (suc times) room ring covers = elim (cases_lt 0 (sum room)) [
  | inl l ↦
      let next : Turns = turn_behind room [] ring in
      let one : IsTurned room ring next = turned room [] ring (weight-covered ring room covers l) in
      let covered : Covers next.ring next.room =
      λ node l. omega (arith, one.nodes node, covers node (omega (arith, l, one.fewer node))) in
      omega (arith, one.sum, after-exact times next.room next.ring covered)
  | inr l ↦
      let none : sum room ≡ 0 = omega (arith, l) in
      let same : after_turns (suc times) (turns_of room ring) ≡ turns_of room ring =
      after-nothing ring room (suc times) none in
      let end : sum (after_turns (suc times) (turns_of room ring)).room ≡ sum room =
      ap (λ (t : Turns). sum t.room) same in
      omega (arith, end, none)
]

pub all-taken : (times nodes mark : ℕ) (room : List ℕ) → mark < 256 → length room ≡ 256
    → sum (in_turn times nodes mark room).taken ≡ min times (sum (on nodes room))
unfolding in_turn
all-taken times nodes mark room m long =
    let those : List ℕ = on nodes room in
    let even : length those ≡ 256 = length-on nodes room ∙ long in
    let outside : IsOutside nodes those = λ node is_out. on-out nodes room node is_out in
    let covers : Covers (ring nodes mark) those = ring-covers nodes mark those m even outside in
    let turns : Turns = after_turns times (turns_of those (ring nodes mark)) in
    let left : AreLeft those times turns = after-left times those (ring nodes mark) in
    omega (
      arith,
      after-exact times those (ring nodes mark) covers,
      sum-less those turns.room (sym left.long) left.fewer,
    )
