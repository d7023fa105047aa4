-- What a resize gives: as many lasting pages as were asked for, if the nodes have enough.
use Rattle.std.proofs.Common.{◌≡◌, ℕ, zero, suc, ◌+◌, ◌-◌, ◌<◌, ◌≤◌, List, [], ◌∷◌}
use Rattle.std.proofs.Common.{◌++◌, length, min, max, refl, sym, ◌∙◌, arith, inl, inr}
use Rattle.std.specs.Prelude.{nat_lt, slice_index, sum}
use Rattle.std.proofs.lemmas.Bool.{cases_Bool, cases_lt}
use Rattle.numa_mask.specs.NodeSet.{has}
use Rattle.numa_pools.specs.declared.shares.Shares.{Shares}
use Rattle.numa_pools.specs.Turns.{Turns, after_turns, around, in_turn, less, on, plus, ring}
use Rattle.numa_pools.specs.Turns.{turn, turn_behind, turns_of}
use Rattle.numa_pools.specs.Pools.{PoolCounts, free_at, lasting, total_at, used}
use Rattle.numa_pools.specs.Resize.{add_fresh, adopt, call_surplus, drop_free, left_of, resized}
use Rattle.numa_pools.specs.Kept.{AreKept}
use Rattle.numa_pools.proofs.Each.{length-each, length-on, less-at, on-in, on-out, plus-at, sum-le}
use Rattle.numa_pools.proofs.Each.{sum-less, sum-on, sum-plus}
use Rattle.numa_pools.proofs.Keeping.{AreShares, length-left, shares-are}
use Rattle.numa_pools.proofs.Resizing.{kept-adding, kept-adopting, kept-calling, kept-dropping}
use Rattle.numa_pools.proofs.LawLemmas.{all-taken}
use Rattle.numa_pools.proofs.Ringing.{around-past, times_in-filter-le}
use Rattle.numa_pools.proofs.Turning.{same-once, times_in, times_in-append}

-- ---- the mark is a node

turn_behind-keeps : (node : ℕ) (room passed zs : List ℕ)
    → times_in node (turn_behind room passed zs).ring ≡ times_in node passed + times_in node zs
turn_behind-keeps node room passed [] = omega arith
turn_behind-keeps node room passed (x ∷ zs) = elim (cases_Bool (nat_lt 0 (slice_index room x))) [
  | inl e ↦
      rw e (omega (
        arith,
        times_in-append node zs (passed ++ x ∷ []),
        times_in-append node passed (x ∷ []),
      ))
  | inr e ↦
      rw e (omega (
        arith,
        turn_behind-keeps node room (passed ++ x ∷ []) zs,
        times_in-append node passed (x ∷ []),
      ))
]

after-keeps : (node times : ℕ) (room ring : List ℕ)
    → times_in node (after_turns times (turns_of room ring)).ring ≡ times_in node ring
unfolding turn
after-keeps node zero room ring = refl
after-keeps node (suc times) room ring =
    let next : Turns = turn_behind room [] ring in
    after-keeps node times next.room next.ring ∙ omega (arith, turn_behind-keeps node room [] ring)

head-below : (xs : List ℕ) → ((node : ℕ) → 256 ≤ node → times_in node xs ≡ 0)
    → slice_index xs 0 < 256
head-below [] none = omega arith
head-below (x ∷ xs) none = elim (cases_lt x 256) [
  | inl l ↦ l
  | inr l ↦ absurd (omega (arith, none x l, same-once x))
]

ring-past : (nodes mark node : ℕ) → mark < 256 → 256 ≤ node → times_in node (ring nodes mark) ≡ 0
unfolding ring
ring-past nodes mark node m past =
    omega (arith, times_in-filter-le (has nodes) node (around mark), around-past mark node m past)

mark-below : (times nodes mark : ℕ) (room : List ℕ) → mark < 256
    → (in_turn times nodes mark room).mark < 256
unfolding in_turn
mark-below zero nodes mark room m = m
mark-below (suc times) nodes mark room m =
    head-below (after_turns (suc times) (turns_of (on nodes room) (ring nodes mark))).ring
    (λ node past. after-keeps node (suc times) (on nodes room) (ring nodes mark)
    ∙ ring-past nodes mark node m past)

-- ---- the steps

record IsAdopted (nodes goal : ℕ) (pools next : PoolCounts) : Type 0 where
  kept : AreKept next
  fewer : (node : ℕ) → slice_index next.surplus node ≤ slice_index pools.surplus node
  adopted : sum next.surplus + min (goal - lasting pools) (sum (on nodes pools.surplus))
      ≡ sum pools.surplus

adopt-is : (nodes goal : ℕ) (pools : PoolCounts) → AreKept pools
    → IsAdopted nodes goal pools (adopt nodes goal pools)
adopt-is nodes goal pools kept =
    let times : ℕ = min (goal - lasting pools) (sum pools.surplus) in
    let shares : Shares = in_turn times nodes pools.grow pools.surplus in
    let those : AreShares times pools.surplus shares.taken =
    shares-are times nodes pools.grow pools.surplus shares refl in
    let same : length pools.surplus ≡ length shares.taken = sym those.long in
    record {
      kept = kept-adopting pools times nodes shares (less pools.surplus shares.taken) kept refl
          (mark-below times nodes pools.grow pools.surplus kept.grow) refl;
      fewer = λ node. omega (arith, less-at pools.surplus shares.taken node same);
      adopted = omega (
        arith,
        sum-less pools.surplus shares.taken same those.at,
        all-taken times nodes pools.grow pools.surplus kept.grow kept.surpluses,
        sum-on nodes pools.surplus,
      );
    }

record IsAdded (nodes allowed goal : ℕ) (pools next : PoolCounts) : Type 0 where
  kept : AreKept next
  more : (node : ℕ) → total_at pools node ≤ total_at next node
  keeps : (node : ℕ) → total_at next node + free_at pools node
      ≡ total_at pools node + free_at next node
  added : sum next.total
      ≡ sum pools.total + min (goal - lasting pools) (sum (on nodes (on allowed (left_of
      pools.total))))

add-is : (nodes allowed goal : ℕ) (pools : PoolCounts) → AreKept pools
    → IsAdded nodes allowed goal pools (add_fresh nodes allowed goal pools)
add-is nodes allowed goal pools kept =
    let room : List ℕ = on allowed (left_of pools.total) in
    let times : ℕ = goal - lasting pools in
    let shares : Shares = in_turn times nodes pools.grow room in
    let those : AreShares times room shares.taken =
    shares-are times nodes pools.grow room shares refl in
    let long : length room ≡ 256 =
    length-on allowed (left_of pools.total) ∙ length-left pools.total ∙ kept.totals in
    let t : length pools.total ≡ length shares.taken = kept.totals ∙ sym long ∙ sym those.long in
    let f : length pools.free ≡ length shares.taken = kept.frees ∙ sym long ∙ sym those.long in
    record {
      kept = kept-adding allowed pools times nodes shares (plus pools.total shares.taken)
          (plus pools.free shares.taken) kept refl
          (mark-below times nodes pools.grow room kept.grow) refl refl;
      more = λ node. omega (arith, plus-at pools.total shares.taken node t);
      keeps = λ node. omega (
        arith,
        plus-at pools.total shares.taken node t,
        plus-at pools.free shares.taken node f,
      );
      added = omega (
        arith,
        sum-plus pools.total shares.taken t,
        all-taken times nodes pools.grow room kept.grow long,
      );
    }

record IsDropped (nodes goal : ℕ) (pools next : PoolCounts) (taken : List ℕ) : Type 0 where
  kept : AreKept next
  long : length taken ≡ 256
  at : (node : ℕ) → total_at next node ≡ total_at pools node - slice_index taken node
  keeps : (node : ℕ) → total_at next node + free_at pools node
      ≡ total_at pools node + free_at next node
  dropped : sum next.total + sum taken ≡ sum pools.total
  few : sum taken ≤ lasting pools - max goal (used pools + pools.reserved)

drop-is : (nodes goal : ℕ) (pools : PoolCounts) → AreKept pools
    → IsDropped nodes goal pools (drop_free nodes goal pools)
    (in_turn (lasting pools - max goal (used pools + pools.reserved)) nodes pools.shrink
    pools.free).taken
drop-is nodes goal pools kept =
    let times : ℕ = lasting pools - max goal (used pools + pools.reserved) in
    let shares : Shares = in_turn times nodes pools.shrink pools.free in
    let those : AreShares times pools.free shares.taken =
    shares-are times nodes pools.shrink pools.free shares refl in
    let long : length shares.taken ≡ 256 = those.long ∙ kept.frees in
    let t : length pools.total ≡ length shares.taken = kept.totals ∙ sym long in
    let f : length pools.free ≡ length shares.taken = kept.frees ∙ sym long in
    record {
      kept = kept-dropping pools nodes goal shares (less pools.total shares.taken)
          (less pools.free shares.taken) kept refl
          (mark-below times nodes pools.shrink pools.free kept.shrink) refl refl;
      long = long;
      at = λ node. less-at pools.total shares.taken node t;
      keeps = λ node. omega (
        arith,
        less-at pools.total shares.taken node t,
        less-at pools.free shares.taken node f,
        those.at node,
        kept.within node,
      );
      dropped = sum-less pools.total shares.taken t
          (λ node. omega (arith, those.at node, kept.within node));
      few = those.sum;
    }

record IsCalled (nodes goal : ℕ) (pools next : PoolCounts) : Type 0 where
  kept : AreKept next
  called : sum next.surplus
      ≡ sum pools.surplus + min (lasting pools - goal) (sum (on nodes (less pools.total
      pools.surplus)))

call-is : (nodes goal : ℕ) (pools : PoolCounts) → AreKept pools
    → IsCalled nodes goal pools (call_surplus nodes goal pools)
call-is nodes goal pools kept =
    let room : List ℕ = less pools.total pools.surplus in
    let times : ℕ = lasting pools - goal in
    let shares : Shares = in_turn times nodes pools.shrink room in
    let those : AreShares times room shares.taken =
    shares-are times nodes pools.shrink room shares refl in
    let even : length pools.total ≡ length pools.surplus = kept.totals ∙ sym kept.surpluses in
    let long : length room ≡ 256 =
    length-each (λ a b. a - b) pools.total pools.surplus even ∙ kept.totals in
    let s : length pools.surplus ≡ length shares.taken =
    kept.surpluses ∙ sym long ∙ sym those.long in
    record {
      kept = kept-calling pools nodes goal shares (plus pools.surplus shares.taken) kept refl
          (mark-below times nodes pools.shrink room kept.shrink) refl;
      called = omega (
        arith,
        sum-plus pools.surplus shares.taken s,
        all-taken times nodes pools.shrink room kept.shrink long,
      );
    }

-- ---- all of them

-- how many pages can become surplus on these nodes, after free ones went
left-to-call : (nodes : ℕ) (old now : PoolCounts) (total taken : List ℕ) → AreKept old → AreKept now
    → length taken ≡ 256
    → ((node : ℕ) → total_at old node ≤ slice_index total node)
    → ((node : ℕ) → total_at now node ≡ slice_index total node - slice_index taken node)
    → ((node : ℕ) → slice_index now.surplus node ≤ slice_index old.surplus node)
    → sum (on nodes (less old.total old.surplus))
    ≤ sum (on nodes (less now.total now.surplus)) + sum taken
left-to-call nodes old now total taken kept kept' long more at fewer =
    let a : length old.total ≡ length old.surplus = kept.totals ∙ sym kept.surpluses in
    let b : length now.total ≡ length now.surplus = kept'.totals ∙ sym kept'.surpluses in
    let xs : List ℕ = less old.total old.surplus in
    let ys : List ℕ = less now.total now.surplus in
    let x : length (on nodes xs) ≡ 256 =
    length-on nodes xs ∙ length-each (λ m n. m - n) old.total old.surplus a ∙ kept.totals in
    let y : length (on nodes ys) ≡ 256 =
    length-on nodes ys ∙ length-each (λ m n. m - n) now.total now.surplus b ∙ kept'.totals in
    let even : length (on nodes ys) ≡ length taken = y ∙ sym long in
    let both : length (plus (on nodes ys) taken) ≡ 256 =
    length-each (λ m n. m + n) (on nodes ys) taken even ∙ y in
    omega (
      arith,
      sum-plus (on nodes ys) taken even,
      sum-le (on nodes xs) (plus (on nodes ys) taken) (x ∙ sym both)
          (λ node. elim (cases_Bool (has nodes node)) [
            | inl is_in ↦
                omega (
                  arith,
                  on-in nodes xs node is_in,
                  on-in nodes ys node is_in,
                  plus-at (on nodes ys) taken node even,
                  less-at old.total old.surplus node a,
                  less-at now.total now.surplus node b,
                  more node,
                  at node,
                  fewer node,
                )
            | inr is_out ↦
                omega (
                  arith,
                  on-out nodes xs node is_out,
                  plus-at (on nodes ys) taken node even,
                )
          ]),
    )

pub resize-gives : (nodes allowed goal : ℕ) (pools : PoolCounts) → AreKept pools
    → lasting pools ≤ goal + sum (on nodes (less pools.total pools.surplus))
    → goal ≤ lasting pools + sum (on nodes pools.surplus) + sum (on nodes (on allowed (left_of
    pools.total)))
    → lasting (resized nodes allowed goal pools) ≡ goal
unfolding resized
resize-gives nodes allowed goal pools kept low high =
    let one : PoolCounts = adopt nodes goal pools in
    let a : IsAdopted nodes goal pools one = adopt-is nodes goal pools kept in
    let two : PoolCounts = add_fresh nodes allowed goal one in
    let b : IsAdded nodes allowed goal one two = add-is nodes allowed goal one a.kept in
    let three : PoolCounts = drop_free nodes goal two in
    let taken : List ℕ =
    (in_turn (lasting two - max goal (used two + two.reserved)) nodes two.shrink two.free).taken in
    let d : IsDropped nodes goal two three taken = drop-is nodes goal two b.kept in
    let four : PoolCounts = call_surplus nodes goal three in
    let e : IsCalled nodes goal three four = call-is nodes goal three d.kept in
    let left : sum (on nodes (less pools.total pools.surplus))
    ≤ sum (on nodes (less three.total three.surplus)) + sum taken =
    left-to-call nodes pools three two.total taken kept d.kept d.long b.more d.at a.fewer in
    let first : lasting two ≡ max (lasting pools) goal =
    omega (arith, a.adopted, b.added, high, kept.surplus, sum-on nodes pools.surplus) in
    let second : lasting three ≡ lasting two - sum taken =
    omega (arith, d.dropped, d.few) in
    let third : lasting four ≡ lasting three - min (lasting three - goal) (sum (on nodes (less
    three.total three.surplus))) =
    omega (arith, e.called) in
    omega (arith, first, second, third, left, low, d.few)

-- on each node as many pages stay used
pub resize-keeps : (nodes allowed goal : ℕ) (pools : PoolCounts) → AreKept pools → (node : ℕ)
    → total_at (resized nodes allowed goal pools) node + free_at pools node
    ≡ total_at pools node + free_at (resized nodes allowed goal pools) node
unfolding resized
resize-keeps nodes allowed goal pools kept node =
    let one : PoolCounts = adopt nodes goal pools in
    let a : IsAdopted nodes goal pools one = adopt-is nodes goal pools kept in
    let two : PoolCounts = add_fresh nodes allowed goal one in
    let b : IsAdded nodes allowed goal one two = add-is nodes allowed goal one a.kept in
    let three : PoolCounts = drop_free nodes goal two in
    let taken : List ℕ =
    (in_turn (lasting two - max goal (used two + two.reserved)) nodes two.shrink two.free).taken in
    let d : IsDropped nodes goal two three taken = drop-is nodes goal two b.kept in
    omega (arith, b.keeps node, d.keeps node)
