-- Pages of the total that change nodes: many at once are moved one by one.
use Rattle.std.proofs.Common.{◌≡◌, ◌≢◌, ℕ, zero, suc, ◌+◌, ◌-◌, ◌<◌, ◌≤◌, Bool, true, false, List}
use Rattle.std.proofs.Common.{length, min, refl, sym, ap, ◌∙◌, arith, inl, inr, set, subst}
use Rattle.std.specs.Prelude.{if◌then◌else◌, nat_lt, slice_index, sum, ◌||◌}
use Rattle.std.proofs.lemmas.Bool.{cases_Bool, cases_eq, cases_lt, le-ltb, lt-ltb}
use Rattle.std.proofs.lemmas.List.{get_or-set_other, get_or-set_same, length-set, set-get_or}
use Rattle.std.proofs.lemmas.List.{set_comm, set-set}
use Rattle.numa_pools.specs.Turns.{one_less_at}
use Rattle.numa_pools.specs.Pools.{PoolCounts, can_move, carrying, free_at, freeing_one, has_spare}
use Rattle.numa_pools.specs.Pools.{most, moving_one, one_over, surplus_at, total_at}
use Rattle.numa_pools.specs.Moves.{carried, many_over, movable, moving}
use Rattle.numa_pools.specs.Kept.{AreKept}
use Rattle.numa_pools.proofs.Keeping.{sum-set}

-- ---- one page

pub one-served : (pools : PoolCounts) (from to : ℕ) → has_spare pools to ≡ true
    → moving_one pools from to
    ≡ freeing_one (record pools { free = one_less_at pools.free to }) from
unfolding moving_one
one-served pools from to spare = rw spare refl

pub one-carried : (pools : PoolCounts) (from to : ℕ) → has_spare pools to ≡ false
    → can_move pools to ≡ true → moving_one pools from to ≡ carrying pools from to
unfolding moving_one
one-carried pools from to spare can =
    let room : nat_lt (total_at pools to) most ≡ true =
    sym (ap (λ (b : Bool). b || nat_lt (total_at pools to) most) spare) ∙ can in
    rw (spare, room) refl

pub one-stays : (pools : PoolCounts) (from to : ℕ) → has_spare pools to ≡ false
    → can_move pools to ≡ false → moving_one pools from to ≡ pools
unfolding moving_one
one-stays pools from to spare can =
    let full : nat_lt (total_at pools to) most ≡ false =
    sym (ap (λ (b : Bool). b || nat_lt (total_at pools to) most) spare) ∙ can in
    rw (spare, full) refl

-- ---- a count of which some goes to another node

pub over-at : (xs : List ℕ) (from to pages : ℕ) → from ≢ to → from < length xs → to < length xs
    → (slice_index (many_over xs from to pages) from ≡ slice_index xs from - pages)
    × (slice_index (many_over xs from to pages) to ≡ slice_index xs to + pages)
    × ((k : ℕ) → k ≢ from → k ≢ to → slice_index (many_over xs from to pages) k
    ≡ slice_index xs k)
over-at xs from to pages ne a b =
    let x : ℕ = slice_index xs from - pages in
    let y : ℕ = slice_index xs to + pages in
    let fewer : List ℕ = set xs from x in
    let long : to < length fewer = omega (arith, b, length-set xs from x) in (
      get_or-set_other fewer to from y 0 ne ∙ get_or-set_same xs from x 0 a,
      get_or-set_same fewer to y 0 long,
      λ k f t. get_or-set_other fewer to k y 0 t ∙ get_or-set_other xs from k x 0 f,
    )

pub length-over : (xs : List ℕ) (from to pages : ℕ) → length (many_over xs from to pages)
    ≡ length xs
length-over xs from to pages =
    length-set (set xs from (slice_index xs from - pages)) to (slice_index xs to + pages)
    ∙ length-set xs from (slice_index xs from - pages)

pub sum-over : (xs : List ℕ) (from to pages : ℕ) → from ≢ to → from < length xs → to < length xs
    → pages ≤ slice_index xs from → sum (many_over xs from to pages) ≡ sum xs
sum-over xs from to pages ne a b some =
    let x : ℕ = slice_index xs from - pages in
    let y : ℕ = slice_index xs to + pages in
    let other : slice_index (set xs from x) to ≡ slice_index xs to =
    get_or-set_other xs from to x 0 (λ (e : to ≡ from). ne (sym e)) in
    omega (
      arith,
      some,
      other,
      sum-set xs from x a,
      sum-set (set xs from x) to y (omega (arith, b, length-set xs from x)),
    )

over-none : (xs : List ℕ) (from to : ℕ) → many_over xs from to 0 ≡ xs
over-none xs from to =
    let a : slice_index xs from - 0 ≡ slice_index xs from = omega arith in
    let b : slice_index xs to + 0 ≡ slice_index xs to = omega arith in
    let same : set xs from (slice_index xs from - 0) ≡ xs =
    ap (set xs from) a ∙ set-get_or xs from 0 in
    ap (λ (ys : List ℕ). set ys to (slice_index xs to + 0)) same ∙ ap (set xs to) b
    ∙ set-get_or xs to 0

-- as the code reads it: the other count after the first has changed
pub over-read : (xs : List ℕ) (from to pages : ℕ) → from ≢ to
    → set (set xs from (slice_index xs from - pages)) to
    (slice_index (set xs from (slice_index xs from - pages)) to + pages)
    ≡ many_over xs from to pages
over-read xs from to pages ne =
    let x : ℕ = slice_index xs from - pages in
    let other : slice_index (set xs from x) to ≡ slice_index xs to =
    get_or-set_other xs from to x 0 (λ (e : to ≡ from). ne (sym e)) in
    ap (λ (n : ℕ). set (set xs from x) to (n + pages)) other

-- one is many
over-one : (xs : List ℕ) (from to : ℕ) → from ≢ to → one_over xs from to ≡ many_over xs from to 1
over-one xs from to ne = over-read xs from to 1 ne

-- some, and then more
over-over : (xs : List ℕ) (from to some more : ℕ) → from ≢ to → from < length xs → to < length xs
    → many_over (many_over xs from to some) from to more ≡ many_over xs from to (some + more)
over-over xs from to some more ne a b =
    let at = over-at xs from to some ne a b in
    let first : List ℕ = many_over xs from to some in
    let x : ℕ = slice_index xs from - some in
    let y : ℕ = slice_index xs to + some in
    let u : ℕ = slice_index xs from - (some + more) in
    let v : ℕ = slice_index xs to + (some + more) in
    let low : slice_index first from - more ≡ u = omega (arith, at.0) in
    let high : slice_index first to + more ≡ v = omega (arith, at.1) in
    let other : to ≢ from = λ (e : to ≡ from). ne (sym e) in
    ap (λ (n : ℕ). set (set first from n) to (slice_index first to + more)) low
    ∙ ap (set (set first from u) to) high
    ∙ ap (λ (ys : List ℕ). set ys to v) (set_comm (set xs from x) to from y u other)
    ∙ set-set (set (set xs from x) from u) to y v
    ∙ ap (λ (ys : List ℕ). set ys to v) (set-set xs from x u)

over-more : (xs : List ℕ) (from to pages : ℕ) → from ≢ to → from < length xs → to < length xs
    → many_over (one_over xs from to) from to pages ≡ many_over xs from to (suc pages)
over-more xs from to pages ne a b =
    let count : 1 + pages ≡ suc pages = omega arith in
    ap (λ (ys : List ℕ). many_over ys from to pages) (over-one xs from to ne)
    ∙ over-over xs from to 1 pages ne a b ∙ ap (many_over xs from to) count

one-over-from : (xs : List ℕ) (from to : ℕ) → from ≢ to → from < length xs → to < length xs
    → slice_index (one_over xs from to) from ≡ slice_index xs from - 1
one-over-from xs from to ne a b =
    ap (λ (ys : List ℕ). slice_index ys from) (over-one xs from to ne)
    ∙ (over-at xs from to 1 ne a b).0

one-over-to : (xs : List ℕ) (from to : ℕ) → from ≢ to → from < length xs → to < length xs
    → slice_index (one_over xs from to) to ≡ slice_index xs to + 1
one-over-to xs from to ne a b =
    ap (λ (ys : List ℕ). slice_index ys to) (over-one xs from to ne)
    ∙ (over-at xs from to 1 ne a b).1

length-one : (xs : List ℕ) (from to : ℕ) → length (one_over xs from to) ≡ length xs
length-one xs from to =
    length-set (one_less_at xs from) to (slice_index (one_less_at xs from) to + 1)
    ∙ length-set xs from (slice_index xs from - 1)

-- ---- many pages

-- how many pages moved, and what the pools are then
pub record AreMoved (pools : PoolCounts) (from to pages count : ℕ) (after : PoolCounts)
    : Type 0 where
  pub are : moving pools from to pages ≡ after
  pub many : movable pools from to pages ≡ count

-- the two nodes differ, and are among those of all lists
pub record AreTwo (pools : PoolCounts) (from to : ℕ) : Type 0 where
  pub other : from ≢ to
  pub total-from : from < length pools.total
  pub total-to : to < length pools.total
  pub surplus-from : from < length pools.surplus
  pub surplus-to : to < length pools.surplus
  pub free-from : from < length pools.free
  pub free-to : to < length pools.free

pub two-of : (pools : PoolCounts) (from to : ℕ) → AreKept pools → from ≢ to → from < 256 → to < 256
    → AreTwo pools from to
two-of pools from to kept ne f t = record {
  other = ne;
  total-from = omega (arith, f, kept.totals);
  total-to = omega (arith, t, kept.totals);
  surplus-from = omega (arith, f, kept.surpluses);
  surplus-to = omega (arith, t, kept.surpluses);
  free-from = omega (arith, f, kept.frees);
  free-to = omega (arith, t, kept.frees);
}

pub two-same : (pools after : PoolCounts) (from to : ℕ) → AreTwo pools from to
    → length after.total ≡ length pools.total → length after.surplus ≡ length pools.surplus
    → length after.free ≡ length pools.free → AreTwo after from to
two-same pools after from to two t s f = record {
  other = two.other;
  total-from = omega (arith, two.total-from, t);
  total-to = omega (arith, two.total-to, t);
  surplus-from = omega (arith, two.surplus-from, s);
  surplus-to = omega (arith, two.surplus-to, s);
  free-from = omega (arith, two.free-from, f);
  free-to = omega (arith, two.free-to, f);
}

-- pools with another total and surplus
abbrev with_both : PoolCounts → List ℕ → List ℕ → PoolCounts
with_both pools total surplus = record pools { total = total; surplus = surplus }

both-of : (pools : PoolCounts) (a b x y : List ℕ) → a ≡ b → x ≡ y → with_both pools a x
    ≡ with_both pools b y
both-of pools a b x y s t =
    ap (λ (l : List ℕ). with_both pools l x) s ∙ ap (with_both pools b) t

pub carried-none : (pools : PoolCounts) (from to pages : ℕ) → pages ≡ 0
    → carried pools from to pages ≡ pools
carried-none pools from to pages none =
    let few : min 0 (surplus_at pools from) ≡ 0 = omega arith in
    ap (carried pools from to) none
    ∙ both-of pools (many_over pools.total from to 0) pools.total
    (many_over pools.surplus from to (min 0 (surplus_at pools from))) pools.surplus
    (over-none pools.total from to)
    (ap (many_over pools.surplus from to) few ∙ over-none pools.surplus from to)

carrying-more : (pools : PoolCounts) (from to pages : ℕ) → AreTwo pools from to
    → carried (carrying pools from to) from to pages ≡ carried pools from to (suc pages)
carrying-more pools from to pages two = elim (cases_lt 0 (surplus_at pools from)) [
  | inl l ↦
      let is_in : nat_lt 0 (surplus_at pools from) ≡ true = lt-ltb 0 (surplus_at pools from) l in
      let left : ℕ = slice_index (one_over pools.surplus from to) from in
      let few : suc (min pages left) ≡ min (suc pages) (surplus_at pools from) =
      omega (
        arith,
        one-over-from pools.surplus from to two.other two.surplus-from two.surplus-to,
        l,
      ) in
      rw is_in (both-of pools
      (many_over (one_over pools.total from to) from to pages)
      (many_over pools.total from to (suc pages))
      (many_over (one_over pools.surplus from to) from to (min pages left))
      (many_over pools.surplus from to (min (suc pages) (surplus_at pools from)))
      (over-more pools.total from to pages two.other two.total-from two.total-to)
      (over-more pools.surplus from to (min pages left) two.other two.surplus-from
      two.surplus-to ∙ ap (many_over pools.surplus from to) few))
  | inr l ↦
      let is_out : nat_lt 0 (surplus_at pools from) ≡ false = le-ltb 0 (surplus_at pools from) l in
      let few : min pages (surplus_at pools from) ≡ min (suc pages) (surplus_at pools from) =
      omega (arith, l) in
      rw is_out (both-of pools
      (many_over (one_over pools.total from to) from to pages)
      (many_over pools.total from to (suc pages))
      (many_over pools.surplus from to (min pages (surplus_at pools from)))
      (many_over pools.surplus from to (min (suc pages) (surplus_at pools from)))
      (over-more pools.total from to pages two.other two.total-from two.total-to)
      (ap (many_over pools.surplus from to) few))
]

carrying-two : (pools : PoolCounts) (from to : ℕ) → AreTwo pools from to
    → AreTwo (carrying pools from to) from to
carrying-two pools from to two = elim (cases_Bool (nat_lt 0 (surplus_at pools from))) [
  | inl e ↦
      rw e (two-same pools (with_both pools (one_over pools.total from to)
      (one_over pools.surplus from to)) from to two (length-one pools.total from to)
      (length-one pools.surplus from to) refl)
  | inr e ↦
      rw e (two-same pools (with_both pools (one_over pools.total from to) pools.surplus) from to
      two (length-one pools.total from to) refl refl)
]

-- where no free page serves
pub carried-are : (pages : ℕ) (pools : PoolCounts) (from to : ℕ) → AreTwo pools from to
    → has_spare pools to ≡ false
    → AreMoved pools from to pages (min pages (most - total_at pools to))
    (carried pools from to (min pages (most - total_at pools to)))
carried-are zero pools from to two none =
    let nothing : min 0 (most - total_at pools to) ≡ 0 = omega arith in
    record {
      are = sym (carried-none pools from to (min 0 (most - total_at pools to)) nothing);
      many = sym nothing;
    }
carried-are (suc pages) pools from to two none = elim (cases_lt (total_at pools to) most) [
  | inl l ↦
      let next : PoolCounts = carrying pools from to in
      let room : nat_lt (total_at pools to) most ≡ true = lt-ltb (total_at pools to) most l in
      let can : can_move pools to ≡ true =
      ap (λ (t : Bool). t || nat_lt (total_at pools to) most) none ∙ room in
      let one : moving_one pools from to ≡ next = one-carried pools from to none can in
      let rest : AreMoved next from to pages (min pages (most - total_at next to))
      (carried next from to (min pages (most - total_at next to))) =
      carried-are pages next from to (carrying-two pools from to two) none in
      let count : suc (min pages (most - total_at next to))
      ≡ min (suc pages) (most - total_at pools to) =
      omega (
        arith,
        one-over-to pools.total from to two.other two.total-from two.total-to,
        l,
      ) in
      record {
        are = ap (λ (p : PoolCounts). moving p from to pages) one ∙ rest.are
            ∙ carrying-more pools from to (min pages (most - total_at next to)) two
            ∙ ap (carried pools from to) count;
        many = ap (λ (t : Bool). if t then suc (movable (moving_one pools from to) from to pages)
            else 0) can
            ∙ ap (λ (p : PoolCounts). suc (movable p from to pages)) one ∙ ap suc rest.many
            ∙ count;
      }
  | inr l ↦
      let full : nat_lt (total_at pools to) most ≡ false = le-ltb (total_at pools to) most l in
      let cannot : can_move pools to ≡ false =
      ap (λ (t : Bool). t || nat_lt (total_at pools to) most) none ∙ full in
      let one : moving_one pools from to ≡ pools = one-stays pools from to none cannot in
      let nothing : min (suc pages) (most - total_at pools to) ≡ 0 = omega (arith, l) in
      let neither : min pages (most - total_at pools to) ≡ 0 = omega (arith, l) in
      let rest : AreMoved pools from to pages (min pages (most - total_at pools to))
      (carried pools from to (min pages (most - total_at pools to))) =
      carried-are pages pools from to two none in
      record {
        are = ap (λ (p : PoolCounts). moving p from to pages) one ∙ rest.are
            ∙ ap (carried pools from to) (neither ∙ sym nothing);
        many = ap (λ (t : Bool). if t then suc (movable (moving_one pools from to) from to pages)
            else 0) cannot ∙ sym nothing;
      }
]

-- as the code reads them
pub carried-read : (pools : PoolCounts) (from to pages few : ℕ) → from ≢ to
    → few ≡ min pages (surplus_at pools from)
    → (let p : PoolCounts = record pools {
      total = set (set pools.total from (total_at pools from - pages)) to
          (slice_index (set pools.total from (total_at pools from - pages)) to + pages);
      surplus = set (set pools.surplus from (surplus_at pools from - few)) to
          (slice_index (set pools.surplus from (surplus_at pools from - few)) to + few);
    } in p) ≡ carried pools from to pages
carried-read pools from to pages few ne is =
    both-of pools
    (set (set pools.total from (total_at pools from - pages)) to
    (slice_index (set pools.total from (total_at pools from - pages)) to + pages))
    (many_over pools.total from to pages)
    (set (set pools.surplus from (surplus_at pools from - few)) to
    (slice_index (set pools.surplus from (surplus_at pools from - few)) to + few))
    (many_over pools.surplus from to (min pages (surplus_at pools from)))
    (over-read pools.total from to pages ne)
    (over-read pools.surplus from to few ne ∙ ap (many_over pools.surplus from to) is)

-- ---- what is kept

pub kept-carried : (pools : PoolCounts) (from to pages : ℕ) → AreKept pools → from ≢ to
    → from < 256 → to < 256 → free_at pools from + pages ≤ total_at pools from
    → total_at pools to + pages ≤ most → AreKept (carried pools from to pages)
kept-carried pools from to pages kept ne f t used room =
    let two : AreTwo pools from to = two-of pools from to kept ne f t in
    let at = over-at pools.total from to pages ne two.total-from two.total-to in
    let few : ℕ = min pages (surplus_at pools from) in
    let total : List ℕ = many_over pools.total from to pages in
    record {
      totals = length-over pools.total from to pages ∙ kept.totals;
      frees = kept.frees;
      surpluses = length-over pools.surplus from to few ∙ kept.surpluses;
      within = λ k. elim (cases_eq k from) [
        | inl e ↦
            subst (λ (n : ℕ). slice_index pools.free n ≤ slice_index total n) (sym e)
            (omega (arith, used, at.0))
        | inr one ↦ elim (cases_eq k to) [
          | inl e ↦
              subst (λ (n : ℕ). slice_index pools.free n ≤ slice_index total n) (sym e)
              (omega (arith, kept.within to, at.1))
          | inr other ↦ omega (arith, kept.within k, at.2 k one other)
        ]
      ];
      few = λ k. elim (cases_eq k from) [
        | inl e ↦
            subst (λ (n : ℕ). slice_index total n ≤ most) (sym e)
            (omega (arith, kept.few from, at.0))
        | inr one ↦ elim (cases_eq k to) [
          | inl e ↦
              subst (λ (n : ℕ). slice_index total n ≤ most) (sym e) (omega (arith, room, at.1))
          | inr other ↦ omega (arith, kept.few k, at.2 k one other)
        ]
      ];
      reserved = kept.reserved;
      surplus = omega (
        arith,
        kept.surplus,
        sum-over pools.total from to pages ne two.total-from two.total-to (omega (arith, used)),
        sum-over pools.surplus from to few ne two.surplus-from two.surplus-to (omega arith),
      );
      grow = kept.grow;
      shrink = kept.shrink;
    }
