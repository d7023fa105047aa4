-- Free pages that serve pages that move: many at once are moved one by one.
use Rattle.std.proofs.Common.{◌≡◌, ◌≢◌, ℕ, zero, suc, ◌+◌, ◌-◌, ◌<◌, ◌≤◌, Bool, true, false, List}
use Rattle.std.proofs.Common.{length, min, refl, sym, ap, ◌∙◌, arith, inl, inr, set, subst, ◌⊎◌}
use Rattle.std.specs.Prelude.{if◌then◌else◌, nat_lt, slice_index, sum, ◌&&◌, ◌||◌}
use Rattle.std.proofs.lemmas.Bool.{cases_Bool, cases_lt, le-ltb, lt-ltb}
use Rattle.std.proofs.lemmas.List.{get_or-set_other, get_or-set_same, length-set, set-get_or}
use Rattle.std.proofs.lemmas.List.{set_comm, set-set}
use Rattle.numa_pools.specs.Turns.{one_less_at}
use Rattle.numa_pools.specs.Pools.{PoolCounts, can_move, free_at, freeing, freeing_one, has_spare}
use Rattle.numa_pools.specs.Pools.{most, moving_one, one_more_at, surplus_at, total_at, unreserved}
use Rattle.numa_pools.specs.Moves.{carried, movable, moving, served, serving, using}
use Rattle.numa_pools.specs.Kept.{AreKept}
use Rattle.numa_pools.proofs.Keeping.{kept-free, sum-set}
use Rattle.numa_pools.proofs.Moving.{freed, freeing-is}
use Rattle.numa_pools.proofs.Carrying.{AreMoved, AreTwo, carried-are, carried-none, one-served}
use Rattle.numa_pools.proofs.Carrying.{two-same}
use Rattle.numa_pools.proofs.Turning.{less-same}

-- ---- how many

-- the next page is served too
serving-ends : (pages free surplus spare : ℕ) → 0 < free → 0 < spare → 0 < surplus
    → serving (suc pages) free surplus spare
    ≡ suc (serving pages (free - 1) (surplus - 1) (spare - 1))
serving-ends pages free surplus spare f u s = elim (cases_lt surplus spare) [
  | inl l ↦
      let a : nat_lt surplus spare ≡ true = lt-ltb surplus spare l in
      let b : nat_lt (surplus - 1) (spare - 1) ≡ true =
      lt-ltb (surplus - 1) (spare - 1) (omega (arith, l, s)) in
      rw (a, b) (omega (arith, f))
  | inr l ↦
      let a : nat_lt surplus spare ≡ false = le-ltb surplus spare l in
      let b : nat_lt (surplus - 1) (spare - 1) ≡ false =
      le-ltb (surplus - 1) (spare - 1) (omega (arith, l)) in
      rw (a, b) (omega (arith, f, u))
]

serving-stays : (pages free surplus spare : ℕ) → 0 < free → 0 < spare → surplus ≡ 0
    → serving (suc pages) free surplus spare ≡ suc (serving pages (free - 1) surplus spare)
serving-stays pages free surplus spare f u s =
    let a : nat_lt surplus spare ≡ true = lt-ltb surplus spare (omega (arith, u, s)) in
    rw a (omega (arith, f))

serving-stops : (pages free surplus spare : ℕ) → (free ≡ 0) ⊎ (spare ≡ 0)
    → serving pages free surplus spare ≡ 0
serving-stops pages free surplus spare (inl none) = elim (cases_lt surplus spare) [
  | inl l ↦ rw (lt-ltb surplus spare l) (omega (arith, none))
  | inr l ↦ rw (le-ltb surplus spare l) (omega (arith, none))
]
serving-stops pages free surplus spare (inr none) =
    rw (le-ltb surplus spare (omega (arith, none))) (omega (arith, none))

serving-no : (free surplus spare : ℕ) → serving 0 free surplus spare ≡ 0
serving-no free surplus spare = elim (cases_lt surplus spare) [
  | inl l ↦ rw (lt-ltb surplus spare l) (omega arith)
  | inr l ↦ rw (le-ltb surplus spare l) (omega arith)
]

-- at most so many, and so many that are free; and no more pages end than are unreserved
pub record AreServing (pages free surplus spare count : ℕ) : Type 0 where
  pub all : count ≤ pages
  pub there : count ≤ free
  pub few : min count surplus ≤ spare

pub serving-few : (pages free surplus spare : ℕ)
    → AreServing pages free surplus spare (serving pages free surplus spare)
serving-few pages free surplus spare = elim (cases_lt surplus spare) [
  | inl l ↦
      rw (lt-ltb surplus spare l) (record {
        all = omega arith;
        there = omega arith;
        few = omega (arith, l);
      })
  | inr l ↦
      rw (le-ltb surplus spare l) (record {
        all = omega arith;
        there = omega arith;
        few = omega arith;
      })
]

-- all that are free and not reserved
pub serving-most : (pages free surplus spare : ℕ)
    → min (min pages free) spare ≤ serving pages free surplus spare
serving-most pages free surplus spare = elim (cases_lt surplus spare) [
  | inl l ↦ rw (lt-ltb surplus spare l) (omega arith)
  | inr l ↦ rw (le-ltb surplus spare l) (omega arith)
]

-- ---- a page that is served, and more

free-of : (pools : PoolCounts) (xs ys : List ℕ) → xs ≡ ys
    → (let p : PoolCounts = record pools { free = xs } in p)
    ≡ (let q : PoolCounts = record pools { free = ys } in q)
free-of pools xs ys same =
    ap (λ (l : List ℕ). let p : PoolCounts = record pools { free = l } in p) same

-- one free page less at a node
abbrev one_used : PoolCounts → ℕ → PoolCounts
one_used pools to = record pools { free = one_less_at pools.free to }

used-freed : (pools : PoolCounts) (from to : ℕ) → from ≢ to
    → freeing_one (one_used pools to) from ≡ one_used (freeing_one pools from) to
unfolding freeing_one
used-freed pools from to ne = elim (cases_Bool (nat_lt 0 (surplus_at pools from))) [
  | inl e ↦ rw e refl
  | inr e ↦
      let other : to ≢ from = λ (h : to ≡ from). ne (sym h) in
      let x : ℕ = slice_index pools.free to - 1 in
      let y : ℕ = slice_index pools.free from + 1 in
      let a : slice_index (set pools.free to x) from + 1 ≡ y =
      ap (λ (n : ℕ). n + 1) (get_or-set_other pools.free to from x 0 ne) in
      let b : slice_index (set pools.free from y) to - 1 ≡ x =
      ap (λ (n : ℕ). n - 1) (get_or-set_other pools.free from to y 0 other) in
      rw e (free-of pools (one_more_at (one_less_at pools.free to) from)
      (one_less_at (one_more_at pools.free from) to)
      (ap (set (set pools.free to x) from) a ∙ set_comm pools.free to from x y other
      ∙ ap (set (set pools.free from y) to) (sym b)))
]

used-freed-many : (pages : ℕ) (pools : PoolCounts) (from to : ℕ) → from ≢ to
    → freeing (one_used pools to) from pages ≡ one_used (freeing pools from pages) to
used-freed-many zero pools from to ne = refl
used-freed-many (suc pages) pools from to ne =
    ap (λ (p : PoolCounts). freeing p from pages) (used-freed pools from to ne)
    ∙ used-freed-many pages (freeing_one pools from) from to ne

serving-more : (pools : PoolCounts) (from to pages : ℕ) → from ≢ to
    → served (freeing_one (one_used pools to) from) from to pages
    ≡ served pools from to (suc pages)
serving-more pools from to pages ne =
    let rest : PoolCounts = freeing (freeing_one pools from) from pages in
    let x : ℕ = slice_index rest.free to in
    let low : slice_index (one_less_at rest.free to) to - pages ≡ x - suc pages =
    omega (arith, less-same rest.free to) in
    ap (λ (p : PoolCounts). using (freeing p from pages) to pages) (used-freed pools from to ne)
    ∙ ap (λ (p : PoolCounts). using p to pages)
    (used-freed-many pages (freeing_one pools from) from to ne)
    ∙ free-of rest (set (one_less_at rest.free to) to (slice_index (one_less_at rest.free to) to
    - pages)) (set rest.free to (x - suc pages))
    (ap (set (one_less_at rest.free to) to) low ∙ set-set rest.free to (x - 1) (x - suc pages))

served-none : (pools : PoolCounts) (from to pages : ℕ) → pages ≡ 0
    → served pools from to pages ≡ pools
served-none pools from to pages none =
    let same : slice_index pools.free to - 0 ≡ slice_index pools.free to = omega arith in
    ap (served pools from to) none
    ∙ free-of pools (set pools.free to (slice_index pools.free to - 0)) pools.free
    (ap (set pools.free to) same ∙ set-get_or pools.free to 0)

-- ---- what a page that is served leaves

record IsNext (pools : PoolCounts) (from to : ℕ) (next : PoolCounts) : Type 0 where
  two : AreTwo next from to
  room : total_at next to ≡ total_at pools to
  free : free_at next to ≡ free_at pools to - 1
  surplus : surplus_at next from ≡ surplus_at pools from - 1
  ends : 0 < surplus_at pools from → unreserved next ≡ unreserved pools - 1
  stays : surplus_at pools from ≡ 0 → unreserved next ≡ unreserved pools

next-is : (pools : PoolCounts) (from to : ℕ) → AreTwo pools from to → 0 < free_at pools to
    → IsNext pools from to (freeing_one (one_used pools to) from)
unfolding freeing_one
next-is pools from to two some = elim (cases_lt 0 (surplus_at pools from)) [
  | inl l ↦
      let is_in : nat_lt 0 (surplus_at pools from) ≡ true = lt-ltb 0 (surplus_at pools from) l in
      let next : PoolCounts = record pools {
        total = one_less_at pools.total from;
        surplus = one_less_at pools.surplus from;
        free = one_less_at pools.free to;
      } in
      let less : unreserved next ≡ unreserved pools - 1 =
      omega (arith, some, sum-set pools.free to (free_at pools to - 1) two.free-to) in
      let so : IsNext pools from to next = record {
        two = two-same pools next from to two
            (length-set pools.total from (total_at pools from - 1))
            (length-set pools.surplus from (surplus_at pools from - 1))
            (length-set pools.free to (free_at pools to - 1));
        room = get_or-set_other pools.total from to (total_at pools from - 1) 0
            (λ (h : to ≡ from). two.other (sym h));
        free = less-same pools.free to;
        surplus = less-same pools.surplus from;
        ends = λ h. less;
        stays = λ h. absurd (omega (arith, h, l));
      } in
      rw is_in so
  | inr l ↦
      let is_out : nat_lt 0 (surplus_at pools from) ≡ false = le-ltb 0 (surplus_at pools from) l in
      let fewer : List ℕ = one_less_at pools.free to in
      let next : PoolCounts = record pools { free = one_more_at fewer from } in
      let long : length fewer ≡ length pools.free =
      length-set pools.free to (free_at pools to - 1) in
      let same : unreserved next ≡ unreserved pools =
      omega (
        arith,
        some,
        sum-set pools.free to (free_at pools to - 1) two.free-to,
        sum-set fewer from (slice_index fewer from + 1) (omega (arith, two.free-from, long)),
      ) in
      let so : IsNext pools from to next = record {
        two = two-same pools next from to two refl refl
            (length-set fewer from (slice_index fewer from + 1) ∙ long);
        room = refl;
        free = get_or-set_other fewer from to (slice_index fewer from + 1) 0
            (λ (h : to ≡ from). two.other (sym h)) ∙ less-same pools.free to;
        surplus = omega (arith, l);
        ends = λ h. absurd (omega (arith, h, l));
        stays = λ h. same;
      } in
      rw is_out so
]

-- how many pages free ones serve, and how many more change nodes
abbrev pub served_of : PoolCounts → ℕ → ℕ → ℕ → ℕ
served_of pools from to pages =
    serving pages (free_at pools to) (surplus_at pools from) (unreserved pools)

abbrev pub carried_of : PoolCounts → ℕ → ℕ → ℕ → ℕ
carried_of pools from to pages =
    min (pages - served_of pools from to pages) (most - total_at pools to)

served-more : (pools next : PoolCounts) (from to pages : ℕ) → IsNext pools from to next
    → 0 < free_at pools to → 0 < unreserved pools
    → served_of pools from to (suc pages) ≡ suc (served_of next from to pages)
served-more pools next from to pages so f u = elim (cases_lt 0 (surplus_at pools from)) [
  | inl l ↦
      serving-ends pages (free_at pools to) (surplus_at pools from) (unreserved pools) f u l
      ∙ ap (λ (n : ℕ). suc (serving pages n (surplus_at pools from - 1) (unreserved pools - 1)))
      (sym so.free)
      ∙ ap (λ (n : ℕ). suc (serving pages (free_at next to) n (unreserved pools - 1)))
      (sym so.surplus)
      ∙ ap (λ (n : ℕ). suc (serving pages (free_at next to) (surplus_at next from) n))
      (sym (so.ends l))
  | inr l ↦
      let none : surplus_at pools from ≡ 0 = omega (arith, l) in
      let still : surplus_at pools from ≡ surplus_at next from = omega (arith, none, so.surplus) in
      serving-stays pages (free_at pools to) (surplus_at pools from) (unreserved pools) f u none
      ∙ ap (λ (n : ℕ). suc (serving pages n (surplus_at pools from) (unreserved pools)))
      (sym so.free)
      ∙ ap (λ (n : ℕ). suc (serving pages (free_at next to) n (unreserved pools))) still
      ∙ ap (λ (n : ℕ). suc (serving pages (free_at next to) (surplus_at next from) n))
      (sym (so.stays none))
]

-- a target with a page to spare has a free page, and one is not reserved
pub spare-both : (pools : PoolCounts) (to : ℕ) → has_spare pools to ≡ true
    → (0 < unreserved pools) × (0 < free_at pools to)
spare-both pools to spare = elim (cases_lt pools.reserved (sum pools.free)) [
  | inl l ↦ elim (cases_lt 0 (free_at pools to)) [
    | inl f ↦ (omega (arith, l), f)
    | inr f ↦
        let no : nat_lt 0 (free_at pools to) ≡ false = le-ltb 0 (free_at pools to) f in
        let yes : nat_lt pools.reserved (sum pools.free) ≡ true =
        lt-ltb pools.reserved (sum pools.free) l in
        let odd : false ≡ true =
        sym (ap (λ (b : Bool). b && nat_lt 0 (free_at pools to)) yes ∙ no) ∙ spare in
        absurd cc
  ]
  | inr l ↦
      let no : nat_lt pools.reserved (sum pools.free) ≡ false =
      le-ltb pools.reserved (sum pools.free) l in
      let odd : false ≡ true =
      sym (ap (λ (b : Bool). b && nat_lt 0 (free_at pools to)) no) ∙ spare in
      absurd cc
]

spare-neither : (pools : PoolCounts) (to : ℕ) → has_spare pools to ≡ false
    → (free_at pools to ≡ 0) ⊎ (unreserved pools ≡ 0)
spare-neither pools to none = elim (cases_lt pools.reserved (sum pools.free)) [
  | inl l ↦ elim (cases_lt 0 (free_at pools to)) [
    | inl f ↦
        let yes : nat_lt 0 (free_at pools to) ≡ true = lt-ltb 0 (free_at pools to) f in
        let too : nat_lt pools.reserved (sum pools.free) ≡ true =
        lt-ltb pools.reserved (sum pools.free) l in
        let odd : true ≡ false =
        sym (ap (λ (b : Bool). b && nat_lt 0 (free_at pools to)) too ∙ yes) ∙ none in
        absurd cc
    | inr f ↦ inl (omega (arith, f))
  ]
  | inr l ↦ inr (omega (arith, l))
]

-- ---- so many pages

pub moved-are : (pages : ℕ) (pools : PoolCounts) (from to : ℕ) → AreTwo pools from to
    → AreMoved pools from to pages
    (served_of pools from to pages + carried_of pools from to pages)
    (carried (served pools from to (served_of pools from to pages)) from to
    (carried_of pools from to pages))
moved-are zero pools from to two =
    let none : served_of pools from to 0 ≡ 0 =
    serving-no (free_at pools to) (surplus_at pools from) (unreserved pools) in
    let nothing : carried_of pools from to 0 ≡ 0 = omega arith in
    record {
      are = sym (carried-none (served pools from to (served_of pools from to 0)) from to
          (carried_of pools from to 0) nothing
          ∙ served-none pools from to (served_of pools from to 0) none);
      many = omega (arith, none, nothing);
    }
moved-are (suc pages) pools from to two = elim (cases_Bool (has_spare pools to)) [
  | inl spare ↦
      let next : PoolCounts = freeing_one (one_used pools to) from in
      let both = spare-both pools to spare in
      let so : IsNext pools from to next = next-is pools from to two both.1 in
      let can : can_move pools to ≡ true =
      ap (λ (t : Bool). t || nat_lt (total_at pools to) most) spare in
      let one : moving_one pools from to ≡ next = one-served pools from to spare in
      let k : ℕ = served_of next from to pages in
      let rest : AreMoved next from to pages (k + carried_of next from to pages)
      (carried (served next from to k) from to (carried_of next from to pages)) =
      moved-are pages next from to so.two in
      let more : served_of pools from to (suc pages) ≡ suc k =
      served-more pools next from to pages so both.1 both.0 in
      let left : carried_of next from to pages ≡ carried_of pools from to (suc pages) =
      omega (arith, more, so.room) in
      record {
        are = ap (λ (p : PoolCounts). moving p from to pages) one ∙ rest.are
            ∙ ap (λ (p : PoolCounts). carried p from to (carried_of next from to pages))
            (serving-more pools from to k two.other
            ∙ ap (served pools from to) (sym more))
            ∙ ap (carried (served pools from to (served_of pools from to (suc pages))) from to)
            left;
        many = ap (λ (t : Bool). if t then suc (movable (moving_one pools from to) from to pages)
            else 0) can
            ∙ ap (λ (p : PoolCounts). suc (movable p from to pages)) one ∙ ap suc rest.many
            ∙ omega (arith, more, left);
      }
  | inr none ↦
      let stop : served_of pools from to (suc pages) ≡ 0 =
      serving-stops (suc pages) (free_at pools to) (surplus_at pools from) (unreserved pools)
      (spare-neither pools to none) in
      let all : ℕ = min (suc pages) (most - total_at pools to) in
      let same : all ≡ carried_of pools from to (suc pages) = omega (arith, stop) in
      let rest : AreMoved pools from to (suc pages) all (carried pools from to all) =
      carried-are (suc pages) pools from to two none in
      record {
        are = rest.are
            ∙ ap (λ (p : PoolCounts). carried p from to all)
            (sym (served-none pools from to (served_of pools from to (suc pages)) stop))
            ∙ ap (carried (served pools from to (served_of pools from to (suc pages))) from to)
            same;
        many = rest.many ∙ omega (arith, stop, same);
      }
]

-- ---- what is kept

-- what pages of one node that become free leave of it and of others
pub record AreFreed (pools : PoolCounts) (node other pages : ℕ) : Type 0 where
  pub room : total_at (freeing pools node pages) other ≡ total_at pools other
  pub free : free_at (freeing pools node pages) other ≡ free_at pools other
  pub used : free_at (freeing pools node pages) node + total_at pools node
      ≡ free_at pools node + pages + total_at (freeing pools node pages) node
  pub reserved : (freeing pools node pages).reserved ≡ pools.reserved
  pub long : other < length (freeing pools node pages).free
  pub total-node : node < length (freeing pools node pages).total
  pub total-other : other < length (freeing pools node pages).total
  pub sum : sum (freeing pools node pages).free + min pages (surplus_at pools node)
      ≡ sum pools.free + pages

pub freed-are : (pools : PoolCounts) (from to pages : ℕ) → AreTwo pools from to
    → free_at pools from + pages ≤ total_at pools from → AreFreed pools from to pages
freed-are pools from to pages two used =
    let ending : ℕ = min pages (surplus_at pools from) in
    let other : to ≢ from = λ (h : to ≡ from). two.other (sym h) in
    let total : ℕ = total_at pools from - ending in
    let free : ℕ = free_at pools from + (pages - ending) in
    let is : freeing pools from pages ≡ freed pools from pages =
    freeing-is pages pools from two.free-from in
    let a : total_at (freeing pools from pages) from ≡ total =
    ap (λ (p : PoolCounts). total_at p from) is
    ∙ get_or-set_same pools.total from total 0 two.total-from in
    let b : free_at (freeing pools from pages) from ≡ free =
    ap (λ (p : PoolCounts). free_at p from) is
    ∙ get_or-set_same pools.free from free 0 two.free-from in
    let d : sum (freeing pools from pages).free ≡ sum (set pools.free from free) =
    ap (λ (p : PoolCounts). sum p.free) is in
    let frees : length (freeing pools from pages).free ≡ length pools.free =
    ap (λ (p : PoolCounts). length p.free) is ∙ length-set pools.free from free in
    let totals : length (freeing pools from pages).total ≡ length pools.total =
    ap (λ (p : PoolCounts). length p.total) is ∙ length-set pools.total from total in
    record {
      room = ap (λ (p : PoolCounts). total_at p to) is
          ∙ get_or-set_other pools.total from to total 0 other;
      free = ap (λ (p : PoolCounts). free_at p to) is
          ∙ get_or-set_other pools.free from to free 0 other;
      used = omega (arith, a, b, used);
      reserved = ap (λ (p : PoolCounts). p.reserved) is;
      long = omega (arith, two.free-to, frees);
      total-node = omega (arith, two.total-from, totals);
      total-other = omega (arith, two.total-to, totals);
      sum = omega (arith, d, sum-set pools.free from free two.free-from);
    }

-- as many as the code finds
pub served-is : (pools : PoolCounts) (from to pages free surplus spare count : ℕ)
    → free ≡ free_at pools to → surplus ≡ surplus_at pools from → spare ≡ unreserved pools
    → count ≡ serving pages free surplus spare → count ≡ served_of pools from to pages
served-is pools from to pages free surplus spare count f s u is =
    is ∙ ap (λ (n : ℕ). serving pages n surplus spare) f
    ∙ ap (λ (n : ℕ). serving pages (free_at pools to) n spare) s
    ∙ ap (serving pages (free_at pools to) (surplus_at pools from)) u

pub served-few : (pools : PoolCounts) (from to pages count : ℕ)
    → count ≡ served_of pools from to pages
    → AreServing pages (free_at pools to) (surplus_at pools from) (unreserved pools) count
served-few pools from to pages count is =
    subst (λ (n : ℕ). AreServing pages (free_at pools to) (surplus_at pools from)
    (unreserved pools) n) (sym is)
    (serving-few pages (free_at pools to) (surplus_at pools from) (unreserved pools))

-- the free pages of the target are there, when those of the other node are free
pub kept-served : (pools freed : PoolCounts) (from to pages count : ℕ) → AreTwo pools from to
    → to < 256 → free_at pools from + pages ≤ total_at pools from
    → pools.reserved ≤ sum pools.free → count ≡ served_of pools from to pages
    → freed ≡ freeing pools from count → AreKept freed → AreKept (using freed to count)
kept-served pools freed from to pages count two t used few is same kept =
    let so : AreServing pages (free_at pools to) (surplus_at pools from) (unreserved pools) count =
    served-few pools from to pages count is in
    let of : AreFreed pools from to count =
    freed-are pools from to count two (omega (arith, used, so.all)) in
    let free : free_at freed to ≡ free_at pools to = ap (λ (p : PoolCounts). free_at p to) same
    ∙ of.free in
    let reserved : freed.reserved ≡ pools.reserved = ap (λ (p : PoolCounts). p.reserved) same
    ∙ of.reserved in
    let all : sum freed.free ≡ sum (freeing pools from count).free =
    ap (λ (p : PoolCounts). sum p.free) same in
    kept-free freed to (free_at freed to - count) freed.reserved kept t
    (omega (arith, kept.within to))
    (omega (arith, free, reserved, all, of.sum, so.there, so.few, few))

-- ---- both

pub record AreBoth (pools first : PoolCounts) (from to pages count more : ℕ) (after : PoolCounts)
    : Type 0 where
  pub used : free_at first from + (pages - count) ≤ total_at first from
  pub are : more ≡ min (pages - count) (most - total_at first to)
      → after ≡ carried first from to more → after ≡ moving pools from to pages
  pub many : more ≡ min (pages - count) (most - total_at first to)
      → count + more ≡ movable pools from to pages

pub both-are : (pools first : PoolCounts) (from to pages count more : ℕ) (after : PoolCounts)
    → AreTwo pools from to → free_at pools from + pages ≤ total_at pools from
    → count ≡ served_of pools from to pages → first ≡ served pools from to count
    → AreBoth pools first from to pages count more after
both-are pools first from to pages count more after two used is same =
    let so : AreServing pages (free_at pools to) (surplus_at pools from) (unreserved pools) count =
    served-few pools from to pages count is in
    let of : AreFreed pools from to count =
    freed-are pools from to count two (omega (arith, used, so.all)) in
    let freed : PoolCounts = freeing pools from count in
    let room : total_at first to ≡ total_at pools to =
    ap (λ (p : PoolCounts). total_at p to) same ∙ of.room in
    let total : total_at first from ≡ total_at freed from =
    ap (λ (p : PoolCounts). total_at p from) same in
    let free : free_at first from ≡ free_at freed from =
    ap (λ (p : PoolCounts). free_at p from) same
    ∙ get_or-set_other freed.free to from (free_at freed to - count) 0 two.other in
    let moved : AreMoved pools from to pages
    (served_of pools from to pages + carried_of pools from to pages)
    (carried (served pools from to (served_of pools from to pages)) from to
    (carried_of pools from to pages)) =
    moved-are pages pools from to two in
    record {
      used = omega (arith, total, free, of.used, used, so.all);
      are = λ rest end.
          let left : more ≡ carried_of pools from to pages = omega (arith, rest, is, room) in
          end ∙ ap (carried first from to) left
          ∙ ap (λ (p : PoolCounts). carried p from to (carried_of pools from to pages))
          (same ∙ ap (served pools from to) is)
          ∙ sym moved.are;
      many = λ rest.
          let left : more ≡ carried_of pools from to pages = omega (arith, rest, is, room) in
          let all : count + more ≡ served_of pools from to pages + carried_of pools from to pages =
          omega (arith, is, left) in
          all ∙ sym moved.many;
    }
