-- How many pages all processes have, and all but one.
use Rattle.std.proofs.Common.{◌≡◌, ◌≢◌, ℕ, zero, suc, ◌+◌, ◌*◌, ◌<◌, ◌≤◌, ◌∙◌, List, [], ◌∷◌}
use Rattle.std.proofs.Common.{Option, None, ◌++◌, length, get_or, refl, sym, ap, arith, subst}
use Rattle.numa_placed.proofs.Shared.{count-le}
use Rattle.numa_ranges.proofs.Counted.{count-none}
use Rattle.numa_pools.specs.Pools.{PoolCounts, free_at, total_at}
use Rattle.numa_huge.specs.Huge.{HugePlaced, has_reserved, huge_at, most_pages, on_node, pages_of}
use Rattle.numa_huge.specs.Huge.{places_of}
use Rattle.numa_huge.specs.Kept.{ArePooled, HavePages, Keeps, Others}
use Rattle.numa_huge.specs.Moves.{count_on}
use Rattle.numa_huge.specs.declared.spot.HugeSpot.{HugeSpot}
use Rattle.numa_host_huge.specs.Kept.{AreShared, all_on, all_reserved, spots_of}
use Rattle.numa_host_huge.specs.declared.sharer.Sharer.{Sharer}

-- a number of each process, added up, and that of all but the one at a place
abbrev pub sum_with : (Sharer → ℕ) → List Sharer → ℕ
sum_with f [] = 0
sum_with f (x ∷ xs) = f x + sum_with f xs

abbrev pub sum_but : (Sharer → ℕ) → ℕ → List Sharer → ℕ
sum_but f place [] = 0
sum_but f zero (x ∷ xs) = sum_with f xs
sum_but f (suc place) (x ∷ xs) = f x + sum_but f place xs

abbrev pub on_of : ℕ → Sharer → ℕ
on_of node sharer = count_on (spots_of sharer) node

abbrev pub reserved_of : Sharer → ℕ
reserved_of sharer = pages_of has_reserved (spots_of sharer)

pub on-is : (xs : List Sharer) (node : ℕ) → all_on xs node ≡ sum_with (on_of node) xs
on-is [] node = refl
on-is (x ∷ xs) node = ap (λ (n : ℕ). count_on (spots_of x) node + n) (on-is xs node)

pub reserved-is : (xs : List Sharer) → all_reserved xs ≡ sum_with reserved_of xs
reserved-is [] = refl
reserved-is (x ∷ xs) =
    ap (λ (n : ℕ). pages_of has_reserved (spots_of x) + n) (reserved-is xs)

pub sum-at : (f : Sharer → ℕ) (xs : List Sharer) (place : ℕ) (d : Sharer) → place < length xs
    → sum_with f xs ≡ f (get_or xs place d) + sum_but f place xs
sum-at f [] place d inside = absurd (omega (arith, inside))
sum-at f (x ∷ xs) zero d inside = refl
sum-at f (x ∷ xs) (suc place) d inside =
    omega (arith, sum-at f xs place d (omega (arith, inside)))

-- numbers of processes that are the same at each place
pub sum-same : (f : Sharer → ℕ) (xs ys : List Sharer) (d : Sharer) → length ys ≡ length xs
    → ((k : ℕ) → f (get_or ys k d) ≡ f (get_or xs k d)) → sum_with f ys ≡ sum_with f xs
sum-same f [] [] d same each = refl
sum-same f [] (y ∷ ys) d same each = absurd (omega (arith, same))
sum-same f (x ∷ xs) [] d same each = absurd (omega (arith, same))
sum-same f (x ∷ xs) (y ∷ ys) d same each =
    let here : f y ≡ f x = each 0 in
    omega (arith, here, sum-same f xs ys d (omega (arith, same)) (λ k. each (suc k)))

pub but-same : (f : Sharer → ℕ) (xs ys : List Sharer) (place : ℕ) (d : Sharer)
    → length ys ≡ length xs
    → ((k : ℕ) → k ≢ place → f (get_or ys k d) ≡ f (get_or xs k d))
    → sum_but f place ys ≡ sum_but f place xs
but-same f [] [] place d same each = refl
but-same f [] (y ∷ ys) place d same each = absurd (omega (arith, same))
but-same f (x ∷ xs) [] place d same each = absurd (omega (arith, same))
but-same f (x ∷ xs) (y ∷ ys) zero d same each =
    sum-same f xs ys d (omega (arith, same)) (λ k. each (suc k) (λ e. absurd (omega (arith, e))))
but-same f (x ∷ xs) (y ∷ ys) (suc place) d same each =
    let here : f y ≡ f x = each 0 (λ e. absurd (omega (arith, e))) in
    omega (
      arith,
      here,
      but-same f xs ys place d (omega (arith, same))
          (λ k ne. each (suc k) (λ e. ne (omega (arith, e)))),
    )

-- ---- they are few

pub on-le : (sharer : Sharer) (node : ℕ) → on_of node sharer ≤ 67108864
on-le sharer node = count-le (λ page. on_node node (spots_of sharer page)) 0 most_pages

pub reserved-le : (sharer : Sharer) → reserved_of sharer ≤ 67108864
reserved-le sharer = count-le (λ page. has_reserved (spots_of sharer page)) 0 most_pages

pub sum-few : (f : Sharer → ℕ) (xs : List Sharer) → ((x : Sharer) → f x ≤ 67108864)
    → sum_with f xs ≤ length xs * 67108864
sum-few f [] few = omega arith
sum-few f (x ∷ xs) few = omega (arith, few x, sum-few f xs few)

pub but-few : (f : Sharer → ℕ) (xs : List Sharer) (place : ℕ) → ((x : Sharer) → f x ≤ 67108864)
    → sum_but f place xs ≤ length xs * 67108864
but-few f [] place few = omega arith
but-few f (x ∷ xs) zero few = omega (arith, sum-few f xs few)
but-few f (x ∷ xs) (suc place) few = omega (arith, few x, but-few f xs place few)

-- ---- the others of one process

abbrev pub others_at : (xs : List Sharer) (place : ℕ) → length xs ≤ 4096 → Others
others_at xs place few = record {
  on = λ node. sum_but (on_of node) place xs;
  reserved = sum_but reserved_of place xs;
  few = λ node small. omega (
    arith,
    few,
    but-few (on_of node) xs place (λ x. on-le x node),
    but-few reserved_of xs place reserved-le,
  );
}

-- and of one that has none yet
abbrev pub all_of : (xs : List Sharer) → length xs ≤ 4096 → Others
all_of xs few = record {
  on = λ node. sum_with (on_of node) xs;
  reserved = sum_with reserved_of xs;
  few = λ node small. omega (
    arith,
    few,
    sum-few (on_of node) xs (λ x. on-le x node),
    sum-few reserved_of xs reserved-le,
  );
}

pub pooled-at : (pools : PoolCounts) (xs : List Sharer) (place : ℕ) (d : Sharer)
    (shared : AreShared pools xs) → place < length xs
    → ArePooled (others_at xs place shared.few) pools (spots_of (get_or xs place d))
pooled-at pools xs place d shared inside = record {
  used = λ node small. omega (
    arith,
    shared.used node small,
    on-is xs node,
    sum-at (on_of node) xs place d inside,
  );
  reserved =
      omega (arith, shared.reserved, reserved-is xs, sum-at reserved_of xs place d inside);
}

pub pooled-all : (pools : PoolCounts) (xs : List Sharer) (shared : AreShared pools xs)
    → ArePooled (all_of xs shared.few) pools (λ page. None)
pooled-all pools xs shared = record {
  used = λ node small. omega (
    arith,
    shared.used node small,
    on-is xs node,
    count-none (λ page. on_node node None) 0 most_pages (λ page low high. refl),
  );
  reserved = omega (
    arith,
    shared.reserved,
    reserved-is xs,
    count-none (λ page. has_reserved None) 0 most_pages (λ page low high. refl),
  );
}

-- ---- one process's pages changed

pub shared-changed : (pools after : PoolCounts) (xs ys : List Sharer) (place : ℕ) (d : Sharer)
    (shared : AreShared pools xs) → place < length xs → length ys ≡ length xs
    → ((k : ℕ) → k ≢ place → get_or ys k d ≡ get_or xs k d)
    → ArePooled (others_at xs place shared.few) after (spots_of (get_or ys place d))
    → AreShared after ys
shared-changed pools after xs ys place d shared inside same others pooled =
    let there : place < length ys = omega (arith, inside, same) in
    record {
      used = λ node small. omega (
        arith,
        pooled.used node small,
        on-is ys node,
        sum-at (on_of node) ys place d there,
        but-same (on_of node) xs ys place d same (λ k ne. ap (on_of node) (others k ne)),
      );
      reserved = omega (
        arith,
        pooled.reserved,
        reserved-is ys,
        sum-at reserved_of ys place d there,
        but-same reserved_of xs ys place d same (λ k ne. ap reserved_of (others k ne)),
      );
      few = omega (arith, same, shared.few);
    }

-- ---- one comes behind all others

pub sum-behind : (f : Sharer → ℕ) (xs : List Sharer) (y : Sharer)
    → sum_with f (xs ++ y ∷ []) ≡ sum_with f xs + f y
sum-behind f [] y = omega arith
sum-behind f (x ∷ xs) y = omega (arith, sum-behind f xs y)

pub length-behind : (xs : List Sharer) (y : Sharer) → length (xs ++ y ∷ []) ≡ length xs + 1
length-behind [] y = refl
length-behind (x ∷ xs) y = omega (arith, length-behind xs y)

pub shared-behind : (pools after : PoolCounts) (xs : List Sharer) (y : Sharer)
    (shared : AreShared pools xs) → length xs < 4096
    → ArePooled (all_of xs shared.few) after (spots_of y) → AreShared after (xs ++ y ∷ [])
shared-behind pools after xs y shared few pooled = record {
  used = λ node small. omega (
    arith,
    pooled.used node small,
    on-is (xs ++ y ∷ []) node,
    sum-behind (on_of node) xs y,
  );
  reserved = omega (
    arith,
    pooled.reserved,
    reserved-is (xs ++ y ∷ []),
    sum-behind reserved_of xs y,
  );
  few = omega (arith, few, length-behind xs y);
}
