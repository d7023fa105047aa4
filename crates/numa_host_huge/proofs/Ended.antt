-- A process that ends.
use Rattle.std.proofs.Common.{◌≡◌, ◌≢◌, ℕ, zero, suc, ◌+◌, ◌<◌, ◌≤◌, ◌∙◌, Bool, true, false}
use Rattle.std.proofs.Common.{Option}
use Rattle.std.proofs.Common.{Some, None, List, [], ◌∷◌, ◌++◌, length, take, drop, get_or, refl}
use Rattle.std.proofs.Common.{sym, ap, arith, subst}
use Rattle.std.specs.Prelude.{◌==◌}
use Rattle.numa_ranges.proofs.Apart.{in_pages-true}
use Rattle.numa_ranges.proofs.Counted.{count-none}
use Rattle.numa_pools.specs.Pools.{PoolCounts}
use Rattle.numa_huge.specs.Huge.{has_reserved, most_pages, on_node, with_span}
use Rattle.numa_huge.specs.Kept.{ArePooled}
use Rattle.numa_huge.specs.declared.spot.HugeSpot.{HugeSpot}
use Rattle.numa_host_huge.specs.Kept.{AreShared, IsChangedAt, spots_of}
use Rattle.numa_host_huge.specs.Sharing.{HugeHome, others_of}
use Rattle.numa_host_huge.specs.Standing.{AreHomes}
use Rattle.numa_host_huge.specs.declared.sharer.Sharer.{Sharer}
use Rattle.numa_host_huge.proofs.Places.{IsAt}
use Rattle.numa_host_huge.proofs.Sums.{on-is, on_of, others_at, reserved-is, reserved_of}
use Rattle.numa_host_huge.proofs.Sums.{sum_but, sum_with}

-- all but the one at a place
abbrev pub without_at : ℕ → List Sharer → List Sharer
without_at place [] = []
without_at zero (x ∷ xs) = xs
without_at (suc place) (x ∷ xs) = x ∷ without_at place xs

cut-is : (xs : List Sharer) (place : ℕ)
    → take place xs ++ drop (suc place) xs ≡ without_at place xs
cut-is [] zero = refl
cut-is [] (suc place) = refl
cut-is (x ∷ xs) zero = refl
cut-is (x ∷ xs) (suc place) = ap (λ (s : List Sharer). x ∷ s) (cut-is xs place)

pub removed-is : (xs : List Sharer) (place : ℕ)
    → take place xs ++ drop (place + 1) xs ≡ without_at place xs
removed-is xs place =
    let next : place + 1 ≡ suc place = omega arith in
    ap (λ (n : ℕ). take place xs ++ drop n xs) next ∙ cut-is xs place

without-length : (xs : List Sharer) (place : ℕ) → length (without_at place xs) ≤ length xs
without-length [] place = omega arith
without-length (x ∷ xs) zero = omega arith
without-length (x ∷ xs) (suc place) = omega (arith, without-length xs place)

without-sum : (f : Sharer → ℕ) (xs : List Sharer) (place : ℕ)
    → sum_with f (without_at place xs) ≡ sum_but f place xs
without-sum f [] place = refl
without-sum f (x ∷ xs) zero = refl
without-sum f (x ∷ xs) (suc place) = ap (λ (n : ℕ). f x + n) (without-sum f xs place)

pub homes-without : (xs : List Sharer) (homes : List HugeHome) (process place : ℕ)
    → AreHomes xs homes → IsAt xs process place
    → AreHomes (without_at place xs) (others_of process homes)
homes-without [] homes process place are at = absurd at
homes-without (x ∷ xs) [] process place are at = absurd are
homes-without (x ∷ xs) (home ∷ homes) process zero are at =
    rw (ap (λ (n : ℕ). n == process) (sym are.0.id) ∙ at) are.1
homes-without (x ∷ xs) (home ∷ homes) process (suc place) are at =
    rw (ap (λ (n : ℕ). n == process) (sym are.0.id) ∙ at.0)
    (are.0, homes-without xs homes process place are.1 at.1)

-- a change keeps where a process is
pub at-changed : (xs ys : List Sharer) (process place : ℕ) (d : Sharer)
    → IsChangedAt place xs ys → IsAt xs process place → IsAt ys process place
at-changed [] ys process place d changed at = absurd at
at-changed (x ∷ xs) [] process place d changed at = absurd (omega (arith, changed.length))
at-changed (x ∷ xs) (y ∷ ys) process zero d changed at =
    let id : y.id ≡ x.id = changed.id d in
    ap (λ (n : ℕ). n == process) id ∙ at
at-changed (x ∷ xs) (y ∷ ys) process (suc place) d changed at =
    let first : y ≡ x = changed.others 0 d (λ e. absurd (omega (arith, e))) in (
      ap (λ (s : Sharer). s.id == process) first ∙ at.0,
      at-changed xs ys process place d (record {
        length = omega (arith, changed.length);
        others = λ k e ne. changed.others (suc k) e (λ s. ne (omega (arith, s)));
        id = changed.id;
      }) at.1,
    )

inside-none : (spots : ℕ → Option HugeSpot) (page : ℕ) → page < most_pages
    → with_span 0 most_pages None spots page ≡ None
inside-none spots page low = rw (in_pages-true 0 most_pages page (omega arith)
    (omega (arith, low)))
    refl

-- its pages are free, and its reservations are given back
pub ended-shared : (pools after : PoolCounts) (ys : List Sharer) (place : ℕ) (d : Sharer)
    (shared : AreShared pools ys) → place < length ys
    → ArePooled (others_at ys place shared.few) after
    (with_span 0 most_pages None (spots_of (get_or ys place d)))
    → AreShared after (without_at place ys)
ended-shared pools after ys place d shared inside pooled =
    let gone : (page : ℕ) → 0 ≤ page → page < 0 + most_pages
    → with_span 0 most_pages None (spots_of (get_or ys place d)) page ≡ None =
    λ page low high. inside-none (spots_of (get_or ys place d)) page (omega (arith, high)) in
    record {
      used = λ node small. omega (
        arith,
        pooled.used node small,
        on-is (without_at place ys) node,
        without-sum (on_of node) ys place,
        count-none (λ page. on_node node (with_span 0 most_pages None
            (spots_of (get_or ys place d)) page)) 0 most_pages
            (λ page low high. ap (on_node node) (gone page low high)),
      );
      reserved = omega (
        arith,
        pooled.reserved,
        reserved-is (without_at place ys),
        without-sum reserved_of ys place,
        count-none (λ page. has_reserved (with_span 0 most_pages None
            (spots_of (get_or ys place d)) page)) 0 most_pages
            (λ page low high. ap has_reserved (gone page low high)),
      );
      few = omega (arith, shared.few, without-length ys place);
    }
