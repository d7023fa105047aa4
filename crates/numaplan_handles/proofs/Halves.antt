-- A search for a page among ranges, by halves.
use Rattle.std.proofs.Common.{◌≡◌, ℕ, zero, suc, ◌+◌, ◌<◌, ◌≤◌, List, [], ◌∷◌, length, get_or, sym}
use Rattle.std.proofs.Common.{subst, arith}
use Rattle.std.specs.List.{AllWithin}
use Rattle.numa_ranges.specs.Runs.{AreApart, end_of}
use Rattle.numa_ranges.specs.declared.run.Run.{Run}
use Rattle.numa_ranges.proofs.Apart.{apart-from}
use Rattle.numaplan_handles.specs.Asked.{IsPlaceOf}

module _ {T : Type 0} where
  -- ends rise
  ends-rising : (from : ℕ) (ranges : List (Run T)) → AreApart from ranges → (i j : ℕ) (d : Run T)
      → i ≤ j → j < length ranges → end_of (get_or ranges i d) ≤ end_of (get_or ranges j d)
  ends-rising from [] apart i j d le l = absurd (omega arith)
  ends-rising from (range ∷ ranges) apart zero zero d le l = omega arith
  ends-rising from (range ∷ ranges) apart zero (suc j) d le l =
      omega (arith, apart-from (end_of range) ranges j d apart.3 (omega arith))
  ends-rising from (range ∷ ranges) apart (suc i) zero d le l = absurd (omega arith)
  ends-rising from (range ∷ ranges) apart (suc i) (suc j) d le l =
      ends-rising (end_of range) ranges apart.3 i j d (omega arith) (omega arith)

  -- the ranges before `low` end at the page or before it, and those from `high` on behind it
  pub record IsNarrowed (ranges : List (Run T)) (page low high : ℕ) : Type 0 where
    pub within : low ≤ high
    pub top : high ≤ length ranges
    pub before : AllWithin (λ range. end_of range ≤ page) ranges 0 low
    pub after : AllWithin (λ range. page < end_of range) ranges high (length ranges)

  pub all-left : (ranges : List (Run T)) (page high : ℕ) → high ≡ length ranges
      → IsNarrowed ranges page 0 high
  all-left ranges page high all = record {
    within = omega arith;
    top = omega (arith, all);
    before = λ k d k_low k_high. absurd (omega arith);
    after = λ k d k_low k_high. absurd (omega (arith, all));
  }

  module _ (ranges : List (Run T)) (page low high middle : ℕ) (range : Run T) where
    pub narrowed-up : AreApart 0 ranges → low ≤ middle → middle < high
        → ((d : Run T) → get_or ranges middle d ≡ range) → end_of range ≤ page
        → IsNarrowed ranges page low high → IsNarrowed ranges page (middle + 1) high
    narrowed-up apart ge lt is ends h = record {
      within = omega arith;
      top = h.top;
      before = λ k d k_low k_high.
          let here : end_of (get_or ranges middle d) ≤ page = subst (λ (r : Run T). end_of r ≤ page)
          (sym (is d)) ends in
          omega (
            arith,
            ends-rising 0 ranges apart k middle d (omega arith) (omega (arith, h.top)),
            here,
          );
      after = h.after;
    }

    pub narrowed-down : AreApart 0 ranges → low ≤ middle → middle < high
        → ((d : Run T) → get_or ranges middle d ≡ range) → page < end_of range
        → IsNarrowed ranges page low high → IsNarrowed ranges page low middle
    narrowed-down apart ge lt is ends h = record {
      within = ge;
      top = omega (arith, h.top);
      before = h.before;
      after = λ k d k_low k_high.
          let here : page < end_of (get_or ranges middle d) = subst (λ (r : Run T). page < end_of r)
          (sym (is d)) ends in
          omega (arith, ends-rising 0 ranges apart middle k d k_low k_high, here);
    }

  pub place-found : (ranges : List (Run T)) (page low high : ℕ) → high ≤ low
      → IsNarrowed ranges page low high → IsPlaceOf ranges page low
  place-found ranges page low high all h =
      let same : low ≡ high = omega (arith, h.within) in
      record {
        within = omega (arith, h.top);
        before = h.before;
        behind =
            subst (λ place. AllWithin (λ range. page < end_of range) ranges place (length ranges))
            (sym same) h.after;
      }
