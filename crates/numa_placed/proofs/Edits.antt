-- What a change of pages leaves of the runs.
use Rattle.std.proofs.Common.{◌≡◌, ℕ, ◌≤◌, ◌^◌, true, false}
use Rattle.std.proofs.Common.{Option, None}
use Rattle.std.proofs.Common.{refl, sym, ap, ◌∙◌, subst, arith}
use Rattle.std.specs.Prelude.{Result, Ok, Err, IfErr, IsErrAnd, MatchResult}
use Rattle.numa_ranges.specs.Counts.{count_pages, is_start, range_count}
use Rattle.numa_ranges.specs.Maps.{changed_page}
use Rattle.numa_placed.specs.Spots.{run_count, same_spot}
use Rattle.numa_placed.specs.Spots.{placed_page, pages_where, is_placed}
use Rattle.numa_placed.specs.Moves.{moved_spot}
use Rattle.numa_machine.specs.Machine.{Hardware}
use Rattle.numa_placed.specs.Refusals.{IsLack, IsRefusal, IsMoveLack, IsMoveRefusal, lacks_node}
use Rattle.numa_placed.specs.Refusals.{span_cause, state_cause}
use Rattle.numa_requests.specs.declared.page_refusal.MoveRefusal.{MoveRefusal}
use Rattle.numa_requests.specs.declared.page_refusal.PlacedRefusal.{PlacedRefusal}
use Rattle.numa_placed.specs.declared.spot.Spot.{Spot}
use Rattle.numa_placed.specs.declared.spot.Spot.TheVariants.{Nowhere, Stated}
use Rattle.numa_placed.proofs.Counting.{count-changed, start-changed}
use Rattle.numa_placed.proofs.Tests.{same_spot-exact, same_spot-refl}

-- ---- all pages changed

module _ (old new : ℕ → Spot) (go : ℕ → ℕ) (gone : (page : ℕ) → new page ≡ moved_spot go (old page))
  where
    placed-moved : (page : ℕ) (spot : Spot) → placed_page (λ p. moved_spot go spot) page
        ≡ changed_page (moved_spot go) (placed_page (λ p. spot) page)
    placed-moved page Nowhere = refl
    placed-moved page (Stated node) = refl

    still-placed : (spot : Spot) → is_placed (moved_spot go spot) ≡ is_placed spot
    still-placed Nowhere = refl
    still-placed (Stated node) = refl

    placed-gone : placed_page new ≡ (λ page. changed_page (moved_spot go) (placed_page old page))
    placed-gone = λ i page. (ap (λ s. placed_page (λ p. s) page) (gone page)
        ∙ placed-moved page (old page)) i

    -- where a run begins then, one began before
    pub starts-kept : (page : ℕ) → is_start same_spot (placed_page new) page ≡ true
        → is_start same_spot (placed_page old) page ≡ true
    starts-kept page is =
        start-changed same_spot same_spot-exact same_spot-refl (moved_spot go) (placed_page old)
        page (subst (λ (at : ℕ → Option (ℕ × Spot)). is_start same_spot at page ≡ true) placed-gone
        is)

    pub pages-kept : pages_where is_placed new ≡ pages_where is_placed old
    pages-kept =
        let same : (λ (page : ℕ). is_placed (new page)) ≡ (λ page. is_placed (old page)) =
        λ i page. (ap is_placed (gone page) ∙ still-placed (old page)) i in
        ap (λ test. count_pages test 0 (2 ^ 35)) same

    pub runs-kept : run_count new ≤ run_count old
    runs-kept =
        let less = count-changed same_spot same_spot-exact same_spot-refl (moved_spot go)
        (placed_page old) in
        omega (arith, less, ap (range_count same_spot) placed-gone)

-- ---- what an edit answers

-- a lack, where there is no cause
pub lack-refusal : {A : Type 0} (cause : Option PlacedRefusal) (one other : ℕ → Spot)
    (result : Result A PlacedRefusal) → cause ≡ None → one ≡ other
    → IfErr result (IsLack one) → IfErr result (IsRefusal cause other)
lack-refusal {A} cause one other result none same lack =
    let P : Option PlacedRefusal → Type 0 = λ c. IfErr result (IsRefusal c other) in
    subst P (sym none) (by_result result (subst (λ after. IfErr result (IsLack after)) same lack))
  where
    by_result : (r : Result A PlacedRefusal) → IfErr r (IsLack other)
        → IfErr r (IsRefusal None other)
    by_result (Ok u) h = h
    by_result (Err e) h = h

-- the same for a move
pub move-refusal : (cause : Option MoveRefusal) (one other : ℕ → Spot)
    (inner : Result (Unit {0}) PlacedRefusal) (outer : Result (Unit {0}) MoveRefusal)
    → cause ≡ None → one ≡ other → IfErr inner (IsLack one)
    → MatchResult inner (λ done. outer ≡ Ok done) (λ lack. IsErrAnd outer
    (λ refusal. (after : ℕ → Spot) → IsLack after lack → IsMoveLack after refusal))
    → IfErr outer (IsMoveRefusal cause other)
move-refusal cause one other inner outer none same lack told =
    let P : Option MoveRefusal → Type 0 = λ c. IfErr outer (IsMoveRefusal c other) in
    subst P (sym none)
    (by_result inner outer (subst (λ after. IfErr inner (IsLack after)) same lack) told)
  where
    by_result : (i : Result (Unit {0}) PlacedRefusal) (o : Result (Unit {0}) MoveRefusal)
        → IfErr i (IsLack other)
        → MatchResult i (λ done. o ≡ Ok done) (λ lack. IsErrAnd o
        (λ refusal. (after : ℕ → Spot) → IsLack after lack → IsMoveLack after refusal))
        → IfErr o (IsMoveRefusal None other)
    by_result (Ok u) (Ok v) h told = tt
    by_result (Ok u) (Err f) h told = absurd (cc)
    by_result (Err e) (Ok v) h told = tt
    by_result (Err e) (Err f) h told = told other h

-- nothing stands against stating where the pages of a span lie
pub state-free : (machine : Hardware) (start bytes node : ℕ) → span_cause start bytes ≡ None
    → lacks_node machine node ≡ false → state_cause machine start bytes node ≡ None
state-free machine start bytes node span there = rw (span, there) refl
