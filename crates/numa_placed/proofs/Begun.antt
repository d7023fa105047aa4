-- Runs that are kept, counted where a run of pages begins that lie somewhere, all alike.
use Rattle.std.proofs.Common.{◌≡◌, ℕ, ◌+◌, ◌-◌, ◌<◌, ◌≤◌, ◌&&◌, ◌^◌, eqb, Bool}
use Rattle.std.proofs.Common.{true, false, List, [], ◌∷◌, length, refl, sym, ap, ◌∙◌, arith, inl}
use Rattle.std.proofs.Common.{inr}
use Rattle.std.proofs.Common.{subst}
use Rattle.std.specs.Prelude.{Result, if◌then◌else◌}
use Rattle.std.proofs.lemmas.Bool.{cases_Bool, and_parts, eq-eqb, eqb-true, ne_eqb, lt-ltb}
use Rattle.numa_ranges.specs.Counts.{count_pages, is_start}
use Rattle.numa_ranges.specs.Runs.{page_at, end_of, AreApart, AreMaximal}
use Rattle.numa_ranges.specs.declared.run.Run.{Run}
use Rattle.numa_ranges.proofs.Apart.{apart-top}
use Rattle.numa_ranges.proofs.Changed.{begins-start, start-begins}
use Rattle.numa_ranges.proofs.Counted.{count-agree, count-none, count-split, range_count-length}
use Rattle.numa_ranges.proofs.Cut.{apart-lower}
use Rattle.numa_ranges.proofs.Fewer.{begins_at}
use Rattle.numa_placed.specs.Spots.{most_runs, run_count}
use Rattle.numa_placed.specs.Spots.{too_many}
use Rattle.numa_placed.specs.Stored.{IsStoredEdit, begins, begins_kept, kept_count, same_slot}
use Rattle.numa_requests.specs.declared.page_refusal.PlacedRefusal.{PlacedRefusal}
use Rattle.numa_placed.specs.Turns.{spots_of}
use Rattle.numa_placed.specs.declared.places.Places.{Places}
use Rattle.numa_placed.specs.declared.spot.Spot.{Spot}
use Rattle.numa_placed.specs.declared.turn.Slot.{Slot}
use Rattle.numa_placed.specs.declared.turn.Slot.TheVariants.{Lies, InTurn}
use Rattle.numa_placed.specs.declared.turn.Turn.{Turn}
use Rattle.numa_placed.proofs.Counting.{count-fewer, start-changed}
use Rattle.numa_placed.proofs.Edits.{starts-kept}
use Rattle.numa_ranges.specs.Maps.{changed_page}
use Rattle.numa_placed.specs.Moves.{moved_spot}
use Rattle.numa_placed.specs.Turns.{moved_slot}
use Rattle.std.proofs.Common.{Option}
use Rattle.std.proofs.lemmas.Bool.{and_from}
use Rattle.numa_placed.proofs.Tests.{same_spot-exact, same_spot-refl}

-- ---- the test by which kept runs join

same-turn : (a b : Turn) → a.from ≡ b.from → a.count ≡ b.count → a ≡ b
same-turn a b from count = λ i. record { from = from i; count = count i }

pub same_slot-exact : (a b : Slot) → same_slot a b ≡ true → a ≡ b
same_slot-exact (Lies a) (Lies b) h = ap (λ s. Lies s) (same_spot-exact a b h)
same_slot-exact (Lies a) (InTurn b) h = absurd (cc)
same_slot-exact (InTurn a) (Lies b) h = absurd (cc)
same_slot-exact (InTurn a) (InTurn b) h =
    let parts = and_parts (eqb a.from b.from) (eqb a.count b.count) h in
    ap (λ t. InTurn t) (same-turn a b (eqb-true a.from b.from parts.0)
    (eqb-true a.count b.count parts.1))

pub same_slot-refl : (a : Slot) → same_slot a a ≡ true
same_slot-refl (Lies a) = same_spot-refl a
same_slot-refl (InTurn a) = rw (eq-eqb a.from a.from refl) (eq-eqb a.count a.count refl)

-- one page, counted
one-page : (f : ℕ → Bool) (a : ℕ) → count_pages f a 1 ≡ (if f a then 1 else 0)
unfolding count_pages
one-page f a = omega arith

-- ---- runs of a list

module _ {T : Type 0} (test : ℕ → Bool) where
  -- how many of the runs begin where the test passes
  abbrev pub begun : List (Run T) → ℕ
  begun [] = 0
  begun (run ∷ runs) = (if test run.first then 1 else 0) + begun runs

  pub begun-few : (runs : List (Run T)) → begun runs ≤ length runs
  begun-few [] = omega arith
  begun-few (run ∷ runs) =
      let rest = begun-few runs in
      elim (cases_Bool (test run.first)) [
        | inl t ↦ rw t (omega (arith, rest))
        | inr e ↦ rw e (omega (arith, rest))
      ]

  none-below : (low : ℕ) (runs : List (Run T)) (page : ℕ) → AreApart low runs → page < low
      → begins_at runs page ≡ false
  none-below low [] page apart lt = refl
  none-below low (run ∷ runs) page apart lt =
      rw (ne_eqb run.first page (λ same. omega (arith, apart.0, same, lt)))
      (none-below (end_of run) runs page apart.3 (omega (arith, apart.0, lt)))

  begun-pages : (low n : ℕ) (runs : List (Run T)) → AreApart low runs → low + n ≡ 2 ^ 35
      → count_pages (λ page. begins_at runs page && test page) low n ≡ begun runs
  begun-pages low n [] apart all =
      count-none (λ page. begins_at {T = T} [] page && test page) low n (λ page l h. refl)
  begun-pages low n (run ∷ runs) apart all =
      let f : ℕ → Bool = λ page. begins_at (run ∷ runs) page && test page in
      let g : ℕ → Bool = λ page. begins_at runs page && test page in
      let top = apart-top (end_of run) runs apart.3 in
      let rest = n - (run.first - low) - 1 in
      let cut = count-split f low (run.first - low) (1 + rest) n
      (omega (arith, apart.0, apart.1, top, all)) in
      let place : low + (run.first - low) ≡ run.first = omega (arith, apart.0) in
      let moved = ap (λ (p : ℕ). count_pages f p (1 + rest)) place in
      let below = count-none f low (run.first - low) (λ page l h. rw
      (none-below run.first (run ∷ runs) page (omega arith, apart.1, apart.2, apart.3)
      (omega (arith, apart.0, h))) refl) in
      let both = count-split f run.first 1 rest (1 + rest) refl in
      let one = one-page f run.first in
      let here : f run.first ≡ test run.first = rw (eq-eqb run.first run.first refl) refl in
      let first = ap {B = ℕ} (λ (b : Bool). if b then 1 else 0) here in
      let later = count-agree f g (run.first + 1) rest
      (λ page l. rw (ne_eqb run.first page (λ same. omega (arith, same, l))) refl) in
      let next = begun-pages (run.first + 1) rest runs
      (apart-lower (run.first + 1) (end_of run) runs (omega (arith, apart.1)) apart.3)
      (omega (arith, apart.0, apart.1, top, all)) in
      omega (arith, cut, moved, below, both, one, first, later, next)

-- tests that pass alike are one
both-so : (a b : Bool) → (a ≡ true → b ≡ true) → (b ≡ true → a ≡ true) → a ≡ b
both-so true b to back = sym (to refl)
both-so false true to back = back refl
both-so false false to back = refl

module _ (places : Places) (apart : AreApart 0 places.map.runs)
    (maximal : AreMaximal places.map.runs) where
  pub kept-begun : begun (begins (spots_of places)) places.map.runs ≡ kept_count places
  kept-begun =
      let runs = places.map.runs in
      let so : (page : ℕ) → begins_at runs page ≡ begins_kept places page = λ page.
      both-so (begins_at runs page) (begins_kept places page)
      (begins-start same_slot same_slot-exact same_slot-refl runs page apart maximal)
      (start-begins same_slot same_slot-exact same_slot-refl runs page apart maximal) in
      sym (begun-pages (begins (spots_of places)) 0 (2 ^ 35) runs apart refl)
      ∙ ap (λ (test : ℕ → Bool). count_pages (λ page. test page && begins (spots_of places) page)
      0 (2 ^ 35)) (λ i page. so page i)

  -- no more than runs of the map
  pub kept-short : kept_count places ≤ length places.map.runs
  kept-short = omega (
    arith,
    count-fewer (λ page. begins_kept places page && begins (spots_of places) page)
        (begins_kept places) 0 (2 ^ 35)
        (λ page h. (and_parts (begins_kept places page) (begins (spots_of places) page) h).0),
    range_count-length same_slot same_slot-exact same_slot-refl places.map.runs apart maximal,
  )

-- no more than runs of pages that lie alike
pub kept-few : (places : Places) → kept_count places ≤ run_count (spots_of places)
kept-few places = count-fewer (λ page. begins_kept places page && begins (spots_of places) page)
    (begins (spots_of places)) 0 (2 ^ 35)
    (λ page h. (and_parts (begins_kept places page) (begins (spots_of places) page) h).1)

pub many-kept : (places : Places) → most_runs < kept_count places
    → too_many (spots_of places) ≡ true
many-kept places more =
    lt-ltb most_runs (run_count (spots_of places)) (omega (arith, more, kept-few places))

-- ---- all pages moved

-- where a kept run counts once the pages of each node went to another, one counted before
module _ (go : ℕ → ℕ) (old new : Places) (pages : (page : ℕ) → page_at new.map.runs page
    ≡ changed_page (moved_slot go) (page_at old.map.runs page))
    (gone : (page : ℕ) → spots_of new page ≡ moved_spot go (spots_of old page)) where
  pub kept-gone : kept_count new ≤ kept_count old
  kept-gone = count-fewer (λ page. begins_kept new page && begins (spots_of new) page)
      (λ page. begins_kept old page && begins (spots_of old) page) 0 (2 ^ 35) still
    where
      still : (page : ℕ) → (begins_kept new page && begins (spots_of new) page) ≡ true
          → (begins_kept old page && begins (spots_of old) page) ≡ true
      still page is =
          let parts = and_parts (begins_kept new page) (begins (spots_of new) page) is in
          let all : page_at new.map.runs
          ≡ (λ p. changed_page (moved_slot go) (page_at old.map.runs p)) =
          λ i p. pages p i in
          let kept = start-changed same_slot same_slot-exact same_slot-refl (moved_slot go)
          (page_at old.map.runs) page (subst (λ (at : ℕ → Option (ℕ × Slot)).
          is_start same_slot at page ≡ true) all parts.0) in
          and_from (begins_kept old page) (begins (spots_of old) page) kept
          (starts-kept (spots_of old) (spots_of new) go gone page parts.1)

-- ---- what an edit answers

-- an edit to pages that lie alike
pub stored-alike : (one other : ℕ → Spot) (old new : Places)
    (result : Result (Unit {0}) PlacedRefusal) → ((page : ℕ) → one page ≡ other page)
    → IsStoredEdit one old result new → IsStoredEdit other old result new
stored-alike one other old new result same edit =
    let alike : one ≡ other = λ i page. same page i in
    subst (λ after. IsStoredEdit after old result new) alike edit
