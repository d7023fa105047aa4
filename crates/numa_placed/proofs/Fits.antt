-- Edits as far as nodes have room.
use Rattle.std.proofs.Common.{◌≡◌, ℕ, ◌+◌, Bool, true, false, Option, Some, None, refl, sym}
use Rattle.std.proofs.Common.{arith, subst}
use Rattle.std.specs.Prelude.{Result, Ok, Err, IfErr, MatchResult, OnOk}
use Rattle.std.proofs.lemmas.Bool.{le-ltb}
use Rattle.numa_maps.specs.Residents.{Kept}
use Rattle.numa_placed.specs.Refusals.{IsRefusal, IsRefusalWithin, IsShort, first_of}
use Rattle.numa_placed.specs.Shifts.{is_short, stated_on}
use Rattle.numa_placed.specs.Spots.{stated_beside}
use Rattle.numa_placed.specs.Stored.{IsStoredWithin}
use Rattle.numa_placed.specs.declared.rooms.Rooms.{Rooms}
use Rattle.numa_placed.specs.declared.spot.Spot.{Spot}
use Rattle.numa_requests.specs.declared.page_refusal.PlacedRefusal.{PlacedRefusal}
use Rattle.numa_requests.specs.declared.page_refusal.PlacedRefusal.TheVariants.{NoMemory}

-- memory may lack, whether there is room or not
pub memory-short : (short : Bool) (after : ℕ → Spot) → IsShort short after NoMemory
memory-short true after = tt
memory-short false after = tt

-- a lack, where there is no cause
pub short-refusal : {A : Type 0} (cause : Option PlacedRefusal) (short : Bool) (after : ℕ → Spot)
    (result : Result A PlacedRefusal) → cause ≡ None → IfErr result (IsShort short after)
    → IfErr result (IsRefusalWithin cause short after)
short-refusal {A} cause short after result none lack =
    subst (λ (c : Option PlacedRefusal). IfErr result (IsRefusalWithin c short after)) (sym none)
    (by_result result lack)
  where
    by_result : (r : Result A PlacedRefusal) → IfErr r (IsShort short after)
        → IfErr r (IsRefusalWithin None short after)
    by_result (Ok u) h = h
    by_result (Err e) h = h

-- what is told of the pages that a span has is told of the span
pub told-of : (mapped : ℕ → Bool) (kept : Kept) (room : ℕ → ℕ)
    (result : Result (Unit {0}) PlacedRefusal) (new : ℕ → Spot) (rooms : Rooms)
    (spots spots' : ℕ → Spot) (first first' pages pages' node node' : ℕ) → spots ≡ spots'
    → first ≡ first' → pages ≡ pages' → node ≡ node'
    → IsStoredWithin spots (stated_beside mapped kept first pages node spots) node room result new
    rooms
    → IsStoredWithin spots' (stated_beside mapped kept first' pages' node' spots') node' room
    result new rooms
told-of mapped kept room result new rooms spots spots' first first' pages pages' node node' same
    begins many on edit =
    let P : (ℕ → Spot) → ℕ → ℕ → ℕ → Type 0 = λ s f p n. IsStoredWithin s
    (stated_beside mapped kept f p n s) n room result new rooms in
    subst (P spots' first' pages') on (subst (λ (p : ℕ). P spots' first' p node) many
    (subst (λ (f : ℕ). P spots' f pages node) begins
    (subst (λ (s : ℕ → Spot). P s first pages node) same edit)))

-- pages are judged where their span is one
pub strict-told : (result : Result (Unit {0}) PlacedRefusal)
    (span here there : Option PlacedRefusal) → span ≡ None → here ≡ there
    → MatchResult result (λ done. here ≡ None) (λ cause. here ≡ Some cause)
    → MatchResult result (λ done. first_of span there ≡ None)
    (λ refusal. first_of span there ≡ Some refusal)
strict-told result span here there none same told =
    let P : Option PlacedRefusal → Option PlacedRefusal → Type 0 = λ s o. MatchResult result
    (λ done. first_of s o ≡ None) (λ refusal. first_of s o ≡ Some refusal) in
    subst (λ (o : Option PlacedRefusal). P span o) same
    (subst (λ (s : Option PlacedRefusal). P s here) (sym none) (by_result result told))
  where
    by_result : (r : Result (Unit {0}) PlacedRefusal)
        → MatchResult r (λ done. here ≡ None) (λ cause. here ≡ Some cause)
        → MatchResult r (λ done. first_of None here ≡ None)
        (λ refusal. first_of None here ≡ Some refusal)
    by_result (Ok u) h = h
    by_result (Err e) h = h

-- what holds anyway
pub ok-always : {A E P : Type 0} (r : Result A E) → P → OnOk r P
ok-always (Ok x) p = p
ok-always (Err e) p = tt

-- a touch is refused, where the span is none to refuse
pub touch-refusal : (span touch : Option PlacedRefusal) (after : ℕ → Spot) (refusal : PlacedRefusal)
    → span ≡ None → touch ≡ Some refusal → IsRefusal (first_of span touch) after refusal
touch-refusal span touch after refusal none some = rw (none, some) refl

pub touch-free : (span touch : Option PlacedRefusal) → span ≡ None → touch ≡ None
    → first_of span touch ≡ None
touch-free span touch none free = rw (none, free) refl

-- where nothing goes elsewhere, no node lacks room
pub not-short : (room : ℕ → ℕ) (spots : ℕ → Spot) (node : ℕ)
    → is_short room spots spots node ≡ false
not-short room spots node =
    let pages = stated_on spots node in
    le-ltb (room node + pages) pages (omega arith)
