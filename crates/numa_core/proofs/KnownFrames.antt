-- What is known of the owners, once an owner is written.
use Rattle.std.proofs.Common.{◌≡◌, ℕ, ◌+◌, ◌<◌, ◌≤◌, ◌==◌, ◌&&◌, ◌||◌, Bool, true}
use Rattle.std.proofs.Common.{false, not, Option, Some, None, is_some, List, length, refl, sym}
use Rattle.std.proofs.Common.{ap, subst, ◌∙◌, vec_len, slice_get, slice_index, slice_set}
use Rattle.std.proofs.Common.{if◌then◌else◌}
use Rattle.std.specs.Prelude.{option_and_then}
use Rattle.numa_machine.specs.declared.frame.Frame.{Frame}
use Rattle.numa_core.specs.Hints.{AreLowest, AreMarked, AreTaken, IsLow}
use Rattle.numa_core.specs.Seats.{HasRoom}
use Rattle.numa_core.specs.Standing.{is_met, owner_at, place_in}
use Rattle.numa_core.specs.declared.free_frames.Known.{Known}
use Rattle.numa_core.proofs.InARow.{index_within, place-some}
use Rattle.numa_core.proofs.TouchStands.{get-set, owner-put}
use Rattle.numa_core.proofs.TouchTaken.{below-put, taken-lower, taken-put, taken-raise}

-- an owner, after one was written at a place
written : (owners : List (Option ℕ)) (place p : ℕ) (owner : Option ℕ) → place < length owners
    → owner_at (slice_set owners place owner) (Some p)
    ≡ option_and_then (λ o. o) (if p == place then Some owner else slice_get owners p)
written owners place p owner within = ap (λ o. option_and_then (λ o. o) o)
    (get-set owners place p owner within)

module _ (owners : List (Option ℕ)) (place : ℕ) (within : place < length owners) where
  marked-put : (v : ℕ) (marks : List ℕ) → AreMarked owners marks
      → AreMarked (slice_set owners place (Some v)) marks
  marked-put v marks are p on = ap is_some (written owners place p (Some v) within)
      ∙ go (p == place)
    where
      go : (b : Bool)
          → is_some (option_and_then (λ o. o) (if b then Some (Some v) else slice_get owners p))
          ≡ true
      go true = refl
      go false = are p on

  -- the place is marked too
  marked-raise : (v : ℕ) (old new : List ℕ)
      → ((p : ℕ) → is_met new (Some p) ≡ ((p == place) || is_met old (Some p)))
      → AreMarked owners old → AreMarked (slice_set owners place (Some v)) new
  marked-raise v old new each are p on = ap is_some (written owners place p (Some v) within)
      ∙ go (p == place) (sym (each p) ∙ on)
    where
      go : (b : Bool) → (b || is_met old (Some p)) ≡ true
          → is_some (option_and_then (λ o. o) (if b then Some (Some v) else slice_get owners p))
          ≡ true
      go true h = refl
      go false h = are p h

  -- the place isn't marked any more
  marked-lower : (old new : List ℕ)
      → ((p : ℕ) → is_met new (Some p) ≡ (not (p == place) && is_met old (Some p)))
      → AreMarked owners old → AreMarked (slice_set owners place None) new
  marked-lower old new each are p on = ap is_some (written owners place p None within)
      ∙ go (p == place) (sym (each p) ∙ on)
    where
      go : (b : Bool) → (not b && is_met old (Some p)) ≡ true
          → is_some (option_and_then (λ o. o) (if b then Some None else slice_get owners p)) ≡ true
      go true h = absurd (cc)
      go false h = are p h

module _ (frames : List ℕ) (owners : List (Option ℕ)) (frame : Frame) (place : ℕ)
    (at : place_in frames frame.node frame.number ≡ Some place) (within : place < length owners)
  where
    there : frame.number < slice_index frames frame.node
    there = (place-some frames frame.node frame.number place at).0

    -- a frame becomes owned
    pub known-put : (known : Known) (v : ℕ) → AreTaken frames owners known
        → AreTaken frames (slice_set owners place (Some v)) known
    known-put known v are = record {
      lowest = taken-put frames owners (slice_set owners place (Some v)) known.lowest.items frame v
          (owner-put frames owners frame place (Some v) there at within) are.lowest;
      marked = marked-put owners place within v known.marks.items are.marked;
      room = are.room;
    }

    -- and is known to be
    pub known-raised : (old new : Known) (v : ℕ) → AreTaken frames owners old
        → IsLow frames owners frame
        → new.lowest.items ≡ slice_set old.lowest.items frame.node (frame.number + 1)
        → ((p : ℕ) → is_met new.marks.items (Some p)
        ≡ ((p == place) || is_met old.marks.items (Some p)))
        → vec_len new.marks ≡ vec_len old.marks
        → AreTaken frames (slice_set owners place (Some v)) new
    known-raised old new v are low is each len =
        let now : List (Option ℕ) = slice_set owners place (Some v) in
        let put = owner-put frames owners frame place (Some v) there at within in
        record {
          lowest = subst (AreLowest frames now) (sym is)
              (taken-raise frames now old.lowest.items frame.node (frame.number + 1)
              (below-put frames owners now frame v put low)
              (subst (λ n. frame.node < n) (sym are.lowest.as_long)
              (index_within frames frame.node frame.number there))
              (taken-put frames owners now old.lowest.items frame v put are.lowest));
          marked = marked-raise owners place within v old.marks.items new.marks.items each
              are.marked;
          room = subst (λ words. HasRoom frames words) (sym len) are.room;
        }

    -- a frame is given back
    pub known-lowered : (old new : Known) (number : ℕ) → AreTaken frames owners old
        → number ≤ slice_index old.lowest.items frame.node → number ≤ frame.number
        → new.lowest.items ≡ slice_set old.lowest.items frame.node number
        → ((p : ℕ) → is_met new.marks.items (Some p)
        ≡ (not (p == place) && is_met old.marks.items (Some p)))
        → vec_len new.marks ≡ vec_len old.marks
        → AreTaken frames (slice_set owners place None) new
    known-lowered old new number are less low is each len = record {
      lowest = subst (AreLowest frames (slice_set owners place None)) (sym is)
          (taken-lower frames owners (slice_set owners place None) old.lowest.items frame number
          (owner-put frames owners frame place None there at within)
          (subst (λ n. frame.node < n) (sym are.lowest.as_long)
          (index_within frames frame.node frame.number there)) less low are.lowest);
      marked = marked-lower owners place within old.marks.items new.marks.items each are.marked;
      room = subst (λ words. HasRoom frames words) (sym len) are.room;
    }
