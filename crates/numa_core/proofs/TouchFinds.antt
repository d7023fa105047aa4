-- A touch over tables: what a look through the owners of a node finds.
use Rattle.std.proofs.Common.{◌≡◌, ℕ, ◌+◌, ◌<◌, ◌≤◌, true, false, Option, Some, None, is_some}
use Rattle.std.proofs.Common.{is_none, List, sym, ap, subst, ◌∙◌, arith, slice_index}
use native.Mathlib.Decide.{dec_lt}
use Rattle.std.specs.Option.{option_map}
use Rattle.numa_core.specs.Hints.{OwnsFrom}
use Rattle.numa_core.specs.World.{Setup, World}
use Rattle.numa_core.specs.Standing.{owner_at, place_in, frames_before}
use Rattle.numa_core.specs.Touching.{Shows, lowest_free}
use Rattle.numa_core.proofs.InARow.{place-is}
use Rattle.numa_core.proofs.TouchLowest.{lowest-none, lowest-some}
use Rattle.numa_core.proofs.TouchLaw.{some_not_none}

-- the table shows a frame owned
shown_owned : (s : Setup) (frames : List ℕ) (owners : List (Option ℕ)) (world : World) (n k : ℕ)
    → Shows s frames owners world → is_some (owner_at owners (place_in frames n k)) ≡ true
    → is_none (world.owner n k) ≡ false
shown_owned s frames owners world n k shows h =
    some_not_none (world.owner n k) (ap is_some (shows.owned n k) ∙ h)

pub finds-none : (s : Setup) (frames : List ℕ) (owners : List (Option ℕ)) (world : World) (n : ℕ)
    → Shows s frames owners world
    → ((k : ℕ) → k < slice_index frames n → is_some (owner_at owners (place_in frames n k)) ≡ true)
    → lowest_free s world n ≡ None
finds-none s frames owners world n shows all =
    ap (λ o. option_map (λ k. record { node = n; number = k }) o)
    (lowest-none (λ k. is_none (world.owner n k)) (slice_index s.machine.frames n)
    (λ k low. shown_owned s frames owners world n k shows
    (all k (subst (λ fs. k < slice_index fs n) (sym shows.places) low))))

pub finds-frame : (s : Setup) (frames : List ℕ) (owners : List (Option ℕ)) (world : World) (n k : ℕ)
    → Shows s frames owners world → k < slice_index frames n → owner_at owners (place_in frames n k)
    ≡ None
    → ((j : ℕ) → j < k → is_some (owner_at owners (place_in frames n j)) ≡ true)
    → lowest_free s world n ≡ Some (record { node = n; number = k })
finds-frame s frames owners world n k shows low free before =
    ap (λ o. option_map (λ k. record { node = n; number = k }) o)
    (lowest-some (λ k. is_none (world.owner n k)) (slice_index s.machine.frames n) k record {
      low = subst (λ fs. k < slice_index fs n) shows.places low;
      passes = ap is_none (shows.owned n k ∙ free);
      first = λ j less. shown_owned s frames owners world n j shows (before j less);
    })

-- a frame's owner, by what stands at its place
pub free-there : (frames : List ℕ) (owners : List (Option ℕ)) (n k : ℕ) → k < slice_index frames n
    → owner_at owners (Some (frames_before frames n + k)) ≡ None
    → owner_at owners (place_in frames n k) ≡ None
free-there frames owners n k low free = ap (owner_at owners) (place-is frames n k low) ∙ free

-- the frames below a number are known to be owned, and those from it on were found to be
pub owned-below : (frames : List ℕ) (owners : List (Option ℕ)) (n from end : ℕ)
    → end ≤ slice_index frames n
    → ((k : ℕ) → k < from → k < slice_index frames n
    → is_some (owner_at owners (place_in frames n k)) ≡ true)
    → OwnsFrom frames owners n from end → (k : ℕ) → k < end
    → is_some (owner_at owners (place_in frames n k)) ≡ true
owned-below frames owners n from end within known found k low = by (dec_lt k from)
  where
    by : Dec (k < from) → is_some (owner_at owners (place_in frames n k)) ≡ true
    by (yes less) = known k less (omega (arith, within, low))
    by (no more) =
        ap (λ o. is_some (owner_at owners o)) (place-is frames n k (omega (arith, within, low)))
        ∙ found k (omega (arith, more)) low
