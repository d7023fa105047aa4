-- What is kept at first, when no page lies anywhere, and what is kept of a copy.
use Rattle.std.proofs.Common.{◌≡◌, ℕ, ◌+◌, ◌-◌, ◌<◌, ◌≤◌, ◌^◌, ◌&&◌, false, Option, Some, None}
use Rattle.std.proofs.Common.{List, refl, sym}
use Rattle.std.proofs.Common.{ap, ◌∙◌, arith, inl, inr, subst, suc, zero}
use Rattle.std.proofs.lemmas.Bool.{cases_lt}
use Rattle.numa_ranges.specs.Counts.{count_pages, is_start}
use Rattle.numa_ranges.specs.Maps.{Shows, with_span}
use Rattle.numa_ranges.specs.Runs.{page_at}
use Rattle.numa_ranges.specs.declared.run.Run.{Run}
use Rattle.numa_ranges.proofs.Counted.{count-none}
use Rattle.numa_ranges.proofs.Apart.{in_pages-above, in_pages-true}
use Rattle.numa_placed.specs.Laid.{Laid}
use Rattle.numa_placed.specs.Spots.{placed_page, run_count, same_spot}
use Rattle.numa_placed.specs.Stored.{IsStored, kept_count, same_slot}
use Rattle.numa_placed.specs.Turns.{AreNamed, HaveAll, kept_spot, slot_at, slot_in, spots_of}
use Rattle.numa_placed.specs.declared.places.Places.{Places}
use Rattle.numa_placed.specs.declared.spot.Spot.{Spot}
use Rattle.numa_placed.specs.declared.spot.Spot.TheVariants.{Nowhere}
use Rattle.numa_placed.specs.declared.turn.Slot.{Slot}
use Rattle.numa_placed.specs.declared.turn.Slot.TheVariants.{Lies, InTurn}
use Rattle.numa_placed.specs.declared.turn.Turn.{Turn}
use Rattle.numa_placed.proofs.Begun.{kept-few}
use Rattle.numa_placed.proofs.Slots.{whole-kept}

-- ---- no page anywhere

module _ (new : Places) (at : ℕ → Option (ℕ × Slot)) (none : (page : ℕ) → at page ≡ None)
    (shows : Shows new.map.runs (with_span 0 (2 ^ 35) 0 (Lies Nowhere) at))
    (limit : new.map.max_ranges ≡ 2 ^ 32 - 1)
  where
    says-nowhere : (page : ℕ) → page < 2 ^ 35
        → page_at new.map.runs page ≡ Some (page, Lies Nowhere)
    says-nowhere page near =
        let itself : 0 + (page - 0) ≡ page = omega arith in
        shows page ∙ rw (in_pages-true 0 (2 ^ 35) page (omega arith) (omega arith), itself) refl

    beyond : (page : ℕ) → 2 ^ 35 ≤ page → page_at new.map.runs page ≡ None
    beyond page far = shows page
        ∙ rw (in_pages-above 0 (2 ^ 35) page (omega arith)) (none page)

    slots-nowhere : (page : ℕ) → slot_at new.map.runs page ≡ Lies Nowhere
    slots-nowhere page =
        elim (cases_lt page (2 ^ 35)) [
          | inl near ↦ ap slot_in (says-nowhere page near)
          | inr far ↦ ap slot_in (beyond page far)
        ]

    pub all-nowhere : (page : ℕ) → spots_of new page ≡ Nowhere
    all-nowhere page =
        elim (cases_lt page (2 ^ 35)) [
          | inl near ↦ ap (kept_spot new.nodes.items) (says-nowhere page near)
          | inr far ↦ ap (kept_spot new.nodes.items) (beyond page far)
        ]

    not-turned : (turn : Turn) → Lies Nowhere ≡ InTurn turn → ⊥
    not-turned turn same = absurd (cc)

    pub stored-new : IsStored new
    stored-new =
        let alike : spots_of new ≡ (λ page. Nowhere) = λ i page. all-nowhere page i in
        let empty : run_count (λ page. Nowhere) ≡ 0 =
        count-none _ 0 (2 ^ 35) (λ page low high. no-start page) in
        record {
          kept = record {
            whole = whole-kept new.map.runs (λ page. Lies Nowhere) says-nowhere;
            named = λ page turn is. absurd (not-turned turn (sym (slots-nowhere page) ∙ is));
          };
          few = omega (arith, kept-few new, ap run_count alike, empty);
          limit = limit;
        }
      where
        no-start : (page : ℕ) → is_start same_spot (placed_page (λ p. Nowhere)) page ≡ false
        no-start zero = refl
        no-start (suc page) = refl

-- ---- a copy

-- what contracts see of it
abbrev laid : Places → Laid
laid places = record { runs = places.map.runs; nodes = places.nodes.items }

module _ (old new : Places) (map : new.map.runs ≡ old.map.runs)
    (nodes : new.nodes.items ≡ old.nodes.items) where
  pub spots-same : spots_of new ≡ spots_of old
  spots-same = λ i page. kept_spot (nodes i) (page_at (map i) page)

  pub laid-same : laid new ≡ laid old
  laid-same = λ i. record { runs = map i; nodes = nodes i }

  abbrev counted : List (Run Slot) → (ℕ → Spot) → ℕ
  counted runs spots = count_pages (λ page. is_start same_slot (page_at runs) page
      && is_start same_spot (placed_page spots) page) 0 (2 ^ 35)

  count-same : kept_count new ≡ kept_count old
  count-same = λ i. counted (map i) (spots-same i)

  pub stored-same : new.map.max_ranges ≡ old.map.max_ranges → IsStored old → IsStored new
  stored-same limit stored = record {
    kept = record {
      whole = subst (λ (runs : List (Run Slot)). HaveAll runs) (sym map) stored.kept.whole;
      named = subst (λ (runs : List (Run Slot)). AreNamed new.nodes.items runs) (sym map)
          (subst (λ (list : List ℕ). AreNamed list old.map.runs) (sym nodes) stored.kept.named);
    };
    few = omega (arith, count-same, stored.few);
    limit = limit ∙ stored.limit;
  }
