-- Pages below a page sent to some targets and the others to others, whatever is kept of them.
use Rattle.std.proofs.Common.{◌≡◌, ℕ, ◌+◌, ◌-◌, ◌<◌, ◌≤◌, ◌%◌, ◌^◌, Some}
use Rattle.std.proofs.Common.{List, length, min, slice_index, refl, sym, ap, ◌∙◌, subst, arith}
use Rattle.std.proofs.Common.{inl, inr}
use Rattle.std.specs.Prelude.{nat_lt, if◌then◌else◌}
use Rattle.std.proofs.Math.Nat.{mod-lt}
use Rattle.std.proofs.lemmas.Bool.{cases_lt, le-ltb, lt-ltb}
use Rattle.numa_ranges.specs.Maps.{Shows, changed_page, changed_span}
use Rattle.numa_ranges.specs.Runs.{AreApart, page_at}
use Rattle.numa_ranges.specs.declared.run.Run.{Run}
use Rattle.numa_ranges.proofs.Apart.{in_pages-above, in_pages-below, in_pages-true}
use Rattle.numa_placed.specs.Cuts.{shifted_slot}
use Rattle.numa_placed.specs.Moves.{moved_spot}
use Rattle.numa_placed.specs.Turns.{AreNamed, HaveAll, IsNamed, kept_spot, slot_at, slot_in}
use Rattle.numa_placed.specs.Turns.{slot_spot}
use Rattle.numa_placed.specs.declared.spot.Spot.TheVariants.{Stated}
use Rattle.numa_placed.specs.declared.turn.Slot.{Slot}
use Rattle.numa_placed.specs.declared.turn.Slot.TheVariants.{Lies, InTurn}
use Rattle.numa_placed.specs.declared.turn.Turn.{Turn}
use Rattle.numa_placed.proofs.Owned.{nowhere-far}
use Rattle.numa_placed.proofs.Slots.{one-turn, spot-kept, whole-kept}

-- one page, whose cycle is so far behind in the new list
module _ (go : ℕ → ℕ) (nodes new : List ℕ) (behind : ℕ) (few : length nodes ≤ 16777216)
    (small : behind ≤ 16777216) (room : behind + length nodes ≤ length new)
    (sent : (place : ℕ) → place < length nodes
    → slice_index new (behind + place) ≡ go (slice_index nodes place)) where
  pub lies-shifted : (page : ℕ) (slot : Slot)
      → ((turn : Turn) → slot ≡ InTurn turn → IsNamed nodes turn)
      → slot_spot new page (shifted_slot go behind slot) ≡ moved_spot go (slot_spot nodes page slot)
  lies-shifted page (Lies spot) named = refl
  lies-shifted page (InTurn turn) named =
      let is = named turn refl in
      let less : page % turn.count < turn.count = mod-lt page is.some in
      let at : min (turn.from + behind) (2 ^ 32 - 1) + page % turn.count
      ≡ behind + (turn.from + page % turn.count) =
      omega (arith, is.within, is.some, few, small) in
      ap (λ (place : ℕ). Stated (slice_index new place)) at
      ∙ ap Stated (sent (turn.from + page % turn.count) (omega (arith, less, is.within)))

  pub named-shifted : (slot : Slot) (turn : Turn)
      → ((other : Turn) → slot ≡ InTurn other → IsNamed nodes other)
      → shifted_slot go behind slot ≡ InTurn turn → IsNamed new turn
  named-shifted (Lies spot) turn named is = absurd (cc)
  named-shifted (InTurn other) turn named is =
      let held = named other refl in
      subst (IsNamed new) (one-turn _ turn is) (record {
        some = held.some;
        within = omega (arith, held.within, held.some, few, small, room);
      })

module _ (go stay : ℕ → ℕ) (nodes new : List ℕ) (cut : ℕ) (old mid last : List (Run Slot))
    (whole : HaveAll old) (named : AreNamed nodes old) (apart : AreApart 0 old)
    (few : length nodes ≤ 16777216) (size : length new ≡ length nodes + length nodes)
    (first : (place : ℕ) → place < length nodes
    → slice_index new place ≡ go (slice_index nodes place))
    (second : (place : ℕ) → place < length nodes
    → slice_index new (length nodes + place) ≡ stay (slice_index nodes place))
    (end : cut ≤ 2 ^ 35)
    (below : Shows mid (changed_span 0 cut (shifted_slot go 0) (page_at old)))
    (behind : Shows last (changed_span cut (2 ^ 35 - cut) (shifted_slot stay (length nodes))
    (page_at mid))) where
  at-below : (page : ℕ) → page < cut
      → page_at last page ≡ Some (page, shifted_slot go 0 (slot_at old page))
  at-below page low =
      behind page
      ∙ rw (in_pages-below cut (2 ^ 35 - cut) page low) (below page
      ∙ rw (in_pages-true 0 cut page (omega arith) (omega (arith, low)))
      (ap (changed_page (shifted_slot go 0)) (whole page (omega (arith, low, end)))))

  at-behind : (page : ℕ) → cut ≤ page → page < 2 ^ 35
      → page_at last page ≡ Some (page, shifted_slot stay (length nodes) (slot_at old page))
  at-behind page high near =
      let same : page_at mid page ≡ Some (page, slot_at old page) = below page
      ∙ rw (in_pages-above 0 cut page (omega (arith, high))) (whole page near) in
      behind page
      ∙ rw (in_pages-true cut (2 ^ 35 - cut) page high (omega (arith, near, end)))
      (ap (changed_page (shifted_slot stay (length nodes))) same)

  at-far : (page : ℕ) → 2 ^ 35 ≤ page → page_at last page ≡ page_at old page
  at-far page far =
      behind page
      ∙ rw (in_pages-above cut (2 ^ 35 - cut) page (omega (arith, far, end))) (below page
      ∙ rw (in_pages-above 0 cut page (omega (arith, far, end))) refl)

  first-none : (place : ℕ) → place < length nodes
      → slice_index new (0 + place) ≡ go (slice_index nodes place)
  first-none place lt =
      let same : 0 + place ≡ place = omega arith in
      ap (λ (n : ℕ). slice_index new n) same ∙ first place lt

  slots : ℕ → Slot
  slots page = if nat_lt page cut then shifted_slot go 0 (slot_at old page)
      else shifted_slot stay (length nodes) (slot_at old page)

  at-near : (page : ℕ) → page < 2 ^ 35 → page_at last page ≡ Some (page, slots page)
  unfolding slots
  at-near page near = elim (cases_lt page cut) [
    | inl low ↦ rw (lt-ltb page cut low) (at-below page low)
    | inr high ↦ rw (le-ltb page cut high) (at-behind page high near)
  ]

  pub whole-apart : HaveAll last
  whole-apart = whole-kept last slots at-near

  pub named-apart : AreNamed new last
  named-apart page turn is = elim (cases_lt page (2 ^ 35)) [
    | inr far ↦
        let held = named page turn (sym (ap slot_in (at-far page far)) ∙ is) in
        record { some = held.some; within = omega (arith, held.within, size) }
    | inl near ↦ elim (cases_lt page cut) [
      | inl low ↦ named-shifted go nodes new 0 few (omega arith) (omega (arith, size)) first-none
          (slot_at old page) turn (named page) (sym (ap slot_in (at-below page low)) ∙ is)
      | inr high ↦ named-shifted stay nodes new (length nodes) few few (omega (arith, size)) second
          (slot_at old page) turn (named page) (sym (ap slot_in (at-behind page high near)) ∙ is)
    ]
  ]

  pub spots-apart : (page : ℕ) → kept_spot new (page_at last page) ≡ (if nat_lt page cut
      then moved_spot go (kept_spot nodes (page_at old page))
      else moved_spot stay (kept_spot nodes (page_at old page)))
  spots-apart page = elim (cases_lt page (2 ^ 35)) [
    | inr far ↦
        let gone = nowhere-far nodes old page apart far in
        let there = ap (kept_spot new) (at-far page far) ∙ nowhere-far new old page apart far in
        rw (le-ltb page cut (omega (arith, far, end)), gone) there
    | inl near ↦
        let lay : kept_spot nodes (page_at old page) ≡ slot_spot nodes page (slot_at old page) =
        spot-kept nodes old page (whole page near) in
        elim (cases_lt page cut) [
          | inl low ↦ rw (lt-ltb page cut low) (ap (kept_spot new) (at-below page low)
              ∙ lies-shifted go nodes new 0 few (omega arith) (omega (arith, size)) first-none page
              (slot_at old page) (named page) ∙ ap (moved_spot go) (sym lay))
          | inr high ↦ rw (le-ltb page cut high) (ap (kept_spot new) (at-behind page high near)
              ∙ lies-shifted stay nodes new (length nodes) few few (omega (arith, size)) second
              page (slot_at old page) (named page) ∙ ap (moved_spot stay) (sym lay))
        ]
  ]
