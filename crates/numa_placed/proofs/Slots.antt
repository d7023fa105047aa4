-- What a change of what is kept of the pages of a span makes of where they lie.
use Rattle.std.proofs.Common.{◌≡◌, ℕ, ◌+◌, ◌<◌, ◌≤◌, ◌%◌, ◌^◌, Bool, true, Option, Some, None}
use Rattle.std.proofs.Common.{List, length, slice_index, refl, sym, ap, ◌∙◌, subst, arith, inl, inr}
use Rattle.std.specs.Prelude.{if◌then◌else◌}
use Rattle.std.proofs.lemmas.Bool.{cases_Bool, cases_lt}
use Rattle.std.proofs.Math.Nat.{mod-lt}
use Rattle.numa_ranges.specs.Maps.{Shows, changed_page, changed_span}
use Rattle.numa_ranges.specs.Counts.{range_count}
use Rattle.numa_ranges.specs.Runs.{page_at, in_pages}
use Rattle.numa_ranges.specs.declared.run.Run.{Run}
use Rattle.numa_ranges.proofs.Laws.{inside}
use Rattle.numa_placed.specs.Spots.{changed_spot, stated_spot}
use Rattle.numa_placed.specs.Turns.{AreNamed, HaveAll, IsNamed, changed_slot, kept_spot, slot_at}
use Rattle.numa_placed.specs.Turns.{slot_in, slot_spot, turn_node, turned_slot}
use Rattle.numa_placed.specs.Moves.{moved_spot}
use Rattle.numa_placed.specs.Turns.{moved_slot}
use Rattle.numa_placed.specs.declared.change.Change.{Change}
use Rattle.numa_placed.specs.declared.change.Change.TheVariants.{State, Forget}
use Rattle.numa_placed.specs.declared.spot.Spot.{Spot}
use Rattle.numa_placed.specs.declared.spot.Spot.TheVariants.{Stated}
use Rattle.numa_placed.specs.declared.turn.Slot.{Slot}
use Rattle.numa_placed.specs.declared.turn.Slot.TheVariants.{Lies, InTurn}
use Rattle.numa_placed.specs.declared.turn.Turn.{Turn}
use Rattle.numa_placed.proofs.Counting.{count-span}

-- ---- what is kept of a page

-- a page of which something is kept lies as that says
pub spot-kept : (nodes : List ℕ) (runs : List (Run Slot)) (page : ℕ)
    → page_at runs page ≡ Some (page, slot_at runs page)
    → kept_spot nodes (page_at runs page) ≡ slot_spot nodes page (slot_at runs page)
spot-kept nodes runs page is = ap (kept_spot nodes) is

-- it lies as is said of it, by a list of the same nodes
pub shown-as : (nodes shown : List ℕ) (runs : List (Run Slot)) (page : ℕ) (slot : Slot)
    → shown ≡ nodes → HaveAll runs → page < 2 ^ 35 → slot_at runs page ≡ slot
    → kept_spot nodes (page_at runs page) ≡ slot_spot shown page slot
shown-as nodes shown runs page slot same whole near is =
    spot-kept nodes runs page (whole page near) ∙ ap (slot_spot nodes page) is
    ∙ ap (λ (l : List ℕ). slot_spot l page slot) (sym same)

pub whole-kept : (runs : List (Run Slot)) (slots : ℕ → Slot)
    → ((page : ℕ) → page < 2 ^ 35 → page_at runs page ≡ Some (page, slots page)) → HaveAll runs
whole-kept runs slots says page near =
    let is = says page near in
    is ∙ ap (λ s. Some (page, s)) (sym (ap slot_in is))

-- ---- a span

-- the pages of a span, of which something else is kept
abbrev pub changed_slots : ℕ → ℕ → (Slot → Slot) → (ℕ → Slot) → ℕ → Slot
changed_slots first pages change slots page = if in_pages first pages page
    then change (slots page) else slots page

module _ (first pages : ℕ) (change : Slot → Slot) (old new : List (Run Slot))
    (within : first + pages ≤ 2 ^ 35) (whole : HaveAll old)
    (shows : Shows new (changed_span first pages change (page_at old))) where
  says : (page : ℕ) → page < 2 ^ 35
      → page_at new page ≡ Some (page, changed_slots first pages change (slot_at old) page)
  says page near =
      shows page ∙ elim (cases_Bool (in_pages first pages page)) [
        | inl here ↦ rw here (ap (changed_page change) (whole page near))
        | inr out ↦ rw out (whole page near)
      ]

  far-same : (page : ℕ) → 2 ^ 35 ≤ page → page_at new page ≡ page_at old page
  far-same page far = shows page ∙ elim (cases_Bool (in_pages first pages page)) [
    | inl here ↦
        let ends = inside first pages page here in
        absurd (omega (arith, ends.1, within, far))
    | inr out ↦ rw out refl
  ]

  pub whole-so : HaveAll new
  whole-so = whole-kept new _ says

  pub slots-so : (page : ℕ) → slot_at new page
      ≡ changed_slots first pages change (slot_at old) page
  slots-so page = elim (cases_lt page (2 ^ 35)) [
    | inl near ↦ ap slot_in (says page near)
    | inr far ↦ ap slot_in (far-same page far) ∙ outside page far
  ]
    where
      outside : (page : ℕ) → 2 ^ 35 ≤ page
          → slot_at old page ≡ changed_slots first pages change (slot_at old) page
      outside page far = elim (cases_Bool (in_pages first pages page)) [
        | inl here ↦
            let ends = inside first pages page here in
            absurd (omega (arith, ends.1, within, far))
        | inr out ↦ rw out refl
      ]

  -- the pages lie as the change says, where it says so of each page by what is kept of it
  module _ (nodes : List ℕ) (made : ℕ → Spot → Spot) (lifts : (page : ℕ) (slot : Slot)
      → slot_spot nodes page (change slot) ≡ made page (slot_spot nodes page slot)) where
    pub spots-so : (page : ℕ) → kept_spot nodes (page_at new page)
        ≡ (if in_pages first pages page then made page (kept_spot nodes (page_at old page))
        else kept_spot nodes (page_at old page))
    spots-so page = elim (cases_lt page (2 ^ 35)) [
      | inl near ↦
          ap (kept_spot nodes) (says page near)
          ∙ near-so page
          ∙ ap (λ (s : Spot). if in_pages first pages page then made page s else s)
          (sym (spot-kept nodes old page (whole page near)))
      | inr far ↦ ap (kept_spot nodes) (far-same page far) ∙ far-so page far
    ]
      where
        near-so : (page : ℕ) → slot_spot nodes page
            (changed_slots first pages change (slot_at old) page)
            ≡ (if in_pages first pages page then made page (slot_spot nodes page (slot_at old page))
            else slot_spot nodes page (slot_at old page))
        near-so page = elim (cases_Bool (in_pages first pages page)) [
          | inl here ↦ rw here (lifts page (slot_at old page))
          | inr out ↦ rw out refl
        ]

        far-so : (page : ℕ) → 2 ^ 35 ≤ page → kept_spot nodes (page_at old page)
            ≡ (if in_pages first pages page then made page (kept_spot nodes (page_at old page))
            else kept_spot nodes (page_at old page))
        far-so page far = elim (cases_Bool (in_pages first pages page)) [
          | inl here ↦
              let ends = inside first pages page here in
              absurd (omega (arith, ends.1, within, far))
          | inr out ↦ rw out refl
        ]

  -- at most two runs more: one at each end
  pub few-so : (same : Slot → Slot → Bool) → ((a b : Slot) → same a b ≡ true → a ≡ b)
      → ((a : Slot) → same a a ≡ true) → range_count same (page_at old) ≡ length old
      → range_count same (page_at new) ≡ length new → length new ≤ length old + 2
  few-so same exact itself size size' =
      let alike : page_at new ≡ changed_span first pages change (page_at old) =
      λ i page. shows page i in
      let more : range_count same (page_at new) ≤ range_count same (page_at old) + 2 =
      rw alike (count-span same exact itself change first pages (page_at old)) in
      omega (arith, more, size, size')

  -- the cycles stay named, where a change makes no new one
  pub named-so : (nodes : List ℕ) → AreNamed nodes old
      → ((slot : Slot) (turn : Turn) → change slot ≡ InTurn turn
      → ((other : Turn) → slot ≡ InTurn other → IsNamed nodes other) → IsNamed nodes turn)
      → AreNamed nodes new
  named-so nodes named makes page turn is =
      elim (cases_Bool (in_pages first pages page)) [
        | inl here ↦
            let from : change (slot_at old page) ≡ InTurn turn =
            sym (slots-so page ∙ ap (λ b. if b then change (slot_at old page) else slot_at old page)
            here) ∙ is in
            makes (slot_at old page) turn from (λ other so. named page other so)
        | inr out ↦
            let from : slot_at old page ≡ InTurn turn =
            sym (slots-so page ∙ ap (λ b. if b then change (slot_at old page) else slot_at old page)
            out) ∙ is in
            named page turn from
      ]

-- ---- a change

pub lifts-changed : (nodes : List ℕ) (change : Change) (page : ℕ) (slot : Slot)
    → slot_spot nodes page (changed_slot change slot)
    ≡ changed_spot change (slot_spot nodes page slot)
lifts-changed nodes change page (Lies spot) = refl
lifts-changed nodes (State node) page (InTurn turn) = refl
lifts-changed nodes Forget page (InTurn turn) = refl

pub makes-none : (nodes : List ℕ) (change : Change) (slot : Slot) (turn : Turn)
    → changed_slot change slot ≡ InTurn turn → IsNamed nodes turn
makes-none nodes change (Lies spot) turn is = absurd (cc)
makes-none nodes change (InTurn other) turn is = absurd (cc)

-- ---- pages in turn

turn_in : Turn → Slot → Turn
turn_in none (Lies spot) = none
turn_in none (InTurn turn) = turn

pub one-turn : (turn made : Turn) → InTurn turn ≡ InTurn made → turn ≡ made
unfolding turn_in
one-turn turn made is = ap (turn_in turn) is

pub lifts-turned : (nodes : List ℕ) (turn : Turn) (page : ℕ) (slot : Slot)
    → slot_spot nodes page (turned_slot turn slot)
    ≡ stated_spot (turn_node nodes turn page) (slot_spot nodes page slot)
lifts-turned nodes turn page slot = refl

pub makes-turn : (nodes : List ℕ) (turn : Turn) (slot : Slot) (made : Turn) → IsNamed nodes turn
    → turned_slot turn slot ≡ InTurn made → IsNamed nodes made
makes-turn nodes turn slot made named is = subst (IsNamed nodes) (one-turn turn made is) named

-- ---- all pages sent

module _ (go : ℕ → ℕ) (nodes sent : List ℕ) (old new : List (Run Slot)) (whole : HaveAll old)
    (named : AreNamed nodes old) (size : length sent ≡ length nodes)
    (pages : (page : ℕ) → page_at new page ≡ changed_page (moved_slot go) (page_at old page)) where
  moved-in : (o : Option (ℕ × Slot)) → slot_in (changed_page (moved_slot go) o)
      ≡ moved_slot go (slot_in o)
  moved-in None = refl
  moved-in (Some p) = refl

  moved-turn : (slot : Slot) (turn : Turn) → moved_slot go slot ≡ InTurn turn → slot ≡ InTurn turn
  moved-turn (Lies spot) turn is = absurd (cc)
  moved-turn (InTurn other) turn is = is

  pub whole-sent : HaveAll new
  whole-sent = whole-kept new (λ page. moved_slot go (slot_at old page))
      (λ page near. pages page ∙ ap (changed_page (moved_slot go)) (whole page near))

  pub named-sent : AreNamed sent new
  named-sent page turn is =
      let from : slot_at old page ≡ InTurn turn = moved-turn (slot_at old page) turn
      (sym (ap slot_in (pages page) ∙ moved-in (page_at old page)) ∙ is) in
      let held = named page turn from in
      record { some = held.some; within = omega (arith, held.within, size) }

  module _ (so : (place : ℕ) → place < length nodes
      → slice_index sent place ≡ go (slice_index nodes place)) where
    spot-sent : (page : ℕ) (slot : Slot) → ((turn : Turn) → slot ≡ InTurn turn → IsNamed nodes turn)
        → slot_spot sent page (moved_slot go slot) ≡ moved_spot go (slot_spot nodes page slot)
    spot-sent page (Lies spot) held = refl
    spot-sent page (InTurn turn) held =
        let is = held turn refl in
        let small : page % turn.count < turn.count = mod-lt page is.some in
        ap Stated (so (turn.from + page % turn.count) (omega (arith, small, is.within)))

    kept-sent : (o : Option (ℕ × Slot)) → ((turn : Turn) → slot_in o ≡ InTurn turn
        → IsNamed nodes turn) → kept_spot sent (changed_page (moved_slot go) o)
        ≡ moved_spot go (kept_spot nodes o)
    kept-sent None held = refl
    kept-sent (Some p) held = spot-sent p.0 p.1 held

    pub spots-sent : (page : ℕ) → kept_spot sent (page_at new page)
        ≡ moved_spot go (kept_spot nodes (page_at old page))
    spots-sent page = ap (kept_spot sent) (pages page)
        ∙ kept-sent (page_at old page) (named page)

-- ---- nodes more

module _ (nodes more : List ℕ) (runs : List (Run Slot)) (named : AreNamed nodes runs)
    (longer : length nodes ≤ length more)
    (before : (place : ℕ) → place < length nodes → slice_index more place ≡ slice_index nodes place)
  where
    pub named-grown : AreNamed more runs
    named-grown page turn is =
        let held = named page turn is in
        record { some = held.some; within = omega (arith, held.within, longer) }

    spot-grown : (page : ℕ) (slot : Slot) → ((turn : Turn) → slot ≡ InTurn turn
        → IsNamed nodes turn) → slot_spot more page slot ≡ slot_spot nodes page slot
    spot-grown page (Lies spot) held = refl
    spot-grown page (InTurn turn) held =
        let is = held turn refl in
        let small : page % turn.count < turn.count = mod-lt page is.some in
        ap Stated (before (turn.from + page % turn.count) (omega (arith, small, is.within)))

    kept-grown : (o : Option (ℕ × Slot)) → ((turn : Turn) → slot_in o ≡ InTurn turn
        → IsNamed nodes turn) → kept_spot more o ≡ kept_spot nodes o
    kept-grown None held = refl
    kept-grown (Some p) held = spot-grown p.0 p.1 held

    pub spots-grown : (page : ℕ) → kept_spot more (page_at runs page)
        ≡ kept_spot nodes (page_at runs page)
    spots-grown page = kept-grown (page_at runs page) (named page)
