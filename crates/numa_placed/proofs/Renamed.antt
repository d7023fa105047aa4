-- The cycles of pages kept in other nodes, page by page.
use Rattle.std.proofs.Common.{◌≡◌, ℕ, ◌+◌, ◌-◌, ◌<◌, ◌≤◌, ◌%◌, ◌^◌, false, Option, Some, None, List}
use Rattle.std.proofs.Common.{length, slice_index, refl, sym, ap, ◌∙◌, subst, arith, inl, inr}
use Rattle.std.proofs.Math.Nat.{mod-lt}
use Rattle.std.proofs.lemmas.Bool.{cases_lt}
use Rattle.numa_ranges.specs.Maps.{Shows, changed_page, changed_span}
use Rattle.numa_ranges.specs.Runs.{AreApart, in_pages, page_at}
use Rattle.numa_ranges.specs.declared.run.Run.{Run}
use Rattle.numa_ranges.proofs.Apart.{in_pages-above, in_pages-below, in_pages-true}
use Rattle.numa_placed.specs.Renames.{IsRenamed, IsTidied}
use Rattle.numa_placed.specs.Turns.{AreKept, HaveAll, IsNamed, kept_spot, slot_at, slot_in}
use Rattle.numa_placed.specs.Turns.{slot_spot}
use Rattle.numa_placed.specs.Turns.{spots_of, turned_slot}
use Rattle.numa_placed.specs.declared.places.Places.{Places}
use Rattle.numa_placed.specs.declared.spot.Spot.{Spot}
use Rattle.numa_placed.specs.declared.spot.Spot.TheVariants.{Nowhere, Stated}
use Rattle.numa_placed.specs.declared.turn.Slot.{Slot}
use Rattle.numa_placed.specs.declared.turn.Slot.TheVariants.{Lies, InTurn}
use Rattle.numa_placed.specs.declared.turn.Turn.{Turn}
use Rattle.numa_placed.proofs.Filtered.{page_at-far}
use Rattle.numa_placed.proofs.Slots.{one-turn, spot-kept, whole-so}

-- ---- a cycle whose nodes were added

pub renamed-pushed : (nodes made : List ℕ) (old : Turn) (from : ℕ) → IsNamed nodes old
    → length made ≡ from + old.count
    → ((place : ℕ) → place < old.count
    → slice_index made (from + place) ≡ slice_index nodes (old.from + place))
    → IsRenamed nodes made old (record { from = from; count = old.count })
renamed-pushed nodes made old from named size pushed = record {
  named = record { some = named.some; within = omega (arith, size) };
  same = λ page. pushed (page % old.count) (mod-lt page named.some);
}

-- ---- more nodes

module _ (nodes more : List ℕ) (longer : length nodes ≤ length more)
    (before : (place : ℕ) → place < length nodes → slice_index more place ≡ slice_index nodes place)
  where
    turn-more : (turn : Turn) → IsNamed nodes turn → IsNamed more turn
    turn-more turn held = record { some = held.some; within = omega (arith, held.within, longer) }

    slot-more : (page : ℕ) (slot : Slot) → ((turn : Turn) → slot ≡ InTurn turn
        → IsNamed nodes turn) → slot_spot more page slot ≡ slot_spot nodes page slot
    slot-more page (Lies spot) held = refl
    slot-more page (InTurn turn) held =
        let is = held turn refl in
        let small : page % turn.count < turn.count = mod-lt page is.some in
        ap Stated (before (turn.from + page % turn.count) (omega (arith, small, is.within)))

    kept-more : (o : Option (ℕ × Slot)) → ((turn : Turn) → slot_in o ≡ InTurn turn
        → IsNamed nodes turn) → kept_spot more o ≡ kept_spot nodes o
    kept-more None held = refl
    kept-more (Some p) held = slot-more p.0 p.1 held

-- ---- some pages more

not-turned : (spot : Spot) (turn : Turn) → Lies spot ≡ InTurn turn → ⊥
not-turned spot turn same = absurd (cc)

-- none below the first
pub tidied-begins : (old next : Places) → HaveAll old.map.runs → next.map.runs ≡ old.map.runs
    → IsTidied old next None 0
tidied-begins old next whole same = record {
  whole = subst (λ (runs : List (Run Slot)). HaveAll runs) (sym same) whole;
  done = λ page low. absurd (omega (arith, low));
  named = λ page turn low is. absurd (omega (arith, low));
  ahead = λ page high. ap (λ (runs : List (Run Slot)). page_at runs page) same;
  last = tt;
}

-- pages that don't lie in turn
pub tidied-lies : (old next : Places) (last : Option (Turn × Turn)) (page end : ℕ) (spot : Spot)
    → HaveAll old.map.runs → page ≤ end → end ≤ 2 ^ 35
    → ((p : ℕ) → page ≤ p → p < end → slot_at old.map.runs p ≡ Lies spot)
    → IsTidied old next last page → IsTidied old next last end
tidied-lies old next last page end spot whole rises within slots tidied = record {
  whole = tidied.whole;
  done = λ p high. elim (cases_lt p page) [
    | inl l ↦ tidied.done p l
    | inr l ↦
        let all = whole p (omega (arith, high, within)) in
        ap (kept_spot next.nodes.items) (tidied.ahead p l)
        ∙ spot-kept next.nodes.items old.map.runs p all
        ∙ ap (slot_spot next.nodes.items p) (slots p l high)
        ∙ sym (spot-kept old.nodes.items old.map.runs p all
        ∙ ap (slot_spot old.nodes.items p) (slots p l high))
  ];
  named = λ p turn high is. elim (cases_lt p page) [
    | inl l ↦ tidied.named p turn l is
    | inr l ↦ absurd (not-turned spot turn (sym (slots p l high)
        ∙ sym (ap slot_in (tidied.ahead p l)) ∙ is))
  ];
  ahead = λ p low. tidied.ahead p (omega (arith, low, rises));
  last = tidied.last;
}

-- pages that lie by one cycle, which was added
module _ (old next next' : Places) (last : Option (Turn × Turn)) (page end : ℕ) (turn made : Turn)
    (whole : HaveAll old.map.runs) (rises : page ≤ end) (within : end ≤ 2 ^ 35)
    (slots : (p : ℕ) → page ≤ p → p < end → slot_at old.map.runs p ≡ InTurn turn)
    (renamed : IsRenamed old.nodes.items next'.nodes.items turn made)
    (longer : length next.nodes.items ≤ length next'.nodes.items)
    (before : (place : ℕ) → place < length next.nodes.items
    → slice_index next'.nodes.items place ≡ slice_index next.nodes.items place)
    (shows : Shows next'.map.runs (changed_span page (end - page) (turned_slot made)
    (page_at next.map.runs))) (tidied : IsTidied old next last page) where
  outside : (p : ℕ) → in_pages page (end - page) p ≡ false
      → page_at next'.map.runs p ≡ page_at next.map.runs p
  outside p out = shows p ∙ rw out refl

  below : (p : ℕ) → p < page → page_at next'.map.runs p ≡ page_at next.map.runs p
  below p low = outside p (in_pages-below page (end - page) p low)

  inside-turn : (p : ℕ) → page ≤ p → p < end → page_at next'.map.runs p ≡ Some (p, InTurn made)
  inside-turn p low high =
      let all : page_at next.map.runs p ≡ Some (p, slot_at old.map.runs p) =
      tidied.ahead p low ∙ whole p (omega (arith, high, within)) in
      shows p ∙ rw (in_pages-true page (end - page) p low (omega (arith, high, rises)))
      (ap (changed_page (turned_slot made)) all)

  pub tidied-turned : IsTidied old next' (Some (turn, made)) end
  tidied-turned = record {
    whole = whole-so page (end - page) (turned_slot made) next.map.runs next'.map.runs
        (omega (arith, within, rises)) tidied.whole shows;
    done = λ p high. elim (cases_lt p page) [
      | inl l ↦ ap (kept_spot next'.nodes.items) (below p l)
          ∙ kept-more next.nodes.items next'.nodes.items longer before (page_at next.map.runs p)
          (λ t is. tidied.named p t l is) ∙ tidied.done p l
      | inr l ↦
          let all = whole p (omega (arith, high, within)) in
          ap (kept_spot next'.nodes.items) (inside-turn p l high)
          ∙ ap Stated (renamed.same p)
          ∙ sym (spot-kept old.nodes.items old.map.runs p all
          ∙ ap (slot_spot old.nodes.items p) (slots p l high))
    ];
    named = λ p t high is. elim (cases_lt p page) [
      | inl l ↦ turn-more next.nodes.items next'.nodes.items longer before t
          (tidied.named p t l (sym (ap slot_in (below p l)) ∙ is))
      | inr l ↦ subst (IsNamed next'.nodes.items)
          (one-turn made t (sym (ap slot_in (inside-turn p l high)) ∙ is)) renamed.named
    ];
    ahead = λ p low. outside p (in_pages-above page (end - page) p (omega (arith, low, rises)))
        ∙ tidied.ahead p (omega (arith, low, rises));
    last = renamed;
  }

-- all
module _ (old next : Places) (last : Option (Turn × Turn)) (low : ℕ) (all : 2 ^ 35 ≤ low)
    (apart : AreApart 0 old.map.runs) (tidied : IsTidied old next last low) where
  beyond : (page : ℕ) → 2 ^ 35 ≤ page → low ≤ page → page_at next.map.runs page ≡ None
  beyond page far high = tidied.ahead page high ∙ page_at-far 0 old.map.runs page apart far

  pub tidied-spots : (page : ℕ) → spots_of next page ≡ spots_of old page
  tidied-spots page = elim (cases_lt page low) [
    | inl l ↦ tidied.done page l
    | inr l ↦
        let far : 2 ^ 35 ≤ page = omega (arith, all, l) in
        ap (kept_spot next.nodes.items) (beyond page far l)
        ∙ sym (ap (kept_spot old.nodes.items) (page_at-far 0 old.map.runs page apart far))
  ]

  pub tidied-kept : AreKept next
  tidied-kept = record {
    whole = tidied.whole;
    named = λ page turn is. elim (cases_lt page low) [
      | inl l ↦ tidied.named page turn l is
      | inr l ↦ absurd (not-turned Nowhere turn
          (sym (ap slot_in (beyond page (omega (arith, all, l)) l)) ∙ is))
    ];
  }
