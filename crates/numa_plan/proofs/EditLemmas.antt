-- What the editing calls keep.
use Rattle.std.proofs.Common.{◌≡◌, ℕ, zero, suc, ◌+◌, ◌-◌, ◌<◌, ◌≤◌, true, false, cond, min, Option}
use Rattle.std.proofs.Common.{Some, None, List, [], ◌∷◌, ◌++◌, not, length, get_or, set, take, drop}
use Rattle.std.proofs.Common.{refl, sym, ap, ◌∙◌, arith, inl, inr}
use Rattle.std.specs.Prelude.{All, IsSome, is_some, count_by}
use Rattle.std.specs.List.{slice_range, splice}
use Rattle.std.specs.Option.{ForSome}
use Rattle.std.proofs.lemmas.Bool.{cases_lt, lt-ltb, le-ltb}
use Rattle.std.proofs.lemmas.List.{drop-drop, drop_more, take_more, get_or-set_same}
use Rattle.std.proofs.lemmas.List.{get_or-set_other, get_or-take, get_or_default, length-take}
use Rattle.std.proofs.lemmas.List.Sums.{sum_by-append, sum_by-cons, sum_by-take-drop}
use Rattle.std.proofs.Math.ListN.{length-set}
use Rattle.numa_ranges.specs.declared.run.Run.{Run}
use Rattle.numa_plan.specs.Rows.{Kept, RuleData, HasRows}
use Rattle.numa_plan.specs.Slots.{slot_at, kept_of_slot, rule_of_slot, uses_of_slot, kept_in}
use Rattle.numa_plan.specs.Slots.{rule_in, uses_in, put_slot, one_use_more, with_use, with_use_less}
use Rattle.numa_plan.specs.Slots.{AreTaken, IsLowestFree, EndsTaken}
use Rattle.numa_plan.specs.Meaning.{PlanData, is_number, planned_list}
use Rattle.numa_plan.specs.Editing.{with_uses, with_uses_less, with_other, before_others}
use Rattle.numa_plan.specs.Editing.{up_to_last_taken, without_rule}
use Rattle.numa_plan.specs.Sound.{IsPlan}
use Rattle.numa_plan.specs.declared.slots.Slot.{Slot}
use Rattle.numa_plan.specs.declared.slots.Slot.TheVariants.{Free, Taken}
use Rattle.numa_plan.proofs.SlotLemmas.{same_or_not, change-same, rule_of-kept, kept_in-used}
use Rattle.numa_plan.proofs.SlotLemmas.{kept_in-unused, rule_in-used, length-used, length-unused}
use Rattle.numa_plan.proofs.BuildLemmas.{keeps, lists-kept, uses_in-one, uses_in-one_less}

-- ---- uses by many runs

-- how many runs name a number
abbrev pub names : ℕ → List (Run (Option ℕ)) → ℕ
names number runs = count_by (λ run. is_number number run.value) runs

abbrev pub AreThere : List Slot → List (Run (Option ℕ)) → Type 0
AreThere slots runs =
    All (λ (run : Run (Option ℕ)). ForSome run.value (λ number. IsSome (rule_in slots number))) runs

pub names-cons : (k : ℕ) (run : Run (Option ℕ)) (runs : List (Run (Option ℕ)))
    → names k (run ∷ runs) ≡ cond (is_number k run.value) 1 0 + names k runs
names-cons k run runs = sum_by-cons (λ (r : Run (Option ℕ)). cond {A = ℕ} (is_number k r.value) 1 0)
    run runs

kept_in-all_used : (slots : List Slot) (runs : List (Run (Option ℕ))) (k : ℕ)
    → kept_in (with_uses slots runs) k ≡ kept_in slots k
kept_in-all_used slots [] k = refl
kept_in-all_used slots (run ∷ runs) k = kept_in-all_used (with_use slots run.value) runs k
    ∙ kept_in-used slots run.value k

kept_in-all_unused : (slots : List Slot) (runs : List (Run (Option ℕ))) (k : ℕ)
    → kept_in (with_uses_less slots runs) k ≡ kept_in slots k
kept_in-all_unused slots [] k = refl
kept_in-all_unused slots (run ∷ runs) k = kept_in-all_unused (with_use_less slots run.value) runs k
    ∙ kept_in-unused slots run.value k

-- runs put in and taken out change no policy and no rule
pub kept_in-spliced : (slots : List Slot) (runs gone : List (Run (Option ℕ))) (k : ℕ)
    → kept_in (with_uses_less (with_uses slots runs) gone) k ≡ kept_in slots k
kept_in-spliced slots runs gone k = kept_in-all_unused (with_uses slots runs) gone k
    ∙ kept_in-all_used slots runs k

rule_in-spliced : (slots : List Slot) (runs gone : List (Run (Option ℕ))) (k : ℕ)
    → rule_in (with_uses_less (with_uses slots runs) gone) k ≡ rule_in slots k
rule_in-spliced slots runs gone k = rule_of-kept _ _ (kept_in-spliced slots runs gone k)

length-all_used : (slots : List Slot) (runs : List (Run (Option ℕ))) → length (with_uses slots runs)
    ≡ length slots
length-all_used slots [] = refl
length-all_used slots (run ∷ runs) = length-all_used (with_use slots run.value) runs
    ∙ length-used slots run.value

length-all_unused : (slots : List Slot) (runs : List (Run (Option ℕ)))
    → length (with_uses_less slots runs) ≡ length slots
length-all_unused slots [] = refl
length-all_unused slots (run ∷ runs) = length-all_unused (with_use_less slots run.value) runs
    ∙ length-unused slots run.value

pub uses_in-all_used : (slots : List Slot) (runs : List (Run (Option ℕ))) (k : ℕ)
    → AreThere slots runs → uses_in (with_uses slots runs) k ≡ uses_in slots k + names k runs
uses_in-all_used slots [] k there = omega arith
uses_in-all_used slots (run ∷ runs) k there =
    let rest = uses_in-all_used (with_use slots run.value) runs k
    (λ i d l number is. ap is_some (rule_in-used slots run.value number)
    ∙ there (suc i) d (omega arith) number is) in
    omega (
      arith,
      rest,
      uses_in-one slots run.value k (there 0 run (omega arith)),
      names-cons k run runs,
    )

uses_in-all_unused : (slots : List Slot) (runs : List (Run (Option ℕ))) (k : ℕ)
    → uses_in (with_uses_less slots runs) k ≡ uses_in slots k - names k runs
uses_in-all_unused slots [] k = omega arith
uses_in-all_unused slots (run ∷ runs) k =
    omega (
      arith,
      uses_in-all_unused (with_use_less slots run.value) runs k,
      uses_in-one_less slots run.value k,
      names-cons k run runs,
    )

-- ---- one run more

most-more : (slot : Slot) → uses_of_slot (one_use_more slot) ≤ uses_of_slot slot + 1
most-more Free = omega arith
most-more (Taken uses rule) = omega arith

used-most : (slots : List Slot) (named : Option ℕ) (k : ℕ) → uses_in (with_use slots named) k
    ≤ uses_in slots k + 1
used-most slots None k = omega arith
used-most slots (Some number) k = elim (same_or_not k number) [
  | inl e ↦
      rw e
      (omega (
        arith,
        ap uses_of_slot (change-same one_use_more refl slots number),
        most-more (slot_at slots number),
      ))
  | inr ne ↦
      omega (
        arith,
        ap uses_of_slot (get_or-set_other slots number k (one_use_more (slot_at slots number)) Free
            ne),
      )
]

module _ (slots new : List Slot) where
  pub used-rest : (all : List Slot) (runs : List (Run (Option ℕ))) (i : ℕ) (d : Run (Option ℕ))
      → i < length runs → new ≡ with_use slots (get_or runs i d).value
      → with_uses slots (drop i runs) ≡ all → with_uses new (drop (i + 1) runs) ≡ all
  used-rest all runs i d within is before = ap (λ s. with_uses s (drop (i + 1) runs)) is
      ∙ sym (ap (with_uses slots) (drop_more runs i d within)) ∙ before

  pub used-there : (named : Option ℕ) → new ≡ with_use slots named → (k : ℕ)
      → rule_in new k ≡ rule_in slots k
  used-there named is k = ap (λ s. rule_in s k) is ∙ rule_in-used slots named k

  pub used-few : (named : Option ℕ) → new ≡ with_use slots named → (k : ℕ)
      → uses_in new k ≤ uses_in slots k + 1
  used-few named is k = omega (arith, ap (λ s. uses_in s k) is, used-most slots named k)

  pub unused-rest : (all : List Slot) (runs : List (Run (Option ℕ))) (i : ℕ) (d : Run (Option ℕ))
      → i < length runs → new ≡ with_use_less slots (get_or runs i d).value
      → with_uses_less slots (drop i runs) ≡ all → with_uses_less new (drop (i + 1) runs) ≡ all
  unused-rest all runs i d within is before = ap (λ s. with_uses_less s (drop (i + 1) runs)) is
      ∙ sym (ap (with_uses_less slots) (drop_more runs i d within)) ∙ before

  pub unused-used : (runs : List (Run (Option ℕ))) (i : ℕ) (d : Run (Option ℕ)) → i < length runs
      → new ≡ with_use_less slots (get_or runs i d).value → (k : ℕ)
      → names k (drop i runs) ≤ uses_in slots k → names k (drop (i + 1) runs) ≤ uses_in new k
  unused-used runs i d within is k before =
      omega (
        arith,
        ap (λ s. uses_in s k) is,
        uses_in-one_less slots (get_or runs i d).value k,
        ap (names k) (drop_more runs i d within),
        names-cons k (get_or runs i d) (drop (i + 1) runs),
        before,
      )

-- ---- runs put in the place of others

module _ (runs new : List (Run (Option ℕ))) (from to k : ℕ) where
  abbrev hits : Run (Option ℕ) → ℕ
  hits run = cond {A = ℕ} (is_number k run.value) 1 0

  pub names-window : from ≤ to → names k (take from runs) + names k (slice_range runs from to)
      + names k (drop to runs) ≡ names k runs
  names-window rises =
      let whole : names k (take from runs) + names k (drop from runs) ≡ names k runs =
      sum_by-take-drop hits runs from in
      let part : names k (slice_range runs from to) + names k (drop (to - from) (drop from runs))
      ≡ names k (drop from runs) = sum_by-take-drop hits (drop from runs) (to - from) in
      let far : from + (to - from) ≡ to = omega arith in
      let rest : names k (drop (to - from) (drop from runs)) ≡ names k (drop to runs) =
      ap (names k) (drop-drop (to - from) from runs ∙ ap (λ n. drop n runs) far) in
      omega (arith, whole, part, rest)

  names-splice : from ≤ to → names k (splice runs from to new) + names k (slice_range runs from to)
      ≡ names k runs + names k new
  names-splice rises =
      let a : names k (splice runs from to new) ≡ names k (take from runs) + names k
      (new ++ drop to runs) = sum_by-append hits (take from runs) (new ++ drop to runs) in
      let b : names k (new ++ drop to runs) ≡ names k new + names k (drop to runs) =
      sum_by-append hits new (drop to runs) in
      omega (arith, a, b, names-window rises)

pub keeps_spliced : (nodes : ℕ) (runs new gone : List (Run (Option ℕ))) (slots : List Slot)
    (low : ℕ) (tasks : List (ℕ × ℕ)) (local : RuleData) (from to : ℕ)
    → IsPlan nodes runs slots low tasks local → from ≤ to → gone ≡ slice_range runs from to
    → AreThere slots new
    → IsPlan nodes (splice runs from to new) (with_uses_less (with_uses slots new) gone) low tasks
    local
keeps_spliced nodes runs new gone slots low tasks local from to plan rises is there =
    keeps nodes runs (splice runs from to new) slots (with_uses_less (with_uses slots new) gone) low
    tasks tasks local plan (rule_in-spliced slots new gone)
    (length-all_unused (with_uses slots new) gone ∙ length-all_used slots new)
    (λ k. omega (
      arith,
      uses_in-all_unused (with_uses slots new) gone k,
      uses_in-all_used slots new k there,
      plan.counted k,
      names-splice runs new from to k rises,
      ap (names k) is,
    ))

-- the runs of a window have their uses
pub window-used : (nodes : ℕ) (runs new gone : List (Run (Option ℕ))) (slots : List Slot) (low : ℕ)
    (tasks : List (ℕ × ℕ)) (local : RuleData) (from to : ℕ)
    → IsPlan nodes runs slots low tasks local → from ≤ to → gone ≡ slice_range runs from to
    → AreThere slots new
    → (k : ℕ) → names k gone ≤ uses_in (with_uses slots new) k
window-used nodes runs new gone slots low tasks local from to plan rises is there k =
    omega (
      arith,
      uses_in-all_used slots new k there,
      plan.counted k,
      names-window runs new from to k rises,
      ap (names k) is,
    )

-- ---- a rule written in the place of another

uses-other : (slot : Slot) (kept : Kept) → uses_of_slot (with_other slot kept) ≡ uses_of_slot slot
uses-other Free kept = refl
uses-other (Taken uses old) kept = refl

some-other : (slot : Slot) (kept : Kept) → is_some (rule_of_slot (with_other slot kept))
    ≡ is_some (rule_of_slot slot)
some-other Free kept = refl
some-other (Taken uses old) kept = refl

kept-other : (slot : Slot) (kept : Kept) → IsSome (rule_of_slot slot)
    → kept_of_slot (with_other slot kept) ≡ Some kept
kept-other Free kept some = absurd (let odd : is_some {T = RuleData} None ≡ true = some in cc)
kept-other (Taken uses old) kept some = refl

-- the new rule is there, and each other is there still
pub kept_in-written : (slots : List Slot) (number : ℕ) (kept : Kept) → IsSome (rule_in slots number)
    → kept_in (set slots number (with_other (slot_at slots number) kept)) number ≡ Some kept
kept_in-written slots number kept some =
    ap kept_of_slot (change-same (λ s. with_other s kept) refl slots number)
    ∙ kept-other (slot_at slots number) kept some

pub kept_in-unwritten : (slots : List Slot) (number k : ℕ) (kept : Kept) → (k ≡ number → ⊥)
    → kept_in (set slots number (with_other (slot_at slots number) kept)) k ≡ kept_in slots k
kept_in-unwritten slots number k kept ne =
    ap kept_of_slot (get_or-set_other slots number k (with_other (slot_at slots number) kept) Free
    ne)

pub keeps_written : (nodes : ℕ) (runs : List (Run (Option ℕ))) (slots : List Slot) (low : ℕ)
    (tasks : List (ℕ × ℕ)) (local : RuleData) (number : ℕ) (kept : Kept)
    → IsPlan nodes runs slots low tasks local → IsSome (rule_in slots number)
    → HasRows nodes kept.rule
    → IsPlan nodes runs (set slots number (with_other (slot_at slots number) kept)) low tasks local
keeps_written nodes runs slots low tasks local number kept plan there has = record {
  counted = λ k. elim (same_or_not k number) [
    | inl e ↦ rw e (ap uses_of_slot here ∙ uses-other (slot_at slots number) kept
        ∙ plan.counted number)
    | inr ne ↦ ap uses_of_slot (others k ne) ∙ plan.counted k
  ];
  rows = λ k r is. elim (same_or_not k number) [
    | inl e ↦
        let own : rule_in new k ≡ Some kept.rule =
        rw e (rule_of-kept _ _ (kept_in-written slots number kept there)) in
        let same : r ≡ kept.rule = cc in
        rw same has
    | inr ne ↦ plan.rows k r (sym (ap rule_of_slot (others k ne)) ∙ is)
  ];
  local_rows = plan.local_rows;
  within = omega (arith, plan.within, long);
  taken_below = λ k lt. taken k ∙ plan.taken_below k lt;
  ends = λ last is. taken last ∙ plan.ends last (sym long ∙ is);
}
  where
    new : List Slot
    new = set slots number (with_other (slot_at slots number) kept)

    long : length new ≡ length slots
    long = length-set slots number (with_other (slot_at slots number) kept)

    here : slot_at new number ≡ with_other (slot_at slots number) kept
    here = change-same (λ s. with_other s kept) refl slots number

    others : (k : ℕ) → (k ≡ number → ⊥) → slot_at new k ≡ slot_at slots k
    others k ne = get_or-set_other slots number k (with_other (slot_at slots number) kept) Free ne

    taken : (k : ℕ) → is_some (rule_in new k) ≡ is_some (rule_in slots k)
    taken k = elim (same_or_not k number) [
      | inl e ↦
          rw e (ap (λ (s : Slot). is_some (rule_of_slot s)) here ∙ some-other (slot_at slots number)
          kept)
      | inr ne ↦ ap (λ (s : Slot). is_some (rule_of_slot s)) (others k ne)
    ]

-- ---- slots without the free ones at their end

slot_at-before : (slot : Slot) (slots : List Slot) (k : ℕ) → slot_at (before_others slot slots) k
    ≡ slot_at (slot ∷ slots) k
slot_at-before Free [] zero = refl
slot_at-before Free [] (suc k) = refl
slot_at-before Free (s ∷ slots) k = refl
slot_at-before (Taken uses kept) slots k = refl

slot_at-trimmed : (slots : List Slot) (k : ℕ) → slot_at (up_to_last_taken slots) k ≡ slot_at slots k
slot_at-trimmed [] k = refl
slot_at-trimmed (slot ∷ slots) zero = slot_at-before slot (up_to_last_taken slots) zero
slot_at-trimmed (slot ∷ slots) (suc k) = slot_at-before slot (up_to_last_taken slots) (suc k)
    ∙ slot_at-trimmed slots k

ends-before : (slot : Slot) (slots : List Slot) → EndsTaken slots
    → EndsTaken (before_others slot slots)
ends-before Free [] ends last is = absurd (omega arith)
ends-before Free (s ∷ slots) ends zero is = absurd (omega arith)
ends-before Free (s ∷ slots) ends (suc last) is = ends last (omega arith)
ends-before (Taken uses kept) slots ends zero is = refl
ends-before (Taken uses kept) slots ends (suc last) is = ends last (omega arith)

ends-trimmed : (slots : List Slot) → EndsTaken (up_to_last_taken slots)
ends-trimmed [] last is = absurd (omega arith)
ends-trimmed (slot ∷ slots) last is = ends-before slot (up_to_last_taken slots) (ends-trimmed slots)
    last is

pub trimmed-free : (slots : List Slot) → up_to_last_taken (slots ++ Free ∷ []) ≡ up_to_last_taken
    slots
trimmed-free [] = refl
trimmed-free (slot ∷ slots) = ap (before_others slot) (trimmed-free slots)

before-ended : (slot : Slot) (slots : List Slot) → EndsTaken (slot ∷ slots)
    → before_others slot slots ≡ slot ∷ slots
before-ended Free [] ends = absurd (let odd : is_some {T = RuleData} None ≡ true = ends 0 refl in
    cc)
before-ended Free (s ∷ slots) ends = refl
before-ended (Taken uses kept) slots ends = refl

pub trimmed-ended : (slots : List Slot) → EndsTaken slots → up_to_last_taken slots ≡ slots
trimmed-ended [] ends = refl
trimmed-ended (slot ∷ slots) ends =
    ap (before_others slot) (trimmed-ended slots (λ last is. ends (suc last) (omega arith)))
    ∙ before-ended slot slots ends

some-within : (slots : List Slot) (k : ℕ) → IsSome (rule_in slots k) → k < length slots
some-within [] k some = absurd (let odd : is_some {T = RuleData} None ≡ true = some in cc)
some-within (slot ∷ slots) zero some = omega arith
some-within (slot ∷ slots) (suc k) some = omega (arith, some-within slots k some)

taken-within : (slots : List Slot) (n : ℕ) → AreTaken slots n → n ≤ length slots
taken-within slots zero taken = omega arith
taken-within slots (suc n) taken = omega (arith, some-within slots n (taken n (omega arith)))

free-is : (slot : Slot) → not (is_some (rule_of_slot slot)) ≡ true → slot ≡ Free
free-is Free free = refl
free-is (Taken uses kept) free = absurd (let odd : false ≡ true = free in cc)

some-is : (slot : Slot) → not (is_some (rule_of_slot slot)) ≡ false → is_some (rule_of_slot slot)
    ≡ true
some-is Free taken = absurd (let odd : true ≡ false = taken in cc)
some-is (Taken uses kept) taken = refl

-- a free slot behind others is none of those up to the last that is taken
pub trim-on : (slots : List Slot) (kept : ℕ) (slot : Slot) → 0 < kept → kept ≤ length slots
    → slot ≡ get_or slots (kept - 1) slot → not (is_some (rule_of_slot slot)) ≡ true
    → up_to_last_taken (take kept slots) ≡ up_to_last_taken slots
    → up_to_last_taken (take (kept - 1) slots) ≡ up_to_last_taken slots
trim-on slots kept slot some within is free same =
    let next : kept ≡ kept - 1 + 1 = omega arith in
    let last : get_or slots (kept - 1) slot ≡ Free = sym is ∙ free-is slot free in
    sym (trimmed-free (take (kept - 1) slots))
    ∙ ap (λ s. up_to_last_taken (take (kept - 1) slots ++ s ∷ [])) (sym last)
    ∙ sym (ap up_to_last_taken (take_more slots (kept - 1) slot (omega arith)))
    ∙ sym (ap (λ n. up_to_last_taken (take n slots)) next) ∙ same

-- the slots up to one that is taken
pub trim-stops : (slots : List Slot) (kept : ℕ) (slot : Slot) → 0 < kept → kept ≤ length slots
    → slot ≡ get_or slots (kept - 1) slot → not (is_some (rule_of_slot slot)) ≡ false
    → up_to_last_taken (take kept slots) ≡ up_to_last_taken slots
    → take kept slots ≡ up_to_last_taken slots
trim-stops slots kept slot some within is taken same =
    sym (trimmed-ended (take kept slots) (λ last long.
    let place : last ≡ kept - 1 = omega (arith, long, length-take kept slots) in
    ap (λ n. is_some (rule_in (take kept slots) n)) place ∙ is_there)) ∙ same
  where
    is_there : IsSome (rule_in (take kept slots) (kept - 1))
    is_there =
        let there : is_some (rule_of_slot slot) ≡ true = some-is slot taken in
        ap (λ s. is_some (rule_of_slot s)) (get_or-take kept slots (kept - 1) Free (omega arith)
        ∙ get_or_default slots (kept - 1) Free slot (omega arith) ∙ sym is) ∙ there

-- ---- a rule taken out

pub keeps_without : (nodes : ℕ) (runs : List (Run (Option ℕ))) (slots : List Slot) (low : ℕ)
    (tasks : List (ℕ × ℕ)) (local : RuleData) (number : ℕ) → IsPlan nodes runs slots low tasks local
    → IsSome (rule_in slots number) → uses_in slots number ≡ 0
    → IsPlan nodes runs (up_to_last_taken (set slots number Free)) (min low number) tasks local
keeps_without nodes runs slots low tasks local number plan there none = record {
  counted = λ k. elim (same_or_not k number) [
    | inl e ↦ rw e (ap uses_of_slot here ∙ sym none ∙ plan.counted number)
    | inr ne ↦ ap uses_of_slot (others k ne) ∙ plan.counted k
  ];
  rows = λ k r is. elim (same_or_not k number) [
    | inl e ↦ absurd (let odd : ◌≡◌ {A = Option RuleData} None (Some r) = sym (ap rule_of_slot here)
        ∙ sym (ap (rule_in new) e) ∙ is in cc)
    | inr ne ↦ plan.rows k r (sym (ap rule_of_slot (others k ne)) ∙ is)
  ];
  local_rows = plan.local_rows;
  within = taken-within new (min low number) below;
  taken_below = below;
  ends = ends-trimmed (set slots number Free);
}
  where
    new : List Slot
    new = up_to_last_taken (set slots number Free)

    here : slot_at new number ≡ Free
    here = slot_at-trimmed (set slots number Free) number ∙ get_or-set_same slots number Free Free
        (some-within slots number there)

    others : (k : ℕ) → (k ≡ number → ⊥) → slot_at new k ≡ slot_at slots k
    others k ne = slot_at-trimmed (set slots number Free) k ∙ get_or-set_other slots number k Free
        Free ne

    below : AreTaken new (min low number)
    below k lt = ap (λ (s : Slot). is_some (rule_of_slot s)) (others k (λ e. absurd (omega arith)))
        ∙ plan.taken_below k (omega arith)

-- the slot is free, and each other holds what it held
pub kept_in-freed : (slots : List Slot) (number : ℕ) → IsSome (rule_in slots number)
    → kept_in (up_to_last_taken (set slots number Free)) number ≡ None
kept_in-freed slots number some =
    ap kept_of_slot (slot_at-trimmed (set slots number Free) number
    ∙ get_or-set_same slots number Free Free (some-within slots number some))

pub kept_in-without : (slots : List Slot) (number k : ℕ) → (k ≡ number → ⊥)
    → kept_in (up_to_last_taken (set slots number Free)) k ≡ kept_in slots k
kept_in-without slots number k ne =
    ap kept_of_slot (slot_at-trimmed (set slots number Free) k
    ∙ get_or-set_other slots number k Free Free ne)

rule_in-without : (slots : List Slot) (number k : ℕ) → (k ≡ number → ⊥)
    → rule_in (up_to_last_taken (set slots number Free)) k ≡ rule_in slots k
rule_in-without slots number k ne = rule_of-kept _ _ (kept_in-without slots number k ne)

-- ---- a rule added and taken out again

set-back : (slots : List Slot) (number : ℕ) (slot : Slot) → rule_in slots number ≡ None
    → set (set slots number slot) number Free ≡ slots
set-back [] number slot free = refl
set-back (Free ∷ slots) zero slot free = refl
set-back (Taken uses kept ∷ slots) zero slot free =
    absurd (let odd : ◌≡◌ {A = Option RuleData} (Some kept.rule) None = free in cc)
set-back (s ∷ slots) (suc number) slot free =
    ap (λ (l : List Slot). s ∷ l) (set-back slots number slot free)

set-last : (slots : List Slot) (slot : Slot) → set (slots ++ slot ∷ []) (length slots) Free ≡ slots
    ++ Free ∷ []
set-last [] slot = refl
set-last (s ∷ slots) slot = ap (λ (l : List Slot). s ∷ l) (set-last slots slot)

pub undone : (slots : List Slot) (number : ℕ) (kept : Kept) → IsLowestFree slots number
    → EndsTaken slots → up_to_last_taken (set (put_slot slots number (Taken 0 kept)) number Free)
    ≡ slots
undone slots number kept lowest ends =
    elim (cases_lt number (length slots)) [
      | inl lt ↦ rw (lt-ltb number (length slots) lt)
          (ap up_to_last_taken (set-back slots number (Taken 0 kept) lowest.free)
          ∙ trimmed-ended slots ends)
      | inr ge ↦
          let e : number ≡ length slots = omega (arith, lowest.within) in
          rw (le-ltb number (length slots) ge)
          (ap (λ n. up_to_last_taken (set (slots ++ Taken 0 kept ∷ []) n Free)) e
          ∙ ap up_to_last_taken (set-last slots (Taken 0 kept)) ∙ trimmed-free slots
          ∙ trimmed-ended slots ends)
    ]

-- a rule that nothing uses serves no page
pub lists-without : (plan : PlanData) (low number : ℕ) → IsPlan plan.nodes plan.runs plan.slots low
    plan.tasks plan.local → uses_in plan.slots number ≡ 0
    → (task page cpu : ℕ) → planned_list (without_rule plan number) task page cpu
    ≡ planned_list plan task page cpu
lists-without plan low number sound none =
    lists-kept plan (up_to_last_taken (set plan.slots number Free)) (λ named some.
    rule_in-without plan.slots number named (λ is.
    let with_use_less : uses_in plan.slots named ≡ 0 = ap (uses_in plan.slots) is ∙ none in
    absurd (omega (arith, sound.counted named, with_use_less))))
