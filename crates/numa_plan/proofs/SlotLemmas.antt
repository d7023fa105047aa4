-- Slots of rules.
use Rattle.std.proofs.Common.{◌≡◌, ℕ, zero, suc, ◌+◌, ◌-◌, ◌<◌, ◌≤◌, true, cond, eq-eqb, Option}
use Rattle.std.proofs.Common.{Some, None, List, [], ◌∷◌, ◌++◌, length, length-append, get_or, set}
use Rattle.std.proofs.Common.{refl, sym, ap, subst, ◌∙◌, arith, inl, inr}
use Rattle.std.specs.Prelude.{IsSome, is_some, ◌⊎◌, ◌==◌}
use Rattle.std.proofs.lemmas.Bool.{cases_lt, lt-ltb, le-ltb, ne_eqb}
use Rattle.std.proofs.lemmas.List.{get_or_default, get_or-set_same, get_or-set_other}
use Rattle.std.proofs.Math.ListN.{length-set}
use Rattle.std.specs.Option.{option_map}
use Rattle.numa_mode.specs.Policy.{PolicyRecord}
use Rattle.numa_plan.specs.Rows.{Kept, RuleData}
use Rattle.numa_plan.specs.Slots.{slot_at, kept_of_slot, rule_of_slot, uses_of_slot, kept_in}
use Rattle.numa_plan.specs.Slots.{policy_in, rule_in, uses_in, put_slot, one_use_more, one_use_less}
use Rattle.numa_plan.specs.Slots.{with_use, with_use_less, IsLowestFree, EndsTaken}
use Rattle.numa_plan.specs.declared.slots.Slot.{Slot}
use Rattle.numa_plan.specs.declared.slots.Slot.TheVariants.{Free, Taken}

pub same_or_not : (a b : ℕ) → (a ≡ b) ⊎ (a ≡ b → ⊥)
same_or_not a b = elim (cases_lt a b) [
  | inl lt ↦ inr (λ e. absurd (omega arith))
  | inr ge ↦ elim (cases_lt b a) [
    | inl gt ↦ inr (λ e. absurd (omega arith))
    | inr le ↦
        inl (omega arith)
  ]
]

-- the slot that stands at a place
pub slot_at-index : (slots : List Slot) (number : ℕ) (slot : Slot) → number < length slots
    → slot ≡ get_or slots number slot → slot_at slots number ≡ slot
slot_at-index slots number slot l is = sym (is ∙ get_or_default slots number slot Free l)

module _ {T : Type 0} where
  push_same : (xs : List T) (x d : T) → get_or (xs ++ x ∷ []) (length xs) d ≡ x
  push_same [] x d = refl
  push_same (y ∷ xs) x d = push_same xs x d

  push_other : (xs : List T) (k : ℕ) (x d : T) → (k ≡ length xs → ⊥) → get_or (xs ++ x ∷ []) k d
      ≡ get_or xs k d
  push_other [] zero x d ne = absurd (ne refl)
  push_other [] (suc k) x d ne = refl
  push_other (y ∷ xs) zero x d ne = refl
  push_other (y ∷ xs) (suc k) x d ne = push_other xs k x d (λ e. ne (ap suc e))

-- ---- a slot written

pub put-same : (slots : List Slot) (number : ℕ) (slot : Slot) → number ≤ length slots
    → slot_at (put_slot slots number slot) number ≡ slot
put-same slots number slot le =
    elim (cases_lt number (length slots)) [
      | inl lt ↦ rw (lt-ltb number (length slots) lt) (get_or-set_same slots number slot Free lt)
      | inr ge ↦
          let e : number ≡ length slots = omega arith in
          rw (le-ltb number (length slots) ge)
          (subst (λ (k : ℕ). slot_at (slots ++ slot ∷ []) k ≡ slot) (sym e)
          (push_same slots slot Free))
    ]

pub put-other : (slots : List Slot) (number k : ℕ) (slot : Slot) → number ≤ length slots
    → (k ≡ number → ⊥) → slot_at (put_slot slots number slot) k ≡ slot_at slots k
put-other slots number k slot le ne =
    elim (cases_lt number (length slots)) [
      | inl lt ↦ rw (lt-ltb number (length slots) lt) (get_or-set_other slots number k slot Free ne)
      | inr ge ↦ rw (le-ltb number (length slots) ge)
          (push_other slots k slot Free (λ e. ne (omega arith)))
    ]

pub length-put : (slots : List Slot) (number : ℕ) (slot : Slot) → number ≤ length slots
    → (length slots ≤ length (put_slot slots number slot))
    × (number < length (put_slot slots number slot))
length-put slots number slot le =
    elim (cases_lt number (length slots)) [
      | inl lt ↦ rw (lt-ltb number (length slots) lt) (let long = length-set slots number slot in
          (omega arith, omega arith))
      | inr ge ↦ rw (le-ltb number (length slots) ge) (let long = length-append slots (slot ∷ []) in
          (omega arith, omega arith))
    ]

-- a slot written is one more at most
pub put-sized : (slots : List Slot) (number : ℕ) (slot : Slot) → length (put_slot slots number slot)
    ≤ length slots + 1
put-sized slots number slot =
    elim (cases_lt number (length slots)) [
      | inl lt ↦ rw (lt-ltb number (length slots) lt) (omega (arith, length-set slots number slot))
      | inr ge ↦ rw (le-ltb number (length slots) ge)
          (omega (arith, length-append slots (slot ∷ [])))
    ]

-- the last slot is taken still
pub ends-put : (slots : List Slot) (number uses : ℕ) (kept : Kept) → number ≤ length slots
    → EndsTaken slots → EndsTaken (put_slot slots number (Taken uses kept))
ends-put slots number uses kept le ends last is =
    elim (same_or_not last number) [
      | inl e ↦
          rw e
          (ap (λ (s : Slot). is_some (rule_of_slot s)) (put-same slots number (Taken uses kept) le))
      | inr ne ↦ ap (λ (s : Slot). is_some (rule_of_slot s))
          (put-other slots number last (Taken uses kept) le ne) ∙ ends last (long ne)
    ]
  where
    long : (last ≡ number → ⊥) → length slots ≡ last + 1
    long ne = elim (cases_lt number (length slots)) [
      | inl lt ↦
          let same : length (put_slot slots number (Taken uses kept)) ≡ length slots =
          rw (lt-ltb number (length slots) lt) (length-set slots number (Taken uses kept)) in
          omega (arith, same, is)
      | inr ge ↦
          let more : length (put_slot slots number (Taken uses kept)) ≡ length slots + 1 =
          rw (le-ltb number (length slots) ge)
          (omega (arith, length-append slots (Taken uses kept ∷ []))) in
          absurd (ne (omega (arith, more, is)))
    ]

-- the rule that was written is there, and each that was there is there still
pub kept_in-put : (slots : List Slot) (number : ℕ) (kept : Kept) → number ≤ length slots
    → kept_in (put_slot slots number (Taken 0 kept)) number ≡ Some kept
kept_in-put slots number kept le = ap kept_of_slot (put-same slots number (Taken 0 kept) le)

pub rule_in-put : (slots : List Slot) (number : ℕ) (kept : Kept) → number ≤ length slots
    → rule_in (put_slot slots number (Taken 0 kept)) number ≡ Some kept.rule
rule_in-put slots number kept le = ap rule_of_slot (put-same slots number (Taken 0 kept) le)

pub kept_in-put_other : (slots : List Slot) (number k : ℕ) (kept : Kept) → number ≤ length slots
    → (k ≡ number → ⊥) → kept_in (put_slot slots number (Taken 0 kept)) k ≡ kept_in slots k
kept_in-put_other slots number k kept le ne =
    ap kept_of_slot (put-other slots number k (Taken 0 kept) le ne)

pub keeps-put : (slots : List Slot) (number k : ℕ) (rule : RuleData) (kept : Kept)
    → IsLowestFree slots number → rule_in slots k ≡ Some rule
    → rule_in (put_slot slots number (Taken 0 kept)) k ≡ Some rule
keeps-put slots number k rule kept lowest has =
    elim (same_or_not k number) [
      | inl is ↦ absurd (let odd : ◌≡◌ {A = Option RuleData} None (Some rule) = sym lowest.free
          ∙ sym (ap (rule_in slots) is) ∙ has in cc)
      | inr ne ↦ ap rule_of_slot (put-other slots number k (Taken 0 kept) lowest.within ne) ∙ has
    ]

-- ---- uses

kept-more : (slot : Slot) → kept_of_slot (one_use_more slot) ≡ kept_of_slot slot
kept-more Free = refl
kept-more (Taken uses kept) = refl

kept-less : (slot : Slot) → kept_of_slot (one_use_less slot) ≡ kept_of_slot slot
kept-less Free = refl
kept-less (Taken uses kept) = refl

uses-more : (slot : Slot) → IsSome (rule_of_slot slot) → uses_of_slot (one_use_more slot)
    ≡ uses_of_slot slot + 1
uses-more Free some = absurd (let odd : is_some {T = RuleData} None ≡ true = some in cc)
uses-more (Taken uses kept) some = refl

uses-less : (slot : Slot) → uses_of_slot (one_use_less slot) ≡ uses_of_slot slot - 1
uses-less Free = omega arith
uses-less (Taken uses kept) = refl

-- a slot changed, where a free one stays free
pub change-same : (change : Slot → Slot) → change Free ≡ Free → (slots : List Slot) (number : ℕ)
    → slot_at (set slots number (change (slot_at slots number))) number
    ≡ change (slot_at slots number)
change-same change free [] number = sym free
change-same change free (s ∷ slots) zero = refl
change-same change free (s ∷ slots) (suc number) = change-same change free slots number

-- one use more or less of a number changes no policy and no rule
pub kept_in-used : (slots : List Slot) (number : Option ℕ) (k : ℕ)
    → kept_in (with_use slots number) k ≡ kept_in slots k
kept_in-used slots None k = refl
kept_in-used slots (Some number) k =
    elim (same_or_not k number) [
      | inl is ↦ rw is (ap kept_of_slot (change-same one_use_more refl slots number)
          ∙ kept-more (slot_at slots number))
      | inr ne ↦
          ap kept_of_slot (get_or-set_other slots number k (one_use_more (slot_at slots number))
          Free ne)
    ]

pub kept_in-unused : (slots : List Slot) (number : Option ℕ) (k : ℕ)
    → kept_in (with_use_less slots number) k ≡ kept_in slots k
kept_in-unused slots None k = refl
kept_in-unused slots (Some number) k =
    elim (same_or_not k number) [
      | inl is ↦ rw is (ap kept_of_slot (change-same one_use_less refl slots number)
          ∙ kept-less (slot_at slots number))
      | inr ne ↦
          ap kept_of_slot (get_or-set_other slots number k (one_use_less (slot_at slots number))
          Free ne)
    ]

-- equal policies and rules are equal rules
pub rule_of-kept : (a b : Option Kept) → a ≡ b → option_map (λ kept. kept.rule) a
    ≡ option_map (λ kept. kept.rule) b
rule_of-kept a b is = ap (option_map (λ (kept : Kept). kept.rule)) is

pub rule_in-used : (slots : List Slot) (number : Option ℕ) (k : ℕ)
    → rule_in (with_use slots number) k ≡ rule_in slots k
rule_in-used slots number k = rule_of-kept _ _ (kept_in-used slots number k)

pub rule_in-unused : (slots : List Slot) (number : Option ℕ) (k : ℕ)
    → rule_in (with_use_less slots number) k ≡ rule_in slots k
rule_in-unused slots number k = rule_of-kept _ _ (kept_in-unused slots number k)

-- as a task's rule changes, the policies and rules stay
pub kept_in-changed : (slots : List Slot) (number had : Option ℕ) (k : ℕ)
    → kept_in (with_use_less (with_use slots number) had) k ≡ kept_in slots k
kept_in-changed slots number had k = kept_in-unused (with_use slots number) had k
    ∙ kept_in-used slots number k

-- where there is no rule there is no policy
kept-none : (o : Option Kept) → option_map (λ kept. kept.rule) o ≡ None → o ≡ None
kept-none None is = refl
kept-none (Some kept) is = absurd (let odd : ◌≡◌ {A = Option RuleData} (Some kept.rule) None = is in
    cc)

pub none-kept : (slots : List Slot) (number : ℕ) → rule_in slots number ≡ None
    → kept_in slots number ≡ None
none-kept slots number is = kept-none (kept_in slots number) is

-- a rule stands beside each policy
some-rule : (o : Option Kept) (policy : PolicyRecord) → option_map (λ kept. kept.policy) o
    ≡ Some policy → IsSome (option_map (λ kept. kept.rule) o)
some-rule None policy is = absurd (let odd : ◌≡◌ {A = Option PolicyRecord} None (Some policy) =
    is in cc)
some-rule (Some kept) policy is = refl

pub rule-there : (slots : List Slot) (number : ℕ) (policy : PolicyRecord)
    → policy_in slots number ≡ Some policy → IsSome (rule_in slots number)
rule-there slots number policy is = some-rule (kept_in slots number) policy is

pub length-used : (slots : List Slot) (number : Option ℕ) → length (with_use slots number)
    ≡ length slots
length-used slots None = refl
length-used slots (Some number) = length-set slots number (one_use_more (slot_at slots number))

pub length-unused : (slots : List Slot) (number : Option ℕ) → length (with_use_less slots number)
    ≡ length slots
length-unused slots None = refl
length-unused slots (Some number) = length-set slots number (one_use_less (slot_at slots number))

-- as a task's rule changes there are as many slots
pub length-changed : (slots : List Slot) (number had : Option ℕ)
    → length (with_use_less (with_use slots number) had) ≡ length slots
length-changed slots number had = length-unused (with_use slots number) had
    ∙ length-used slots number

pub uses_in-used : (slots : List Slot) (number k : ℕ) → IsSome (rule_in slots number)
    → uses_in (with_use slots (Some number)) k ≡ uses_in slots k + cond (number == k) 1 0
uses_in-used slots number k some =
    elim (same_or_not k number) [
      | inl is ↦
          rw (is, eq-eqb number number refl)
          (ap uses_of_slot (change-same one_use_more refl slots number)
          ∙ uses-more (slot_at slots number) some)
      | inr ne ↦ rw (ne_eqb number k (λ e. ne (sym e)))
          (omega (
            arith,
            ap uses_of_slot (get_or-set_other slots number k (one_use_more (slot_at slots number))
                Free ne),
          ))
    ]

pub uses_in-unused : (slots : List Slot) (number k : ℕ)
    → uses_in (with_use_less slots (Some number)) k ≡ uses_in slots k - cond (number == k) 1 0
uses_in-unused slots number k =
    elim (same_or_not k number) [
      | inl is ↦
          rw (is, eq-eqb number number refl)
          (ap uses_of_slot (change-same one_use_less refl slots number)
          ∙ uses-less (slot_at slots number))
      | inr ne ↦ rw (ne_eqb number k (λ e. ne (sym e)))
          (omega (
            arith,
            ap uses_of_slot (get_or-set_other slots number k (one_use_less (slot_at slots number))
                Free ne),
          ))
    ]
