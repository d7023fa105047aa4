-- A plan while its rules of weighted interleave are written anew, from the last slot on.
use Rattle.std.proofs.Common.{◌≡◌, ℕ, zero, suc, ◌+◌, ◌<◌, ◌≤◌, ◌^◌, Bool, true, false, cond}
use Rattle.std.proofs.Common.{Option, Some, None, List, [], ◌∷◌, ◌++◌, length, length-append, refl}
use Rattle.std.proofs.Common.{sym, ap, subst, ◌∙◌, arith, inl, inr}
use Rattle.std.proofs.lemmas.Bool.{cases_lt}
use Rattle.std.proofs.lemmas.List.Sums.{sum_by-cons}
use Rattle.std.proofs.lemmas.Option.{same_Some}
use Rattle.std.specs.Option.{ForSome, option_map}
use Rattle.std.specs.Prelude.{◌≢◌, count_by, slice_get, MatchOption}
use Rattle.numa_mode.specs.Policy.{PolicyRecord}
use Rattle.numa_space.specs.Standing.{SpaceState}
use Rattle.numa_plan.specs.Counted.{Counted}
use Rattle.numa_plan.specs.Meaning.{PlanData}
use Rattle.numa_plan.specs.Rows.{HasRows, Kept}
use Rattle.numa_plan.specs.Slots.{kept_in, kept_of_slot, policy_in}
use Rattle.numa_plan.specs.declared.slots.Slot.{Slot}
use Rattle.numa_plan.specs.declared.slots.Slot.TheVariants.{Free, Taken}
use Rattle.numa_plan.proofs.SlotLemmas.{same_or_not}
use Rattle.numa_compile.specs.Recompiling.{is_weighted, holds_weighted, one_if_some, IsRenewed}
use Rattle.numa_compile.specs.Recompiling.{AreRenewed, WritesRules}
use Rattle.numa_compile.specs.Sharing.{IsServing}
use Rattle.numa_compile.proofs.ServeLemmas.{get-last, get-before, policy-of}

-- ---- the new rules, in a list

get-end : {T : Type 0} (xs : List T) → slice_get xs (length xs) ≡ None
get-end [] = refl
get-end (x ∷ xs) = get-end xs

-- nothing is taken from an empty list alone
pub none-left : (taken : Option (Option Kept)) (old new : ℕ)
    → ((rule : Option Kept) → taken ≡ Some rule → ⊥)
    → MatchOption taken ((old ≡ 0) × (new ≡ 0)) (λ rule. new + 1 ≡ old) → old ≡ 0
none-left None old new none cases = cases.0
none-left (Some rule) old new none cases = absurd (none rule refl)

-- one more, behind the others
pub renewed-push : (space : SpaceState) (slots : List Slot) (rules : List (Option Kept))
    (rule : Option Kept) → AreRenewed space slots rules
    → IsRenewed space (policy_in slots (length rules)) rule
    → AreRenewed space slots (rules ++ rule ∷ [])
renewed-push space slots rules rule all one place other is =
    elim (same_or_not place (length rules)) [
      | inl here ↦
          let own : rule ≡ other =
          same_Some rule other (sym (get-last rules rule) ∙ ap (slice_get (rules ++ rule ∷ []))
          (sym here) ∙ is) in
          subst (λ (r : Option Kept). IsRenewed space (policy_in slots place) r) own
          (subst (λ (n : ℕ). IsRenewed space (policy_in slots n) rule) (sym here) one)
      | inr ne ↦ all place other (sym (get-before rules rule place ne) ∙ is)
    ]

-- the last one, and the others without it
pub renewed-last : (space : SpaceState) (slots : List Slot) (rules : List (Option Kept))
    (rule : Option Kept) → AreRenewed space slots (rules ++ rule ∷ [])
    → IsRenewed space (policy_in slots (length rules)) rule
renewed-last space slots rules rule all = all (length rules) rule (get-last rules rule)

pub renewed-before : (space : SpaceState) (slots : List Slot) (rules : List (Option Kept))
    (rule : Option Kept) → AreRenewed space slots (rules ++ rule ∷ [])
    → AreRenewed space slots rules
renewed-before space slots rules rule all place other is =
    elim (same_or_not place (length rules)) [
      | inl here ↦ absurd (let odd : ◌≡◌ {A = Option (Option Kept)} None (Some other) =
          sym (get-end rules) ∙ ap (slice_get rules) (sym here) ∙ is in cc)
      | inr ne ↦ all place other (get-before rules rule place ne ∙ is)
    ]

-- ---- how many there are

abbrev pub some_rules : List (Option Kept) → ℕ
some_rules [] = 0
some_rules (rule ∷ rules) = one_if_some rule + some_rules rules

some-append : (rules : List (Option Kept)) (rule : Option Kept) → some_rules (rules ++ rule ∷ [])
    ≡ some_rules rules + one_if_some rule
some-append [] rule = omega arith
some-append (first ∷ rules) rule = omega (arith, some-append rules rule)

-- one where the slot has a rule of weighted interleave
one-weighted : (space : SpaceState) (slot : Slot) (rule : Option Kept)
    → IsRenewed space (option_map (λ kept. kept.policy) (kept_of_slot slot)) rule
    → one_if_some rule ≤ cond {A = ℕ} (holds_weighted slot) 1 0
one-weighted space slot None is = omega arith
one-weighted space Free (Some kept) is =
    absurd (let odd : ◌≡◌ {A = Option PolicyRecord} None (Some kept.policy) = is.0 in cc)
one-weighted space (Taken uses held) (Some kept) is =
    let same : held.policy ≡ kept.policy = same_Some held.policy kept.policy is.0 in
    let yes : is_weighted held.policy ≡ true = ap is_weighted same ∙ is.1 in
    rw yes (omega arith)

-- at most one for each of these slots
pub renewed-few : (space : SpaceState) (slots : List Slot) (rules : List (Option Kept))
    → AreRenewed space slots rules → some_rules rules ≤ count_by holds_weighted slots
renewed-few space slots [] all = omega arith
renewed-few space [] (None ∷ rules) all =
    omega (arith, renewed-few space [] rules (λ place rule is. all (suc place) rule is))
renewed-few space [] (Some kept ∷ rules) all =
    absurd (let odd : ◌≡◌ {A = Option PolicyRecord} None (Some kept.policy) =
    (all zero (Some kept) refl).0 in cc)
renewed-few space (slot ∷ slots) (rule ∷ rules) all =
    omega (
      arith,
      sum_by-cons (λ (s : Slot). cond {A = ℕ} (holds_weighted s) 1 0) slot slots,
      one-weighted space slot rule (all zero rule refl),
      renewed-few space slots rules (λ place other is. all (suc place) other is),
    )

-- ---- a slot whose rule is the new one

-- what a slot keeps has the same policy and serves it; the rule of another mode is the same
abbrev pub IsRewritten : SpaceState → Option Kept → Option Kept → Type 0
IsRewritten space None now = now ≡ None
IsRewritten space (Some kept) now = (written : Kept) × (now ≡ Some written)
    × (written.policy ≡ kept.policy) × IsServing space written
    × (is_weighted kept.policy ≡ false → written ≡ kept)

-- the plan while new rules are written: so many are left, for the slots below, which are as they
-- were
pub record IsRewriting (space : SpaceState) (old : PlanData) (before : Counted)
    (rules : List (Option Kept)) (new : PlanData) (now : Counted) : Type 0 where
  pub rest : new ≡ record old { slots = new.slots }
  pub left : length rules ≤ 2 ^ 32
  pub renewed : AreRenewed space old.slots rules
  pub below : (number : ℕ) → number < length rules → kept_in new.slots number ≡ kept_in old.slots
      number
  pub done : (number : ℕ) → length rules ≤ number → IsRewritten space (kept_in old.slots number)
      (kept_in new.slots number)
  pub few : now.rules + some_rules rules ≤ before.rules + count_by holds_weighted old.slots
  pub no_run : now.runs ≡ before.runs
  pub compares : before.comparisons ≤ now.comparisons
  pub rules_rise : before.rules ≤ now.rules

-- before the first is written
pub rewriting-start : (space : SpaceState) (old : PlanData) (before : Counted)
    (rules : List (Option Kept)) → length rules ≡ length old.slots → length rules ≤ 2 ^ 32
    → AreRenewed space old.slots rules → IsRewriting space old before rules old before
rewriting-start space old before rules all left renewed = record {
  rest = refl;
  left = left;
  renewed = renewed;
  below = λ number lt. refl;
  done = λ number le. subst (λ (o : Option Kept). IsRewritten space o o)
      (sym (past number (omega (arith, all, le)))) refl;
  few = omega (arith, renewed-few space old.slots rules renewed);
  no_run = refl;
  compares = omega arith;
  rules_rise = omega arith;
}
  where
    behind : (slots : List Slot) (number : ℕ) → length slots ≤ number → kept_in slots number ≡ None
    behind [] number le = refl
    behind (slot ∷ slots) zero le = absurd (omega (arith, le))
    behind (slot ∷ slots) (suc number) le = behind slots number (omega (arith, le))

    past : (number : ℕ) → length old.slots ≤ number → kept_in old.slots number ≡ None
    past number le = behind old.slots number le

-- once the last of them is written
module _ (space : SpaceState) (old : PlanData) (before : Counted) (rules : List (Option Kept))
    (rule : Option Kept) (middle : PlanData) (one : Counted)
    (at : IsRewriting space old before (rules ++ rule ∷ []) middle one) where
  own : IsRenewed space (policy_in old.slots (length rules)) rule
  own = renewed-last space old.slots rules rule at.renewed

  same : kept_in middle.slots (length rules) ≡ kept_in old.slots (length rules)
  same = at.below (length rules) (omega (arith, length-append rules (rule ∷ [])))

  -- it is for the policy in its slot
  pub last-there : ForSome rule (λ kept. policy_in middle.slots (length rules) ≡ Some kept.policy)
  last-there kept is =
      let made : IsRenewed space (policy_in old.slots (length rules)) (Some kept) =
      subst (λ (r : Option Kept). IsRenewed space (policy_in old.slots (length rules)) r) is
      own in
      policy-of (kept_in middle.slots (length rules)) (kept_in old.slots (length rules)) same
      ∙ made.0

  -- and has its rows
  pub last-rows : middle.nodes ≡ space.machine.nodes
      → ForSome rule (λ kept. HasRows middle.nodes kept.rule)
  last-rows nodes kept is =
      let made : IsRenewed space (policy_in old.slots (length rules)) (Some kept) =
      subst (λ (r : Option Kept). IsRenewed space (policy_in old.slots (length rules)) r) is
      own in
      subst (λ (n : ℕ). HasRows n kept.rule) (sym nodes) made.3

  module _ (new : PlanData) (two : Counted) (serving : (kept : Kept)
      → is_weighted kept.policy ≡ false → (number : ℕ) → kept_in old.slots number ≡ Some kept
      → IsServing space kept)
      (place : ℕ) (is_last : place ≡ length rules)
      (here : MatchOption rule (kept_in new.slots place ≡ kept_in middle.slots place)
      (λ kept. kept_in new.slots place ≡ Some kept))
      (others : (other : ℕ) → other ≢ place → kept_in new.slots other ≡ kept_in middle.slots other)
    where
      here_last :
          MatchOption rule (kept_in new.slots (length rules) ≡ kept_in middle.slots (length rules))
          (λ kept. kept_in new.slots (length rules) ≡ Some kept)
      here_last =
          subst (λ (n : ℕ). MatchOption rule (kept_in new.slots n ≡ kept_in middle.slots n)
          (λ kept. kept_in new.slots n ≡ Some kept)) is_last here

      but_last : (other : ℕ) → other ≢ length rules → kept_in new.slots other ≡ kept_in middle.slots
          other
      but_last other ne = others other (λ e. ne (e ∙ is_last))

      last-written : IsRewritten space (kept_in old.slots (length rules))
          (kept_in new.slots (length rules))
      last-written = go rule (kept_in old.slots (length rules)) refl own here_last
        where
          go : (r : Option Kept) (o : Option Kept) → kept_in old.slots (length rules) ≡ o
              → IsRenewed space (option_map (λ kept. kept.policy) o) r
              → MatchOption r
              (kept_in new.slots (length rules) ≡ kept_in middle.slots (length rules))
              (λ kept. kept_in new.slots (length rules) ≡ Some kept)
              → IsRewritten space o (kept_in new.slots (length rules))
          go None None is own here = here ∙ same ∙ is
          go None (Some kept) is own here = (
            kept,
            here ∙ same ∙ is,
            refl,
            serving kept (own kept.policy refl) (length rules) is,
            λ other. refl,
          )
          go (Some made) None is own here =
              absurd (let odd : ◌≡◌ {A = Option PolicyRecord} None (Some made.policy) = own.0 in cc)
          go (Some made) (Some kept) is own here =
              let policy : kept.policy ≡ made.policy = same_Some kept.policy made.policy own.0 in (
                made,
                here,
                sym policy,
                own.2,
                λ other.
                    absurd (let odd : ◌≡◌ {A = Bool} true false = sym own.1
                    ∙ ap is_weighted (sym policy) ∙ other in cc),
              )

      done : (number : ℕ) → length rules ≤ number → IsRewritten space (kept_in old.slots number)
          (kept_in new.slots number)
      done number le =
          elim (same_or_not number (length rules)) [
            | inl e ↦
                subst (λ (n : ℕ). IsRewritten space (kept_in old.slots n) (kept_in new.slots n))
                (sym e) last-written
            | inr ne ↦ subst (λ (o : Option Kept). IsRewritten space (kept_in old.slots number) o)
                (sym (but_last number ne)) (at.done number (behind ne))
          ]
        where
          behind : (number ≡ length rules → ⊥) → length (rules ++ rule ∷ []) ≤ number
          behind ne = elim (cases_lt (length rules) number) [
            | inl lt ↦ omega (arith, lt, length-append rules (rule ∷ []))
            | inr ge ↦ absurd (ne (omega (arith, le, ge)))
          ]

      pub rewriting-next : new ≡ record middle { slots = new.slots }
          → WritesRules (one_if_some rule) one two → IsRewriting space old before rules new two
      rewriting-next rest few = record {
        rest = rest ∙ (λ i. record (at.rest i) { slots = new.slots });
        left = omega (arith, at.left, length-append rules (rule ∷ []));
        renewed = renewed-before space old.slots rules rule at.renewed;
        below = λ number lt. but_last number (λ e. absurd (omega (arith, e, lt)))
            ∙ at.below number (omega (arith, lt, length-append rules (rule ∷ [])));
        done = done;
        few = omega (arith, at.few, few.rules, some-append rules rule);
        no_run = few.runs ∙ at.no_run;
        compares = omega (arith, at.compares, few.compares);
        rules_rise = omega (arith, at.rules_rise, few.rules_rise);
      }
