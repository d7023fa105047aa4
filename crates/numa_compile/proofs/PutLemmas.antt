-- A plan whose runs are put in the place of others, and that gives up rules.
use Rattle.std.proofs.Common.{◌≡◌, ℕ, zero, suc, Option, Some, None, List, [], ◌∷◌, All, IsSome}
use Rattle.std.proofs.Common.{refl, sym, ap, subst, ◌∙◌, arith, inl, inr}
use Rattle.std.proofs.lemmas.Option.{same_Some}
use Rattle.std.specs.List.{splice}
use Rattle.std.specs.Option.{ForSome}
use Rattle.numa_mode.specs.Policy.{PolicyRecord}
use Rattle.numa_ranges.specs.declared.run.Run.{Run}
use Rattle.numa_space.specs.Policies.{where_live}
use Rattle.numa_space.specs.Standing.{SpaceState}
use Rattle.numa_plan.specs.Editing.{IsUnnamed, with_runs}
use Rattle.numa_plan.specs.Meaning.{PlanData}
use Rattle.numa_plan.specs.Slots.{kept_in, policy_in, rule_in}
use Rattle.numa_plan.specs.declared.slots.Slot.{Slot}
use Rattle.numa_plan.proofs.SlotLemmas.{rule-there}
use Rattle.numa_compile.specs.Copies.{IsNumber, AreCopies}
use Rattle.numa_compile.specs.Follows.{Follows}
use Rattle.numa_compile.specs.Recompiling.{KeepsNamed}
use Rattle.numa_compile.proofs.AddedLemmas.{follows-dropped}

-- rules that nothing named were given up, and nothing else changed
pub record HasDropped (old new : PlanData) : Type 0 where
  pub rest : new ≡ record old { slots = new.slots }
  pub slots : KeepsNamed old new

pub dropped-none : (plan : PlanData) → HasDropped plan plan
dropped-none plan = record { rest = refl; slots = λ number. inl refl }

pub dropped-next : (old next new : PlanData) → HasDropped old next
    → new ≡ record next { slots = new.slots } → KeepsNamed next new → HasDropped old new
dropped-next old next new before rest slots = record {
  rest = rest ∙ ap (λ (p : PlanData). record p { slots = new.slots }) before.rest;
  slots = λ number.
      elim (slots number) [
        | inl same ↦
            elim (before.slots number) [
              | inl same' ↦ inl (same ∙ same')
              | inr gone ↦ inr (gone.0, same ∙ gone.1)
            ]
        | inr gone ↦ inr (unnamed number gone.0, gone.1)
      ];
}
  where
    unnamed : (number : ℕ) → IsUnnamed next number → IsUnnamed old number
    unnamed number is =
        let own : IsUnnamed (record old { slots = next.slots }) number =
        subst (λ (p : PlanData). IsUnnamed p number) before.rest is in
        record { runs = own.runs; tasks = own.tasks }

-- a plan whose slots keep what they kept follows the space still
pub follows-kept : (space : SpaceState) (old new : PlanData)
    → new ≡ record old { slots = new.slots }
    → ((number : ℕ) → kept_in new.slots number ≡ kept_in old.slots number) → Follows space old
    → Follows space new
follows-kept space old new rest kept f =
    follows-dropped space old new rest (λ number. inl (kept number)) f

-- with the runs put in, and then with fewer rules, it follows the space where it did with the runs
-- alone
pub follows-put : (space : SpaceState) (plan spliced done dropped : PlanData) (from to : ℕ)
    (runs : List (Run (Option ℕ))) (version : ℕ)
    → spliced ≡ with_runs plan from to runs
    → ((number : ℕ) → kept_in spliced.slots number ≡ kept_in plan.slots number)
    → done ≡ record spliced { version = version } → version ≡ space.version
    → dropped ≡ record done { slots = dropped.slots } → KeepsNamed done dropped
    → Follows space (record plan { version = space.version; runs = splice plan.runs from to runs })
    → Follows space dropped
follows-put space plan spliced done dropped from to runs version put kept is same rest slots f =
    let with : PlanData =
    record plan { version = space.version; runs = splice plan.runs from to runs } in
    let own : done ≡ record (with_runs plan from to runs) { version = space.version } = is
    ∙ (λ i. record (put i) { version = same i }) in
    let all : done ≡ record with { slots = done.slots } = own
    ∙ (λ i. record with { slots = (sym own i).slots }) in
    let keeps : (number : ℕ) → kept_in done.slots number ≡ kept_in with.slots number = λ number.
    ap (λ (p : PlanData). kept_in p.slots number) is ∙ kept number in
    follows-dropped space done dropped rest slots (follows-kept space with done all keeps f)

-- ---- runs that copy ranges

-- a number of a rule for a policy names one
pub number-named : (slots : List Slot) (policy : Option PolicyRecord) (number : Option ℕ)
    → IsNumber (policy_in slots) policy number
    → ForSome number (λ place. IsSome (rule_in slots place))
number-named slots None number is place some =
    absurd (let odd : ◌≡◌ {A = Option ℕ} None (Some place) = sym is ∙ some in cc)
number-named slots (Some r) number is place some =
    let same : is.0 ≡ place = same_Some is.0 place (sym is.1 ∙ some) in
    rule-there slots place r (subst (λ (n : ℕ). policy_in slots n ≡ Some r) same is.2)

-- the rules that they name are there
pub named-copies : (slots : List Slot) (ranges : List (Run (Option PolicyRecord)))
    (runs : List (Run (Option ℕ))) → AreCopies (policy_in slots) ranges runs
    → All (λ run. ForSome run.value (λ number. IsSome (rule_in slots number))) runs
named-copies slots [] [] copies k d lt = absurd (omega arith)
named-copies slots [] (run ∷ runs) copies k d lt = absurd copies
named-copies slots (range ∷ ranges) [] copies k d lt = absurd copies
named-copies slots (range ∷ ranges) (run ∷ runs) copies zero d lt =
    number-named slots (where_live range.value) run.value copies.0.value
named-copies slots (range ∷ ranges) (run ∷ runs) copies (suc k) d lt =
    named-copies slots ranges runs copies.1 k d (omega arith)
