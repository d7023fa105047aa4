-- A plan with a rule more, and with one that nothing uses less.
use Rattle.std.proofs.Common.{◌≡◌, ◌≢◌, ℕ, suc, Option, Some, None, List, [], ◌∷◌, All, refl, sym}
use Rattle.std.proofs.Common.{ap, subst, ◌∙◌, arith, inl, inr}
use Rattle.std.proofs.lemmas.Option.{same_Some}
use Rattle.std.specs.Option.{option_map}
use Rattle.numa_mode.specs.Policy.{PolicyRecord}
use Rattle.numa_ranges.specs.declared.run.Run.{Run}
use Rattle.numa_space.specs.Policies.{where_live}
use Rattle.numa_space.specs.Standing.{SpaceState, record_of, setting_in}
use Rattle.numa_plan.specs.Meaning.{PlanData, number_of}
use Rattle.numa_plan.specs.Rows.{Kept, RuleData}
use Rattle.numa_plan.specs.Slots.{kept_in, policy_in, put_slot}
use Rattle.numa_plan.specs.declared.slots.Slot.{Slot}
use Rattle.numa_plan.specs.declared.slots.Slot.TheVariants.{Taken}
use Rattle.numa_plan.proofs.SlotLemmas.{same_or_not, kept_in-put, kept_in-put_other, none-kept}
use Rattle.numa_compile.specs.Copies.{IsNumber, AreCopies}
use Rattle.numa_compile.specs.Follows.{Follows}
use Rattle.numa_compile.specs.Recompiling.{WasAdded, KeepsNamed}
use Rattle.numa_compile.specs.Rules.{IsRuleOf}
use Rattle.numa_compile.specs.Sharing.{AreServing, IsServing}
use Rattle.numa_compile.proofs.ServeLemmas.{policy-of}

-- ---- more policies

-- a policy that stands in a slot, where what the slot keeps is kept
pub policies-kept : (old new : List Slot) (number : ℕ) (r : PolicyRecord)
    → ((kept : Kept) → kept_in old number ≡ Some kept → kept_in new number ≡ Some kept)
    → policy_in old number ≡ Some r → policy_in new number ≡ Some r
policies-kept old new number r same is = go (kept_in old number) refl is
  where
    go : (o : Option Kept) → kept_in old number ≡ o → option_map (λ kept. kept.policy) o ≡ Some r
        → policy_in new number ≡ Some r
    go None there is = absurd (let odd : ◌≡◌ {A = Option PolicyRecord} None (Some r) = is in cc)
    go (Some kept) there is = policy-of (kept_in new number) (Some kept) (same kept there) ∙ is

-- numbers stay where policies stay
pub number-kept : (old new : ℕ → Option PolicyRecord) (policy : Option PolicyRecord)
    (number : Option ℕ) → ((place : ℕ) (r : PolicyRecord) → number ≡ Some place → old place ≡ Some r
    → new place ≡ Some r) → IsNumber old policy number → IsNumber new policy number
number-kept old new None number same is = is
number-kept old new (Some r) number same is = (is.0, is.1, same is.0 r is.1 is.2)

-- and so do copies, where each number that a run names leads to its policy still
pub copies-named : (old new : ℕ → Option PolicyRecord) (ranges : List (Run (Option PolicyRecord)))
    (runs : List (Run (Option ℕ)))
    → ((place : ℕ) (r : PolicyRecord) → (All (λ run. run.value ≢ Some place) runs → ⊥)
    → old place ≡ Some r → new place ≡ Some r) → AreCopies old ranges runs
    → AreCopies new ranges runs
copies-named old new [] [] same copies = tt
copies-named old new [] (run ∷ runs) same copies = absurd copies
copies-named old new (range ∷ ranges) [] same copies = absurd copies
copies-named old new (range ∷ ranges) (run ∷ runs) same copies = (
  record {
    first = copies.0.first;
    pages = copies.0.pages;
    index = copies.0.index;
    value = number-kept old new (where_live range.value) run.value
        (λ place r named is. same place r (λ none. none 0 run (omega arith) named) is)
        copies.0.value;
  },
  copies-named old new ranges runs
      (λ place r named is. same place r (λ none. named (λ k d lt. none (suc k) d (omega arith))) is)
      copies.1,
)

-- ---- a rule more

-- what a slot keeps is kept
pub added-kept : (space : SpaceState) (old new : PlanData) (added : Option ℕ) (number : ℕ)
    (kept : Kept) → WasAdded space old added new → kept_in old.slots number ≡ Some kept
    → kept_in new.slots number ≡ Some kept
added-kept space old new None number kept was is = ap (λ (p : PlanData). kept_in p.slots number) was
    ∙ is
added-kept space old new (Some place) number kept was is =
    elim (same_or_not number place) [
      | inl same ↦
          absurd (let odd : ◌≡◌ {A = Option Kept} None (Some kept) =
          sym (none-kept old.slots place was.lowest.free)
          ∙ subst (λ (n : ℕ). kept_in old.slots n ≡ Some kept) same is in cc)
      | inr other ↦ ap (λ (p : PlanData). kept_in p.slots number) was.grown
          ∙ kept_in-put_other old.slots place number was.kept was.lowest.within other ∙ is
    ]

pub added-serving : (space : SpaceState) (old new : PlanData) (added : Option ℕ)
    → WasAdded space old added new → AreServing space old.slots → AreServing space new.slots
added-serving space old new None was serving number kept is =
    serving number kept (sym (ap (λ (p : PlanData). kept_in p.slots number) was) ∙ is)
added-serving space old new (Some place) was serving number kept is =
    let there : kept_in (put_slot old.slots place (Taken 0 was.kept)) number ≡ Some kept =
    sym (ap (λ (p : PlanData). kept_in p.slots number) was.grown) ∙ is in
    elim (same_or_not number place) [
      | inl same ↦
          let own : kept_in (put_slot old.slots place (Taken 0 was.kept)) number ≡ Some was.kept =
          subst (λ (n : ℕ). kept_in (put_slot old.slots place (Taken 0 was.kept)) n
          ≡ Some was.kept) (sym same)
          (kept_in-put old.slots place was.kept was.lowest.within) in
          subst (λ (one : Kept). IsServing space one) (same_Some was.kept kept (sym own ∙ there))
          was.serving
      | inr other ↦
          serving number kept
          (sym (kept_in-put_other old.slots place number was.kept was.lowest.within other) ∙ there)
    ]

-- all but the slots is as it was
pub added-rest : (space : SpaceState) (old new : PlanData) (added : Option ℕ)
    → WasAdded space old added new → new ≡ record old { slots = new.slots }
added-rest space old new None was = was ∙ (λ i. record old { slots = (sym was i).slots })
added-rest space old new (Some place) was = was.grown
    ∙ (λ i. record old { slots = (sym was.grown i).slots })

-- ---- a rule less

-- a plan that gives up rules which nothing names follows the space still
pub follows-dropped : (space : SpaceState) (old new : PlanData)
    → new ≡ record old { slots = new.slots } → KeepsNamed old new → Follows space old
    → Follows space new
follows-dropped space old new rest slots f = record {
  version = ap (λ (p : PlanData). p.version) rest ∙ f.version;
  nodes = ap (λ (p : PlanData). p.nodes) rest ∙ f.nodes;
  local = subst (λ (rule : RuleData). IsRuleOf (setting_in space) rule None)
      (sym (ap (λ (p : PlanData). p.local) rest)) f.local;
  rules = rules;
  copies =
      subst (λ (runs : List (Run (Option ℕ))). AreCopies (policy_in new.slots) space.ranges runs)
      (sym (ap (λ (p : PlanData). p.runs) rest))
      (copies-named (policy_in old.slots) (policy_in new.slots) space.ranges old.runs by_runs
      f.copies);
  tasks =
      λ task.
      subst (λ (tasks : List (ℕ × ℕ)). IsNumber (policy_in new.slots)
      (where_live (record_of space.tasks task)) (number_of tasks task))
      (sym (ap (λ (p : PlanData). p.tasks) rest))
      (number-kept (policy_in old.slots) (policy_in new.slots)
      (where_live (record_of space.tasks task)) (number_of old.tasks task) (by_task task)
      (f.tasks task));
}
  where
    rules : AreServing space new.slots
    rules number kept is =
        elim (slots number) [
          | inl same ↦ f.rules number kept (sym same ∙ is)
          | inr gone ↦ absurd (let odd : ◌≡◌ {A = Option Kept} None (Some kept) = sym gone.1 ∙ is in
              cc)
        ]

    by_runs : (place : ℕ) (r : PolicyRecord) → (All (λ run. run.value ≢ Some place) old.runs → ⊥)
        → policy_in old.slots place ≡ Some r → policy_in new.slots place ≡ Some r
    by_runs place r named is =
        elim (slots place) [
          | inl same ↦ policy-of (kept_in new.slots place) (kept_in old.slots place) same ∙ is
          | inr gone ↦ absurd (named gone.0.runs)
        ]

    by_task : (task place : ℕ) (r : PolicyRecord) → number_of old.tasks task ≡ Some place
        → policy_in old.slots place ≡ Some r → policy_in new.slots place ≡ Some r
    by_task task place r named is =
        elim (slots place) [
          | inl same ↦ policy-of (kept_in new.slots place) (kept_in old.slots place) same ∙ is
          | inr gone ↦ absurd (gone.0.tasks task named)
        ]
