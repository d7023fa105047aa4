-- A plan whose runs copy a space's ranges and whose slots serve their records is a plan of the
-- space.
use Rattle.std.proofs.Common.{◌≡◌, ◌≢◌, ℕ, ◌<◌, true, Option, Some, None, List, AllPairs, Contains}
use Rattle.std.proofs.Common.{length, refl, sym, ap, subst, ◌∙◌, inl, inr}
use Rattle.std.proofs.lemmas.Bool.{cases_Bool}
use Rattle.std.proofs.lemmas.List.Elements.{Contains-push_cases}
use Rattle.std.proofs.lemmas.Option.{same_Some}
use Rattle.std.specs.Prelude.{◌⊎◌, unwrap_or, option_and_then, slice_get}
use Rattle.numa_mode.specs.Policy.{PolicyRecord, is_live}
use Rattle.numa_ranges.specs.declared.run.Run.{Run}
use Rattle.numa_space.specs.Lists.{Setting, list_for}
use Rattle.numa_space.specs.Policies.{where_live, policy_that_counts}
use Rattle.numa_space.specs.Standing.{SpaceState, record_of, setting_in}
use Rattle.numa_plan.specs.Rows.{RuleData, row_of}
use Rattle.numa_plan.specs.Slots.{rule_in}
use Rattle.numa_plan.specs.Meaning.{PlanData, number_of, rule_for}
use Rattle.numa_compile.specs.Copies.{IsNumber, AreCopies, HasTasks, Grows, AreUsed, SharesRules}
use Rattle.numa_compile.specs.Rules.{IsRuleOf}
use Rattle.numa_compile.specs.Sharing.{AreServed, IsUsed}
use Rattle.numa_compile.specs.Standing.{IsPlanOf}
use Rattle.numa_compile.proofs.CopyLemmas.{live-some, live-there, number-contains, copies-length}
use Rattle.numa_compile.proofs.CopyLemmas.{copies-pages, copies-related, copies-contain}

-- ---- the policy that counts

resolved-live : (range task : Option PolicyRecord) (r : PolicyRecord) → where_live range ≡ Some r
    → policy_that_counts range task ≡ Some r
resolved-live None task r is = absurd (let odd : ◌≡◌ {A = Option PolicyRecord} None (Some r) = is in
    cc)
resolved-live (Some other) task r is =
    let both = live-some (Some other) r is in
    let own : other ≡ r = same_Some other r both.0 in
    let live : is_live other ≡ true = subst (λ x. is_live x ≡ true) (sym own) both.1 in
    rw live (ap Some own)

resolved-dead : (range task : Option PolicyRecord) → where_live range ≡ None
    → policy_that_counts range task ≡ where_live task
resolved-dead None task is = refl
resolved-dead (Some other) task is =
    elim (cases_Bool (is_live other)) [
      | inl t ↦ absurd (let odd : ◌≡◌ {A = Option PolicyRecord} (Some other) None =
          sym (live-there other t) ∙ is in cc)
      | inr f ↦ rw f refl
    ]

-- ---- the rule that serves

module _ (setting : Setting) (plan : PlanData) (at : ℕ → Option PolicyRecord)
    (serves : AreServed setting plan at) (local : IsRuleOf setting plan.local None) where
  -- the rule of a number gives the lists of its policy, and the local rule those of none
  row-numbered : (policy : Option PolicyRecord) (number : Option ℕ) (cpu index : ℕ)
      → IsNumber at policy number → cpu < setting.machine.nodes
      → row_of (unwrap_or (option_and_then (rule_in plan.slots) number) plan.local) cpu index
      ≡ list_for setting policy cpu index
  row-numbered None number cpu index is lt =
      ap (λ (n : Option ℕ). row_of (unwrap_or (option_and_then (rule_in plan.slots) n) plan.local)
      cpu index) is ∙ (local cpu index lt).1
  row-numbered (Some r) number cpu index is lt =
      let served = serves is.0 r is.2 in
      ap (λ (n : Option ℕ). row_of (unwrap_or (option_and_then (rule_in plan.slots) n) plan.local)
      cpu index) is.1
      ∙ ap (λ (o : Option RuleData). row_of (unwrap_or o plan.local) cpu index) served.1
      ∙ served.2 cpu index lt

  -- the list of a task at a page of a range with this policy
  row-resolved : (range task_policy : Option PolicyRecord) (number : Option ℕ) (task cpu index : ℕ)
      → IsNumber at (where_live range) number
      → IsNumber at (where_live task_policy) (number_of plan.tasks task)
      → cpu < setting.machine.nodes
      → row_of (rule_for plan task number) cpu index ≡ list_for setting
      (policy_that_counts range task_policy) cpu index
  row-resolved range task_policy number task cpu index own other lt = go (where_live range) refl own
    where
      go : (live : Option PolicyRecord) → where_live range ≡ live → IsNumber at live number
          → row_of (rule_for plan task number) cpu index ≡ list_for setting
          (policy_that_counts range task_policy) cpu index
      go None is own =
          ap (λ (n : Option ℕ). row_of (rule_for plan task n) cpu index) own
          ∙ row-numbered (where_live task_policy) (number_of plan.tasks task) cpu index other lt
          ∙ ap (λ (p : Option PolicyRecord). list_for setting p cpu index)
          (sym (resolved-dead range task_policy is))
      go (Some r) is own =
          ap (λ (n : Option ℕ). row_of (rule_for plan task n) cpu index) own.1
          ∙ row-numbered (Some r) (Some own.0) cpu index (own.0, refl, own.2) lt
          ∙ ap (λ (p : Option PolicyRecord). list_for setting p cpu index)
          (sym (resolved-live range task_policy r is))

-- ---- the plan of a space

pub plan-of : (space : SpaceState) (plan : PlanData) (at : ℕ → Option PolicyRecord)
    → plan.version ≡ space.version → plan.nodes ≡ space.machine.nodes
    → IsRuleOf (setting_in space) plan.local None
    → AreCopies at space.ranges plan.runs → HasTasks at space.tasks plan
    → AreServed (setting_in space) plan at → IsPlanOf space plan
plan-of space plan at version nodes local copies tasks serves = record {
  version = version;
  nodes = nodes;
  lists = λ task page cpu lt.
      copies-related (λ index number. row_of (rule_for plan task number) cpu index)
      (λ index policy. list_for (setting_in space)
      (policy_that_counts policy (record_of space.tasks task)) cpu index) at
      (λ policy number index own. row-resolved (setting_in space) plan at serves local policy
      (record_of space.tasks task) number task cpu index own (tasks task) lt)
      space.ranges plan.runs page copies;
  pages = λ page. copies-pages at space.ranges plan.runs page copies;
  one_run_each = copies-length at space.ranges plan.runs copies;
}

-- its rules are one for each record
pub shares : (space : SpaceState) (plan : PlanData) (records : List PolicyRecord)
    → AllPairs (λ earlier later. earlier ≢ later) records → AreUsed space records
    → AreCopies (slice_get records) space.ranges plan.runs
    → HasTasks (slice_get records) space.tasks plan → length plan.slots ≡ length records
    → AreServed (setting_in space) plan (slice_get records) → SharesRules space plan
shares space plan rules once are_used copies tasks as_many served = record {
  records = rules;
  each_once = once;
  exactly = λ r. (are_used r, λ one. has r one.0 one.1);
  as_many = as_many;
  served = served;
  copies = copies;
  tasks = tasks;
}
  where
    has : (r : PolicyRecord) → is_live r ≡ true
        → ((run : Run (Option PolicyRecord)) × Contains space.ranges run × (run.value ≡ Some r))
        ⊎ ((task : ℕ) × (record_of space.tasks task ≡ Some r)) → Contains rules r
    has r live (inl range) =
        let copy = copies-contain (slice_get rules) space.ranges plan.runs range.0 range.1.0 copies
        range.1.1 range.1.2 in
        let policy : where_live range.0.value ≡ Some r = ap where_live range.2
        ∙ live-there r live in
        number-contains rules r copy.0.value
        (subst (λ (p : Option PolicyRecord). IsNumber (slice_get rules) p copy.0.value) policy
        copy.1.value)
    has r live (inr held) =
        let policy : where_live (record_of space.tasks held.0) ≡ Some r = ap where_live held.1
        ∙ live-there r live in
        number-contains rules r (number_of plan.tasks held.0)
        (subst (λ (p : Option PolicyRecord). IsNumber (slice_get rules) p
        (number_of plan.tasks held.0)) policy (tasks held.0))

-- ---- records that are used

used-grow : (space : SpaceState) (old new : List PolicyRecord) (policy : Option PolicyRecord)
    → ((r : PolicyRecord) → where_live policy ≡ Some r → IsUsed space r) → Grows old policy new
    → AreUsed space old → AreUsed space new
used-grow space old new policy own grows used r member =
    elim grows [
      | inl same ↦ used r (subst (λ (records : List PolicyRecord). Contains records r) same member)
      | inr more ↦
          elim (Contains-push_cases old more.0 r
          (subst (λ (records : List PolicyRecord). Contains records r) more.2 member)) [
            | inl early ↦ used r early
            | inr last ↦ own r (more.1 ∙ ap Some last)
          ]
    ]

pub used-range : (space : SpaceState) (old new : List PolicyRecord)
    (range : Run (Option PolicyRecord)) → Contains space.ranges range → Grows old range.value new
    → AreUsed space old → AreUsed space new
used-range space old new range there grows used =
    used-grow space old new range.value (λ r is. let both = live-some range.value r is in
    (both.1, inl (range, there, both.0))) grows used

pub used-task : (space : SpaceState) (old new : List PolicyRecord) (task : ℕ) (r : PolicyRecord)
    → record_of space.tasks task ≡ Some r → Grows old (Some r) new → AreUsed space old
    → AreUsed space new
used-task space old new task r held grows used =
    used-grow space old new (Some r) (λ own is. let both = live-some (Some r) own is in
    (both.1, inr (task, held ∙ both.0))) grows used
