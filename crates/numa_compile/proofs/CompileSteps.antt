-- One more run, and one more task.
use Rattle.std.proofs.Common.{◌≡◌, ◌≢◌, ℕ, ◌+◌, ◌<◌, ◌≤◌, Option, Some, None, List, [], ◌∷◌, ◌++◌}
use Rattle.std.proofs.Common.{length, take, drop, get_or, All, AllPairs, IsSome, slice_get, refl}
use Rattle.std.proofs.Common.{sym, ap, subst, ◌∙◌, arith}
use Rattle.numa_mode.specs.Policy.{PolicyRecord}
use Rattle.numa_ranges.specs.declared.run.Run.{Run}
use Rattle.numa_space.specs.Policies.{where_live}
use Rattle.numa_space.specs.Standing.{SpaceState, setting_in}
use Rattle.numa_plan.specs.Building.{empty_plan, with_task}
use Rattle.numa_plan.specs.Meaning.{PlanData}
use Rattle.numa_plan.specs.Rows.{Kept, RuleData}
use Rattle.numa_plan.specs.Slots.{policy_in, rule_in}
use Rattle.std.specs.Option.{ForSome}
use Rattle.numa_compile.specs.Copies.{AreCopies, AreUsed, Grows, HasTasks, IsCopy, IsNumber}
use Rattle.numa_compile.specs.Copies.{HasRunsMore, IsUnderWay, Serves, SharesRules}
use Rattle.numa_compile.specs.Follows.{Follows}
use Rattle.numa_compile.specs.Rules.{IsRuleOf}
use Rattle.numa_compile.proofs.CopyLemmas.{copies-grow, copies-next}
use Rattle.numa_compile.proofs.FollowLemmas.{serving-served}
use Rattle.numa_compile.proofs.PlanLemmas.{shares}
use Rattle.numa_compile.proofs.PutLemmas.{named-copies, number-named}
use Rattle.numa_compile.proofs.ServeLemmas.{serves-kept, serves-task}

-- what holds while the runs of the first k ranges are there or wait, and the rest is ahead
pub record HasAdded (space : SpaceState) (rest : List (Run (Option PolicyRecord))) (plan : PlanData)
    (waiting : List (Run (Option ℕ))) (records : List PolicyRecord) : Type 0 where
  pub k : ℕ
  pub within : k ≤ length space.ranges
  pub left : rest ≡ drop k space.ranges
  pub under_way : IsUnderWay space plan records
  pub copies : AreCopies (slice_get records) (take k space.ranges) (plan.runs ++ waiting)
  pub tasks : plan.tasks ≡ []
  pub room : length records ≤ k

-- a range and its run behind the others
pub copied-next : (old keys : List PolicyRecord) (ranges : List (Run (Option PolicyRecord)))
    (runs before : List (Run (Option ℕ))) (i : ℕ) (range : Run (Option PolicyRecord))
    (policy : Option PolicyRecord) (number : Option ℕ)
    → i < length ranges → range ≡ get_or ranges i range → policy ≡ range.value → runs ≡ before
    → Grows old policy keys → IsNumber (slice_get keys) (where_live policy) number
    → AreCopies (slice_get old) (take i ranges) before
    → AreCopies (slice_get keys) (take (i + 1) ranges)
    (runs ++ record {
      first = range.first;
      pages = range.pages;
      index = range.index;
      value =
          number;
    } ∷ [])
copied-next old keys ranges runs before i range policy number lt at value same grows numbered
    copies =
    let run : Run (Option ℕ) =
    record { first = range.first; pages = range.pages; index = range.index; value = number } in
    let copy : IsCopy (slice_get keys) range run =
    record {
      first = refl;
      pages = refl;
      index = refl;
      value =
          subst (λ (p : Option PolicyRecord). IsNumber (slice_get keys) (where_live p) number) value
          numbered;
    } in
    subst (λ (rs : List (Run (Option ℕ))). AreCopies (slice_get keys) (take (i + 1) ranges)
    (rs ++ run ∷ [])) (sym same)
    (copies-next (slice_get keys) ranges before i range run lt
    (copies-grow old keys policy (take i ranges) before grows copies)
    (subst (λ (r : Run (Option PolicyRecord)). IsCopy (slice_get keys) r run) at copy))

-- the plan with the rule that was looked up
pub under-rest : (space : SpaceState) (plan middle : PlanData) (records keys : List PolicyRecord)
    → IsUnderWay space plan records → Serves space middle keys → AreUsed space keys
    → middle ≡ record plan { slots = middle.slots } → IsUnderWay space middle keys
under-rest space plan middle records keys under serves used rest = record {
  nodes = ap (λ (p : PlanData). p.nodes) rest ∙ under.nodes;
  local = subst (λ (r : RuleData). IsRuleOf (setting_in space) r None)
      (sym (ap (λ (p : PlanData). p.local) rest)) under.local;
  serves = serves;
  used = used;
}

-- with other runs
pub under-runs : (space : SpaceState) (plan new : PlanData) (keys : List PolicyRecord)
    → IsUnderWay space plan keys → HasRunsMore plan new → IsUnderWay space new keys
under-runs space plan new keys under more = record {
  nodes = ap (λ (p : PlanData). p.nodes) more.rest ∙ under.nodes;
  local = subst (λ (r : RuleData). IsRuleOf (setting_in space) r None)
      (sym (ap (λ (p : PlanData). p.local) more.rest)) under.local;
  serves = serves-kept space plan new keys more.kept more.as_many under.serves;
  used = under.used;
}

-- the rules that copies name are there
pub served-named : (space : SpaceState) (plan : PlanData) (keys : List PolicyRecord)
    (ranges : List (Run (Option PolicyRecord))) (runs : List (Run (Option ℕ)))
    → Serves space plan keys → AreCopies (slice_get keys) ranges runs
    → All (λ run. ForSome run.value (λ number. IsSome (rule_in plan.slots number))) runs
served-named space plan keys ranges runs serves copies =
    named-copies plan.slots ranges runs
    (subst (λ (at : ℕ → Option PolicyRecord). AreCopies at ranges runs)
    (λ i number. sym (serves.policies number) i) copies)

-- a number of a served policy's rule names one
pub served-number : (space : SpaceState) (plan : PlanData) (keys : List PolicyRecord)
    (policy : Option PolicyRecord) (number : Option ℕ) → Serves space plan keys
    → IsNumber (slice_get keys) policy number
    → ForSome number (λ place. IsSome (rule_in plan.slots place))
served-number space plan keys policy number serves is =
    number-named plan.slots policy number
    (subst (λ (at : ℕ → Option PolicyRecord). IsNumber at policy number)
    (λ i place. sym (serves.policies place) i) is)

-- with one task more
pub under-task : (space : SpaceState) (plan middle new : PlanData) (task : ℕ) (number : Option ℕ)
    (records keys : List PolicyRecord) → IsUnderWay space plan records → Serves space middle keys
    → AreUsed space keys → middle ≡ record plan { slots = middle.slots }
    → new ≡ with_task middle task number
    → IsUnderWay space new keys
under-task space plan middle new task number records keys under serves used rest is =
    let one : IsUnderWay space middle keys = under-rest space plan middle records keys under serves
    used rest in
    let more : IsUnderWay space (with_task middle task number) keys =
    record {
      nodes = one.nodes;
      local = one.local;
      serves =
          serves-task space middle task number keys serves;
      used = used;
    } in
    subst (λ (p : PlanData). IsUnderWay space p keys) (sym is) more

-- ---- the beginning and the end

-- nothing is copied yet
pub under-empty : (space : SpaceState) (plan : PlanData) (nodes : ℕ) (local : RuleData)
    (keys : List PolicyRecord) → plan ≡ empty_plan nodes local → nodes ≡ space.machine.nodes
    → IsRuleOf (setting_in space) local None → keys ≡ [] → IsUnderWay space plan keys
under-empty space plan nodes local keys is same rule none =
    let empty : IsUnderWay space (empty_plan nodes local) [] = record {
      nodes = same;
      local = rule;
      serves = record {
        as_many = refl;
        policies = λ number. refl;
        serving = λ number kept there.
            absurd (let odd : ◌≡◌ {A = Option Kept} None (Some kept) = there in cc);
      };
      used = λ r there. absurd (let odd : there.0 < 0 = there.1 in omega (arith, odd));
    } in
    subst (λ (ks : List PolicyRecord). IsUnderWay space plan ks) (sym none)
    (subst (λ (p : PlanData). IsUnderWay space p []) (sym is) empty)

module _ (space : SpaceState) (plan new : PlanData) (keys : List PolicyRecord) (version : ℕ)
    (same : version ≡ space.version) (is : new ≡ record plan { version = version })
    (under : IsUnderWay space plan keys)
    (copies : AreCopies (slice_get keys) space.ranges plan.runs)
    (tasks : HasTasks (slice_get keys) space.tasks plan) where
  -- all is copied
  pub follows-done : Follows space new
  follows-done = subst (λ (p : PlanData). Follows space p) (sym is) (record {
    version = same;
    nodes = under.nodes;
    local = under.local;
    rules = under.serves.serving;
    copies = subst (λ (at : ℕ → Option PolicyRecord). AreCopies at space.ranges plan.runs) by_slots
        copies;
    tasks = subst (λ (at : ℕ → Option PolicyRecord). HasTasks at space.tasks plan) by_slots tasks;
  })
    where
      by_slots : slice_get keys ≡ policy_in plan.slots
      by_slots = λ i number. sym (under.serves.policies number) i

  pub shares-done : AllPairs (λ earlier later. earlier ≢ later) keys → SharesRules space new
  shares-done once =
      subst (λ (p : PlanData). SharesRules space p) (sym is)
      (shares space (record plan { version = version }) keys once under.used copies tasks
      under.serves.as_many (serving-served space (record plan { version = version })
      (slice_get keys) under.serves.policies under.serves.serving))
