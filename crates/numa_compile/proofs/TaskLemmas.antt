-- A plan once a task has the rule of its new policy.
use Rattle.std.proofs.Common.{◌≡◌, ◌≢◌, ℕ, ◌==◌, false, cond, Option, Some, None, List, refl, sym}
use Rattle.std.proofs.Common.{ap, subst, ◌∙◌, inl, inr}
use Rattle.std.proofs.lemmas.Bool.{ne_eqb}
use Rattle.numa_machine.specs.Weights.{weight_at}
use Rattle.numa_mode.specs.Policy.{PolicyRecord}
use Rattle.numa_ranges.specs.Runs.{AreApart, AreMaximal, page_at}
use Rattle.numa_ranges.specs.declared.run.Run.{Run}
use Rattle.numa_requests.specs.declared.command.Command.{Command}
use Rattle.numa_requests.specs.declared.command.Command.TheVariants.{SetTask, Inherit, Map, Unmap}
use Rattle.numa_requests.specs.declared.command.Command.TheVariants.{Mbind, SetHome, SetWeight}
use Rattle.numa_requests.specs.declared.command.Command.TheVariants.{SetMems}
use Rattle.numa_space.specs.Policies.{where_live}
use Rattle.numa_space.specs.Standing.{SpaceState, record_of, setting_in}
use Rattle.numa_space.specs.Steps.{IsNext, record_now}
use Rattle.numa_plan.specs.Building.{with_task}
use Rattle.numa_plan.specs.Meaning.{PlanData, number_of}
use Rattle.numa_plan.specs.Rows.{RuleData}
use Rattle.numa_plan.specs.Slots.{kept_in, policy_in}
use Rattle.numa_plan.proofs.SlotLemmas.{same_or_not, kept_in-changed}
use Rattle.numa_compile.specs.Copies.{IsNumber, AreCopies}
use Rattle.numa_compile.specs.Follows.{Follows, IsBehind}
use Rattle.numa_compile.specs.Recompiling.{GivesTask, WasAdded, KeepsRuns}
use Rattle.numa_compile.specs.Rules.{IsRuleOf}
use Rattle.numa_compile.specs.Sharing.{AreServing}
use Rattle.numa_compile.proofs.AddedLemmas.{added-kept, added-rest, added-serving, copies-named}
use Rattle.numa_compile.proofs.AddedLemmas.{number-kept, policies-kept}
use Rattle.numa_compile.proofs.StepLemmas.{local-same, ranges-same, serving-same}

-- the other tasks have the policies that they had
task-other : (old : ℕ → Option PolicyRecord) (task other : ℕ) (policy : Option PolicyRecord)
    → other ≢ task → cond (task == other) policy (old other) ≡ old other
task-other old task other policy ne = let no : (task == other) ≡ false =
    ne_eqb task other (λ same. ne (sym same)) in rw no refl

-- what a command leaves as it was that gives one task another policy
pub record KeepsAllBut (task : ℕ) (old new : SpaceState) : Type 0 where
  pub machine : new.machine ≡ old.machine
  pub allowed : new.allowed ≡ old.allowed
  pub weights : (node : ℕ) → weight_at new.weights node ≡ weight_at old.weights node
  pub pages : (page : ℕ) → page_at new.ranges page ≡ page_at old.ranges page
  pub tasks : (other : ℕ) → other ≢ task → record_of new.tasks other ≡ record_of old.tasks other

pub given : (task : ℕ) (old new : SpaceState) (command : Command) → GivesTask task command
    → IsNext old command new → KeepsAllBut task old new
given task old new (Map start bytes offset size) gives next = absurd gives
given task old new (Unmap start bytes) gives next = absurd gives
given task old new (Mbind start bytes spec) gives next = absurd gives
given task old new (SetTask other spec) gives next = record {
  machine = next.machine;
  allowed = next.allowed;
  weights = next.weights;
  pages = next.pages;
  tasks = λ one ne. next.tasks one ∙ task-other (record_of old.tasks) other one
      (record_now old.allowed spec) (λ same. ne (same ∙ gives));
}
given task old new (Inherit other from) gives next = record {
  machine = next.machine;
  allowed = next.allowed;
  weights = next.weights;
  pages = next.pages;
  tasks = λ one ne. next.tasks one ∙ task-other (record_of old.tasks) other one
      (record_of old.tasks from) (λ same. ne (same ∙ gives));
}
given task old new (SetHome start bytes node) gives next = absurd gives
given task old new (SetWeight node weight) gives next = absurd gives
given task old new (SetMems mask) gives next = absurd gives

module _ (space : SpaceState) (task : ℕ) (command : Command) (gives : GivesTask task command)
    (plan middle new : PlanData) (number added : Option ℕ) (behind : IsBehind space command plan)
    (rising : AreApart 0 space.ranges) (maximal : AreMaximal space.ranges)
    (was : WasAdded space plan added middle)
    (numbered : IsNumber (policy_in middle.slots) (where_live (record_of space.tasks task))
    number) (is : new ≡ with_task middle task number)
    (here : number_of new.tasks task ≡ number) (others : (other : ℕ) → other ≢ task
    → number_of new.tasks other ≡ number_of middle.tasks other) where
  stays : KeepsAllBut task behind.before space
  stays = given task behind.before space command gives behind.step.next

  rest : middle ≡ record plan { slots = middle.slots }
  rest = added-rest space plan middle added was

  serving : AreServing space new.slots
  serving n kept there =
      added-serving space plan middle added was
      (serving-same behind.before space stays.machine stays.allowed stays.weights plan.slots
      behind.follows.rules)
      n kept
      (sym (ap (λ (p : PlanData). kept_in p.slots n) is ∙ kept_in-changed middle.slots number
      (number_of middle.tasks task) n) ∙ there)

  -- what a slot of the plan keeps is kept
  policies : (n : ℕ) (r : PolicyRecord) → policy_in plan.slots n ≡ Some r
      → policy_in new.slots n ≡ Some r
  policies n r there =
      policies-kept plan.slots new.slots n r
      (λ kept own. ap (λ (p : PlanData). kept_in p.slots n) is ∙ kept_in-changed middle.slots number
      (number_of middle.tasks task) n ∙ added-kept space plan middle added n kept was own)
      there

  middle_policies : (n : ℕ) (r : PolicyRecord) → policy_in middle.slots n ≡ Some r
      → policy_in new.slots n ≡ Some r
  middle_policies n r there =
      policies-kept middle.slots new.slots n r
      (λ kept own. ap (λ (p : PlanData). kept_in p.slots n) is ∙ kept_in-changed middle.slots number
      (number_of middle.tasks task) n ∙ own)
      there

  same_runs : new.runs ≡ plan.runs
  same_runs = ap (λ (p : PlanData). p.runs) is ∙ ap (λ (p : PlanData). p.runs) rest

  same_ranges : space.ranges ≡ behind.before.ranges
  same_ranges = ranges-same behind.before.ranges space.ranges behind.step.rising behind.step.maximal
      rising maximal stays.pages

  tasks : (other : ℕ) → IsNumber (policy_in new.slots) (where_live (record_of space.tasks other))
      (number_of new.tasks other)
  tasks other =
      elim (same_or_not other task) [
        | inl same ↦
            subst (λ (t : ℕ). IsNumber (policy_in new.slots) (where_live (record_of space.tasks t))
            (number_of new.tasks t)) (sym same)
            (subst (λ (n : Option ℕ). IsNumber (policy_in new.slots)
            (where_live (record_of space.tasks task)) n) (sym here)
            (number-kept (policy_in middle.slots) (policy_in new.slots)
            (where_live (record_of space.tasks task)) number
            (λ place r named. middle_policies place r) numbered))
        | inr ne ↦
            let same : record_of space.tasks other ≡ record_of behind.before.tasks other =
            stays.tasks other ne in
            let kept : number_of new.tasks other ≡ number_of plan.tasks other = others other ne
            ∙ ap (λ (p : PlanData). number_of p.tasks other) rest in
            subst (λ (policy : Option PolicyRecord). IsNumber (policy_in new.slots)
            (where_live policy) (number_of new.tasks other)) (sym same)
            (subst (λ (n : Option ℕ). IsNumber (policy_in new.slots)
            (where_live (record_of behind.before.tasks other)) n) (sym kept)
            (number-kept (policy_in plan.slots) (policy_in new.slots)
            (where_live (record_of behind.before.tasks other)) (number_of plan.tasks other)
            (λ place r named. policies place r) (behind.follows.tasks other)))
      ]

  -- with the space's version it follows the space
  pub task-follows : (final : PlanData) → final ≡ record new { version = space.version }
      → Follows space final
  task-follows final done = subst (λ (p : PlanData). Follows space p) (sym done) (record {
    version = refl;
    nodes = ap (λ (p : PlanData). p.nodes) is ∙ ap (λ (p : PlanData). p.nodes) rest
        ∙ behind.follows.nodes ∙ sym (ap (λ machine. machine.nodes) stays.machine);
    local = subst (λ (rule : RuleData). IsRuleOf (setting_in space) rule None)
        (sym (ap (λ (p : PlanData). p.local) is ∙ ap (λ (p : PlanData). p.local) rest))
        (local-same behind.before space stays.machine stays.allowed stays.weights plan.local
        behind.follows.local);
    rules = serving;
    copies =
        subst (λ (ranges : List (Run (Option PolicyRecord))). AreCopies (policy_in new.slots) ranges
        new.runs) (sym same_ranges)
        (subst (λ (runs : List (Run (Option ℕ))). AreCopies (policy_in new.slots)
        behind.before.ranges runs) (sym same_runs)
        (copies-named (policy_in plan.slots) (policy_in new.slots) behind.before.ranges plan.runs
        (λ place r named. policies place r) behind.follows.copies));
    tasks = tasks;
  })

  -- the runs and the other tasks stay
  pub task-keeps : (final dropped : PlanData) → final ≡ record new { version = space.version }
      → dropped ≡ record final { slots = dropped.slots } → KeepsRuns task plan dropped
  task-keeps final dropped done less = record {
    runs = ap (λ (p : PlanData). p.runs) less ∙ ap (λ (p : PlanData). p.runs) done ∙ same_runs;
    tasks = λ other ne. ap (λ (p : PlanData). number_of p.tasks other) less
        ∙ ap (λ (p : PlanData). number_of p.tasks other) done ∙ others other ne
        ∙ ap (λ (p : PlanData). number_of p.tasks other) rest;
  }
