-- A plan to which rules were added, while it is behind its space.
use Rattle.std.proofs.Common.{◌≡◌, ℕ, ◌≤◌, Option, Some, None, List, [], ◌∷◌, ◌++◌, length, refl}
use Rattle.std.proofs.Common.{sym, ap, subst, ◌∙◌}
use Rattle.numa_ranges.specs.declared.run.Run.{Run}
use Rattle.numa_space.specs.Policies.{where_live}
use Rattle.numa_space.specs.Standing.{SpaceState, record_of, setting_in}
use Rattle.numa_plan.specs.Meaning.{PlanData, number_of}
use Rattle.numa_plan.specs.Rows.{Kept, RuleData}
use Rattle.numa_plan.specs.Slots.{kept_in, policy_in}
use Rattle.numa_compile.specs.Copies.{IsNumber, AreCopies}
use Rattle.numa_compile.specs.Follows.{Follows}
use Rattle.numa_compile.specs.Recompiling.{WasAdded}
use Rattle.numa_compile.specs.Rules.{IsRuleOf}
use Rattle.numa_compile.specs.Sharing.{AreServing}
use Rattle.numa_compile.specs.Windows.{IsOpen, WereAdded}
use Rattle.numa_compile.specs.declared.recompiler.window.Window.{Window}
use Rattle.numa_compile.proofs.AddedLemmas.{added-kept, added-rest, added-serving, copies-named}
use Rattle.numa_compile.proofs.AddedLemmas.{number-kept, policies-kept}
use Rattle.numa_compile.proofs.SpanLemmas.{span-rest}
use Rattle.numa_compile.proofs.StepLemmas.{serving-same}

-- a plan with more rules, which serve their policies, follows the space still
pub follows-grown : (space : SpaceState) (old new : PlanData)
    → new ≡ record old { slots = new.slots }
    → ((number : ℕ) (kept : Kept) → kept_in old.slots number ≡ Some kept
    → kept_in new.slots number ≡ Some kept)
    → AreServing space new.slots → Follows space old → Follows space new
follows-grown space old new rest kept serving f = record {
  version = ap (λ (p : PlanData). p.version) rest ∙ f.version;
  nodes = ap (λ (p : PlanData). p.nodes) rest ∙ f.nodes;
  local = subst (λ (rule : RuleData). IsRuleOf (setting_in space) rule None)
      (sym (ap (λ (p : PlanData). p.local) rest)) f.local;
  rules = serving;
  copies =
      subst (λ (runs : List (Run (Option ℕ))). AreCopies (policy_in new.slots) space.ranges runs)
      (sym (ap (λ (p : PlanData). p.runs) rest))
      (copies-named (policy_in old.slots) (policy_in new.slots) space.ranges old.runs
      (λ place r named is. policies-kept old.slots new.slots place r (kept place) is) f.copies);
  tasks =
      λ task.
      subst (λ (tasks : List (ℕ × ℕ)). IsNumber (policy_in new.slots)
      (where_live (record_of space.tasks task)) (number_of tasks task))
      (sym (ap (λ (p : PlanData). p.tasks) rest))
      (number-kept (policy_in old.slots) (policy_in new.slots)
      (where_live (record_of space.tasks task)) (number_of old.tasks task)
      (λ place r named is. policies-kept old.slots new.slots place r (kept place) is)
      (f.tasks task));
}

-- an open window stays one
pub open-added : (space : SpaceState) (plan new : PlanData) (window : Window) (added : Option ℕ)
    → IsOpen space plan window → WasAdded space plan added new → IsOpen space new window
open-added space plan new window added of was =
    let before = of.behind.before in
    let same = span-rest before space of.command of.of_span of.behind.step.next in
    let rest = added-rest space plan new added was in
    let serving : AreServing space new.slots = added-serving space plan new added was
    (serving-same before space same.machine same.allowed same.weights plan.slots
    of.behind.follows.rules) in
    record {
      command = of.command;
      behind = record {
        before = before;
        step = of.behind.step;
        follows =
            follows-grown before plan new rest
            (λ number kept is. added-kept space plan new added number kept was is)
            (serving-same space before (sym same.machine) (sym same.allowed)
            (λ node. sym (same.weights node)) new.slots serving) of.behind.follows;
      };
      of_span = of.of_span;
      begins = of.begins;
      ends = of.ends;
      rises = of.rises;
      within = subst (λ (runs : List (Run (Option ℕ))). window.to ≤ length runs)
          (sym (ap (λ (p : PlanData). p.runs) rest)) of.within;
      place = of.place;
      moves = of.moves;
    }

-- ---- several rules

pub open-grown : (space : SpaceState) (plan new : PlanData) (window : Window)
    (numbers : List (Option ℕ)) → IsOpen space plan window → WereAdded space plan numbers new
    → IsOpen space new window
open-grown space plan new window [] of were = subst (λ (p : PlanData). IsOpen space p window)
    (sym were) of
open-grown space plan new window (number ∷ numbers) of were =
    open-grown space were.0 new window numbers
    (open-added space plan were.0 window number of were.1) were.2

pub grown-kept : (space : SpaceState) (plan new : PlanData) (numbers : List (Option ℕ)) (number : ℕ)
    (kept : Kept) → WereAdded space plan numbers new → kept_in plan.slots number ≡ Some kept
    → kept_in new.slots number ≡ Some kept
grown-kept space plan new [] number kept were is = ap (λ (p : PlanData). kept_in p.slots number)
    were ∙ is
grown-kept space plan new (added ∷ numbers) number kept were is =
    grown-kept space were.0 new numbers number kept were.2
    (added-kept space plan were.0 added number kept were.1 is)

pub grown-rest : (space : SpaceState) (plan new : PlanData) (numbers : List (Option ℕ))
    → WereAdded space plan numbers new → new ≡ record plan { slots = new.slots }
grown-rest space plan new [] were = were ∙ (λ i. record plan { slots = (sym were i).slots })
grown-rest space plan new (added ∷ numbers) were = grown-rest space were.0 new numbers were.2
    ∙ ap (λ (p : PlanData). record p { slots = new.slots })
    (added-rest space plan were.0 added were.1)

-- one more, behind the others
pub grown-more : (space : SpaceState) (plan next new : PlanData) (numbers : List (Option ℕ))
    (number : Option ℕ) → WereAdded space plan numbers next → WasAdded space next number new
    → WereAdded space plan (numbers ++ number ∷ []) new
grown-more space plan next new [] number were was =
    (new, subst (λ (p : PlanData). WasAdded space p number new) were was, refl)
grown-more space plan next new (one ∷ numbers) number were was =
    (were.0, were.1, grown-more space were.0 next new numbers number were.2 was)

-- the last of them
pub grown-last : (space : SpaceState) (plan new : PlanData) (numbers : List (Option ℕ))
    (number : Option ℕ) → WereAdded space plan (numbers ++ number ∷ []) new → (next : PlanData)
    × WereAdded space plan numbers next × WasAdded space next number new
grown-last space plan new [] number were =
    (plan, refl, subst (λ (p : PlanData). WasAdded space plan number p) (sym were.2) were.1)
grown-last space plan new (one ∷ numbers) number were =
    let last = grown-last space were.0 new numbers number were.2 in
    (last.0, (were.0, were.1, last.1), last.2)
