-- A plan once all its rules of weighted interleave are written anew.
use Rattle.std.proofs.Common.{◌≡◌, ℕ, ◌<◌, true, false, Option, Some, None, List, length, refl, sym}
use Rattle.std.proofs.Common.{ap, subst, ◌∙◌, arith}
use Rattle.std.proofs.lemmas.Option.{same_Some}
use Rattle.std.specs.Option.{ForSome, option_map}
use Rattle.numa_machine.specs.Machine.{Hardware}
use Rattle.numa_mode.specs.Policy.{PolicyRecord, is_live}
use Rattle.numa_ranges.specs.Runs.{AreApart, AreMaximal}
use Rattle.numa_ranges.specs.declared.run.Run.{Run}
use Rattle.numa_requests.specs.declared.command.Command.TheVariants.{SetWeight}
use Rattle.numa_space.specs.Lists.{list_for}
use Rattle.numa_space.specs.Policies.{where_live}
use Rattle.numa_space.specs.Standing.{SpaceState, IsInForce, record_of, setting_in}
use Rattle.numa_plan.specs.Counted.{Counted}
use Rattle.numa_plan.specs.Meaning.{PlanData, number_of}
use Rattle.numa_plan.specs.Rows.{Kept, RuleData}
use Rattle.numa_plan.specs.Slots.{kept_in, policy_in}
use Rattle.numa_compile.specs.Copies.{IsNumber, AreCopies}
use Rattle.numa_compile.specs.Follows.{Follows, IsBehind}
use Rattle.numa_compile.specs.Recompiling.{is_weighted}
use Rattle.numa_compile.specs.Rules.{IsRuleOf}
use Rattle.numa_compile.specs.Sharing.{AreServing, IsServing}
use Rattle.numa_compile.proofs.AddedLemmas.{copies-named, number-kept}
use Rattle.numa_compile.proofs.ServeLemmas.{policy-of}
use Rattle.numa_compile.proofs.StepLemmas.{ranges-same}
use Rattle.numa_compile.proofs.WeightLemmas.{serving-unweighted}
use Rattle.numa_compile.proofs.WeightSteps.{IsRewriting, IsRewritten}

module _ (space : SpaceState) (node weight : ℕ) (plan : PlanData)
    (behind : IsBehind space (SetWeight node weight) plan) where
  -- the policies are live and in force still
  pub weight-standing : (number : ℕ)
      → ForSome (policy_in plan.slots number)
      (λ r. (is_live r ≡ true) × IsInForce space.machine space.allowed r)
  weight-standing number r is = go (kept_in plan.slots number) refl is
    where
      go : (o : Option Kept) → kept_in plan.slots number ≡ o → option_map (λ kept. kept.policy) o
          ≡ Some r → (is_live r ≡ true) × IsInForce space.machine space.allowed r
      go None there is = absurd (let odd : ◌≡◌ {A = Option PolicyRecord} None (Some r) = is in cc)
      go (Some kept) there is =
          let own = behind.follows.rules number kept there in
          let force : IsInForce space.machine space.allowed kept.policy =
          subst (λ (m : Hardware). IsInForce m space.allowed kept.policy)
          (sym behind.step.next.machine)
          (subst (λ (set : ℕ). IsInForce behind.before.machine set kept.policy)
          (sym behind.step.next.allowed) own.in_force) in
          subst (λ (p : PolicyRecord). (is_live p ≡ true) × IsInForce space.machine space.allowed p)
          (same_Some kept.policy r is) (own.live, force)

  -- the rules of other modes serve on
  pub weight-serving : (kept : Kept) → is_weighted kept.policy ≡ false → (number : ℕ)
      → kept_in plan.slots number ≡ Some kept → IsServing space kept
  weight-serving kept other number is = serving-unweighted behind.before space kept
      behind.step.next.machine behind.step.next.allowed other (behind.follows.rules number kept is)

  weight-local : IsRuleOf (setting_in space) plan.local None
  weight-local cpu index lt =
      let own =
      behind.follows.local cpu index
      (subst (λ (m : Hardware). cpu < m.nodes) behind.step.next.machine lt) in (
        own.0,
        own.1
            ∙ (λ i.
            list_for (record {
              machine = sym behind.step.next.machine i;
              allowed =
                  sym behind.step.next.allowed i;
              weight = λ n. 0;
            }) None cpu index),
      )

  module _ (rising : AreApart 0 space.ranges) (maximal : AreMaximal space.ranges)
      (before now : Counted) (rules : List (Option Kept)) (new : PlanData) (none : length rules ≡ 0)
      (at : IsRewriting space plan before rules new now) where
    serving : AreServing space new.slots
    serving number kept is = go (kept_in plan.slots number) (at.done number (omega (arith, none)))
      where
        go : (o : Option Kept) → IsRewritten space o (kept_in new.slots number)
            → IsServing space kept
        go None gone = absurd (let odd : ◌≡◌ {A = Option Kept} None (Some kept) = sym gone ∙ is in
            cc)
        go (Some held) made = subst (λ (one : Kept). IsServing space one)
            (same_Some made.0 kept (sym made.1 ∙ is)) made.3

    policies : (number : ℕ) (r : PolicyRecord) → policy_in plan.slots number ≡ Some r
        → policy_in new.slots number ≡ Some r
    policies number r is =
        go (kept_in plan.slots number) refl (at.done number (omega (arith, none))) is
      where
        go : (o : Option Kept) → kept_in plan.slots number ≡ o
            → IsRewritten space o (kept_in new.slots number) → option_map (λ kept. kept.policy) o
            ≡ Some r → policy_in new.slots number ≡ Some r
        go None there gone is =
            absurd (let odd : ◌≡◌ {A = Option PolicyRecord} None (Some r) = is in cc)
        go (Some held) there made is = policy-of (kept_in new.slots number) (Some made.0) made.1
            ∙ ap Some made.2 ∙ is

    same_ranges : space.ranges ≡ behind.before.ranges
    same_ranges = ranges-same behind.before.ranges space.ranges behind.step.rising
        behind.step.maximal rising maximal behind.step.next.pages

    -- with the space's version it follows the space
    pub weight-follows : (final : PlanData) → final ≡ record new { version = space.version }
        → Follows space final
    weight-follows final done = subst (λ (p : PlanData). Follows space p) (sym done) (record {
      version = refl;
      nodes = ap (λ (p : PlanData). p.nodes) at.rest ∙ behind.follows.nodes
          ∙ sym (ap (λ machine. machine.nodes) behind.step.next.machine);
      local = subst (λ (rule : RuleData). IsRuleOf (setting_in space) rule None)
          (sym (ap (λ (p : PlanData). p.local) at.rest)) weight-local;
      rules = serving;
      copies =
          subst (λ (ranges : List (Run (Option PolicyRecord))). AreCopies (policy_in new.slots)
          ranges new.runs) (sym same_ranges)
          (subst (λ (runs : List (Run (Option ℕ))). AreCopies (policy_in new.slots)
          behind.before.ranges runs) (sym (ap (λ (p : PlanData). p.runs) at.rest))
          (copies-named (policy_in plan.slots) (policy_in new.slots) behind.before.ranges plan.runs
          (λ place r named. policies place r) behind.follows.copies));
      tasks = λ task.
          subst (λ (policy : Option PolicyRecord). IsNumber (policy_in new.slots)
          (where_live policy) (number_of new.tasks task)) (sym (behind.step.next.tasks task))
          (subst (λ (tasks : List (ℕ × ℕ)). IsNumber (policy_in new.slots)
          (where_live (record_of behind.before.tasks task)) (number_of tasks task))
          (sym (ap (λ (p : PlanData). p.tasks) at.rest))
          (number-kept (policy_in plan.slots) (policy_in new.slots)
          (where_live (record_of behind.before.tasks task)) (number_of plan.tasks task)
          (λ place r named. policies place r) (behind.follows.tasks task)));
    })
