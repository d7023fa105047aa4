use Rattle.std.proofs.Common.{ℕ, Option, List, [], ◌∷◌, ◌++◌, ap, sym, subst, ◌∙◌}
use Rattle.numa_ranges.specs.Runs.{AreApart}
use Rattle.numa_ranges.specs.declared.run.Run.{Run}
use Rattle.numa_plan.specs.Building.{with_run}
use Rattle.std.specs.Prelude.{IsSome}
use Rattle.std.specs.Option.{ForSome}
use Rattle.numa_plan.specs.Meaning.{PlanData}
use Rattle.numa_plan.specs.Slots.{rule_in}
use Rattle.numa_plan.specs.declared.slots.Slot.{Slot}
use Rattle.numa_plan.proofs.BuildLemmas.{keeps_with_run}
use Rattle.numa_plan.proofs.plan.Plan.push_run.Goals as goal

pub invariant_of-self-2 : goal.invariant_of-self-2
invariant_of-self-2 c =
    let named : ForSome c.args.run.value
    (λ number. IsSome (rule_in c.self.inside.slots.items number)) =
    subst (λ (slots : List Slot).
    ForSome c.args.run.value (λ number. IsSome (rule_in slots number)))
    (sym (ap (λ (p : PlanData). p.slots) c.self.view_is)) c.requires.named in
    rw (c.use_named.ensures, c.in_ok-push.ensures.ok.0)
    (keeps_with_run c.self.inside.nodes c.self.inside.runs c.self.inside.slots.items
    c.self.inside.lowest_free c.self.inside.tasks c.self.inside.local c.args.run
    c.self.invariant named)

pub push-requires : goal.push-requires
push-requires c = subst (λ (runs : List (Run (Option ℕ))). AreApart 0 (runs ++ c.args.run ∷ []))
    (sym (ap (λ (p : PlanData). p.runs) c.self.view_is)) c.requires.apart

pub use_named-requires-clause-there : goal.use_named-requires-clause-there
use_named-requires-clause-there c =
    subst (λ (slots : List Slot).
    ForSome c.args.run.value (λ number. IsSome (rule_in slots number)))
    (sym (ap (λ (p : PlanData). p.slots) c.self.view_is)) c.requires.named

pub returns-clause-ok : goal.returns-clause-ok
returns-clause-ok c =
    let plan : PlanData = record {
      version = c.self.inside.version;
      nodes = c.self.inside.nodes;
      runs = c.self.inside.runs;
      slots = c.self.inside.slots.items;
      tasks =
          c.self.inside.tasks;
      local = c.self.inside.local;
    } in (
      ap (λ (runs : List (Run (Option ℕ))).
          record plan { runs = runs; slots = c.use_named.new.slots.items })
          c.in_ok-push.ensures.ok.0
          ∙ ap (λ (l : List Slot). record plan { runs = plan.runs ++ c.args.run ∷ []; slots = l })
          c.use_named.ensures
          ∙ ap (λ (p : PlanData). with_run p c.args.run) c.self.view_is,
      c.in_ok-push.ensures.ok.1,
    )
