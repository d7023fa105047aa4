use Rattle.std.proofs.Common.{◌≡◌, ℕ, Option, List, length, ap, sym, subst, ◌∙◌, arith}
use Rattle.std.specs.List.{slice_range, splice}
use Rattle.numa_ranges.specs.Runs.{AreApart}
use Rattle.numa_ranges.specs.declared.run.Run.{Run}
use Rattle.numa_plan.specs.Meaning.{PlanData}
use Rattle.numa_plan.specs.Slots.{kept_in}
use Rattle.numa_plan.specs.Editing.{with_runs, with_uses, with_uses_less}
use Rattle.numa_plan.specs.declared.slots.Slot.{Slot}
use Rattle.numa_plan.proofs.EditLemmas.{AreThere, keeps_spliced, window-used, kept_in-spliced}
use Rattle.numa_plan.proofs.plan.Plan.replace_runs.Goals as goal

pub leave_all-requires : goal.leave_all-requires
leave_all-requires c =
    let there : AreThere c.self.inside.slots.items c.args.runs.now =
    subst (λ (slots : List Slot). AreThere slots c.args.runs.now)
    (sym (ap (λ (p : PlanData). p.slots) c.self.view_is)) c.requires.named in
    rw c.use_all.ensures
    (window-used c.self.inside.nodes c.self.inside.runs c.args.runs.now c.deref.result.now
    c.self.inside.slots.items c.self.inside.lowest_free c.self.inside.tasks
    c.self.inside.local c.args.from c.args.to c.self.invariant c.requires.rises
    (c.deref.ensures.value ∙ c.in_ok-gone.ensures.ok.0) there)

pub invariant_of-self-2 : goal.invariant_of-self-2
invariant_of-self-2 c =
    let there : AreThere c.self.inside.slots.items c.args.runs.now =
    subst (λ (slots : List Slot). AreThere slots c.args.runs.now)
    (sym (ap (λ (p : PlanData). p.slots) c.self.view_is)) c.requires.named in
    rw (c.leave_all.ensures, c.use_all.ensures, c.in_ok-gone.ensures.ok.1)
    (keeps_spliced c.self.inside.nodes c.self.inside.runs c.args.runs.now c.deref.result.now
    c.self.inside.slots.items c.self.inside.lowest_free c.self.inside.tasks
    c.self.inside.local c.args.from c.args.to c.self.invariant c.requires.rises
    (c.deref.ensures.value ∙ c.in_ok-gone.ensures.ok.0) there)

pub returns-clause-kept : goal.returns-clause-kept
returns-clause-kept c k =
    ap (λ (l : List Slot). kept_in l k)
    (c.leave_all.ensures ∙ ap (λ (l : List Slot). with_uses_less l c.deref.result.now)
    c.use_all.ensures)
    ∙ kept_in-spliced c.self.inside.slots.items c.args.runs.now c.deref.result.now k
    ∙ ap (λ (p : PlanData). kept_in p.slots k) c.self.view_is

pub spliced-requires-clause-rises : goal.spliced-requires-clause-rises
spliced-requires-clause-rises c = c.requires.rises

pub spliced-requires-clause-within : goal.spliced-requires-clause-within
spliced-requires-clause-within c =
    omega (arith, c.requires.within, ap (λ (p : PlanData). length p.runs) c.self.view_is)

pub spliced-requires-clause-apart : goal.spliced-requires-clause-apart
spliced-requires-clause-apart c =
    subst (λ (runs : List (Run (Option ℕ))).
    AreApart 0 (splice runs c.args.from c.args.to c.args.runs.now))
    (sym (ap (λ (p : PlanData). p.runs) c.self.view_is)) c.requires.apart

pub use_all-requires-clause-there : goal.use_all-requires-clause-there
use_all-requires-clause-there c = subst (λ (slots : List Slot). AreThere slots c.args.runs.now)
    (sym (ap (λ (p : PlanData). p.slots) c.self.view_is)) c.requires.named

pub returns-clause-gone : goal.returns-clause-gone
returns-clause-gone c = c.in_ok-gone.ensures.ok.0
    ∙ ap (λ (p : PlanData). slice_range p.runs c.args.from c.args.to) c.self.view_is

pub returns-clause-ok : goal.returns-clause-ok
returns-clause-ok c =
    let plan : PlanData = record {
      version = c.self.inside.version;
      nodes = c.self.inside.nodes;
      runs = c.self.inside.runs;
      slots = c.self.inside.slots.items;
      tasks =
          c.self.inside.tasks;
      local = c.self.inside.local;
    } in
    let slots : c.leave_all.new.slots.items ≡ with_uses_less (with_uses plan.slots c.args.runs.now)
    (slice_range plan.runs c.args.from c.args.to) =
    c.leave_all.ensures ∙ ap (λ (l : List Slot). with_uses_less l c.deref.result.now)
    c.use_all.ensures
    ∙ ap (with_uses_less (with_uses plan.slots c.args.runs.now))
    (c.deref.ensures.value ∙ c.in_ok-gone.ensures.ok.0) in (
      ap (λ (runs : List (Run (Option ℕ))).
          record plan { runs = runs; slots = c.leave_all.new.slots.items })
          c.in_ok-gone.ensures.ok.1
          ∙ ap
          (λ (l : List Slot).
          record plan { runs = splice plan.runs c.args.from c.args.to c.args.runs.now; slots = l })
          slots
          ∙ ap (λ (p : PlanData). with_runs p c.args.from c.args.to c.args.runs.now) c.self.view_is,
      c.in_ok-gone.ensures.ok.2,
    )
