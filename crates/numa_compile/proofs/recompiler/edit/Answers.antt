use Rattle.std.proofs.Common.{◌≡◌, ◌≤◌, ℕ, Option, sym, subst, ◌∙◌, arith}
use Rattle.numa_mode.specs.Policy.{PolicyRecord}
use Rattle.numa_space.specs.declared.change.Change.{Change}
use Rattle.numa_space.specs.declared.change.Change.TheVariants.{Mapped, Unmapped, Bound, Homed}
use Rattle.numa_space.specs.declared.change.Change.TheVariants.{Nothing, TaskSet, Weighed}
use Rattle.numa_space.specs.declared.change.ChangedPages.{ChangedPages}
use Rattle.numa_requests.specs.declared.command.Command.TheVariants.{Unmap, Mbind}
use Rattle.numa_space.specs.Standing.{SpaceState}
use Rattle.numa_plan.specs.Counted.{Counted}
use Rattle.numa_plan.specs.Meaning.{PlanData}
use Rattle.numa_compile.specs.Follows.{LacksChange}
use Rattle.numa_compile.specs.Recompiling.{WritesBoth, WritesFew}
use Rattle.numa_compile.specs.Windows.{IsBehindSpan}
use Rattle.numa_compile.proofs.ChangeLemmas.{ComesOf, IsBehindMbind, IsBehindUnmap}
use Rattle.numa_compile.proofs.ChangeLemmas.{bound-in_force, change-of}
use Rattle.numa_compile.proofs.CommandLemmas.{mbind-policy, open-within, unmap-inside}
use Rattle.numa_compile.proofs.HomeLemmas.{writes-both}
use Rattle.numa_compile.proofs.SpanLemmas.{writes-none}
use Rattle.numa_compile.proofs.recompiler.edit.Goals as goal

change-as : (space : SpaceState) (plan : PlanData) (change is : Change)
    → LacksChange space change plan → change ≡ is → ComesOf is space plan
change-as space plan change is lacks same =
    subst (λ (it : Change). ComesOf it space plan) same (change-of space plan change lacks)

unmap-span : (space : SpaceState) (plan : PlanData) (pages : ChangedPages)
    → IsBehindUnmap space plan pages → IsBehindSpan space plan pages
unmap-span space plan pages b = record {
  command = Unmap b.start b.bytes;
  behind = b.behind;
  edits = tt;
  begins = b.begins;
  ends = b.ends;
  some = b.some;
}

bound-span : (space : SpaceState) (plan : PlanData) (pages : ChangedPages)
    (policy : Option PolicyRecord) → IsBehindMbind space plan pages policy
    → IsBehindSpan space plan pages
bound-span space plan pages policy b = record {
  command = Mbind b.start b.bytes b.spec;
  behind = b.behind;
  edits = tt;
  begins = b.begins;
  ends = b.ends;
  some = b.some;
}

few-as : (plan : PlanData) (old new : Counted) (change is : Change) → change ≡ is
    → WritesFew is plan old new → WritesFew change plan old new
few-as plan old new change is same few = subst (λ (it : Change). WritesFew it plan old new)
    (sym same) few

few-more : (old new : Counted) (runs rules few_runs few_rules : ℕ) → WritesBoth runs rules old new
    → runs ≤ few_runs → rules ≤ few_rules → WritesBoth few_runs few_rules old new
few-more old new runs rules few_runs few_rules few = writes-both old old new runs rules few_runs
    few_rules (writes-none old) few

-- ---- what each arm calls

pub take_version-requires-clause-behind : goal.take_version-requires-clause-behind
take_version-requires-clause-behind c = change-as c.args.space.now c.args.plan.now c.args.change
    Nothing c.requires.lacks c.in-Nothing.is

pub mapped_window-window-requires : goal.mapped_window-window-requires
mapped_window-window-requires c = record {
  behind = change-as c.args.space.now c.args.plan.now c.args.change (Mapped c.in-Mapped.pages)
      c.requires.lacks c.in-Mapped.is;
}

pub rewrite_window-requires-clause-of : goal.rewrite_window-requires-clause-of
rewrite_window-requires-clause-of c = c.mapped_window-window.ensures.open

pub rewrite_window-requires-clause-inside : goal.rewrite_window-requires-clause-inside
rewrite_window-requires-clause-inside c = c.mapped_window-window.ensures.inside

pub open_window-window-requires : goal.open_window-window-requires
open_window-window-requires c = record {
  behind = unmap-span c.args.space.now c.args.plan.now c.in-Unmapped.pages
      (change-as c.args.space.now c.args.plan.now c.args.change (Unmapped c.in-Unmapped.pages)
      c.requires.lacks c.in-Unmapped.is);
}

pub rewrite_window-requires-in-Unmapped-clause-of :
    goal.rewrite_window-requires-in-Unmapped-clause-of
rewrite_window-requires-in-Unmapped-clause-of c = c.open_window-window.ensures.open

pub rewrite_window-requires-in-Unmapped-clause-inside :
    goal.rewrite_window-requires-in-Unmapped-clause-inside
rewrite_window-requires-in-Unmapped-clause-inside c =
    let space = c.args.space.now in
    let plan = c.args.plan.now in
    let found = c.open_window-window in
    let b = change-as space plan c.args.change (Unmapped c.in-Unmapped.pages) c.requires.lacks
    c.in-Unmapped.is in
    unmap-inside space plan found.result b.start b.bytes (found.ensures.first ∙ sym b.begins)
    (found.ensures.end ∙ sym b.ends) (open-within space plan found.result found.ensures.open).1
    c.requires.rising c.requires.maximal b.behind plan _

pub open_window-window-requires-in-Bound : goal.open_window-window-requires-in-Bound
open_window-window-requires-in-Bound c = record {
  behind = bound-span c.args.space.now c.args.plan.now c.in-Bound.pages c.in-Bound.policy
      (change-as c.args.space.now c.args.plan.now c.args.change
      (Bound c.in-Bound.pages c.in-Bound.policy) c.requires.lacks c.in-Bound.is);
}

pub rewrite_bound-requires-clause-ready : goal.rewrite_bound-requires-clause-ready
rewrite_bound-requires-clause-ready c = c.requires.ready

pub rewrite_bound-requires-clause-of : goal.rewrite_bound-requires-clause-of
rewrite_bound-requires-clause-of c = c.open_window-window-in-Bound.ensures.open

pub rewrite_bound-requires-clause-in_force : goal.rewrite_bound-requires-clause-in_force
rewrite_bound-requires-clause-in_force c =
    bound-in_force c.args.space.now c.args.plan.now c.in-Bound.pages c.in-Bound.policy
    (change-as c.args.space.now c.args.plan.now c.args.change
    (Bound c.in-Bound.pages c.in-Bound.policy) c.requires.lacks c.in-Bound.is)
    c.requires.ready.sound.allowed_memory

pub rewrite_bound-requires-clause-inside : goal.rewrite_bound-requires-clause-inside
rewrite_bound-requires-clause-inside c =
    let space = c.args.space.now in
    let plan = c.args.plan.now in
    let found = c.open_window-window-in-Bound in
    let b = change-as space plan c.args.change (Bound c.in-Bound.pages c.in-Bound.policy)
    c.requires.lacks c.in-Bound.is in
    mbind-policy space plan found.result b.start b.bytes (found.ensures.first ∙ sym b.begins)
    (found.ensures.end ∙ sym b.ends) (open-within space plan found.result found.ensures.open).1
    c.requires.rising c.requires.maximal b.spec b.behind c.in-Bound.policy b.set

pub open_window-window-requires-in-Homed : goal.open_window-window-requires-in-Homed
open_window-window-requires-in-Homed c = record {
  behind = change-as c.args.space.now c.args.plan.now c.args.change
      (Homed c.in-Homed.pages c.in-Homed.node) c.requires.lacks c.in-Homed.is;
}

pub rewrite_homes-requires-clause-ready : goal.rewrite_homes-requires-clause-ready
rewrite_homes-requires-clause-ready c = c.requires.ready

pub rewrite_homes-requires-clause-of : goal.rewrite_homes-requires-clause-of
rewrite_homes-requires-clause-of c = c.open_window-window-in-Homed.ensures.open

pub recompile_task-requires : goal.recompile_task-requires
recompile_task-requires c =
    let comes = change-as c.args.space.now c.args.plan.now c.args.change
    (TaskSet c.in-TaskSet.task c.in-TaskSet.policy) c.requires.lacks c.in-TaskSet.is in
    record { set = comes.0; behind = comes.1 }

pub recompile_weight-requires : goal.recompile_weight-requires
recompile_weight-requires c = record {
  behind = change-as c.args.space.now c.args.plan.now c.args.change
      (Weighed c.in-Weighed.node c.in-Weighed.weight) c.requires.lacks c.in-Weighed.is;
}

-- ---- how much is written

pub returns-in-Bound-clause-few : goal.returns-in-Bound-clause-few
returns-in-Bound-clause-few c =
    few-as c.args.plan.now c.args.steps.now c.rewrite_bound.new.steps c.args.change
    (Bound c.in-Bound.pages c.in-Bound.policy) c.in-Bound.is
    (few-more c.args.steps.now c.rewrite_bound.new.steps _ _ _ _ c.rewrite_bound.ensures.few
    c.open_window-window-in-Bound.ensures.few (omega arith))

pub returns-in-Homed-clause-few : goal.returns-in-Homed-clause-few
returns-in-Homed-clause-few c =
    few-as c.args.plan.now c.args.steps.now c.rewrite_homes.new.steps c.args.change
    (Homed c.in-Homed.pages c.in-Homed.node) c.in-Homed.is
    (few-more c.args.steps.now c.rewrite_homes.new.steps _ _ _ _ c.rewrite_homes.ensures.few
    c.open_window-window-in-Homed.ensures.few c.open_window-window-in-Homed.ensures.begun)
