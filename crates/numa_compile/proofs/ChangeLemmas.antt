-- What is known of the command behind a change.
use Rattle.std.proofs.Common.{◌≡◌, ℕ, ◌+◌, ◌<◌, ◌==◌, Bool, true, false, cond, Option, Some, None}
use Rattle.std.proofs.Common.{refl, sym, ap, subst, ◌∙◌, arith}
use Rattle.std.proofs.lemmas.Bool.{eq-eqb, eqb-true, eqb-false}
use Rattle.std.proofs.lemmas.Option.{same_Some}
use Rattle.std.specs.Option.{ForSome}
use Rattle.numa_mask.specs.NodeSet.{both}
use Rattle.numa_mode.specs.Policy.{PolicyRecord, Specification, is_default, record_when_set}
use Rattle.numa_space.specs.Changed.{change_at, pages_at}
use Rattle.numa_space.specs.declared.change.Change.{Change}
use Rattle.numa_space.specs.declared.change.Change.TheVariants.{Nothing, Mapped, Unmapped, Bound}
use Rattle.numa_space.specs.declared.change.Change.TheVariants.{Homed, TaskSet, Weighed, Allowed}
use Rattle.numa_space.specs.declared.change.ChangedPages.{ChangedPages}
use Rattle.numa_requests.specs.declared.command.Command.{Command}
use Rattle.numa_requests.specs.declared.command.Command.TheVariants.{Map, Unmap, Mbind, SetTask}
use Rattle.numa_requests.specs.declared.command.Command.TheVariants.{Inherit, SetHome, SetWeight}
use Rattle.numa_requests.specs.declared.command.Command.TheVariants.{SetMems}
use Rattle.numa_space.specs.History.{page_of, page_count}
use Rattle.numa_space.specs.Standing.{SpaceState, IsInForce, record_of}
use Rattle.numa_space.specs.Steps.{record_now}
use Rattle.numa_space.proofs.InForce.{in_force-now}
use Rattle.numa_plan.specs.Meaning.{PlanData}
use Rattle.numa_compile.specs.Follows.{IsBehind, LacksChange}
use Rattle.numa_compile.specs.Recompiling.{GivesTask}
use Rattle.numa_compile.specs.Windows.{IsBehindMap, IsBehindNone, IsBehindSpan}

-- by a command that has unmapped these pages
pub record IsBehindUnmap (space : SpaceState) (plan : PlanData) (pages : ChangedPages) : Type 0
  where
    pub start : ℕ
    pub bytes : ℕ
    pub behind : IsBehind space (Unmap start bytes) plan
    pub begins : page_of start ≡ pages.first
    pub ends : page_of start + page_count bytes ≡ pages.end
    pub some : 0 < page_count bytes

-- by one that has given them this policy
pub record IsBehindMbind (space : SpaceState) (plan : PlanData) (pages : ChangedPages)
    (policy : Option PolicyRecord) : Type 0 where
  pub start : ℕ
  pub bytes : ℕ
  pub spec : Specification
  pub behind : IsBehind space (Mbind start bytes spec) plan
  pub begins : page_of start ≡ pages.first
  pub ends : page_of start + page_count bytes ≡ pages.end
  pub some : 0 < page_count bytes
  pub set : policy ≡ record_now behind.before.allowed spec

abbrev pub ComesOf : Change → SpaceState → PlanData → Type 0
ComesOf Nothing space plan = IsBehindNone space plan
ComesOf (Mapped pages) space plan = IsBehindMap space plan pages
ComesOf (Unmapped pages) space plan = IsBehindUnmap space plan pages
ComesOf (Bound pages policy) space plan = IsBehindMbind space plan pages policy
ComesOf (Homed pages node) space plan = IsBehindSpan space plan pages
ComesOf (TaskSet task policy) space plan =
    (policy ≡ record_of space.tasks task)
    × ((command : Command) × GivesTask task command × IsBehind space command plan)
ComesOf (Weighed node weight) space plan =
    (node : ℕ) × ((weight : ℕ) × IsBehind space (SetWeight node weight) plan)
ComesOf (Allowed nodes) space plan = Unit {0}

pages-none : (bytes : ℕ) → (bytes == 0) ≡ true → page_count bytes ≡ 0
pages-none bytes none = omega (arith, eqb-true bytes 0 none)

pages-some : (bytes : ℕ) → (bytes == 0) ≡ false → 0 < page_count bytes
pages-some bytes some = omega (arith, eqb-false bytes 0 some)

-- a task that was given a policy has it
own : (task : ℕ) (policy : Option PolicyRecord) (others : ℕ → Option PolicyRecord)
    → policy ≡ cond (task == task) policy (others task)
own task policy others = sym (ap (λ (same : Bool). cond same policy (others task))
    (eq-eqb task task refl))

-- what a change comes of
pub change-of : (space : SpaceState) (plan : PlanData) (change : Change)
    → LacksChange space change plan → ComesOf change space plan
change-of space plan change lacks =
    subst (λ (it : Change). ComesOf it space plan) (sym lacks.told.1)
    (of_command lacks.told.0 lacks.command lacks.behind)
  where
    of_unmap : (place start bytes : ℕ) → IsBehind space (Unmap start bytes) plan → (none : Bool)
        → (bytes == 0) ≡ none
        → ComesOf (cond none Nothing (Unmapped (pages_at place start bytes))) space plan
    of_unmap place start bytes behind true is = record {
      command = Unmap start bytes;
      behind = behind;
      edits = tt;
      none = pages-none bytes is;
    }
    of_unmap place start bytes behind false is = record {
      start = start;
      bytes = bytes;
      behind = behind;
      begins = refl;
      ends = refl;
      some = pages-some bytes is;
    }

    of_mbind : (place start bytes : ℕ) (spec : Specification)
        → (behind : IsBehind space (Mbind start bytes spec) plan) → (none : Bool)
        → (bytes == 0) ≡ none
        → ComesOf
        (cond none Nothing
        (Bound (pages_at place start bytes) (record_now behind.before.allowed spec))) space plan
    of_mbind place start bytes spec behind true is = record {
      command = Mbind start bytes spec;
      behind = behind;
      edits = tt;
      none = pages-none bytes is;
    }
    of_mbind place start bytes spec behind false is = record {
      start = start;
      bytes = bytes;
      spec = spec;
      behind = behind;
      begins = refl;
      ends = refl;
      some = pages-some bytes is;
      set = refl;
    }

    of_home : (place start bytes node : ℕ) → IsBehind space (SetHome start bytes node) plan
        → (none : Bool) → (bytes == 0) ≡ none
        → ComesOf (cond none Nothing (Homed (pages_at place start bytes) node)) space plan
    of_home place start bytes node behind true is = record {
      command = SetHome start bytes node;
      behind = behind;
      edits = tt;
      none = pages-none bytes is;
    }
    of_home place start bytes node behind false is = record {
      command = SetHome start bytes node;
      behind = behind;
      edits = tt;
      begins = refl;
      ends = refl;
      some = pages-some bytes is;
    }

    of_command : (place : ℕ) (command : Command) → (behind : IsBehind space command plan)
        → ComesOf (change_at place behind.before command) space plan
    of_command place (Map start bytes offset size) behind = record {
      start = start;
      bytes = bytes;
      offset = offset;
      size = size;
      behind = behind;
      begins = refl;
      ends = refl;
    }
    of_command place (Unmap start bytes) behind =
        of_unmap place start bytes behind (bytes == 0) refl
    of_command place (Mbind start bytes spec) behind =
        of_mbind place start bytes spec behind (bytes == 0) refl
    of_command place (SetHome start bytes node) behind =
        of_home place start bytes node behind (bytes == 0) refl
    of_command place (SetTask task spec) behind = (
      own task (record_now behind.before.allowed spec) (record_of behind.before.tasks)
          ∙ sym (behind.step.next.tasks task),
      (SetTask task spec, refl, behind),
    )
    of_command place (Inherit heir from) behind = (
      own heir (record_of behind.before.tasks from) (record_of behind.before.tasks)
          ∙ sym (behind.step.next.tasks heir),
      (Inherit heir from, refl, behind),
    )
    of_command place (SetWeight node weight) behind = (node, (weight, behind))
    of_command place (SetMems mask) behind = tt

-- the policy that was set is in force
pub bound-in_force : (space : SpaceState) (plan : PlanData) (pages : ChangedPages)
    (policy : Option PolicyRecord) → IsBehindMbind space plan pages policy
    → both space.allowed space.machine.memory ≡ space.allowed
    → ForSome policy (IsInForce space.machine space.allowed)
bound-in_force space plan pages policy b memory r is =
    go (is_default b.spec) (sym is ∙ b.set
    ∙ ap (λ (allowed : ℕ). record_now allowed b.spec) (sym b.behind.step.next.allowed))
  where
    go : (none : Bool)
        → Some r ≡ cond none None (Some (record_when_set b.spec space.allowed))
        → IsInForce space.machine space.allowed r
    go true set = let odd : ◌≡◌ {A = Option PolicyRecord} (Some r) None = set in absurd (cc)
    go false set =
        subst (IsInForce space.machine space.allowed)
        (sym (same_Some r (record_when_set b.spec space.allowed) set))
        (in_force-now space.machine space.allowed b.spec memory)
