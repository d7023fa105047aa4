-- What one command makes of what a space shows.
use Rattle.std.specs.Prelude.{◌≡◌, ◌≢◌, ℕ, false, ◌+◌, ◌-◌, ◌==◌, is_some, Option, Some, None}
use Rattle.std.specs.Prelude.{Result, Err, MatchOption, MatchResult, List, length, slice_get, take}
use Rattle.std.specs.Prelude.{if◌then◌else◌, ◌≤◌, ◌∷◌, OnOk, OnErr, IfErr}
use Rattle.std.specs.Option.{option_map}
use Rattle.numa_machine.specs.Machine.{Hardware}
use Rattle.numa_machine.specs.declared.rules.Rules.{Rules}
use Rattle.numa_machine.specs.Sizes.{index_in, whole}
use Rattle.numa_machine.specs.Weights.{weight_at}
use Rattle.numa_mode.specs.Policy.{PolicyRecord, is_default, record_after}
use Rattle.numa_ranges.specs.Runs.{page_at, AreApart, AreMaximal}
use Rattle.numa_ranges.specs.Maps.{with_span, without_span, changed_page, changed_span}
use Rattle.numa_space.specs.Limited.{Bounds}
use Rattle.numa_requests.specs.declared.command.Command.{Command}
use Rattle.numa_requests.specs.declared.command.Command.TheVariants.{Map, Unmap, Mbind, SetTask}
use Rattle.numa_requests.specs.declared.command.Command.TheVariants.{Inherit}
use Rattle.numa_requests.specs.declared.command.Command.TheVariants.{SetHome, SetWeight, SetMems}
use Rattle.numa_requests.specs.declared.refusal.Refusal.{Refusal}
use Rattle.numa_requests.specs.declared.refusal.Refusal.TheVariants.{NoMemory}
use Rattle.numa_space.specs.History.{page_of, page_count}
use Rattle.numa_space.specs.Policies.{mems_of, weight_given}
pub use Rattle.numa_space.specs.Policies.{record_now, policy_with_home}
use Rattle.numa_space.specs.Refusals.{Scene, PageMap, refusal_in, refusal_of}
use Rattle.numa_space.specs.Standing.{SpaceState, StandsFor, accepted_of, record_of}

-- a record, once the allowed nodes changed
abbrev pub policy_after : Rules → ℕ → ℕ → Option PolicyRecord → Option PolicyRecord
policy_after rules old new = option_map (λ r. record_after rules r old new)

abbrev pub allowed_next : Hardware → ℕ → Command → ℕ
allowed_next machine allowed (SetMems mask) = mems_of machine mask
allowed_next machine allowed _ = allowed

abbrev pub pages_next : Hardware → ℕ → PageMap → Command → PageMap
pages_next machine allowed pages (Map start bytes offset size) page =
    with_span (page_of start) (page_count (whole size bytes)) (index_in size offset) None pages page
pages_next machine allowed pages (Unmap start bytes) page =
    without_span (page_of start) (page_count bytes) pages page
pages_next machine allowed pages (Mbind start bytes spec) page =
    changed_span (page_of start) (page_count bytes) (λ old. record_now allowed spec) pages page
pages_next machine allowed pages (SetHome start bytes node) page =
    changed_span (page_of start) (page_count bytes) (policy_with_home node) pages page
pages_next machine allowed pages (SetMems mask) page =
    changed_page (policy_after machine.rules allowed (mems_of machine mask)) (pages page)
pages_next machine allowed pages _ page = pages page

abbrev pub task_next : Hardware → ℕ → (ℕ → Option PolicyRecord) → Command → ℕ → Option PolicyRecord
task_next machine allowed tasks (SetTask task spec) other =
    if task == other then record_now allowed spec else tasks other
task_next machine allowed tasks (Inherit heir from) other =
    if heir == other then tasks from else tasks other
task_next machine allowed tasks (SetMems mask) other =
    policy_after machine.rules allowed (mems_of machine mask) (tasks other)
task_next machine allowed tasks _ other = tasks other

abbrev pub task_count_next : (ℕ → Option PolicyRecord) → ℕ → Command → ℕ
task_count_next tasks count (SetTask task spec) =
    (count - (if is_some (tasks task) then 1 else 0)) + (if is_default spec then 0 else 1)
task_count_next tasks count (Inherit heir from) =
    (count - (if is_some (tasks heir) then 1 else 0)) + (if is_some (tasks from) then 1 else 0)
task_count_next tasks count _ = count

abbrev pub weight_next : (ℕ → ℕ) → Command → ℕ → ℕ
weight_next weights (SetWeight node weight) other = if node == other then weight_given weight
    else weights other
weight_next weights _ other = weights other

-- the space after a command that was accepted
pub record IsNext (old : SpaceState) (command : Command) (new : SpaceState) : Type 0 where
  pub machine : new.machine ≡ old.machine
  pub bounds : new.bounds ≡ old.bounds
  pub version : new.version ≡ old.version + 1
  pub allowed : new.allowed ≡ allowed_next old.machine old.allowed command
  pub pages : (page : ℕ) → page_at new.ranges page
      ≡ pages_next old.machine old.allowed (page_at old.ranges) command page
  pub tasks : (task : ℕ) → record_of new.tasks task
      ≡ task_next old.machine old.allowed (record_of old.tasks) command task
  pub task_count : length new.tasks ≡ task_count_next (record_of old.tasks)
      (length old.tasks) command
  pub weights : (node : ℕ) → weight_at new.weights node
      ≡ weight_next (weight_at old.weights) command node

-- the policies of tasks once one has this record, or none
pub record IsGiven (old : List (ℕ × PolicyRecord)) (task : ℕ) (policy : Option PolicyRecord)
    (new : List (ℕ × PolicyRecord)) : Type 0 where
  pub records : (other : ℕ) → record_of new other ≡ if task == other then policy
      else record_of old other
  pub count : length new ≡ (length old - (if is_some (record_of old task) then 1 else 0))
      + (if is_some policy then 1 else 0)

-- what a space judges a command by
abbrev pub scene_in : SpaceState → Command → Scene
scene_in space command = record {
  machine = space.machine;
  bounds = space.bounds;
  version = space.version;
  allowed = space.allowed;
  pages = page_at space.ranges;
  pages_after = pages_next space.machine space.allowed (page_at space.ranges) command;
  task = record_of space.tasks;
  task_count = length space.tasks;
}

-- the command may need room for a range or for a task's policy; the others never want memory
abbrev pub MayNeedRoom : Command → Type 0
MayNeedRoom (Map start bytes offset size) = Unit {0}
MayNeedRoom (Unmap start bytes) = bytes ≢ 0
MayNeedRoom (Mbind start bytes spec) = bytes ≢ 0
MayNeedRoom (SetHome start bytes node) = bytes ≢ 0
MayNeedRoom (SetTask task spec) = is_default spec ≡ false
MayNeedRoom (Inherit heir from) = Unit {0}
MayNeedRoom (SetWeight node weight) = ⊥
MayNeedRoom (SetMems mask) = ⊥

-- memory lacks only for a command that may need room
abbrev pub LacksRoom : Command → Refusal → Type 0
LacksRoom command refusal = refusal ≡ NoMemory → MayNeedRoom command

-- the command at this place of a list may need room, and no cause stands against it after those
-- before it
pub record MayStopAt (machine : Hardware) (bounds : Bounds) (commands history : List Command)
    (place : ℕ) : Type 0 where
  pub command : Command
  pub there : slice_get commands place ≡ Some command
  pub no_cause : refusal_of machine bounds (accepted_of machine bounds
      (take place commands) history) command ≡ None
  pub room : MayNeedRoom command

-- what a command answers, and the space after it
abbrev pub IsAnswer : {A : Type 0} → SpaceState → Command → Result A Refusal → SpaceState → Type 0
IsAnswer old command result new =
    MatchOption (refusal_in (scene_in old command) command)
    (MatchResult result (λ _. IsNext old command new)
    (λ refusal. (refusal ≡ NoMemory) × (new ≡ old)))
    (λ refusal. (result ≡ Err refusal) × (new ≡ old))

-- one accepted command: what stood before it, and what it made of that
pub record IsStep (old : SpaceState) (command : Command) (new : SpaceState) : Type 0 where
  pub accepted : refusal_in (scene_in old command) command ≡ None
  pub next : IsNext old command new
  pub rising : AreApart 0 old.ranges
  pub maximal : AreMaximal old.ranges
  pub few_ranges : length old.ranges ≤ 65536
  pub few_tasks : length old.tasks ≤ 1024

-- what comes of a command: it is added to each history that the space stands for, where no cause
-- stands against it; else the first cause is answered, or that memory lacked, and all is as it was
pub record IsApplied {A : Type 0} (old : SpaceState) (command : Command) (result : Result A Refusal)
    (new : SpaceState) : Type 0 where
  pub ok : (history : List Command) → StandsFor old history
      → OnOk result ((refusal_of old.machine old.bounds history command ≡ None)
      × StandsFor new (command ∷ history))
  pub err : (history : List Command) → StandsFor old history
      → IfErr result (λ refusal. MatchOption (refusal_of old.machine old.bounds history command)
      (refusal ≡ NoMemory) (λ first. refusal ≡ first))
  pub unchanged : OnErr result (new ≡ old)
  pub room : IfErr result (λ refusal. refusal ≡ NoMemory → MayNeedRoom command)
  pub step : OnOk result (IsStep old command new)
  pub machine : new.machine ≡ old.machine
  pub bounds : new.bounds ≡ old.bounds
