-- What holds of every space holds after each accepted command.
use Rattle.std.proofs.Common.{◌≡◌, ◌≢◌, ℕ, ◌+◌, ◌-◌, ◌^◌, ◌<◌, ◌≤◌, true, false, not, ◌&&◌, eqb}
use Rattle.std.proofs.Common.{leb, List, [], ◌∷◌, length, Option, Some, None, is_some, IfSome}
use Rattle.std.proofs.Common.{Result, Ok, Err, refl, sym, ap, subst, ◌∙◌, arith, inl, inr}
use Rattle.std.proofs.lemmas.Bool.{cases_Bool, both_ways, cond_both, eq-eqb, leb-false}
use Rattle.std.specs.Option.{ForSome}
use Rattle.std.specs.List.{list_any}
use Rattle.numa_mask.specs.NodeSet.{both, members, weight_of}
use Rattle.numa_mask.proofs.Images.{weight-some}
use Rattle.std.proofs.lemmas.Nat.{and_le_r}
use Rattle.numa_machine.specs.Machine.{Hardware}
use Rattle.numa_machine.specs.declared.rules.Rules.{Rules}
use Rattle.numa_machine.specs.declared.rules.Rules.TheVariants.{Document, Linux}
use Rattle.numa_machine.specs.Sizes.{index_in, whole}
use Rattle.numa_mode.specs.Policy.{Specification, PolicyRecord, is_default, takes_home, with_home}
use Rattle.numa_mode.specs.Policy.{record_when_set, record_after, effect_when_set, stays}
use Rattle.numa_mode.specs.Policy.{never_empty, effect_after}
use Rattle.numa_mode.proofs.Subsets.{both-within, effect_when_set-within, effect_after-within}
use Rattle.numa_mode.proofs.Subsets.{never_empty-within, never_empty-some}
use Rattle.numa_mode.specs.Within.{IsWithin}
use Rattle.numa_ranges.specs.Runs.{page_at, in_pages}
use Rattle.numa_ranges.specs.Maps.{changed_page}
use Rattle.numa_space.specs.History.{page_of, page_count}
use Rattle.numa_space.specs.Policies.{mems_of}
use Rattle.numa_space.specs.Refusals.{Scene, PageMap, when, bad_policy_span, has_no_node}
use Rattle.numa_space.specs.Refusals.{cause_in, lacks_mems, mems_cause, refusal_in}
use Rattle.numa_space.specs.Standing.{SpaceState, record_of, IsInForce, IsSound}
use Rattle.numa_space.specs.Steps.{record_now, policy_with_home, policy_after, allowed_next}
use Rattle.numa_space.specs.Steps.{pages_next, task_next, task_count_next, IsNext, scene_in}
use Rattle.numa_space.specs.Steps.{IsAnswer}
use Rattle.numa_requests.specs.declared.command.Command.{Command}
use Rattle.numa_requests.specs.declared.command.Command.TheVariants.{Map, Unmap, Mbind, SetTask}
use Rattle.numa_requests.specs.declared.command.Command.TheVariants.{Inherit, SetHome, SetWeight}
use Rattle.numa_requests.specs.declared.command.Command.TheVariants.{SetMems}
use Rattle.numa_requests.specs.declared.refusal.Refusal.{Refusal}
use Rattle.numa_requests.specs.declared.refusal.Refusal.TheVariants.{CommandsSpent, NoSuchNode}
use Rattle.numa_requests.specs.declared.refusal.Refusal.TheVariants.{NodesNotAllowed, TooManyTasks}
use Rattle.numa_space.proofs.Answers.{AnswersBy}
use Rattle.numa_space.proofs.Refused.{first_of-none, when-none}
use Rattle.numa_space.proofs.NodeLists.{within-both, within-from_both, small-inside}

-- ---- one record

-- what is inside the allowed nodes has memory
inside-memory : (machine : Hardware) (allowed set : ℕ) → both allowed machine.memory ≡ allowed
    → IsWithin set allowed → both set machine.memory ≡ set
inside-memory machine allowed set memory inside =
    within-both set machine.memory
    (λ node member. within-from_both allowed machine.memory memory node (inside node member))

pub in_force-now : (machine : Hardware) (allowed : ℕ) (spec : Specification)
    → both allowed machine.memory ≡ allowed
    → IsInForce machine allowed (record_when_set spec allowed)
in_force-now machine allowed spec memory = record {
  inside = λ own follows. within-both (effect_when_set spec allowed) allowed
      (effect_when_set-within spec allowed);
  memory = inside-memory machine allowed (effect_when_set spec allowed) memory
      (effect_when_set-within spec allowed);
  home = λ node none. absurd (cc);
}

pub in_force-home : (machine : Hardware) (allowed : ℕ) (r : PolicyRecord) (node : ℕ)
    → node < machine.nodes → IsInForce machine allowed r
    → IsInForce machine allowed (with_home r node)
in_force-home machine allowed r node low force = record {
  inside = force.inside;
  memory = force.memory;
  home = λ other same. let e : node ≡ other = cc in omega arith;
}

pub in_force-after : (machine : Hardware) (old new : ℕ) (r : PolicyRecord) → 0 < weight_of new
    → both new machine.memory ≡ new → IsInForce machine old r
    → IsInForce machine new (record_after machine.rules r old new)
in_force-after machine old new r some memory force =
    let set = effect_after machine.rules r.spec r.effective old new in
    let after : r.of_object ≡ false → stays machine.rules r.spec.mode ≡ false → IsWithin set new =
    λ own follows. effect_after-within machine.rules r.spec r.effective old new some follows
    (within-from_both r.effective old (force.inside own follows)) in
    record {
      inside = λ own follows. rw own (within-both set new (after own follows));
      memory = elim (cases_Bool r.of_object) [
        | inl marked ↦ rw marked force.memory
        | inr own ↦ elim (cases_Bool (stays machine.rules r.spec.mode)) [
          | inl t ↦ rw (own, t) force.memory
          | inr f ↦ rw own (inside-memory machine new set memory (after own f))
        ]
      ];
      home = force.home;
    }

-- ---- records that may be missing

for_some-from_if : {T : Type 0} (o : Option T) (P : T → Type 0) → IfSome o P → ForSome o P
for_some-from_if None P h = λ x e. absurd (cc)
for_some-from_if (Some y) P h = λ x e. let same : y ≡ x = cc in subst P same h

if_some-from_for : {T : Type 0} (o : Option T) (P : T → Type 0) → ForSome o P → IfSome o P
if_some-from_for None P h = tt
if_some-from_for (Some x) P h = h x refl

-- the record, if there is one, is in force
abbrev pub Holds : Hardware → ℕ → Option PolicyRecord → Type 0
Holds machine allowed r = IfSome r (IsInForce machine allowed)

holds-now : (machine : Hardware) (allowed : ℕ) (spec : Specification) → both allowed machine.memory
    ≡ allowed → Holds machine allowed (record_now allowed spec)
holds-now machine allowed spec memory =
    elim (cases_Bool (is_default spec))
    [ inl t ↦ rw t tt | inr f ↦ rw f (in_force-now machine allowed spec memory) ]

holds-homed : (machine : Hardware) (allowed node : ℕ) (r : Option PolicyRecord)
    → node < machine.nodes → Holds machine allowed r
    → Holds machine allowed (policy_with_home node r)
holds-homed machine allowed node None low h = tt
holds-homed machine allowed node (Some r) low h =
    elim (cases_Bool (takes_home r)) [
      | inl t ↦ rw t (in_force-home machine allowed r node low h)
      | inr f ↦ rw f h
    ]

holds-rebound : (machine : Hardware) (old new : ℕ) (r : Option PolicyRecord) → 0 < weight_of new
    → both new machine.memory ≡ new → Holds machine old r
    → Holds machine new (policy_after machine.rules old new r)
holds-rebound machine old new None some memory h = tt
holds-rebound machine old new (Some r) some memory h = in_force-after machine old new r some memory
    h

-- the page's record, if it is mapped and has one, is in force
abbrev pub PageHolds : Hardware → ℕ → Option (ℕ × Option PolicyRecord) → Type 0
PageHolds machine allowed at = IfSome at (λ p. Holds machine allowed p.1)

page-changed : (machine : Hardware) (old new : ℕ) (change : Option PolicyRecord
    → Option PolicyRecord) (at : Option (ℕ × Option PolicyRecord))
    → ((r : Option PolicyRecord) → Holds machine old r → Holds machine new (change r))
    → PageHolds machine old at → PageHolds machine new (changed_page change at)
page-changed machine old new change None keeps h = tt
page-changed machine old new change (Some p) keeps h = keeps p.1 h

page-for : (machine : Hardware) (allowed : ℕ) (at : Option (ℕ × Option PolicyRecord))
    → PageHolds machine allowed at → ForSome at (λ p. ForSome p.1 (IsInForce machine allowed))
page-for machine allowed None h = λ p e. absurd (cc)
page-for machine allowed (Some q) h = λ p e.
    let same : q ≡ p = cc in
    subst (λ (p : ℕ × Option PolicyRecord). ForSome p.1 (IsInForce machine allowed)) same
    (for_some-from_if q.1 (IsInForce machine allowed) h)

page-moved : (m n : Hardware) (a b : ℕ) (o p : Option (ℕ × Option PolicyRecord)) → m ≡ n → a ≡ b
    → o ≡ p → PageHolds m a o → PageHolds n b p
page-moved m n a b o p d e f h =
    subst (λ o. PageHolds n b o) f
    (subst (λ a. PageHolds n a o) e (subst (λ m. PageHolds m a o) d h))

held-moved : (m n : Hardware) (a b : ℕ) (o p : Option PolicyRecord) → m ≡ n → a ≡ b → o ≡ p
    → Holds m a o → Holds n b p
held-moved m n a b o p d e f h =
    subst (λ o. Holds n b o) f (subst (λ a. Holds n a o) e (subst (λ m. Holds m a o) d h))

-- ---- what an accepted command says

-- some node of a machine has memory, where some are allowed
memory-some : (allowed memory : ℕ) → allowed ≢ 0 → both allowed memory ≡ allowed → memory ≢ 0
memory-some allowed memory some inside none =
    some (omega (arith, and_le_r allowed memory))

-- what a mask allows has memory
mems-memory : (machine : Hardware) (mask : ℕ) → both (mems_of machine mask) machine.memory
    ≡ mems_of machine mask
unfolding mems_of
mems-memory machine mask =
    let set = never_empty machine.rules (both mask machine.memory) machine.memory in
    within-both set machine.memory
    (never_empty-within machine.rules (both mask machine.memory) machine.memory
    (both-within mask machine.memory))

-- a mask that does not lack nodes, by the rules, allows some
allows-some : (rules : Rules) (mask memory : ℕ) → memory ≢ 0 → lacks_mems rules mask memory ≡ false
    → never_empty rules (both mask memory) memory ≢ 0
unfolding lacks_mems
allows-some Document mask memory some few empty = both_ways (eqb (both mask memory) 0) few
    (eq-eqb (both mask memory) 0 empty)
allows-some Linux mask memory some few empty = never_empty-some (both mask memory) memory some empty

-- a mask that is accepted allows some nodes
mems-some : (scene : Scene) (mask : ℕ) → scene.machine.memory ≢ 0 → refusal_in scene (SetMems mask)
    ≡ None → mems_of scene.machine mask ≢ 0
unfolding mems_of
mems-some scene mask memory none =
    let causes = first_of-none (when (leb scene.bounds.max_commands scene.version) CommandsSpent)
    (cause_in scene (SetMems mask)) none in
    let rest =
    first_of-none (when (list_any (λ node. leb scene.machine.nodes node) (members mask))
    NoSuchNode) (when (lacks_mems scene.machine.rules mask scene.machine.memory)
    (mems_cause scene.machine.rules)) causes.1 in
    allows-some scene.machine.rules mask scene.machine.memory memory
    (when-none (lacks_mems scene.machine.rules mask scene.machine.memory)
    (mems_cause scene.machine.rules) rest.1)

home-node : (scene : Scene) (start bytes node : ℕ) → refusal_in scene (SetHome start bytes node)
    ≡ None → node < scene.machine.nodes
home-node scene start bytes node none =
    let causes = first_of-none (when (leb scene.bounds.max_commands scene.version) CommandsSpent)
    (cause_in scene (SetHome start bytes node)) none in
    let behind = first_of-none (bad_policy_span scene.machine.rules start bytes) _ causes.1 in
    let rest = first_of-none (when (leb scene.machine.nodes node) NoSuchNode) _ behind.1 in
    leb-false scene.machine.nodes node (when-none (leb scene.machine.nodes node) NoSuchNode rest.0)

pub version-room : (scene : Scene) (command : Command) → refusal_in scene command ≡ None
    → scene.version < scene.bounds.max_commands
version-room scene command none =
    let causes = first_of-none (when (leb scene.bounds.max_commands scene.version) CommandsSpent)
    (cause_in scene command) none in
    leb-false scene.bounds.max_commands scene.version
    (when-none (leb scene.bounds.max_commands scene.version) CommandsSpent causes.0)

task-room : (scene : Scene) (task : ℕ) (spec : Specification) → refusal_in scene (SetTask task spec)
    ≡ None → is_default spec ≡ false → is_some (scene.task task) ≡ false
    → scene.task_count < scene.bounds.max_tasks
task-room scene task spec none set new =
    let causes = first_of-none (when (leb scene.bounds.max_commands scene.version) CommandsSpent)
    (cause_in scene (SetTask task spec)) none in
    let rest = first_of-none (when (has_no_node scene.allowed spec) NodesNotAllowed)
    (when (not (is_default spec)
    && (not (is_some (scene.task task)) && leb scene.bounds.max_tasks scene.task_count))
    TooManyTasks) causes.1 in
    let test =
    when-none (not (is_default spec)
    && (not (is_some (scene.task task)) && leb scene.bounds.max_tasks scene.task_count))
    TooManyTasks rest.1 in
    leb-false scene.bounds.max_tasks scene.task_count (rw (set, new) at test)

heir-room : (scene : Scene) (heir from : ℕ) → refusal_in scene (Inherit heir from) ≡ None
    → is_some (scene.task from) ≡ true → is_some (scene.task heir) ≡ false
    → scene.task_count < scene.bounds.max_tasks
heir-room scene heir from none held new =
    let causes = first_of-none (when (leb scene.bounds.max_commands scene.version) CommandsSpent)
    (cause_in scene (Inherit heir from)) none in
    let test =
    when-none (is_some (scene.task from)
    && (not (is_some (scene.task heir)) && leb scene.bounds.max_tasks scene.task_count))
    TooManyTasks causes.1 in
    leb-false scene.bounds.max_tasks scene.task_count (rw (held, new) at test)

-- ---- what is in force

-- some nodes are allowed, all of them with memory, and each record of a page or a task is in force
pub record AreInForce (machine : Hardware) (allowed : ℕ) (pages : PageMap)
    (tasks : ℕ → Option PolicyRecord) : Type 0 where
  pub some : allowed ≢ 0
  pub memory : both allowed machine.memory ≡ allowed
  pub at_pages : (page : ℕ) → PageHolds machine allowed (pages page)
  pub at_tasks : (task : ℕ) → Holds machine allowed (tasks task)

module _ (scene : Scene) (small : scene.machine.memory < 2 ^ 256)
    (force : AreInForce scene.machine scene.allowed scene.pages scene.task) where
  -- the machine has a node with memory
  memory : scene.machine.memory ≢ 0
  memory = memory-some scene.allowed scene.machine.memory force.some force.memory

  some-next : (command : Command) → refusal_in scene command ≡ None
      → allowed_next scene.machine scene.allowed command ≢ 0
  some-next (Map start bytes offset size) none = force.some
  some-next (Unmap start bytes) none = force.some
  some-next (Mbind start bytes spec) none = force.some
  some-next (SetTask task spec) none = force.some
  some-next (Inherit heir from) none = force.some
  some-next (SetHome start bytes node) none = force.some
  some-next (SetWeight node weight) none = force.some
  some-next (SetMems mask) none = mems-some scene mask memory none

  memory-next : (command : Command) → both (allowed_next scene.machine scene.allowed command)
      scene.machine.memory ≡ allowed_next scene.machine scene.allowed command
  memory-next (Map start bytes offset size) = force.memory
  memory-next (Unmap start bytes) = force.memory
  memory-next (Mbind start bytes spec) = force.memory
  memory-next (SetTask task spec) = force.memory
  memory-next (Inherit heir from) = force.memory
  memory-next (SetHome start bytes node) = force.memory
  memory-next (SetWeight node weight) = force.memory
  memory-next (SetMems mask) = mems-memory scene.machine mask

  some-mems : (mask : ℕ) → refusal_in scene (SetMems mask) ≡ None
      → 0 < weight_of (mems_of scene.machine mask)
  some-mems mask none =
      weight-some (mems_of scene.machine mask)
      (small-inside (mems_of scene.machine mask) scene.machine.memory
      (mems-memory scene.machine mask) small) (mems-some scene mask memory none)

  page-next : (command : Command) (page : ℕ) → refusal_in scene command ≡ None
      → PageHolds scene.machine (allowed_next scene.machine scene.allowed command)
      (pages_next scene.machine scene.allowed scene.pages command page)
  page-next (Map start bytes offset size) page none =
      cond_both (in_pages (page_of start) (page_count (whole size bytes)) page)
      (Some (index_in size offset + (page - page_of start), None)) (scene.pages page)
      (PageHolds scene.machine scene.allowed) (λ e. tt) (λ e. force.at_pages page)
  page-next (Unmap start bytes) page none =
      cond_both (in_pages (page_of start) (page_count bytes) page) None (scene.pages page)
      (PageHolds scene.machine scene.allowed) (λ e. tt) (λ e. force.at_pages page)
  page-next (Mbind start bytes spec) page none =
      cond_both (in_pages (page_of start) (page_count bytes) page)
      (changed_page (λ r. record_now scene.allowed spec) (scene.pages page)) (scene.pages page)
      (PageHolds scene.machine scene.allowed)
      (λ e. page-changed scene.machine scene.allowed scene.allowed
      (λ r. record_now scene.allowed spec) (scene.pages page)
      (λ r h. holds-now scene.machine scene.allowed spec force.memory) (force.at_pages page))
      (λ e. force.at_pages page)
  page-next (SetTask task spec) page none = force.at_pages page
  page-next (Inherit heir from) page none = force.at_pages page
  page-next (SetHome start bytes node) page none =
      cond_both (in_pages (page_of start) (page_count bytes) page)
      (changed_page (policy_with_home node) (scene.pages page)) (scene.pages page)
      (PageHolds scene.machine scene.allowed)
      (λ e. page-changed scene.machine scene.allowed scene.allowed (policy_with_home node)
      (scene.pages page)
      (λ r h. holds-homed scene.machine scene.allowed node r
      (home-node scene start bytes node none) h) (force.at_pages page))
      (λ e. force.at_pages page)
  page-next (SetWeight node weight) page none = force.at_pages page
  page-next (SetMems mask) page none =
      page-changed scene.machine scene.allowed (mems_of scene.machine mask)
      (policy_after scene.machine.rules scene.allowed (mems_of scene.machine mask))
      (scene.pages page)
      (λ r h. holds-rebound scene.machine scene.allowed (mems_of scene.machine mask) r
      (some-mems mask none) (memory-next (SetMems mask)) h) (force.at_pages page)

  held-next : (command : Command) (task : ℕ) → refusal_in scene command ≡ None
      → Holds scene.machine (allowed_next scene.machine scene.allowed command)
      (task_next scene.machine scene.allowed scene.task command task)
  held-next (Map start bytes offset size) task none = force.at_tasks task
  held-next (Unmap start bytes) task none = force.at_tasks task
  held-next (Mbind start bytes spec) task none = force.at_tasks task
  held-next (SetTask set spec) task none = cond_both (eqb set task) (record_now scene.allowed spec)
      (scene.task task) (Holds scene.machine scene.allowed)
      (λ e. holds-now scene.machine scene.allowed spec force.memory) (λ e. force.at_tasks task)
  held-next (Inherit heir from) task none = cond_both (eqb heir task) (scene.task from)
      (scene.task task) (Holds scene.machine scene.allowed) (λ e. force.at_tasks from)
      (λ e. force.at_tasks task)
  held-next (SetHome start bytes node) task none = force.at_tasks task
  held-next (SetWeight node weight) task none = force.at_tasks task
  held-next (SetMems mask) task none = holds-rebound scene.machine scene.allowed
      (mems_of scene.machine mask) (scene.task task) (some-mems mask none)
      (memory-next (SetMems mask)) (force.at_tasks task)

  -- what is in force after an accepted command
  pub in_force-next : (command : Command) → refusal_in scene command ≡ None
      → AreInForce scene.machine (allowed_next scene.machine scene.allowed command)
      (pages_next scene.machine scene.allowed scene.pages command)
      (task_next scene.machine scene.allowed scene.task command)
  in_force-next command none = record {
    some = some-next command none;
    memory = memory-next command;
    at_pages = λ page. page-next command page none;
    at_tasks = λ task. held-next command task none;
  }

-- ---- the parts of a space

module _ (old : SpaceState) (sound : IsSound old) (small : old.machine.memory < 2 ^ 256) where
  page-old : (page : ℕ) → PageHolds old.machine old.allowed (page_at old.ranges page)
  page-old page = of (page_at old.ranges page) (sound.pages page)
    where
      of : (o : Option (ℕ × Option PolicyRecord))
          → ForSome o (λ at. ForSome at.1 (IsInForce old.machine old.allowed))
          → PageHolds old.machine old.allowed o
      of None h = tt
      of (Some at) h = if_some-from_for at.1 (IsInForce old.machine old.allowed) (h at refl)

  force-old : AreInForce old.machine old.allowed (page_at old.ranges) (record_of old.tasks)
  force-old = record {
    some = sound.allowed_some;
    memory = sound.allowed_memory;
    at_pages = page-old;
    at_tasks = λ task. if_some-from_for (record_of old.tasks task)
        (IsInForce old.machine old.allowed) (sound.tasks task);
  }

  -- a task's policy takes up one of the places for tasks
  task-counted : (tasks : List (ℕ × PolicyRecord)) (task : ℕ) → is_some (record_of tasks task)
      ≡ true → 0 < length tasks
  task-counted [] task h = absurd (cc)
  task-counted (one ∷ tasks) task h = omega arith

  task_limit-next : (command : Command) → refusal_in (scene_in old command) command ≡ None
      → task_count_next (record_of old.tasks) (length old.tasks) command ≤ old.bounds.max_tasks
  task_limit-next (Map start bytes offset size) none = sound.task_limit
  task_limit-next (Unmap start bytes) none = sound.task_limit
  task_limit-next (Mbind start bytes spec) none = sound.task_limit
  task_limit-next (SetTask task spec) none =
      elim (cases_Bool (is_default spec)) [
        | inl d ↦ rw d (omega (arith, sound.task_limit))
        | inr d ↦ elim (cases_Bool (is_some (record_of old.tasks task))) [
          | inl t ↦ rw (d, t) (omega (arith, sound.task_limit, task-counted old.tasks task t))
          | inr f ↦
              rw (d, f)
              (omega (arith, task-room (scene_in old (SetTask task spec)) task spec none d f))
        ]
      ]
  task_limit-next (Inherit heir from) none =
      elim (cases_Bool (is_some (record_of old.tasks from))) [
        | inr d ↦ rw d (omega (arith, sound.task_limit))
        | inl d ↦ elim (cases_Bool (is_some (record_of old.tasks heir))) [
          | inl t ↦ rw (d, t) (omega (arith, sound.task_limit, task-counted old.tasks heir t))
          | inr f ↦
              rw (d, f)
              (omega (arith, heir-room (scene_in old (Inherit heir from)) heir from none d f))
        ]
      ]
  task_limit-next (SetHome start bytes node) none = sound.task_limit
  task_limit-next (SetWeight node weight) none = sound.task_limit
  task_limit-next (SetMems mask) none = sound.task_limit

  -- all that holds of every space, after an accepted command
  pub sound-next : (new : SpaceState) (command : Command)
      → refusal_in (scene_in old command) command ≡ None → IsNext old command new → IsSound new
  sound-next new command none next =
      let allowed : allowed_next old.machine old.allowed command ≡ new.allowed = sym next.allowed in
      let machine : old.machine ≡ new.machine = sym next.machine in
      let max_tasks : new.bounds.max_tasks ≡ old.bounds.max_tasks =
      ap (λ b. b.max_tasks) next.bounds in
      let max_commands : new.bounds.max_commands ≡ old.bounds.max_commands =
      ap (λ b. b.max_commands) next.bounds in
      let force = in_force-next (scene_in old command) small force-old command none in
      record {
        allowed_some = λ empty. force.some (allowed ∙ empty);
        allowed_memory = (λ i. both (next.allowed i) (next.machine i).memory) ∙ force.memory
            ∙ allowed;
        pages = λ page. page-for new.machine new.allowed (page_at new.ranges page)
            (page-moved _ _ _ _ _ _ machine allowed (sym (next.pages page)) (force.at_pages page));
        tasks = λ task. for_some-from_if (record_of new.tasks task)
            (IsInForce new.machine new.allowed)
            (held-moved _ _ _ _ _ _ machine allowed (sym (next.tasks task)) (force.at_tasks task));
        task_limit = omega (arith, next.task_count, task_limit-next command none);
        version_limit =
            omega (arith, next.version, version-room (scene_in old command) command none);
      }

-- whatever the answer was
pub sound-answer : {A : Type 0} (old new : SpaceState) (command : Command) (result : Result A Refusal)
    → IsSound old → old.machine.memory < 2 ^ 256 → IsAnswer old command result new → IsSound new
sound-answer {A} old new command result sound small answer =
    go (refusal_in (scene_in old command) command) refl result answer
  where
    go : (o : Option Refusal) → refusal_in (scene_in old command) command ≡ o
        → (result : Result A Refusal) → AnswersBy o old command result new → IsSound new
    go None e (Ok u) h = sound-next old sound small new command e h
    go None e (Err r) h = subst IsSound (sym h.1) sound
    go (Some r) e result h = subst IsSound (sym h.1) sound

-- ---- a new space

pub sound-new : (space : SpaceState) → space.version ≡ 0 → space.allowed ≡ space.machine.memory
    → space.machine.memory ≢ 0 → space.ranges ≡ [] → space.tasks ≡ [] → IsSound space
sound-new space version allowed some ranges tasks = record {
  allowed_some = λ empty. some (sym allowed ∙ empty);
  allowed_memory = (λ i. both (allowed i) space.machine.memory)
      ∙ within-both space.machine.memory space.machine.memory (λ node member. member) ∙ sym allowed;
  pages = λ page. page-for space.machine space.allowed (page_at space.ranges page)
      (subst (λ runs. PageHolds space.machine space.allowed (page_at runs page)) (sym ranges) tt);
  tasks = λ task. for_some-from_if (record_of space.tasks task)
      (IsInForce space.machine space.allowed)
      (subst (λ held. Holds space.machine space.allowed (record_of held task)) (sym tasks) tt);
  task_limit = omega (arith, ap (λ l. length l) tasks);
  version_limit = omega (arith, version);
}
