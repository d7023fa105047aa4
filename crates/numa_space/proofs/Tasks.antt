-- What one command more makes of the tasks and of the weights.
use Rattle.std.proofs.Common.{◌≡◌, ℕ, ◌+◌, ◌-◌, Bool, true, IfSome, false, not, eqb, List, [], ◌∷◌}
use Rattle.std.proofs.Common.{◌++◌, length, filter, Option, Some, None, is_some, refl, sym, ap, ◌∙◌}
use Rattle.std.proofs.Common.{arith, inl, inr}
use Rattle.std.proofs.lemmas.Bool.{cases_Bool, eqb-true}
use Rattle.std.specs.Option.{option_map}
use Rattle.std.specs.List.{list_any}
use Rattle.std.specs.Prelude.{if◌then◌else◌, option_and_then}
use Rattle.numa_machine.specs.Machine.{Hardware}
use Rattle.numa_machine.specs.declared.rules.Rules.{Rules}
use Rattle.numa_mode.specs.Policy.{Specification, PolicyRecord, is_default, effect_after}
use Rattle.numa_space.specs.History.{Place, one_later}
use Rattle.numa_space.specs.Policies.{allowed_nodes, effective_set, record_set, sets_task}
use Rattle.numa_space.specs.Policies.{set_by_task, task_before, setter_of, task_record, tasks_of}
use Rattle.numa_space.specs.Policies.{node_weight, mems_of}
use Rattle.numa_space.specs.Steps.{record_now, policy_after, task_next, task_count_next}
use Rattle.numa_space.specs.Steps.{weight_next}
use Rattle.numa_requests.specs.declared.command.Command.{Command}
use Rattle.numa_requests.specs.declared.command.Command.TheVariants.{Map, Unmap, Mbind, SetTask}
use Rattle.numa_requests.specs.declared.command.Command.TheVariants.{Inherit, SetHome, SetWeight}
use Rattle.numa_requests.specs.declared.command.Command.TheVariants.{SetMems}
use Rattle.numa_space.proofs.Places.{changes_allowed, IsPlace, allowed-at_place, effective-now}
use Rattle.numa_space.proofs.Places.{effective-mems, effective-other}

-- ---- weights

pub weight-next : (history : List Command) (command : Command) (node : ℕ)
    → node_weight (command ∷ history) node ≡ weight_next (node_weight history) command node
weight-next history (Map start bytes offset size) node = refl
weight-next history (Unmap start bytes) node = refl
weight-next history (Mbind start bytes spec) node = refl
weight-next history (SetTask task spec) node = refl
weight-next history (Inherit heir from) node = refl
weight-next history (SetHome start bytes n) node = refl
weight-next history (SetWeight n weight) node = refl
weight-next history (SetMems mask) node = refl

-- ---- records

-- the command that set a task's policy stands in the history
setter-place : (task : ℕ) (history : List Command)
    → IfSome (setter_of task history) (IsPlace (λ c. true) history)
setter-place task [] = tt
setter-place task (command ∷ history) =
    elim (cases_Bool (sets_task task command)) [
      | inl e ↦ rw e (record { whole = refl; passes = refl })
      | inr e ↦
          rw e
          (later (setter_of (task_before command task) history)
          (setter-place (task_before command task) history))
    ]
  where
    later : (o : Option Place) → IfSome o (IsPlace (λ c. true) history)
        → IfSome (option_map (one_later command) o) (IsPlace (λ c. true) (command ∷ history))
    later None h = tt
    later (Some place) h = record { whole = ap (λ rest. command ∷ rest) h.whole; passes = refl }

-- the record of a task after a command that doesn't set it, from the place of the command that did
later-record : (machine : Hardware) (command : Command) (change : Option PolicyRecord
    → Option PolicyRecord) (o : Option Place) → change None ≡ None
    → ((place : Place) (task : ℕ) (spec : Specification) → o ≡ Some place
    → place.command ≡ SetTask task spec → record_set machine spec (one_later command place)
    ≡ change (record_set machine spec place))
    → option_and_then (λ place. set_by_task machine place.command place)
    (option_map (one_later command) o)
    ≡ change (option_and_then (λ place. set_by_task machine place.command place) o)
later-record machine command change None none h = sym none
later-record machine command change (Some place) none h = go place.command refl
  where
    go : (c : Command) → place.command ≡ c → set_by_task machine c (one_later command place)
        ≡ change (set_by_task machine c place)
    go (Map start bytes offset size) e = sym none
    go (Unmap start bytes) e = sym none
    go (Mbind start bytes spec) e = sym none
    go (SetTask task spec) e = h place task spec refl e
    go (Inherit heir from) e = sym none
    go (SetHome start bytes node) e = sym none
    go (SetWeight node weight) e = sym none
    go (SetMems mask) e = sym none

record-other : (machine : Hardware) (history : List Command) (task : ℕ) (command : Command)
    → changes_allowed command ≡ false
    → option_and_then (λ place. set_by_task machine place.command place)
    (option_map (one_later command) (setter_of task history)) ≡ task_record machine history task
record-other machine history task command same =
    later-record machine command (λ r. r) (setter_of task history) refl
    (λ place t spec found is i. if is_default spec then None else Some
    (record {
      spec = spec;
      effective = effective-other machine place.before place.after spec
          command same i;
      home = None;
      of_object = false;
    }))

record-mems : (machine : Hardware) (history : List Command) (task mask : ℕ)
    → option_and_then (λ place. set_by_task machine place.command place)
    (option_map (one_later (SetMems mask)) (setter_of task history)) ≡ policy_after machine.rules
    (allowed_nodes machine history) (mems_of machine mask) (task_record machine history task)
record-mems machine history task mask =
    later-record machine (SetMems mask)
    (policy_after machine.rules (allowed_nodes machine history) (mems_of machine mask))
    (setter_of task history) refl
    (λ place t spec found is.
    let here : IsPlace (λ c. true) history place = rw found at (setter-place task history) in
    go place spec (effective-mems machine place.before place.after spec mask
    ∙ ap
    (λ a. effect_after machine.rules spec (effective_set machine place.before place.after spec)
    a (mems_of machine mask))
    (allowed-at_place machine (λ c. true) history place (ap changes_allowed is) here)))
  where
    go : (place : Place) (spec : Specification)
        → effective_set machine place.before (SetMems mask ∷ place.after) spec
        ≡ effect_after machine.rules spec (effective_set machine place.before place.after spec)
        (allowed_nodes machine history) (mems_of machine mask)
        → record_set machine spec (one_later (SetMems mask) place) ≡ policy_after machine.rules
        (allowed_nodes machine history) (mems_of machine mask) (record_set machine spec place)
    go place spec moved =
        elim (cases_Bool (is_default spec)) [
          | inl d ↦ rw d refl
          | inr d ↦ rw d (λ i. Some (record {
            spec = spec;
            effective = moved i;
            home = None;
            of_object = false;
          }))
        ]

set-now : (machine : Hardware) (history : List Command) (command : Command) (spec : Specification)
    → record_set machine spec (record { before = history; command = command; after = [] })
    ≡ record_now (allowed_nodes machine history) spec
set-now machine history command spec =
    let now = effective-now machine history spec in
    elim (cases_Bool (is_default spec)) [
      | inl d ↦ rw d refl
      | inr d ↦ rw d (λ i. Some (record {
        spec = spec;
        effective = now i;
        home = None;
        of_object = false;
      }))
    ]

-- the record of each task after one command more
pub task-next : (machine : Hardware) (history : List Command) (command : Command) (task : ℕ)
    → task_record machine (command ∷ history) task ≡ task_next machine
    (allowed_nodes machine history) (task_record machine history) command task
task-next machine history (Map start bytes offset size) task =
    record-other machine history task (Map start bytes offset size) refl
task-next machine history (Unmap start bytes) task =
    record-other machine history task (Unmap start bytes) refl
task-next machine history (Mbind start bytes spec) task =
    record-other machine history task (Mbind start bytes spec) refl
task-next machine history (SetTask other spec) task =
    elim (cases_Bool (eqb other task)) [
      | inl e ↦ rw e (set-now machine history (SetTask other spec) spec)
      | inr e ↦ rw e (record-other machine history task (SetTask other spec) refl)
    ]
task-next machine history (Inherit heir from) task =
    elim (cases_Bool (eqb heir task)) [
      | inl e ↦ rw e (record-other machine history from (Inherit heir from) refl)
      | inr e ↦ rw e (record-other machine history task (Inherit heir from) refl)
    ]
task-next machine history (SetHome start bytes node) task =
    record-other machine history task (SetHome start bytes node) refl
task-next machine history (SetWeight node weight) task =
    record-other machine history task (SetWeight node weight) refl
task-next machine history (SetMems mask) task = record-mems machine history task mask

-- ---- how many tasks have a record

-- how often a task stands in a list
abbrev times : ℕ → List ℕ → ℕ
times task [] = 0
times task (other ∷ tasks) = (if eqb other task then 1 else 0) + times task tasks

times-append : (task : ℕ) (xs ys : List ℕ) → times task (xs ++ ys) ≡ times task xs + times task ys
times-append task [] ys = omega arith
times-append task (x ∷ xs) ys = omega (arith, times-append task xs ys)

-- leaving out one task
times-left_out : (task : ℕ) (tasks : List ℕ)
    → times task (filter (λ other. not (eqb other task)) tasks) ≡ 0
times-left_out task [] = refl
times-left_out task (x ∷ xs) =
    elim (cases_Bool (eqb x task)) [
      | inl e ↦ rw e (times-left_out task xs)
      | inr e ↦ rw (e, e) (omega (arith, times-left_out task xs))
    ]

times-others : (task gone : ℕ) (tasks : List ℕ) → eqb gone task ≡ false
    → times task (filter (λ other. not (eqb other gone)) tasks) ≡ times task tasks
times-others task gone [] ne = refl
times-others task gone (x ∷ xs) ne =
    elim (cases_Bool (eqb x gone)) [
      | inl e ↦ let same : eqb x task ≡ false = ap (λ k. eqb k task) (eqb-true x gone e) ∙ ne in
          rw (e, same) (omega (arith, times-others task gone xs ne))
      | inr e ↦ rw e (omega (arith, times-others task gone xs ne))
    ]

length-left_out : (task : ℕ) (tasks : List ℕ)
    → length (filter (λ other. not (eqb other task)) tasks) ≡ length tasks - times task tasks
length-left_out task tasks = omega (arith, both_parts task tasks)
  where
    both_parts : (task : ℕ) (tasks : List ℕ) → length (filter (λ other. not (eqb other task)) tasks)
        + times task tasks ≡ length tasks
    both_parts task [] = refl
    both_parts task (x ∷ xs) =
        elim (cases_Bool (eqb x task)) [
          | inl e ↦ rw e (omega (arith, both_parts task xs))
          | inr e ↦ rw e (omega (arith, both_parts task xs))
        ]

-- whether there is a record, as a number
abbrev one_if_some : Option PolicyRecord → ℕ
one_if_some r = if is_some r then 1 else 0

some-rebound : (rules : Rules) (old new : ℕ) (r : Option PolicyRecord)
    → is_some (policy_after rules old new r) ≡ is_some r
some-rebound rules old new None = refl
some-rebound rules old new (Some r) = refl

-- a task that stands so often in a list is in it, or isn't
among : (b : Bool) (task : ℕ) (tasks : List ℕ) → times task tasks ≡ (if b then 1 else 0)
    → list_any (λ other. eqb other task) tasks ≡ b
among true task [] h = absurd (omega (arith, h))
among false task [] h = refl
among true task (x ∷ xs) h = elim (cases_Bool (eqb x task)) [
  | inl e ↦ rw e refl
  | inr e ↦ let k : 0 + times task xs ≡ 1 = rw e at h in
      rw e (among true task xs (omega (arith, k)))
]
among false task (x ∷ xs) h = elim (cases_Bool (eqb x task)) [
  | inl e ↦ let k : 1 + times task xs ≡ 0 = rw e at h in absurd (omega (arith, k))
  | inr e ↦ let k : 0 + times task xs ≡ 0 = rw e at h in
      rw e (among false task xs (omega (arith, k)))
]

-- each task with a record stands once among those that have one, and no other task does
pub tasks-once : (machine : Hardware) (history : List Command) (task : ℕ)
    → times task (tasks_of history) ≡ one_if_some (task_record machine history task)
tasks-once machine [] task = refl
tasks-once machine (Map start bytes offset size ∷ history) task = tasks-once machine history task
    ∙ ap one_if_some (sym (task-next machine history (Map start bytes offset size) task))
tasks-once machine (Unmap start bytes ∷ history) task = tasks-once machine history task
    ∙ ap one_if_some (sym (task-next machine history (Unmap start bytes) task))
tasks-once machine (Mbind start bytes spec ∷ history) task = tasks-once machine history task
    ∙ ap one_if_some (sym (task-next machine history (Mbind start bytes spec) task))
tasks-once machine (SetTask other spec ∷ history) task =
    times-append task (if is_default spec then [] else other ∷ [])
    (filter (λ o. not (eqb o other)) (tasks_of history))
    ∙ elim (cases_Bool (eqb other task)) [
      | inl e ↦
          let gone : times task (filter (λ o. not (eqb o other)) (tasks_of history)) ≡ 0 =
          ap (λ k. times task (filter (λ o. not (eqb o k)) (tasks_of history)))
          (eqb-true other task e) ∙ times-left_out task (tasks_of history) in
          elim (cases_Bool (is_default spec)) [
            | inl d ↦ rw (e, d) (omega arith)
            | inr d ↦ rw (e, d, e) (omega arith)
          ]
      | inr e ↦
          let same = times-others task other (tasks_of history) e in
          let once = tasks-once machine history task in
          elim (cases_Bool (is_default spec)) [
            | inl d ↦ rw (e, d) (omega arith)
            | inr d ↦ rw (e, d, e) (omega arith)
          ]
    ]
    ∙ ap one_if_some (sym (task-next machine history (SetTask other spec) task))
tasks-once machine (Inherit heir from ∷ history) task =
    times-append task (if list_any (λ o. eqb o from) (tasks_of history) then heir ∷ [] else [])
    (filter (λ o. not (eqb o heir)) (tasks_of history))
    ∙ rw (among (is_some (task_record machine history from)) from (tasks_of history)
    (tasks-once machine history from)) (elim (cases_Bool (eqb heir task)) [
      | inl e ↦
          let gone : times task (filter (λ o. not (eqb o heir)) (tasks_of history)) ≡ 0 =
          ap (λ k. times task (filter (λ o. not (eqb o k)) (tasks_of history)))
          (eqb-true heir task e) ∙ times-left_out task (tasks_of history) in
          elim (cases_Bool (is_some (task_record machine history from))) [
            | inl d ↦ rw (e, d, e) (omega (arith, gone))
            | inr d ↦ rw (e, d) (omega (arith, gone))
          ]
      | inr e ↦
          let same = times-others task heir (tasks_of history) e in
          let once = tasks-once machine history task in
          elim (cases_Bool (is_some (task_record machine history from))) [
            | inl d ↦ rw (e, d, e) (omega (arith, same, once))
            | inr d ↦ rw (e, d) (omega (arith, same, once))
          ]
    ])
    ∙ ap one_if_some (sym (task-next machine history (Inherit heir from) task))
tasks-once machine (SetHome start bytes node ∷ history) task = tasks-once machine history task
    ∙ ap one_if_some (sym (task-next machine history (SetHome start bytes node) task))
tasks-once machine (SetWeight node weight ∷ history) task = tasks-once machine history task
    ∙ ap one_if_some (sym (task-next machine history (SetWeight node weight) task))
tasks-once machine (SetMems mask ∷ history) task = tasks-once machine history task
    ∙ ap (λ b. if b then 1 else 0)
    (sym (some-rebound machine.rules _ _ (task_record machine history task)))
    ∙ ap one_if_some (sym (task-next machine history (SetMems mask) task))

pub task_count-next : (machine : Hardware) (history : List Command) (command : Command)
    → length (tasks_of (command ∷ history)) ≡ task_count_next (task_record machine history)
    (length (tasks_of history)) command
task_count-next machine history (Map start bytes offset size) = refl
task_count-next machine history (Unmap start bytes) = refl
task_count-next machine history (Mbind start bytes spec) = refl
task_count-next machine history (SetTask task spec) =
    let rest = length-left_out task (tasks_of history) in
    let once = tasks-once machine history task in
    elim (cases_Bool (is_default spec)) [
      | inl d ↦ rw d (omega (arith, rest, once))
      | inr d ↦ rw d (omega (arith, rest, once))
    ]
task_count-next machine history (Inherit heir from) =
    let rest = length-left_out heir (tasks_of history) in
    let once = tasks-once machine history heir in
    let among_them = among (is_some (task_record machine history from)) from (tasks_of history)
    (tasks-once machine history from) in
    elim (cases_Bool (is_some (task_record machine history from))) [
      | inl d ↦ rw (among_them, d) (omega (arith, rest, once))
      | inr d ↦ rw (among_them, d) (omega (arith, rest, once))
    ]
task_count-next machine history (SetHome start bytes node) = refl
task_count-next machine history (SetWeight node weight) = refl
task_count-next machine history (SetMems mask) = refl
