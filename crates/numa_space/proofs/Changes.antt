-- What the changes of a space's parts make of the space.
use Rattle.std.proofs.Common.{sym, ◌≡◌, ◌<◌, ◌+◌, ◌-◌, ◌%◌, ◌^◌, ℕ, Bool, true, false, not, ◌&&◌}
use Rattle.std.proofs.Common.{Option}
use Rattle.std.proofs.Common.{Some, None, is_some, Result, Ok, Err, List, [], ◌∷◌, length, refl, ap}
use Rattle.std.proofs.Common.{◌∙◌, subst, arith}
use Rattle.std.specs.Prelude.{if◌then◌else◌, nat_le, ◌==◌}
use Rattle.std.proofs.lemmas.Bool.{lt-leb}
use Rattle.numa_machine.specs.Sizes.{index_in, whole}
use Rattle.numa_machine.specs.declared.page_size.PageSize.{PageSize}
use Rattle.numa_machine.specs.declared.page_size.PageSize.TheVariants.{Small, Huge}
use Rattle.numa_machine.specs.declared.rules.Rules.{Rules}
use Rattle.numa_machine.specs.declared.rules.Rules.TheVariants.{Document, Linux}
use Rattle.numa_mode.specs.Policy.{Specification, PolicyRecord, is_default, record_when_set}
use Rattle.numa_ranges.specs.Runs.{page_at}
use Rattle.numa_ranges.specs.Maps.{any_page, changed_span, with_span, without_span}
use Rattle.numa_ranges.specs.declared.run.Run.{Run}
use Rattle.numa_space.specs.declared.change.Change.{Change}
use Rattle.numa_requests.specs.declared.command.Command.{Command}
use Rattle.numa_requests.specs.declared.command.Command.TheVariants.{Mbind, SetTask, Inherit}
use Rattle.numa_requests.specs.declared.command.Command.TheVariants.{Map, Unmap, SetHome}
use Rattle.numa_requests.specs.declared.refusal.Refusal.{Refusal}
use Rattle.numa_requests.specs.declared.refusal.Refusal.TheVariants.{Hole, NodesNotAllowed}
use Rattle.numa_requests.specs.declared.refusal.Refusal.TheVariants.{NoMemory, TooManyTasks}
use Rattle.numa_requests.specs.declared.refusal.Refusal.TheVariants.{Overlap, Unaligned}
use Rattle.numa_space.specs.Edits.{PageRanges, IsEdit, hole_cause, overlap_cause, too_many}
use Rattle.numa_space.specs.History.{page_of, page_count}
use Rattle.numa_machine.specs.Rules.{is_linux}
use Rattle.numa_space.specs.Refusals.{PageMap, bad_policy_span, bad_unmap_span, first_of}
use Rattle.numa_space.specs.Refusals.{has_no_node, passes_holes}
use Rattle.numa_space.specs.Refusals.{bind_cause, refusal_in, lacks_policy, takes_no_home}
use Rattle.numa_space.specs.Refusals.{bad_map_span, keeps_home, lacks_pages, parts_pages}
use Rattle.numa_space.specs.Refusals.{unaligned_offset, when}
use Rattle.numa_space.specs.Same.{same_record}
use Rattle.numa_space.specs.Standing.{SpaceState, lacks_place, record_of}
use Rattle.numa_space.specs.Steps.{IsAnswer, IsGiven, IsNext, scene_in, record_now}
use Rattle.numa_space.specs.Steps.{policy_with_home}
use Rattle.numa_space.proofs.Parting.{by_rules, lacks-first, parts_bound}

-- ---- pages that were edited

-- a command that no cause refuses but that of its edit, where the edit is done
pub edited-answer : (old : SpaceState) (command : Command) (after : PageMap) (limit : ℕ)
    (new : PageRanges) (cause : Option Refusal)
    → refusal_in (scene_in old command) command ≡ cause
    → (((page : ℕ) → page_at new.runs page ≡ after page)
    → IsNext old command (record old { ranges = new.runs; version = old.version + 1 }))
    → IsEdit cause after (record { runs = old.ranges; limit = limit }) (Ok (tt {0})) new
    → IsAnswer old command (Ok (tt {0}))
    (record old { ranges = new.runs; version = old.version + 1 })
edited-answer old command after limit new None e next edit = rw e (next edit)
edited-answer old command after limit new (Some cause) e next edit =
    let odd : ◌≡◌ {A = Result (Unit {0}) Refusal} (Ok (tt {0})) (Err cause) = edit.0 in absurd (cc)

module _ (old : SpaceState) (start bytes first count limit : ℕ) (new : PageRanges)
    (room : old.version < old.bounds.max_commands)
    (some : (bytes == 0) ≡ false) (is_first : first ≡ page_of start)
    (is_count : count ≡ page_count bytes) (is_limit : limit ≡ old.bounds.max_ranges) where
  abbrev unmapped : ℕ → ℕ → PageMap
  unmapped a b = without_span a b (page_at old.ranges)

  pub unmap-answer : bad_unmap_span old.machine.rules start bytes ≡ None
      → parts_pages (λ policy. false) (page_at old.ranges) first count ≡ false
      → IsEdit (too_many limit (unmapped first count)) (unmapped first count)
      (record { runs = old.ranges; limit = limit }) (Ok (tt {0})) new
      → IsAnswer old (Unmap start bytes) (Ok (tt {0}))
      (record old { ranges = new.runs; version = old.version + 1 })
  unmap-answer span whole edit =
      edited-answer old (Unmap start bytes) (unmapped first count) limit new
      (too_many limit (unmapped first count))
      (cause ∙ (λ i. too_many (sym is_limit i) (unmapped (sym is_first i) (sym is_count i))))
      (λ pages. record {
        machine = refl;
        bounds = refl;
        version = refl;
        allowed = refl;
        pages = λ page. pages page ∙ (λ i. unmapped (is_first i) (is_count i) page);
        tasks = λ task. refl;
        task_count = refl;
        weights = λ n. refl;
      }) edit
    where
      parts : parts_pages (λ policy. false) (page_at old.ranges) (page_of start)
          (page_count bytes) ≡ false
      parts = (λ i. parts_pages (λ policy. false) (page_at old.ranges) (sym is_first i)
          (sym is_count i)) ∙ whole

      cause : refusal_in (scene_in old (Unmap start bytes)) (Unmap start bytes)
          ≡ too_many old.bounds.max_ranges (unmapped (page_of start) (page_count bytes))
      cause = rw (lt-leb old.bounds.max_commands old.version room, span, some, parts) refl

  abbrev homed : ℕ → ℕ → ℕ → PageMap
  homed node a b = changed_span a b (policy_with_home node) (page_at old.ranges)

  pub home-answer : bad_policy_span old.machine.rules start bytes ≡ None
      → (node : ℕ) → node < old.machine.nodes
      → any_page (λ page. takes_no_home (page_at old.ranges page)) first count ≡ false
      → lacks_policy old.machine.rules (page_at old.ranges) first count ≡ false
      → parts_pages (keeps_home node) (page_at old.ranges) first count ≡ false
      → IsEdit (too_many limit (homed node first count)) (homed node first count)
      (record { runs = old.ranges; limit = limit }) (Ok (tt {0})) new
      → IsAnswer old (SetHome start bytes node) (Ok (tt {0}))
      (record old { ranges = new.runs; version = old.version + 1 })
  home-answer span node there homes policies whole edit =
      edited-answer old (SetHome start bytes node) (homed node first count) limit new
      (too_many limit (homed node first count))
      (cause ∙ (λ i. too_many (sym is_limit i) (homed node (sym is_first i) (sym is_count i))))
      (λ pages. record {
        machine = refl;
        bounds = refl;
        version = refl;
        allowed = refl;
        pages = λ page. pages page ∙ (λ i. homed node (is_first i) (is_count i) page);
        tasks = λ task. refl;
        task_count = refl;
        weights = λ n. refl;
      }) edit
    where
      takes : any_page (λ page. takes_no_home (page_at old.ranges page)) (page_of start)
          (page_count bytes) ≡ false
      takes = (λ i. any_page (λ page. takes_no_home (page_at old.ranges page)) (sym is_first i)
          (sym is_count i)) ∙ homes

      lacks : lacks_policy old.machine.rules (page_at old.ranges) (page_of start)
          (page_count bytes) ≡ false
      lacks = (λ i. lacks_policy old.machine.rules (page_at old.ranges) (sym is_first i)
          (sym is_count i)) ∙ policies

      parts : parts_pages (keeps_home node) (page_at old.ranges) (page_of start)
          (page_count bytes) ≡ false
      parts = (λ i. parts_pages (keeps_home node) (page_at old.ranges) (sym is_first i)
          (sym is_count i)) ∙ whole

      cause : refusal_in (scene_in old (SetHome start bytes node)) (SetHome start bytes node)
          ≡ too_many old.bounds.max_ranges (homed node (page_of start) (page_count bytes))
      cause = rw (
        lt-leb old.bounds.max_commands old.version room,
        span,
        lt-leb old.machine.nodes node there,
        some,
        takes,
        lacks,
        parts,
      ) refl

-- ---- an Mbind

module _ (old : SpaceState) (start bytes : ℕ) (spec : Specification)
    (room : old.version < old.bounds.max_commands)
    (span : bad_policy_span old.machine.rules start bytes ≡ None)
    (some : (bytes == 0) ≡ false) (node : has_no_node old.allowed spec ≡ false)
    (whole : parts_bound old spec (page_of start) (page_count bytes) ≡ false) where
  abbrev pub bound : ℕ → ℕ → Option PolicyRecord → PageMap
  bound first count policy = changed_span first count (λ r. policy) (page_at old.ranges)

  bind-cause : refusal_in (scene_in old (Mbind start bytes spec)) (Mbind start bytes spec)
      ≡ first_of (hole_cause (passes_holes old.machine.rules spec) (page_at old.ranges)
      (page_of start) (page_count bytes))
      (too_many old.bounds.max_ranges
      (bound (page_of start) (page_count bytes) (record_now old.allowed spec)))
  bind-cause = rw (lt-leb old.bounds.max_commands old.version room, span, some, node)
      (by_rules old.machine.rules
      (hole_cause (passes_holes old.machine.rules spec) (page_at old.ranges) (page_of start)
      (page_count bytes)) _
      ∙ lacks-first
      (lacks_pages (passes_holes old.machine.rules spec) (page_at old.ranges) (page_of start)
      (page_count bytes))
      (parts_pages (same_record (record_now old.allowed spec)) (page_at old.ranges)
      (page_of start) (page_count bytes))
      (too_many old.bounds.max_ranges
      (bound (page_of start) (page_count bytes) (record_now old.allowed spec))) whole)

  bind-next : (runs : List (Run (Option PolicyRecord)))
      → ((page : ℕ) → page_at runs page ≡ bound (page_of start) (page_count bytes)
      (record_now old.allowed spec) page)
      → IsNext old (Mbind start bytes spec)
      (record old { ranges = runs; version = old.version + 1 })
  bind-next runs pages = record {
    machine = refl;
    bounds = refl;
    version = refl;
    allowed = refl;
    pages = pages;
    tasks = λ task. refl;
    task_count = refl;
    weights = λ n. refl;
  }

  -- the space afterwards, which is the old one where the edit was refused
  abbrev pub bind-after : Result (Unit {0}) Refusal → PageRanges → SpaceState
  bind-after (Ok u) pages = record old { ranges = pages.runs; version = old.version + 1 }
  bind-after (Err r) pages = record old { ranges = pages.runs }

  by_result : (limit : ℕ) (new : PageRanges) (result : Result (Unit {0}) Refusal)
      (cause : Option Refusal) → refusal_in (scene_in old (Mbind start bytes spec))
      (Mbind start bytes spec) ≡ cause
      → IsEdit cause (bound (page_of start) (page_count bytes) (record_now old.allowed spec))
      (record { runs = old.ranges; limit = limit }) result new
      → IsAnswer old (Mbind start bytes spec) result (bind-after result new)
  by_result limit new (Ok u) None e edit = rw e (bind-next new.runs edit)
  by_result limit new (Err r) None e edit =
      rw e (edit.0, ap (λ (p : PageRanges). record old { ranges = p.runs }) edit.1)
  by_result limit new (Ok u) (Some cause) e edit = let odd : ◌≡◌ {A = Result (Unit {0}) Refusal}
      (Ok u) (Err cause) = edit.0 in absurd (cc)
  by_result limit new (Err r) (Some cause) e edit =
      rw e (edit.0, ap (λ (p : PageRanges). record old { ranges = p.runs }) edit.1)

  pub bind-answer : (first count limit : ℕ) (policy : Option PolicyRecord) (passes : Bool)
      (new : PageRanges) (result : Result (Unit {0}) Refusal)
      → first ≡ page_of start → count ≡ page_count bytes → limit ≡ old.bounds.max_ranges
      → policy ≡ record_now old.allowed spec → passes ≡ passes_holes old.machine.rules spec
      → IsEdit
      (first_of (hole_cause passes (page_at old.ranges) first count)
      (too_many limit (bound first count policy))) (bound first count policy)
      (record { runs = old.ranges; limit = limit }) result new
      → IsAnswer old (Mbind start bytes spec) result (bind-after result new)
  bind-answer first count limit policy passes new result is_first is_count is_limit is_policy
      is_passes edit =
      let P : ℕ → ℕ → ℕ → Option PolicyRecord → Type 0 = λ a b l p.
      IsEdit (first_of (hole_cause (passes_holes old.machine.rules spec) (page_at old.ranges) a
      b) (too_many l (bound a b p))) (bound a b p) (record { runs = old.ranges; limit = limit })
      result new in
      let placed : P (page_of start) (page_count bytes) old.bounds.max_ranges
      (record_now old.allowed spec) =
      subst (λ p. P (page_of start) (page_count bytes) old.bounds.max_ranges p) is_policy
      (subst (λ l. P (page_of start) (page_count bytes) l policy) is_limit
      (subst (λ b. P (page_of start) b limit policy) is_count
      (subst (λ a. P a count limit policy) is_first
      (subst (λ h.
      IsEdit (first_of (hole_cause h (page_at old.ranges) first count)
      (too_many limit (bound first count policy))) (bound first count policy)
      (record { runs = old.ranges; limit = limit }) result new) is_passes edit)))) in
      by_result limit new result
      (first_of (hole_cause (passes_holes old.machine.rules spec) (page_at old.ranges)
      (page_of start) (page_count bytes))
      (too_many old.bounds.max_ranges
      (bound (page_of start) (page_count bytes) (record_now old.allowed spec)))) bind-cause
      placed

module _ (old : SpaceState) (start bytes : ℕ) (spec : Specification)
    (room : old.version < old.bounds.max_commands)
    (span : bad_policy_span old.machine.rules start bytes ≡ None)
    (some : (bytes == 0) ≡ false) (node : has_no_node old.allowed spec ≡ true) where
  -- a policy without a node is refused, by the documents behind a hole
  pub bind-refused : (first count : ℕ) (refusal : Refusal) → first ≡ page_of start
      → count ≡ page_count bytes
      → refusal
      ≡ (if not (is_linux old.machine.rules)
      && any_page (λ page. not (is_some (page_at old.ranges page))) first count then Hole
      else NodesNotAllowed)
      → IsAnswer {A = Change} old (Mbind start bytes spec) (Err refusal) old
  bind-refused first count refusal is_first is_count is =
      go old.machine.rules refl
      (any_page (λ page. not (is_some (page_at old.ranges page))) (page_of start)
      (page_count bytes)) refl
      (is ∙ (λ i. if not (is_linux old.machine.rules)
      && any_page (λ page. not (is_some (page_at old.ranges page))) (is_first i) (is_count i)
      then Hole else NodesNotAllowed))
    where
      go : (r : Rules) → old.machine.rules ≡ r → (b : Bool)
          → any_page (λ page. not (is_some (page_at old.ranges page))) (page_of start)
          (page_count bytes) ≡ b
          → refusal
          ≡ (if not (is_linux old.machine.rules)
          && any_page (λ page. not (is_some (page_at old.ranges page))) (page_of start)
          (page_count bytes) then Hole else NodesNotAllowed)
          → IsAnswer {A = Change} old (Mbind start bytes spec) (Err refusal) old
      go Document rules true e is =
          let cause : refusal_in (scene_in old (Mbind start bytes spec)) (Mbind start bytes spec)
          ≡ Some Hole = rw (
            lt-leb old.bounds.max_commands old.version room,
            span,
            some,
            rules,
            e,
          ) refl in
          rw cause (ap Err (rw (rules, e) at is), refl)
      go Document rules false e is =
          let cause : refusal_in (scene_in old (Mbind start bytes spec)) (Mbind start bytes spec)
          ≡ Some NodesNotAllowed =
          rw (lt-leb old.bounds.max_commands old.version room, span, some, rules, e, node)
          refl in
          rw cause (ap Err (rw (rules, e) at is), refl)
      go Linux rules b e is =
          let cause : refusal_in (scene_in old (Mbind start bytes spec)) (Mbind start bytes spec)
          ≡ Some NodesNotAllowed =
          rw (lt-leb old.bounds.max_commands old.version room, span, some, rules, node) refl in
          rw cause (ap Err (rw rules at is), refl)

-- ---- a task's policy

-- at the least the task itself is one of those that have a policy
held : (tasks : List (ℕ × PolicyRecord)) (task : ℕ) → is_some (record_of tasks task) ≡ true
    → 0 < length tasks
held [] task h = absurd (cc)
held (one ∷ tasks) task h = omega arith

counted : (old : List (ℕ × PolicyRecord)) (task : ℕ) (r : Option PolicyRecord)
    → record_of old task ≡ r → length old + (if is_some r then 0 else 1)
    ≡ (length old - (if is_some r then 1 else 0)) + 1
counted old task None e = omega arith
counted old task (Some r) e = omega (arith, held old task (ap is_some e))

pub given-clear : (old new : List (ℕ × PolicyRecord)) (task : ℕ)
    → ((other : ℕ) → record_of new other ≡ if task == other then None else record_of old other)
    → length new + (if is_some (record_of old task) then 1 else 0) ≡ length old
    → IsGiven old task None new
given-clear old new task records count = record { records = records; count = omega arith }

pub given-set : (old new : List (ℕ × PolicyRecord)) (task : ℕ) (policy : PolicyRecord)
    → ((other : ℕ) → record_of new other
    ≡ if task == other then Some policy else record_of old other)
    → length new ≡ length old + (if is_some (record_of old task) then 0 else 1)
    → IsGiven old task (Some policy) new
given-set old new task policy records count = record {
  records = records;
  count = count ∙ counted old task (record_of old task) refl;
}

module _ (old : SpaceState) (task : ℕ) (spec : Specification)
    (room : old.version < old.bounds.max_commands) (node : has_no_node old.allowed spec ≡ false)
  where
    some-now : is_some (record_now old.allowed spec) ≡ not (is_default spec)
    some-now = go (is_default spec)
      where
        go : (b : Bool) → is_some (if b then None else Some (record_when_set spec old.allowed))
            ≡ not b
        go true = refl
        go false = refl

    one-now : ◌≡◌ {A = ℕ} (if is_some (record_now old.allowed spec) then 1 else 0)
        (if is_default spec then 0 else 1)
    one-now = go (is_default spec)
      where
        go : (b : Bool) → ◌≡◌ {A = ℕ}
            (if is_some (if b then None else Some (record_when_set spec old.allowed)) then 1 else 0)
            (if b then 0 else 1)
        go true = refl
        go false = refl

    pub set-some : is_some (record_now old.allowed spec) ≡ true → is_default spec ≡ false
    set-some h = go (is_default spec) (sym some-now ∙ h)
      where
        go : (b : Bool) → not b ≡ true → b ≡ false
        go false h = refl
        go true h = cc

    pub set-given : (tasks : List (ℕ × PolicyRecord))
        → (is_some (record_now old.allowed spec) && lacks_place old.bounds.max_tasks old.tasks task)
        ≡ false → IsGiven old.tasks task (record_now old.allowed spec) tasks
        → IsAnswer old (SetTask task spec) (Ok (tt {0}))
        (record old { tasks = tasks; version = old.version + 1 })
    set-given tasks fits given =
        let place : (not (is_default spec) && lacks_place old.bounds.max_tasks old.tasks task)
        ≡ false =
        ap (λ b. b && lacks_place old.bounds.max_tasks old.tasks task) (sym some-now) ∙ fits in
        let free : refusal_in (scene_in old (SetTask task spec)) (SetTask task spec) ≡ None =
        rw (lt-leb old.bounds.max_commands old.version room, node, place) refl in
        rw free (record {
          machine = refl;
          bounds = refl;
          version = refl;
          allowed = refl;
          pages = λ page. refl;
          tasks = given.records;
          task_count = given.count
              ∙ ap (λ n. (length old.tasks - (if is_some (record_of old.tasks task) then 1 else 0))
              + n) one-now;
          weights = λ n. refl;
        })

    pub set-refused : (refusal : Refusal) (tasks : List (ℕ × PolicyRecord))
        → is_some (record_now old.allowed spec) ≡ true
        → refusal ≡ (if lacks_place old.bounds.max_tasks old.tasks task then TooManyTasks
        else NoMemory) → tasks ≡ old.tasks
        → IsAnswer {A = Change} old (SetTask task spec) (Err refusal) (record old { tasks = tasks })
    set-refused refusal tasks some is same =
        go (lacks_place old.bounds.max_tasks old.tasks task) refl is
      where
        go : (b : Bool) → lacks_place old.bounds.max_tasks old.tasks task ≡ b
            → refusal ≡ (if b then TooManyTasks else NoMemory)
            → IsAnswer {A = Change} old (SetTask task spec) (Err refusal)
            (record old { tasks = tasks })
        go true e is =
            let cause : refusal_in (scene_in old (SetTask task spec)) (SetTask task spec)
            ≡ Some TooManyTasks =
            rw (lt-leb old.bounds.max_commands old.version room, node, set-some some, e) refl in
            rw cause (
              ap Err is,
              ap (λ (l : List (ℕ × PolicyRecord)). record old { tasks = l })
                  same,
            )
        go false e is =
            let cause : refusal_in (scene_in old (SetTask task spec)) (SetTask task spec) ≡ None =
            rw (lt-leb old.bounds.max_commands old.version room, node, set-some some, e) refl in
            rw cause (is, ap (λ (l : List (ℕ × PolicyRecord)). record old { tasks = l }) same)

-- ---- a policy that is inherited

module _ (old : SpaceState) (heir from : ℕ) (room : old.version < old.bounds.max_commands) where
  pub inherit-given : (tasks : List (ℕ × PolicyRecord))
      → (is_some (record_of old.tasks from) && lacks_place old.bounds.max_tasks old.tasks heir)
      ≡ false → IsGiven old.tasks heir (record_of old.tasks from) tasks
      → IsAnswer old (Inherit heir from) (Ok (tt {0}))
      (record old { tasks = tasks; version = old.version + 1 })
  inherit-given tasks fits given =
      let free : refusal_in (scene_in old (Inherit heir from)) (Inherit heir from) ≡ None =
      rw (lt-leb old.bounds.max_commands old.version room, fits) refl in
      rw free (record {
        machine = refl;
        bounds = refl;
        version = refl;
        allowed = refl;
        pages = λ page. refl;
        tasks = given.records;
        task_count = given.count;
        weights = λ n. refl;
      })

  pub inherit-refused : (refusal : Refusal) (tasks : List (ℕ × PolicyRecord))
      → is_some (record_of old.tasks from) ≡ true
      → refusal ≡ (if lacks_place old.bounds.max_tasks old.tasks heir then TooManyTasks
      else NoMemory) → tasks ≡ old.tasks
      → IsAnswer {A = Change} old (Inherit heir from) (Err refusal) (record old { tasks = tasks })
  inherit-refused refusal tasks some is same =
      go (lacks_place old.bounds.max_tasks old.tasks heir) refl is
    where
      go : (b : Bool) → lacks_place old.bounds.max_tasks old.tasks heir ≡ b
          → refusal ≡ (if b then TooManyTasks else NoMemory)
          → IsAnswer {A = Change} old (Inherit heir from) (Err refusal)
          (record old { tasks = tasks })
      go true e is =
          let cause : refusal_in (scene_in old (Inherit heir from)) (Inherit heir from)
          ≡ Some TooManyTasks =
          rw (lt-leb old.bounds.max_commands old.version room, some, e) refl in
          rw cause (ap Err is, ap (λ (l : List (ℕ × PolicyRecord)). record old { tasks = l }) same)
      go false e is =
          let cause : refusal_in (scene_in old (Inherit heir from)) (Inherit heir from) ≡ None =
          rw (lt-leb old.bounds.max_commands old.version room, some, e) refl in
          rw cause (is, ap (λ (l : List (ℕ × PolicyRecord)). record old { tasks = l }) same)
