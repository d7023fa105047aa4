-- What lines about pages make of a host, of a process some of whose pages have 2 MiB.
use Rattle.std.proofs.Common.{◌≡◌, ◌≢◌, ℕ, ◌+◌, ◌≤◌, Bool, true, false, Option, Some, None, List}
use Rattle.std.proofs.Common.{[], ◌∷◌, refl, sym, ap, subst, ◌∙◌, inl, inr, length, arith, eqb}
use Rattle.std.proofs.lemmas.Bool.{cases_Bool, eq-eqb}
use Rattle.std.specs.Option.{option_map}
use Rattle.std.specs.Prelude.{◌&&◌, if◌then◌else◌, is_some, min, not}
use Rattle.numa_host.specs.Processes.{commands_of, is_there, members_of}
use Rattle.numa_host.specs.Standing.{HostStandsFor}
use Rattle.numa_huge.specs.Moves.{HugeMemory, leave_all}
use Rattle.numa_host_huge.specs.Kept.{HugeKept}
use Rattle.numa_host_huge.specs.Sharing.{HugeHome, Sharing, given_back as huge_back, given_if}
use Rattle.numa_host_huge.specs.Sharing.{home_of, kept_of, lent as lent_pages, memory_in}
use Rattle.numa_host_huge.specs.Sharing.{moved_along, with_kept}
use Rattle.numa_host_huge.specs.Standing.{Changes as HugeChanges, HugeLies}
use Rattle.numa_host_pages.specs.Homes.{HostLying, given_back, pages_in, pages_lent}
use Rattle.numa_mask.specs.NodeSet.{both}
use Rattle.numa_page_state.specs.Huge.{has_huge_in, huge_followed}
use Rattle.numa_page_state.specs.Lying.{Ground, Lying, ground_of, motion}
use Rattle.numa_page_state.specs.Outcomes.{Enough, Lack, is_starved, moved_outcome}
use Rattle.numa_page_state.proofs.Few.{leave-few, motion-few}
use Rattle.numa_placed.specs.Refusals.{migrate_cause}
use Rattle.numa_requests.specs.declared.host_command.HostCommand.{HostCommand}
use Rattle.numa_requests.specs.declared.host_refusal.HostRefusal.TheVariants.{NoSuchProcess}
use Rattle.numa_requests.specs.declared.page_refusal.HugeRefusal.TheVariants as because
use Rattle.numa_space.specs.History.{page_count, page_of}
use Rattle.numa_space.specs.Policies.{allowed_nodes}
use Rattle.numa_script.specs.declared.page_line.PageLine.{PageLine}
use Rattle.numa_script.specs.declared.page_line.PageLine.TheVariants as page
use Rattle.numa_script.specs.declared.reply.Reply.{Reply}
use Rattle.numa_script.specs.declared.reply.Reply.TheVariants as reply
use Rattle.numa_run.specs.PageLines.{change_of, lack_reply, migrate_reply, shift_told}
use Rattle.numa_run.specs.Answering.{Answer, Replied, Shown, reply_in}
use Rattle.numa_run.proofs.Few.{moved-few}
use Rattle.numa_host_script.specs.Hosts.{Hosting, Outcome, with_reply}
use Rattle.numa_host_script.specs.Paging.{along_if, changed, memory_at, migrate_where, migrated_by}
use Rattle.numa_host_script.specs.Paging.{page_where, pages_changed, process_in, small_where}
use Rattle.numa_host_script.specs.Paging.{tells_move, told_by}
use Rattle.numa_host_script.specs.Standing.{Changes, RunsAs, hosting_with}
use Rattle.numa_host_script.specs.declared.running.RunningHost.{RunningHost}
use Rattle.numa_host_script.proofs.Acted.{page_by, small_by}
use Rattle.numa_host_script.proofs.Sharers.{huge-lies}

-- what a line came to, and the host after it
abbrev pub ChangesTo : Option Reply → RunningHost → ℕ → Hosting → Outcome → Type 0
ChangesTo answer new process at done =
    (done.answer ≡ told_by answer (length done.history) process done.lying)
    × RunsAs new (hosting_with at done)

-- what another line would come to
pub acts-as : (old new : RunningHost) (answer : Option Reply) (process : ℕ)
    (outcome other : Lack → Hosting → Outcome)
    → ((lacked : Lack) (at : Hosting) → RunsAs old at → outcome lacked at ≡ other lacked at)
    → Changes old answer new process other → Changes old answer new process outcome
acts-as old new answer process outcome other same changes = λ at stands.
    let d = changes at stands in
    let to = subst (ChangesTo answer new process at) (sym (same d.0 at stands)) (d.1, d.2) in
    (d.0, to.0, to.1)

-- a reply that changes nothing
pub acts-still : (running : RunningHost) (answer : Reply) (process : ℕ)
    (outcome : Lack → Hosting → Outcome) (lacked : Lack)
    → ((at : Hosting) → RunsAs running at → outcome lacked at ≡ with_reply answer at)
    → Changes running (Some answer) running process outcome
acts-still running answer process outcome lacked is = λ at stands.
    let to = subst (ChangesTo (Some answer) running process at) (sym (is at stands))
    (refl, stands) in
    (lacked, to.0, to.1)

-- nobody is there
pub page-nobody : (running : RunningHost) (process : ℕ) (said : PageLine)
    → ((history : List HostCommand) → HostStandsFor running.host history
    → is_there (members_of history) process ≡ false)
    → Changes running (Some (reply.HostRefused NoSuchProcess)) running process
    (page_by process said)
page-nobody running process said nobody =
    acts-still running (reply.HostRefused NoSuchProcess) process (page_by process said) Enough
    (λ at stands. ap (λ (b : Bool). page_where b Enough at process said)
    (nobody at.history stands.stands))

-- a line that is none of four is of pages of 4 KiB alone
pub other-acts : (old new : RunningHost) (answer : Option Reply) (process : ℕ) (said : PageLine)
    → ((start bytes node : ℕ) → said ≢ page.At start bytes node)
    → ((from to : ℕ) → said ≢ page.Migrate from to)
    → ((address node : ℕ) → said ≢ page.Move address node)
    → ((start bytes task cpu : ℕ) → said ≢ page.Populate start bytes task cpu)
    → said ≢ page.Moved → Changes old answer new process (small_by process said)
    → Changes old answer new process (page_by process said)
other-acts old new answer process said states migrates moves touches tells =
    acts-as old new answer process (page_by process said) (small_by process said)
    (λ lacked at stands. by (is_there (members_of at.history) process) lacked at said states
    migrates moves touches tells)
  where
    by : (there : Bool) (lacked : Lack) (at : Hosting) (line : PageLine)
        → ((start bytes node : ℕ) → line ≢ page.At start bytes node)
        → ((from to : ℕ) → line ≢ page.Migrate from to)
        → ((address node : ℕ) → line ≢ page.Move address node)
        → ((start bytes task cpu : ℕ) → line ≢ page.Populate start bytes task cpu)
        → line ≢ page.Moved
        → page_where there lacked at process line ≡ small_where there lacked at process line
    by false lacked at line s g m t l = refl
    by true lacked at (page.At start bytes node) s g m t l = absurd (s start bytes node refl)
    by true lacked at (page.Room node pages) s g m t l = refl
    by true lacked at (page.MemoryMigrate follows) s g m t l = refl
    by true lacked at (page.Migrate from to) s g m t l = absurd (g from to refl)
    by true lacked at (page.Move address node) s g m t l = absurd (m address node refl)
    by true lacked at (page.Populate start bytes task cpu) s g m t l =
        absurd (t start bytes task cpu refl)
    by true lacked at page.Rooms s g m t l = refl
    by true lacked at page.Moved s g m t l = absurd (l refl)

-- ---- at START LENGTH NODE

module _ (old : RunningHost) (process start bytes node : ℕ) (found : Bool)
    (has : (at : Hosting) → RunsAs old at
    → found ≡ has_huge_in (memory_at at process) (page_of start) (page_count bytes)) where
  abbrev said : PageLine
  said = page.At start bytes node

  -- a page of 2 MiB stands against it
  pub states-huge : ((history : List HostCommand) → HostStandsFor old.host history
      → is_there (members_of history) process ≡ true) → found ≡ true
      → Changes old (Some (reply.HugeRefused because.NotSupported)) old process
      (page_by process said)
  states-huge there is =
      acts-still old (reply.HugeRefused because.NotSupported) process (page_by process said) Enough
      (λ at stands. ap (λ (b : Bool). page_where b Enough at process said)
      (there at.history stands.stands)
      ∙ ap (λ (b : Bool). if b then with_reply (reply.HugeRefused because.NotSupported) at
      else changed Enough at process said) (sym (has at stands) ∙ is))

  pub states-small : (new : RunningHost) (answer : Option Reply) → found ≡ false
      → Changes old answer new process (small_by process said)
      → Changes old answer new process (page_by process said)
  states-small new answer none =
      acts-as old new answer process (page_by process said) (small_by process said)
      (λ lacked at stands. by (is_there (members_of at.history) process) lacked at stands)
    where
      by : (there : Bool) (lacked : Lack) (at : Hosting) → RunsAs old at
          → page_where there lacked at process said ≡ small_where there lacked at process said
      by true lacked at stands =
          ap (λ (b : Bool). if b then with_reply (reply.HugeRefused because.NotSupported) at
          else changed lacked at process said) (sym (has at stands) ∙ none)
      by false lacked at stands = refl

-- ---- what a change of pages of 4 KiB leaves

abbrev lent_lying : ℕ → HostLying → Lying
lent_lying process at = record (pages_lent process at) { begun = true }

-- whether memory lacks for the first ones
abbrev changed_by : Bool → Lack → Ground → ℕ → PageLine → HostLying → Option Reply × HostLying
changed_by starved lacked basis process line at = if starved then (Some (lack_reply line), at)
    else (
      (change_of lacked basis line (lent_lying process at)).0,
      given_back process (change_of lacked basis line (lent_lying process at)).1 at,
    )

-- those of 2 MiB
pub changed-huge : (there : Bool) (lacked : Lack) (at : Hosting) (process : ℕ) (said : PageLine)
    → (small_where there lacked at process said).lying.huge ≡ at.lying.huge
changed-huge false lacked at process said = refl
changed-huge true lacked at process said =
    let done = pages_changed lacked (ground_of (process_in at process)) process said at.lying in
    along (tells_move done.0) done.1
    ∙ by (not (is_some (pages_in process at.lying.homes)) && is_starved lacked)
  where
    along : (moves : Bool) (lying : HostLying) → (along_if moves process lying).huge ≡ lying.huge
    along true lying = refl
    along false lying = refl

    by : (starved : Bool) → (changed_by starved lacked (ground_of (process_in at process)) process
        said at.lying).1.huge ≡ at.lying.huge
    by true = refl
    by false = refl

-- and the commands
pub changed-history : (there : Bool) (lacked : Lack) (at : Hosting) (process : ℕ)
    (said : PageLine) → (small_where there lacked at process said).history ≡ at.history
changed-history false lacked at process said = refl
changed-history true lacked at process said = refl

pub reply-told : (answer : Option Reply) (version process : ℕ) (at : HostLying)
    → reply_in (told_by answer version process at) ≡ answer
reply-told None version process at = refl
reply-told (Some answer) version process at = refl

-- what is kept of a process that acted is what it left
kept-there : (process : ℕ) (memory : HugeMemory) (homes : List HugeHome)
    → home_of process (with_kept process memory homes) ≡ Some (kept_of process memory)
kept-there process memory [] = rw (eq-eqb process process refl) refl
kept-there process memory (home ∷ homes) =
    elim (cases_Bool (eqb home.id process)) [
      | inl e ↦ rw (e, eq-eqb process process refl) refl
      | inr e ↦ rw (e, e) (kept-there process memory homes)
    ]

pub given-there : (process : ℕ) (memory : HugeMemory) (at : Sharing)
    → memory_in process (huge_back process memory at) ≡ Some memory
given-there process memory at =
    ap (option_map (lent_pages memory.pages.pools)) (kept-there process memory at.homes)

-- pages of both sizes are so
pub both-runs : (mid : RunningHost) (huge : HugeKept) (at : Hosting) (done : Outcome)
    (shared : Sharing) (answer : Answer) → RunsAs mid (hosting_with at done) → HugeLies huge shared
    → RunsAs (record { host = mid.host; pages = record mid.pages { huge = huge } })
    (hosting_with at (record {
      answer = answer;
      history = done.history;
      lying = record done.lying { huge = shared };
    }))
both-runs mid huge at done shared answer runs shares = record {
  machine = runs.machine;
  bounds = runs.bounds;
  stands = runs.stands;
  lies = huge-lies mid.pages huge done.lying shared runs.lies shares;
  are = record { order = runs.are.order; same = runs.are.same };
}

-- ---- migrate FROM TO

answer-shift : (answer : Answer) (shift : ℕ × ℕ) → shift_told answer ≡ Some shift
    → answer ≡ Replied (reply.Moved shift.0 shift.1)
answer-shift (Shown text) shift is = absurd (cc)
answer-shift (Replied (reply.Moved moved left)) shift is =
    let same : (moved, left) ≡ shift = cc in
    ap (λ (s : ℕ × ℕ). Replied (reply.Moved s.0 s.1)) same
answer-shift (Replied answer) shift is = absurd (cc)

-- a reply that tells of a move tells of few
few-moved : (lacked : Lack) (basis : Ground) (process from to : ℕ) (at : HostLying)
    (moved left : ℕ)
    → (pages_changed lacked basis process (page.Migrate from to) at).0
    ≡ Some (reply.Moved moved left) → moved ≤ 8796093022208
few-moved lacked basis process from to at moved left is =
    by (not (is_some (pages_in process at.homes)) && is_starved lacked) is
  where
    by : (starved : Bool)
        → (changed_by starved lacked basis process (page.Migrate from to) at).0
        ≡ Some (reply.Moved moved left) → moved ≤ 8796093022208
    by true same = absurd (cc)
    by false same =
        let lying : Lying = lent_lying process at in
        let told : migrate_reply (moved_outcome lacked basis.kept
        (motion lying.room lying.spots from (both to basis.allowed))
        (migrate_cause basis.allowed to) lying).0 ≡ reply.Moved moved left = cc in
        moved-few lacked basis.kept (motion lying.room lying.spots from (both to basis.allowed))
        (migrate_cause basis.allowed to) lying moved left
        (motion-few lying.room lying.spots from (both to basis.allowed)) told

module _ (old mid : RunningHost) (process from to : ℕ) (answer : Option Reply)
    (changes : Changes old answer mid process (small_by process (page.Migrate from to))) where
  abbrev migrates : PageLine
  migrates = page.Migrate from to

  abbrev targets_at : Hosting → ℕ
  targets_at at = both to (allowed_nodes at.machine (commands_of at.machine at.history process))

  -- nothing moved
  stays : (there : Bool) (lacked : Lack) (at : Hosting)
      → shift_told (small_where there lacked at process migrates).answer ≡ None
      → page_where there lacked at process migrates ≡ small_where there lacked at process migrates
  stays false lacked at none = refl
  stays true lacked at none = by (memory_at at process)
    where
      by : (memory : Option HugeMemory) → migrate_where memory process from (targets_at at)
          (changed lacked at process migrates) ≡ changed lacked at process migrates
      by None = refl
      by (Some memory) = ap (λ (o : Option (ℕ × ℕ)). migrated_by o process from (targets_at at)
          memory (changed lacked at process migrates)) none

  pub migrate-stays : ((version process : ℕ) (at : HostLying)
      → None ≡ shift_told (told_by answer version process at))
      → Changes old answer mid process (page_by process migrates)
  migrate-stays none = λ at stands.
      let d = changes at stands in
      let done = small_by process migrates d.0 at in
      let is = stays (is_there (members_of at.history) process) d.0 at
      (ap shift_told d.1 ∙ sym (none (length done.history) process done.lying)) in
      let then_so = subst (ChangesTo answer mid process at) (sym is) (d.1, d.2) in
      (d.0, then_so.0, then_so.1)

  module _ (there : (history : List HostCommand) → HostStandsFor old.host history
      → is_there (members_of history) process ≡ true) (targets : ℕ)
      (go : (at : Hosting) → RunsAs old at → targets ≡ targets_at at) (huge_then : HugeKept)
      (shift : ℕ × ℕ) (more all : ℕ)
      (shifts : (version process : ℕ) (at : HostLying)
      → Some shift ≡ shift_told (told_by answer version process at))
      (follows : HugeChanges process mid.pages.huge huge_then (huge_followed true from targets))
      (also : (at : Sharing) → HugeLies huge_then at
      → more ≡ moved_along (memory_in process at))
      (sum : all ≡ min (shift.0 + more) 18446744073709551615) where
    abbrev new : RunningHost
    new = record { host = mid.host; pages = record mid.pages { huge = huge_then } }

    abbrev shared_then : Option HugeMemory → Sharing → Sharing
    shared_then memory at =
        given_if process (option_map (huge_followed true from targets) memory) at

    abbrev both_done : Outcome → Sharing → Outcome
    both_done done shared = record {
      answer = Replied (reply.Moved all shift.1);
      history = done.history;
      lying = record done.lying { huge = shared };
    }

    both-where : (memory : Option HugeMemory) (at : Hosting) (lacked : Lack)
        → memory_at at process ≡ memory → targets ≡ targets_at at
        → (changed lacked at process migrates).answer ≡ Replied (reply.Moved shift.0 shift.1)
        → HugeLies huge_then (shared_then memory at.lying.huge) → shift.0 ≤ 8796093022208
        → migrate_where memory process from (targets_at at) (changed lacked at process migrates)
        ≡ both_done (changed lacked at process migrates) (shared_then memory at.lying.huge)
    both-where None at lacked is goes answers lies few =
        let none : more ≡ 0 = also at.lying.huge lies ∙ ap moved_along is in
        let counts : shift.0 ≡ all = omega (arith, sum, none, few) in
        let done = changed lacked at process migrates in
        let same = changed-huge true lacked at process migrates in
        λ i. record {
          answer = (answers ∙ ap (λ (n : ℕ). Replied (reply.Moved n shift.1)) counts) i;
          history = done.history;
          lying = record done.lying { huge = same i };
        }
    both-where (Some memory) at lacked is goes answers lies few =
        let done = changed lacked at process migrates in
        let same = changed-huge true lacked at process migrates in
        let gone = leave-few from targets memory.pages.spots in
        let told : more ≡ leave_all from targets memory.pages.spots =
        also (shared_then (Some memory) at.lying.huge) lies
        ∙ ap moved_along (given-there process (huge_followed true from targets memory)
        at.lying.huge) in
        let counts : shift.0 + leave_all from targets memory.pages.spots ≡ all =
        omega (arith, sum, told, few, gone) in
        ap (λ (n : ℕ). migrate_where (Some memory) process from n done) (sym goes)
        ∙ ap (λ (a : Answer). migrated_by (shift_told a) process from targets memory done) answers
        ∙ (λ i. record {
          answer = Replied (reply.Moved (counts i) shift.1);
          history = done.history;
          lying = record done.lying {
            huge = huge_back process (huge_followed true from targets memory) (same i);
          };
        })

    pub migrate-both : Changes old (Some (reply.Moved all shift.1)) new process
        (page_by process migrates)
    migrate-both = λ at stands.
        let d = changes at stands in
        let here = there at.history stands.stands in
        let small = changed d.0 at process migrates in
        let s = subst (λ (b : Bool). ChangesTo answer mid process at
        (small_where b d.0 at process migrates)) here (d.1, d.2) in
        let answers : small.answer ≡ Replied (reply.Moved shift.0 shift.1) =
        answer-shift small.answer shift (ap shift_told s.0
        ∙ sym (shifts (length small.history) process small.lying)) in
        let did = pages_changed d.0 (ground_of (process_in at process)) process migrates at.lying in
        let replied : did.0 ≡ Some (reply.Moved shift.0 shift.1) =
        sym (reply-told did.0 (length at.history) process did.1) ∙ ap reply_in answers in
        let few = few-moved d.0 (ground_of (process_in at process)) process from to at.lying
        shift.0 shift.1 replied in
        let shares : HugeLies huge_then (shared_then (memory_at at process) at.lying.huge) =
        follows at.lying.huge (subst (HugeLies mid.pages.huge)
        (changed-huge true d.0 at process migrates) s.1.lies.huge) in
        let is : page_by process migrates d.0 at
        ≡ both_done small (shared_then (memory_at at process) at.lying.huge) =
        ap (λ (b : Bool). page_where b d.0 at process migrates) here
        ∙ both-where (memory_at at process) at d.0 refl (go at stands) answers shares few in
        let then_so = subst (ChangesTo (Some (reply.Moved all shift.1)) new process at) (sym is) (
          refl,
          both-runs mid huge_then at small (shared_then (memory_at at process) at.lying.huge)
              (Replied (reply.Moved all shift.1)) s.1 shares,
        ) in
        (d.0, then_so.0, then_so.1)
