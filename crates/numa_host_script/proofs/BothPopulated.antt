-- What `populate` makes of a host, of a process some of whose pages have 2 MiB.
use Rattle.std.proofs.Common.{◌≡◌, ℕ, Bool, true, false, Option, Some, None, Result, Ok, Err}
use Rattle.std.proofs.Common.{List, [], refl, sym, ap, subst, ◌∙◌, length}
use Rattle.std.proofs.lemmas.Bool.{both_ways}
use Rattle.std.specs.Option.{option_map}
use Rattle.std.specs.Prelude.{◌&&◌, IsSomeAnd, if◌then◌else◌, is_some, not}
use Rattle.numa_host.specs.Processes.{commands_of, is_there, members_of}
use Rattle.numa_host.specs.Standing.{HostStandsFor, IsSpaceOf}
use Rattle.numa_huge.specs.Huge.{has_huge}
use Rattle.numa_huge.specs.Moves.{HugeMemory}
use Rattle.numa_host_huge.specs.Kept.{HugeKept, spots_in}
use Rattle.numa_host_huge.specs.Sharing.{Sharing, given_if, memory_in}
use Rattle.numa_host_huge.specs.Standing.{Changes as HugeChanges, HugeLies}
use Rattle.numa_host_pages.specs.Homes.{HostLying, pages_in, pages_lent, with_huge, with_pages}
use Rattle.numa_host_pages.specs.Standing.{AreOf, HostLies}
use Rattle.numa_host_pages.specs.declared.pages.HostPages.{HostPages}
use Rattle.numa_page_state.specs.Huge.{both_populated, has_huge_in, huge_count, huge_first}
use Rattle.numa_page_state.specs.Lying.{Ground, Lying, ground_in}
use Rattle.numa_page_state.specs.Outcomes.{Lack, Starved, is_starved}
use Rattle.numa_requests.specs.declared.host_command.HostCommand.{HostCommand}
use Rattle.numa_requests.specs.declared.page_refusal.PlacedRefusal.{PlacedRefusal}
use Rattle.numa_requests.specs.declared.page_refusal.PlacedRefusal.TheVariants.{NoMemory}
use Rattle.numa_space.specs.History.{page_count, page_of}
use Rattle.numa_space.specs.Standing.{SpaceState}
use Rattle.numa_script.specs.declared.page_line.PageLine.{PageLine}
use Rattle.numa_script.specs.declared.page_line.PageLine.TheVariants as page
use Rattle.numa_script.specs.declared.reply.Reply.{Reply}
use Rattle.numa_run.specs.PageLines.{touch_reply}
use Rattle.numa_host_script.specs.Hosts.{Hosting}
use Rattle.numa_host_script.specs.Paging.{both_populate, changed, memory_at, page_where}
use Rattle.numa_host_script.specs.Paging.{populate_told, populate_where, populated_both}
use Rattle.numa_host_script.specs.Paging.{populated_by, small_where, told_by}
use Rattle.numa_host_script.specs.Standing.{Changes, PopulatesIn, RunsAs, hosting_with}
use Rattle.numa_host_script.specs.declared.running.RunningHost.{RunningHost}
use Rattle.numa_host_script.proofs.Acted.{page_by, small_by}
use Rattle.numa_host_script.proofs.BothActed.{ChangesTo}
use Rattle.numa_host_script.proofs.BothTouched.{some-of}
use Rattle.numa_host_script.proofs.Lent.{given-are}
use Rattle.numa_host_script.proofs.Sharers.{has-in, has-there, huge-lies}
use Rattle.numa_host_script.proofs.Spaces.{same-ground}

-- there is no memory for the first pages of 4 KiB
pub first-starved : (pages pages_then : HostPages) (process : ℕ) (basis : Ground)
    (start bytes task cpu : ℕ)
    → has_huge (spots_in process pages.huge.sharers) (huge_first (page_of start))
    (huge_count (page_of start) (page_count bytes)) ≡ true
    → (at : HostLying) → HostLies pages at → pages_in process at.homes ≡ None
    → HostLies pages_then at
    → PopulatesIn at process basis start bytes task cpu (Err NoMemory) pages_then
first-starved pages pages_then process basis start bytes task cpu has at lies none then_lies =
    let there = has-there pages.huge at.huge process lies.huge (huge_first (page_of start))
    (huge_count (page_of start) (page_count bytes)) has in
    let memory : HugeMemory = there.0 in
    let so : populated_both Starved basis process start bytes task cpu memory at
    ≡ (Err NoMemory, at) =
    ap (λ (o : Option Lying). if not (is_some o) && true then (Err NoMemory, at)
    else populated_by (both_populated Starved basis start bytes task cpu memory
    (record (pages_lent process at) { begun = true })) process at) none in
    subst (λ (o : Option HugeMemory). IsSomeAnd o (λ m. (lacked : Lack)
    × ((populated_both lacked basis process start bytes task cpu m at).0 ≡ Err NoMemory)
    × HostLies pages_then (populated_both lacked basis process start bytes task cpu m at).1))
    (sym there.1) (
      Starved,
      ap (λ (p : Result (Unit {0}) PlacedRefusal × HostLying). p.0) so,
      subst (λ (p : Result (Unit {0}) PlacedRefusal × HostLying). HostLies pages_then p.1) (sym so)
          then_lies,
    )

-- what is lent leaves pages of 2 MiB as they are
pub never-gone : (pages lent : HostPages) (process start bytes : ℕ) (found : Bool)
    → has_huge (spots_in process pages.huge.sharers) (huge_first (page_of start))
    (huge_count (page_of start) (page_count bytes)) ≡ true
    → (at : HostLying) → HostLies pages at
    → HostLies lent (record at { homes = with_pages process None at.homes })
    → ((there : Sharing) → HugeLies lent.huge there
    → found ≡ has_huge_in (memory_in process there) (page_of start) (page_count bytes))
    → found ≡ false → ⊥
never-gone pages lent process start bytes found has at lies out finds absent =
    let there = has-there pages.huge at.huge process lies.huge (huge_first (page_of start))
    (huge_count (page_of start) (page_count bytes)) has in
    let so : found ≡ true = finds at.huge out.huge
    ∙ ap (λ (m : Option HugeMemory). has_huge_in m (page_of start) (page_count bytes)) there.1
    ∙ has-in pages.huge at.huge process lies.huge (page_of start) (page_count bytes) there.0
    there.1 has in
    both_ways found absent so

-- the processes stay
populated-are : (lacked : Lack) (basis : Ground) (process start bytes task cpu : ℕ)
    (memory : HugeMemory) (at : HostLying) (history : List HostCommand) → AreOf at history
    → AreOf (populated_both lacked basis process start bytes task cpu memory at).1 history
populated-are lacked basis process start bytes task cpu memory at history are =
    by (not (is_some (pages_in process at.homes)) && is_starved lacked)
    (both_populated lacked basis start bytes task cpu memory
    (record (pages_lent process at) { begun = true }))
  where
    by : (starved : Bool) (done : Result (Unit {0}) PlacedRefusal × (Lying × HugeMemory))
        → AreOf (if starved then (Err NoMemory, at) else populated_by done process at).1 history
    by true done = are
    by false (Err why, after) = given-are process after.0 at history are
    by false (Ok did, after) =
        let kept = given-are process after.0 at history are in
        record { order = kept.order; same = kept.same }

module _ (old : RunningHost) (process start bytes task cpu : ℕ) where
  abbrev said : PageLine
  said = page.Populate start bytes task cpu

  -- ---- of both sizes

  module _ (space : SpaceState)
      (owns : (history : List HostCommand) → HostStandsFor old.host history
      → (is_there (members_of history) process ≡ true)
      × IsSpaceOf old.host.blank.machine old.host.blank.bounds
      (commands_of old.host.blank.machine history process) space)
      (has : has_huge (spots_in process old.pages.huge.sharers) (huge_first (page_of start))
      (huge_count (page_of start) (page_count bytes)) ≡ true)
      (pages_then : HostPages) (result : Result (Unit {0}) PlacedRefusal)
      (populates : (at : HostLying) → HostLies old.pages at
      → PopulatesIn at process (ground_in space []) start bytes task cpu result pages_then) where
    abbrev new : RunningHost
    new = record { host = old.host; pages = pages_then }

    abbrev done_by : Ground → Lack → Hosting → HugeMemory
        → Result (Unit {0}) PlacedRefusal × HostLying
    done_by basis lacked at memory =
        populated_both lacked basis process start bytes task cpu memory at.lying

    abbrev ToPopulated : Hosting → HugeMemory → Type 0
    ToPopulated at memory = (lacked : Lack)
        × ((done_by (ground_in space []) lacked at memory).0 ≡ result)
        × HostLies pages_then (done_by (ground_in space []) lacked at memory).1

    populate-is : (at : Hosting) → RunsAs old at → (lacked : Lack) (memory : HugeMemory)
        → memory_at at process ≡ Some memory
        → page_by process said lacked at
        ≡ populate_told (done_by (ground_in space []) lacked at memory) at process
    populate-is at stands lacked memory is =
        let own = owns at.history stands.stands in
        let has_so = has-in old.pages.huge at.lying.huge process stands.lies.huge (page_of start)
        (page_count bytes) memory is has in
        ap (λ (b : Bool). page_where b lacked at process said) own.0
        ∙ ap (λ (m : Option HugeMemory).
        populate_where m lacked at process start bytes task cpu) is
        ∙ ap (λ (b : Bool). if b
        then both_populate lacked at process start bytes task cpu memory
        else changed lacked (record at {
          lying = with_huge process (record memory { arrived = None }) at.lying;
        }) process said) has_so
        ∙ ap (λ (g : Ground). populate_told (done_by g lacked at memory) at process)
        (sym (same-ground old.host at process space stands.machine stands.bounds own.1))

    populates-all : Changes old (touch_reply result) new process (page_by process said)
    populates-all = λ at stands.
        let t = some-of (memory_at at process) (ToPopulated at) (populates at.lying stands.lies) in
        let d = t.2 in
        let done = done_by (ground_in space []) d.0 at t.0 in
        let is = populate-is at stands d.0 t.0 t.1 in
        let are = populated-are d.0 (ground_in space []) process start bytes task cpu t.0 at.lying
        at.history stands.are in
        let then_so = subst (ChangesTo (touch_reply result) new process at) (sym is) (
          ap (λ (r : Result (Unit {0}) PlacedRefusal).
              told_by (touch_reply r) (length at.history) process done.1) d.1,
          record {
            machine = stands.machine;
            bounds = stands.bounds;
            stands = stands.stands;
            lies = d.2;
            are = are;
          },
        ) in
        (d.0, then_so.0, then_so.1)

    pub both-populates : (wanted : Result (Unit {0}) PlacedRefusal) → result ≡ wanted
        → Changes old (touch_reply wanted) new process (page_by process said)
    both-populates wanted is = subst (λ (r : Result (Unit {0}) PlacedRefusal).
        Changes old (touch_reply r) new process (page_by process said)) is populates-all

  -- ---- of 4 KiB alone

  module _ (there : (history : List HostCommand) → HostStandsFor old.host history
      → is_there (members_of history) process ≡ true)
      (none : (at : Hosting) → RunsAs old at
      → has_huge_in (memory_at at process) (page_of start) (page_count bytes) ≡ false)
      (huge : HugeKept)
      (forgets : HugeChanges process old.pages.huge huge
      (λ memory. record memory { arrived = None })) where
    abbrev pub forgotten : RunningHost
    forgotten = record { host = old.host; pages = record old.pages { huge = huge } }

    abbrev shared_then : Option HugeMemory → Sharing → Sharing
    shared_then memory at = given_if process
        (option_map (λ (m : HugeMemory). record m { arrived = None }) memory) at

    abbrev at_then : Option HugeMemory → Hosting → Hosting
    at_then memory at = record at {
      lying = record at.lying { huge = shared_then memory at.lying.huge };
    }

    small-where : (memory : Option HugeMemory) (lacked : Lack) (at : Hosting)
        → has_huge_in memory (page_of start) (page_count bytes) ≡ false
        → populate_where memory lacked at process start bytes task cpu
        ≡ changed lacked (at_then memory at) process said
    small-where None lacked at absent = refl
    small-where (Some memory) lacked at absent = ap (λ (b : Bool). if b
        then both_populate lacked at process start bytes task cpu memory
        else changed lacked (record at {
          lying = with_huge process (record memory { arrived = None }) at.lying;
        }) process said) absent

    pub small-populates : (new : RunningHost) (answer : Option Reply)
        → Changes forgotten answer new process (small_by process said)
        → Changes old answer new process (page_by process said)
    small-populates new answer changes = λ at stands.
        let here = there at.history stands.stands in
        let before : Hosting = at_then (memory_at at process) at in
        let runs : RunsAs forgotten before = record {
          machine = stands.machine;
          bounds = stands.bounds;
          stands = stands.stands;
          lies = huge-lies old.pages huge at.lying
              (shared_then (memory_at at process) at.lying.huge) stands.lies
              (forgets at.lying.huge stands.lies.huge);
          are = record { order = stands.are.order; same = stands.are.same };
        } in
        let d = changes before runs in
        let is : page_by process said d.0 at ≡ small_by process said d.0 before =
        ap (λ (b : Bool). page_where b d.0 at process said) here
        ∙ small-where (memory_at at process) d.0 at (none at stands)
        ∙ sym (ap (λ (b : Bool). small_where b d.0 before process said) here) in
        let then_so = subst (ChangesTo answer new process at) (sym is) (d.1, d.2) in
        (d.0, then_so.0, then_so.1)
