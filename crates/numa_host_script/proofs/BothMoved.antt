-- What `move` makes of a host, of a process some of whose pages have 2 MiB.
use Rattle.std.proofs.Common.{◌≡◌, ℕ, Bool, true, false, Option, Some, None, Result, Ok, Err}
use Rattle.std.proofs.Common.{List, [], refl, sym, ap, subst, ◌∙◌, length}
use Rattle.std.proofs.lemmas.Bool.{both_ways}
use Rattle.std.specs.Option.{option_map}
use Rattle.std.specs.Prelude.{if◌then◌else◌, is_some}
use Rattle.numa_host.specs.Processes.{commands_of, is_there, members_of}
use Rattle.numa_host.specs.Standing.{HostStandsFor, IsSpaceOf}
use Rattle.numa_huge.specs.Huge.{HugeLying, node_of}
use Rattle.numa_huge.specs.Moves.{HugeMemory}
use Rattle.numa_host_huge.specs.Kept.{HugeKept, spots_in}
use Rattle.numa_host_huge.specs.Sharing.{Sharing, begun, given_back as huge_back, given_if}
use Rattle.numa_host_huge.specs.Standing.{Changes as HugeChanges, HugeLies, MovesIn}
use Rattle.numa_host_pages.specs.Homes.{HostLying, pages_in, rested, still_pages, taken_along}
use Rattle.numa_host_pages.specs.Homes.{with_huge}
use Rattle.numa_host_pages.specs.Standing.{AreOf, HostLies}
use Rattle.numa_host_pages.specs.declared.pages.HostPages.{HostPages}
use Rattle.numa_page_state.specs.Huge.{huge_at_address, huge_move, huge_move_cause}
use Rattle.numa_page_state.specs.Huge.{huge_move_lack, huge_page, huge_rested, move_lack_by}
use Rattle.numa_page_state.specs.Huge.{move_unless_lack}
use Rattle.numa_page_state.specs.Lying.{Ground, ground_in, ground_of}
use Rattle.numa_page_state.specs.Outcomes.{Lack}
use Rattle.numa_requests.specs.declared.host_command.HostCommand.{HostCommand}
use Rattle.numa_requests.specs.declared.host_refusal.HostRefusal.TheVariants.{NoSuchProcess}
use Rattle.numa_requests.specs.declared.page_refusal.MoveRefusal.{MoveRefusal}
use Rattle.numa_space.specs.Standing.{SpaceState}
use Rattle.numa_script.specs.declared.page_line.PageLine.{PageLine}
use Rattle.numa_script.specs.declared.page_line.PageLine.TheVariants as page
use Rattle.numa_script.specs.declared.reply.Reply.{Reply}
use Rattle.numa_script.specs.declared.reply.Reply.TheVariants as reply
use Rattle.numa_run.specs.Replies.{Answer, reply_in}
use Rattle.numa_host_script.specs.Hosts.{Hosting, Outcome}
use Rattle.numa_host_script.specs.Paging.{changed, huge_moved_by, memory_at, move_where, page_where}
use Rattle.numa_host_script.specs.Paging.{process_in, small_moved, small_where, tells_move, told_by}
use Rattle.numa_host_script.specs.Paging.{with_memory}
use Rattle.numa_host_script.specs.Standing.{Changes, RunsAs}
use Rattle.numa_host_script.specs.declared.running.RunningHost.{RunningHost}
use Rattle.numa_host_script.proofs.Acted.{page_by, small_by}
use Rattle.numa_host_script.proofs.BothActed.{ChangesTo, both-runs, changed-huge, reply-told}
use Rattle.numa_host_script.proofs.Lent.{along-are, pages-arrivals}
use Rattle.numa_host_script.proofs.Sharers.{given-same, huge-lies, kept-lying, page-there}
use Rattle.numa_host_script.proofs.Spaces.{same-ground}

-- what is refused changes nothing
refused-same : (first second : Option MoveRefusal) (page node : ℕ) (memory : HugeMemory)
    (why : MoveRefusal) → (move_unless_lack first second page node memory).0 ≡ Err why
    → (move_unless_lack first second page node memory).1 ≡ memory
refused-same (Some one) second page node memory why is = refl
refused-same None (Some one) page node memory why is = refl
refused-same None None page node memory why is = absurd (cc)

module _ (old : RunningHost) (process address node : ℕ) (space : SpaceState)
    (owns : (history : List HostCommand) → HostStandsFor old.host history
    → (is_there (members_of history) process ≡ true)
    × IsSpaceOf old.host.blank.machine old.host.blank.bounds
    (commands_of old.host.blank.machine history process) space)
    (has : is_some (spots_in process old.pages.huge.sharers (huge_page address)) ≡ true)
    (huge : HugeKept) (result : Result (Unit {0}) MoveRefusal)
    (moves : MovesIn process old.pages.huge result huge space address node) where
  abbrev said : PageLine
  said = page.Move address node

  abbrev done_by : Lack → HugeMemory → Result (Unit {0}) MoveRefusal × HugeMemory
  done_by lacked memory = huge_move lacked (ground_in space []) (huge_page address) node memory

  abbrev MovedTo : Hosting → HugeMemory → Type 0
  MovedTo at memory = (lacked : Lack) × ((done_by lacked memory).0 ≡ result)
      × HugeLies huge (huge_back process (done_by lacked memory).1 at.lying.huge)

  abbrev MovesAt : Hosting → Type 0
  MovesAt at = (memory : HugeMemory) × (memory_at at process ≡ Some memory) × MovedTo at memory

  found : (at : Hosting) → RunsAs old at → MovesAt at
  found at stands =
      let there = page-there old.pages.huge at.lying.huge process stands.lies.huge
      (huge_page address) has in (
        there.0,
        there.1,
        subst (λ (o : Option HugeMemory). MovedTo at (begun at.lying.huge.pools o)) there.1
            (moves at.lying.huge stands.lies.huge),
      )

  move-is : (at : Hosting) → RunsAs old at → (lacked : Lack) (memory : HugeMemory)
      → memory_at at process ≡ Some memory
      → page_by process said lacked at
      ≡ huge_moved_by node (done_by lacked memory) at process
  move-is at stands lacked memory is =
      let own = owns at.history stands.stands in
      let here : is_some (memory.pages.spots (huge_page address)) ≡ true =
      ap (λ (p : HugeLying). is_some (p.spots (huge_page address)))
      (sym (kept-lying old.pages.huge at.lying.huge process stands.lies.huge memory is)) ∙ has in
      ap (λ (b : Bool). page_where b lacked at process said) own.0
      ∙ ap (λ (m : Option HugeMemory). move_where m lacked at process address node) is
      ∙ ap (λ (b : Bool). if b
      then huge_moved_by node (huge_move lacked (ground_of (process_in at process))
      (huge_page address) node memory) at process
      else small_moved process memory (changed lacked at process said)) here
      ∙ ap (λ (g : Ground). huge_moved_by node (huge_move lacked g (huge_page address) node memory)
      at process)
      (sym (same-ground old.host at process space stands.machine stands.bounds own.1))

  -- it is refused
  pub huge-refused : (why : MoveRefusal) → result ≡ Err why
      → Changes old (Some (reply.MoveRefused why))
      (record { host = old.host; pages = record old.pages { huge = huge } }) process
      (page_by process said)
  huge-refused why fails = λ at stands.
      let new : RunningHost =
      record { host = old.host; pages = record old.pages { huge = huge } } in
      let f = found at stands in
      let memory : HugeMemory = f.0 in
      let lacked : Lack = f.2.0 in
      let ends : (done_by lacked memory).0 ≡ Err why = f.2.1 ∙ fails in
      let lies_at : Option ℕ = node_of (memory.pages.spots (huge_page address)) in
      let kept : (done_by lacked memory).1 ≡ memory = refused-same
      (huge_move_cause (ground_in space []).machine (ground_in space []).allowed node lies_at)
      (move_lack_by (huge_move_lack lacked (huge_page address) node lies_at memory.pages))
      (huge_page address) node memory why ends in
      let still : HugeLies huge at.lying.huge = subst (HugeLies huge)
      (ap (λ (m : HugeMemory). huge_back process m at.lying.huge) kept
      ∙ given-same process memory at.lying.huge f.1) f.2.2 in
      let is = move-is at stands lacked memory f.1
      ∙ ap (λ (r : Result (Unit {0}) MoveRefusal).
      huge_moved_by node (r, (done_by lacked memory).1) at process) ends in
      let then_so = subst (ChangesTo (Some (reply.MoveRefused why)) new process at) (sym is) (
        refl,
        record {
          machine = stands.machine;
          bounds = stands.bounds;
          stands = stands.stands;
          lies = huge-lies old.pages huge at.lying at.lying.huge stands.lies still;
          are = stands.are;
        },
      ) in
      (lacked, then_so.0, then_so.1)

  -- it moved
  pub huge-moves : result ≡ Ok tt → (pages_rest pages_then : HostPages)
      → ((at : HostLying) → HostLies (record old.pages { huge = huge }) at
      → HostLies pages_rest (still_pages process at))
      → ((at : HostLying) → HostLies pages_rest at
      → HostLies pages_then (taken_along process at))
      → Changes old (Some (reply.MovedTo node)) (record { host = old.host; pages = pages_then })
      process (page_by process said)
  huge-moves goes pages_rest pages_then rests along = λ at stands.
      let new : RunningHost = record { host = old.host; pages = pages_then } in
      let f = found at stands in
      let lacked : Lack = f.2.0 in
      let after : HugeMemory = (done_by lacked f.0).1 in
      let is = move-is at stands lacked f.0 f.1
      ∙ ap (λ (r : Result (Unit {0}) MoveRefusal). huge_moved_by node (r, after) at process)
      (f.2.1 ∙ goes) in
      let shared : Sharing = huge_back process after at.lying.huge in
      let mid : HostLying = with_huge process after at.lying in
      let still : HostLying = still_pages process mid in
      let lies : HostLies pages_then (taken_along process still) =
      along still (rests mid (huge-lies old.pages huge at.lying shared stands.lies f.2.2)) in
      let are : AreOf still at.history = record {
        order = pages-arrivals process (rested (pages_in process at.lying.homes)) at.lying.homes
            ∙ stands.are.order;
        same = stands.are.same;
      } in
      let moved_are = along-are process still at.history are in
      let then_so = subst (ChangesTo (Some (reply.MovedTo node)) new process at) (sym is) (
        refl,
        record {
          machine = stands.machine;
          bounds = stands.bounds;
          stands = stands.stands;
          lies = lies;
          are = record { order = moved_are.order; same = moved_are.same };
        },
      ) in
      (lacked, then_so.0, then_so.1)

-- ---- move ADDR NODE, of a page of 4 KiB

module _ (old mid : RunningHost) (process address node : ℕ) (answer : Option Reply)
    (changes : Changes old answer mid process (small_by process (page.Move address node)))
    (none : (at : Hosting) → RunsAs old at
    → is_some (huge_at_address (memory_at at process) address) ≡ false) where
  abbrev moves : PageLine
  moves = page.Move address node

  abbrev small_of : Lack → Hosting → Outcome
  small_of lacked at = changed lacked at process moves

  small-move : (memory : HugeMemory) (lacked : Lack) (at : Hosting)
      → is_some (huge_at_address (Some memory) address) ≡ false
      → (tells : Bool) → tells_move (reply_in (small_of lacked at).answer) ≡ tells
      → move_where (Some memory) lacked at process address node
      ≡ (if tells then with_memory process (huge_rested memory) (small_of lacked at)
      else small_of lacked at)
  small-move memory lacked at absent tells is =
      ap (λ (b : Bool). if b
      then huge_moved_by node (huge_move lacked (ground_of (process_in at process))
      (huge_page address) node memory) at process
      else small_moved process memory (small_of lacked at)) absent
      ∙ ap (λ (b : Bool). if b then with_memory process (huge_rested memory) (small_of lacked at)
      else small_of lacked at) is

  -- it didn't move
  pub move-stays : tells_move answer ≡ false
      → Changes old answer mid process (page_by process moves)
  move-stays tells = λ at stands.
      let d = changes at stands in
      let done = small_by process moves d.0 at in
      let is = by (is_there (members_of at.history) process) d.0 at (none at stands)
      (ap (λ (a : Answer). tells_move (reply_in a)) d.1
      ∙ ap tells_move (reply-told answer (length done.history) process done.lying) ∙ tells) in
      let then_so = subst (ChangesTo answer mid process at) (sym is) (d.1, d.2) in
      (d.0, then_so.0, then_so.1)
    where
      by_memory : (memory : Option HugeMemory) (lacked : Lack) (at : Hosting)
          → is_some (huge_at_address memory address) ≡ false
          → tells_move (reply_in (small_of lacked at).answer) ≡ false
          → move_where memory lacked at process address node ≡ small_of lacked at
      by_memory None lacked at absent is = refl
      by_memory (Some memory) lacked at absent is = small-move memory lacked at absent false is

      by : (there : Bool) (lacked : Lack) (at : Hosting)
          → is_some (huge_at_address (memory_at at process) address) ≡ false
          → tells_move (reply_in (small_where there lacked at process moves).answer) ≡ false
          → page_where there lacked at process moves ≡ small_where there lacked at process moves
      by false lacked at absent is = refl
      by true lacked at absent is = by_memory (memory_at at process) lacked at absent is

  -- it moved, and no page of 2 MiB did
  module _ (tells : tells_move answer ≡ true) (huge_then : HugeKept)
      (rests : HugeChanges process mid.pages.huge huge_then huge_rested) where
    abbrev rested_host : RunningHost
    rested_host = record { host = mid.host; pages = record mid.pages { huge = huge_then } }

    abbrev shared_rest : Option HugeMemory → Sharing → Sharing
    shared_rest memory at = given_if process (option_map huge_rested memory) at

    abbrev rested_so : Outcome → Sharing → Outcome
    rested_so done shared = record {
      answer = done.answer;
      history = done.history;
      lying = record done.lying { huge = shared };
    }

    rest-where : (memory : Option HugeMemory) (lacked : Lack) (at : Hosting)
        → is_some (huge_at_address memory address) ≡ false
        → tells_move (reply_in (small_of lacked at).answer) ≡ true
        → move_where memory lacked at process address node
        ≡ rested_so (small_of lacked at) (shared_rest memory at.lying.huge)
    rest-where None lacked at absent is =
        let done = small_of lacked at in
        let same = changed-huge true lacked at process moves in
        λ i. record {
          answer = done.answer;
          history = done.history;
          lying = record done.lying { huge = same i };
        }
    rest-where (Some memory) lacked at absent is =
        let done = small_of lacked at in
        let same = changed-huge true lacked at process moves in
        small-move memory lacked at absent true is ∙ (λ i. record {
          answer = done.answer;
          history = done.history;
          lying = record done.lying { huge = huge_back process (huge_rested memory) (same i) };
        })

    by-there : (there : Bool) (at : Hosting) (lacked : Lack)
        → is_some (huge_at_address (memory_at at process) address) ≡ false
        → ChangesTo answer mid process at (small_where there lacked at process moves)
        → ChangesTo answer rested_host process at (page_where there lacked at process moves)
    by-there false at lacked absent d =
        let said : Some (reply.HostRefused NoSuchProcess) ≡ answer =
        ap reply_in d.0 ∙ reply-told answer (length at.history) process at.lying in
        absurd (both_ways (tells_move answer) (sym (ap tells_move said)) tells)
    by-there true at lacked absent d =
        let small = small_of lacked at in
        let moved = ap (λ (a : Answer). tells_move (reply_in a)) d.0
        ∙ ap tells_move (reply-told answer (length small.history) process small.lying) ∙ tells in
        let shares : HugeLies huge_then (shared_rest (memory_at at process) at.lying.huge) =
        rests at.lying.huge (subst (HugeLies mid.pages.huge)
        (changed-huge true lacked at process moves) d.1.lies.huge) in
        subst (ChangesTo answer rested_host process at)
        (sym (rest-where (memory_at at process) lacked at absent moved)) (
          told-same answer (length small.history) process small.lying
              (shared_rest (memory_at at process) at.lying.huge) small.answer d.0 tells,
          both-runs mid huge_then at small (shared_rest (memory_at at process) at.lying.huge)
              small.answer d.1 shares,
        )
      where
        told-same : (told : Option Reply) (version process : ℕ) (at : HostLying)
            (shared : Sharing) (a : Answer) → a ≡ told_by told version process at
            → tells_move told ≡ true
            → a ≡ told_by told version process (record at { huge = shared })
        told-same None version process at shared a is tells = absurd (both_ways false refl tells)
        told-same (Some answer) version process at shared a is tells = is

    pub move-rests : Changes old answer rested_host process (page_by process moves)
    move-rests = λ at stands.
        let d = changes at stands in
        let done = by-there (is_there (members_of at.history) process) at d.0 (none at stands)
        (d.1, d.2) in
        (d.0, done.0, done.1)
