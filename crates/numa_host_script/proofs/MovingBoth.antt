-- What an `mbind .. move` of a process with pages of 2 MiB makes of a host that answers it.
use Rattle.std.proofs.Common.{◌≡◌, ℕ, ◌+◌, suc, Bool, true, false, Option, Some, None, Result, Ok}
use Rattle.std.proofs.Common.{Err, List, [], ◌∷◌, length, refl, sym, ap, subst, ◌∙◌, arith}
use Rattle.std.specs.Option.{option_map}
use Rattle.std.specs.Prelude.{IfOk, IsSomeAnd, is_some, min}
use Rattle.numa_machine.specs.declared.no_memory.NoMemory.{NoMemory}
use Rattle.numa_maps.specs.Residents.{Kept}
use Rattle.numa_placed.specs.Binds.{Asked}
use Rattle.numa_requests.specs.declared.command.Command.{Command}
use Rattle.numa_requests.specs.declared.host_command.HostCommand.{HostCommand}
use Rattle.numa_requests.specs.declared.host_command.HostCommand.TheVariants.{In}
use Rattle.numa_requests.specs.declared.host_refusal.HostRefusal.{HostRefusal}
use Rattle.numa_requests.specs.declared.page_refusal.PlacedRefusal.TheVariants as cause
use Rattle.numa_requests.specs.declared.refusal.Refusal.{Refusal}
use Rattle.numa_host.specs.Processes.{commands_of, is_there, members_of}
use Rattle.numa_host.specs.Standing.{HostState, HostStandsFor, IsHostApplied, IsSpaceOf}
use Rattle.numa_space.specs.Refusals.{refusal_of}
use Rattle.numa_space.specs.Standing.{SpaceState, StandsFor}
use Rattle.numa_huge.specs.Huge.{HugePlaced}
use Rattle.numa_huge.specs.Moves.{HugeMemory, HugeWalk}
use Rattle.numa_huge.specs.Tallies.{IsWalk}
use Rattle.numa_huge.specs.declared.last.Flows.{Flows}
use Rattle.numa_host_huge.specs.Kept.{HugeKept, lying_of, place_in}
use Rattle.numa_host_huge.specs.Sharing.{Sharing, given_back as huge_back, given_if}
use Rattle.numa_host_huge.specs.Standing.{Changes as HugeChanges, HugeLies, IsSame}
use Rattle.numa_host_pages.specs.Homes.{taken_along}
use Rattle.numa_page_state.specs.Huge.{huge_sent, huge_walk}
use Rattle.numa_page_state.specs.Lying.{Lying, Process}
use Rattle.numa_page_state.specs.Lying.{process_in as process_by}
use Rattle.numa_page_state.specs.Outcomes.{Enough, Starved}
use Rattle.numa_page_state.specs.Sending.{asked_of, command_of, sent_in, tells_left, with_sent}
use Rattle.numa_page_state.specs.declared.last.Last.TheVariants as went
use Rattle.numa_page_state.specs.declared.sending.Rebinding.{Rebinding}
use Rattle.numa_page_state.specs.declared.sending.Sending.{Sending}
use Rattle.numa_page_state.specs.declared.sending.Toucher.{Toucher}
use Rattle.numa_page_state.specs.declared.state.PageState.{PageState}
use Rattle.numa_page_state.proofs.Asking.{settles}
use Rattle.numa_page_state.proofs.Few.{sent-few, walk-few}
use Rattle.numa_script.specs.declared.page_line.MoveWords.{MoveWords}
use Rattle.numa_script.specs.declared.reply.Reply.{Reply}
use Rattle.numa_script.specs.declared.reply.Reply.TheVariants as reply
use Rattle.numa_run.specs.Obeying.{toucher_of}
use Rattle.numa_run.specs.Replies.{Replied}
use Rattle.numa_host_script.specs.Hosts.{Hosting, Outcome}
use Rattle.numa_host_script.specs.Paging.{both_sent, lying_with, memory_at, own_cause, pages_at}
use Rattle.numa_host_script.specs.Paging.{pages_reply, process_in, sent_unless, sent_with}
use Rattle.numa_host_script.specs.Paging.{sent_where}
use Rattle.numa_host_script.specs.Standing.{HostRuns, IsFoundIn, SendsFound, SettlesIn}
use Rattle.numa_host_script.proofs.Bindings.{nobody-takes}
use Rattle.numa_host_script.proofs.Sharers.{kept-lying, place-there}
use Rattle.numa_host_script.proofs.Spaces.{own-space, same-process}

-- ---- they have been found to go

module _ (host : HostState) (huge : HugeKept) (state : PageState) (process : ℕ)
    (said : Rebinding) (words : MoveWords) (sent : Sending) (places : HugePlaced)
    (flows : Flows) where
  abbrev command : HostCommand
  command = In process (command_of said)

  -- memory lacked when the policy was to be set
  pub settles-starved : (new : HostState) (why : HostRefusal)
      → IsHostApplied host command (Err why) new
      → SettlesIn host huge state (Err (pages_reply cause.NoMemory)) new huge state process said
      words sent places flows
  settles-starved new why applied = λ at memory found there walks runs shares more lies. (
    Starved,
    refl,
    subst (λ (h : HostState). HostRuns h at) (sym applied.unchanged) runs,
    refl,
    shares,
  )

  -- the policy is set, and pages of both sizes went
  pub settles-done : (new : HostState) (version moved left : ℕ) (after : PageState)
      (huge_then : HugeKept) (late : Bool) → IsHostApplied host command (Ok tt) new
      → ((history : List HostCommand) → HostStandsFor new history → version ≡ length history)
      → after ≡ record {
        placed = sent.placed;
        rooms = sent.rooms;
        follows = state.follows;
        last = went.Pages (record {
          moved = sent.moved;
          left = sent.left;
          before = state.placed;
          after = sent.copy;
        });
        arrived = state.arrived;
      }
      → ((walk : HugeWalk) → IsWalk walk places flows → HugeChanges process huge huge_then
      (λ memory. record memory { pages = walk.huge; told = walk.told }))
      → moved ≡ min (sent.moved + length flows.moves.items) 18446744073709551615
      → left ≡ min (sent.left + flows.left) 18446744073709551615
      → late ≡ tells_left words.strict said.spec left
      → SettlesIn host huge state (Ok (reply.Sent version moved left late)) new huge_then after
      process said words sent places flows
  settles-done new version moved left after huge_then late applied counts is settles_huge moved_is
      left_is tells = λ at memory found there walks runs shares more lies.
      let owner : Process = process_in at process in
      let from : Lying = pages_at at process in
      let asked : Asked = asked_of owner said (toucher_of words) in
      let small = sent_in [] asked from in
      let memory_then : HugeMemory = huge_sent owner said (toucher_of words) memory in
      let lying : Lying = with_sent [] asked from in
      let shared : Sharing = huge_back process memory_then at.lying.huge in
      let ok = applied.ok at.history runs.stands in
      let counted : version ≡ suc (length at.history) = counts (command ∷ at.history) ok.1 in
      let few = sent-few [] asked from in
      let gone = walk-few owner said (toucher_of words) memory in
      let moved_so : small.moved + memory_then.told.moved ≡ moved = omega (
        arith,
        moved_is,
        few.0,
        gone.0,
        found.1.moved,
        walks.told.moved,
      ) in
      let left_so : small.left + memory_then.told.left ≡ left = omega (
        arith,
        left_is,
        few.1,
        gone.1,
        found.1.left,
        walks.told.left,
      ) in
      let late_so : tells_left words.strict said.spec (small.left + memory_then.told.left)
      ≡ late = ap (tells_left words.strict said.spec) left_so ∙ sym tells in
      let both_is : sent_unless Enough (own_cause at process (command_of said)) at process said
      words ≡ both_sent at process said words memory_then =
      ap (λ (o : Option Refusal). sent_where o Enough at process said words) found.0
      ∙ ap (λ (m : Option HugeMemory). sent_with m at process said words) there in
      let told : both_sent at process said words memory_then ≡ record {
        answer = Replied (reply.Sent version moved left late);
        history = command ∷ at.history;
        lying = taken_along process (record (lying_with at process lying) { huge = shared });
      } = λ i. record {
        answer = Replied (reply.Sent (sym counted i) (moved_so i) (left_so i) (late_so i));
        history = command ∷ at.history;
        lying = taken_along process (record (lying_with at process lying) { huge = shared });
      } in (
        lying,
        shared,
        both_is ∙ told,
        record {
          machine = applied.machine ∙ runs.machine;
          bounds = applied.bounds ∙ runs.bounds;
          stands = ok.1;
        },
        settles state sent after from [] asked is lies found.1,
        subst (λ (o : Option HugeMemory). HugeLies huge_then (given_if process
            (option_map (λ (m : HugeMemory). record m {
              pages = (huge_walk owner said (toucher_of words) memory).huge;
              told = (huge_walk owner said (toucher_of words) memory).told;
            }) o) at.lying.huge)) there
            (settles_huge (huge_walk owner said (toucher_of words) memory) walks at.lying.huge
            shares),
      )

-- ---- they are to be found

-- where nobody is there, nothing is owed
pub nobody-finds : (host new : HostState) (huge huge_then : HugeKept) (state after : PageState)
    (answer : Reply) (process : ℕ) (said : Rebinding) (words : MoveWords) (sent : Sending)
    → ((history : List HostCommand) → HostStandsFor host history
    → is_there (members_of history) process ≡ false)
    → SendsFound host huge state (Err answer) new huge_then after process said words sent
nobody-finds host new huge huge_then state after answer process said words sent nobody =
    λ at found runs shares more lies.
    absurd (nobody-takes at process (nobody at.history runs.stands) more)

module _ (host : HostState) (huge mid : HugeKept) (state : PageState) (process : ℕ)
    (said : Rebinding) (words : MoveWords) (sent : Sending) (space : SpaceState)
    (owns : (history : List HostCommand) → HostStandsFor host history
    → (is_there (members_of history) process ≡ true)
    × IsSpaceOf host.blank.machine host.blank.bounds
    (commands_of host.blank.machine history process) space)
    (same : IsSame huge mid) where
  -- memory lacks
  pub finds-starved :
      SendsFound host huge state (Err (pages_reply cause.NoMemory)) host mid state process said
      words sent
  finds-starved = λ at found runs shares more lies.
      (Starved, refl, runs, refl, same at.lying.huge shares)

  module _ (has : is_some (place_in process huge.sharers) ≡ true) (toucher : Toucher)
      (by : toucher ≡ toucher_of words)
      (result : Result (Option (HugePlaced × Flows)) NoMemory)
      (finds : (memory : HugeMemory) (history : List Command) (kept : Kept)
      → lying_of process huge ≡ memory.pages → StandsFor space history
      → refusal_of space.machine space.bounds history (command_of said) ≡ None
      → IfOk result (λ done. IsSomeAnd done (λ done. IsWalk
      (huge_walk (process_by space history kept) said toucher memory) done.0 done.1))) where
    abbrev FindsWalk : Process → Toucher → HugeMemory
        → Result (Option (HugePlaced × Flows)) NoMemory → Type 0
    FindsWalk owner from memory r = IfOk r (λ done. IsSomeAnd done (λ done. IsWalk
        (huge_walk owner said from memory) done.0 done.1))

    found-walk : (at : Hosting) → HostRuns host at → HugeLies huge at.lying.huge
        → IsFoundIn at process said words sent
        → (wanted : Result (Option (HugePlaced × Flows)) NoMemory) → result ≡ wanted
        → (memory : HugeMemory) × (memory_at at process ≡ Some memory)
        × FindsWalk (process_in at process) (toucher_of words) memory wanted
    found-walk at runs shares found wanted is =
        let there = place-there huge at.lying.huge process shares has in
        let memory : HugeMemory = there.0 in
        let history : List Command = commands_of at.machine at.history process in
        let own = own-space host at process space runs.machine runs.bounds
        (owns at.history runs.stands).1 in
        let free : refusal_of space.machine space.bounds history (command_of said) ≡ None =
        (λ i. refusal_of (own.machine i) (own.bounds i) history (command_of said)) ∙ found.0 in
        let all = finds memory history [] (kept-lying huge at.lying.huge process shares memory
        there.1) own.stands free in (
          memory,
          there.1,
          subst (λ (p : Process). FindsWalk p (toucher_of words) memory wanted)
              (same-process host at process space runs.machine runs.bounds
              (owns at.history runs.stands).1 [] refl)
              (subst (λ (t : Toucher). FindsWalk (process_by space history []) t memory wanted) by
              (subst (FindsWalk (process_by space history []) toucher memory) is all)),
        )

    -- pages of both sizes go
    pub finds-both : (answer : Result Reply Reply) (new : HostState) (huge_then : HugeKept)
        (after : PageState) (places : HugePlaced) (flows : Flows)
        → result ≡ Ok (Some (places, flows))
        → SettlesIn host mid state answer new huge_then after process said words sent places flows
        → SendsFound host huge state answer new huge_then after process said words sent
    finds-both (Ok told) new huge_then after places flows is settles =
        λ at found runs shares more lies.
        let w = found-walk at runs shares found (Ok (Some (places, flows))) is in
        settles at w.0 found w.1 w.2 runs (same at.lying.huge shares) more lies
    finds-both (Err told) new huge_then after places flows is settles =
        λ at found runs shares more lies.
        let w = found-walk at runs shares found (Ok (Some (places, flows))) is in
        settles at w.0 found w.1 w.2 runs (same at.lying.huge shares) more lies

    -- nothing refuses the policy
    pub finds-none : (answer : Reply) (new : HostState) (huge_then : HugeKept)
        (after : PageState) → result ≡ Ok None
        → SendsFound host huge state (Err answer) new huge_then after process said words sent
    finds-none answer new huge_then after is = λ at found runs shares more lies.
        absurd (found-walk at runs shares found (Ok None) is).2
