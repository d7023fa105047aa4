-- What an `mbind .. move` makes of a running machine that keeps pages of 2 MiB.
use Rattle.std.proofs.Common.{◌≡◌, ℕ, ◌+◌, ◌<◌, ◌^◌, suc, Bool, Option, Some, None, Result}
use Rattle.std.proofs.Common.{Ok, Err, List, length, refl, sym, ap, subst, ◌∙◌, inl, inr, arith}
use Rattle.std.specs.Prelude.{IfOk, IsSomeAnd, min}
use Rattle.numa_machine.specs.Machine.{Hardware}
use Rattle.numa_machine.specs.declared.no_memory.NoMemory.{NoMemory}
use Rattle.numa_maps.specs.Residents.{Kept}
use Rattle.numa_placed.specs.Binds.{Asked}
use Rattle.numa_requests.specs.declared.command.Command.{Command}
use Rattle.numa_requests.specs.declared.page_refusal.PlacedRefusal.TheVariants as cause
use Rattle.numa_requests.specs.declared.refusal.Refusal.{Refusal}
use Rattle.numa_core.specs.Standing.{CoreState, setup_of}
use Rattle.numa_space.specs.Refusals.{refusal_of}
use Rattle.numa_space.specs.Standing.{SpaceState, StandsFor}
use Rattle.numa_huge.specs.Huge.{HugePlaced, places_of}
use Rattle.numa_huge.specs.Moves.{HugeMemory, HugeWalk}
use Rattle.numa_huge.specs.Tallies.{IsMemory, IsWalk}
use Rattle.numa_huge.specs.declared.last.Flows.{Flows}
use Rattle.numa_huge.specs.declared.pages.HugePages.{HugePages}
use Rattle.numa_page_state.specs.Huge.{huge_sent, huge_walk}
use Rattle.numa_page_state.specs.Lying.{Lying, Process}
use Rattle.numa_page_state.specs.Outcomes.{Enough, Lack, Starved}
use Rattle.numa_page_state.specs.Sending.{asked_of, command_of, sent_in, tells_left, with_sent}
use Rattle.numa_page_state.specs.Standing.{HasSent, Lies}
use Rattle.numa_page_state.specs.declared.sending.Rebinding.{Rebinding}
use Rattle.numa_page_state.specs.declared.sending.Sending.{Sending}
use Rattle.numa_page_state.specs.declared.sending.Toucher.{Toucher}
use Rattle.numa_page_state.specs.declared.state.PageState.{PageState}
use Rattle.numa_script.specs.declared.page_line.MoveWords.{MoveWords}
use Rattle.numa_script.specs.declared.reply.Reply.TheVariants as reply
use Rattle.numa_run.specs.Answering.{Served, with_reply}
use Rattle.numa_run.specs.HugeLines.{memory_on}
use Rattle.numa_run.specs.Obeying.{accepted_outcome, both_sent, command_reply, sent_unless}
use Rattle.numa_run.specs.Obeying.{sent_where, sent_with, toucher_of}
use Rattle.numa_run.specs.Standing.{IsFound, RunsAs, ServesIn}
use Rattle.numa_run.specs.States.{State, process_on}
use Rattle.numa_run.specs.declared.running.Running.{Running}
use Rattle.numa_run.proofs.Accepting.{Accepts, accepted-is, runs-both, runs-then, served}
use Rattle.numa_run.proofs.Accepting.{starved-or, state_then}
use Rattle.numa_run.proofs.Binds.{accepted-version}
use Rattle.numa_page_state.proofs.Few.{sent-few, walk-few}
use Rattle.numa_run.proofs.Keeping.{kept-memory, kept-some}
use Rattle.numa_run.proofs.Processes.{process-same, process_by}

module _ (old : Running) (said : Rebinding) (words : MoveWords) where
  abbrev pub sends_both : Lack → Hardware → State → Served
  sends_both lack machine state = sent_unless lack
      (refusal_of machine state.bounds state.world.history (command_of said)) machine state said
      words

  abbrev process : State → Process
  process state = process_on old.core.space.machine state

  abbrev memory : State → HugeMemory
  memory state = memory_on old.core.space.machine state

  abbrev pub walk_of : State → HugeWalk
  walk_of state = huge_walk (process state) said (toucher_of words) (memory state)

  -- memory lacks
  pub both-starved : (state : State) → RunsAs old state
      → ServesIn old (command_reply cause.NoMemory) old sends_both state
  both-starved state stands =
      served old old (command_reply cause.NoMemory) sends_both state state Starved refl stands

  -- what `huge_sent_from` has found
  pub walk-found : (kept : HugePages) (is : old.huge ≡ Some kept)
      (result : Result (Option (HugePlaced × Flows)) NoMemory)
      (space : SpaceState) → space ≡ old.core.space
      → (toucher : Toucher) → toucher ≡ toucher_of words
      → ((memory : HugeMemory) (history : List Command) (held : Kept)
      → places_of kept.places ≡ memory.pages → StandsFor space history
      → refusal_of space.machine space.bounds history (command_of said) ≡ None
      → IfOk result (λ done. IsSomeAnd done (λ done. IsWalk
      (huge_walk (process_by space history held) said toucher memory) done.0 done.1)))
      → (state : State) → RunsAs old state → (sent : Sending)
      → IsFound old.core.space.machine state said words sent
      → IfOk result (λ done. IsSomeAnd done (λ done. IsWalk (walk_of state) done.0 done.1))
  walk-found kept is result space here toucher by finds state stands sent found =
      let all = finds (memory state) state.world.history old.resident
      (kept-memory old kept is state stands).pages
      (subst (λ (s : SpaceState). StandsFor s state.world.history) (sym here)
      stands.core.world.space)
      ((λ i. refusal_of (here i).machine (here i).bounds state.world.history (command_of said))
      ∙ (λ i. refusal_of old.core.space.machine (sym stands.core.bounds i) state.world.history
      (command_of said)) ∙ found.0) in
      subst (λ (p : Process). IfOk result (λ done. IsSomeAnd done (λ done. IsWalk
      (huge_walk p said (toucher_of words) (memory state)) done.0 done.1)))
      (process-same old state stands)
      (subst (λ (t : Toucher). IfOk result (λ done. IsSomeAnd done (λ done. IsWalk
      (huge_walk (process_by old.core.space state.world.history old.resident) said t
      (memory state)) done.0 done.1))) by
      (subst (λ (s : SpaceState). IfOk result (λ done. IsSomeAnd done (λ done. IsWalk
      (huge_walk (process_by s state.world.history old.resident) said toucher (memory state))
      done.0 done.1))) here all))

  module _ (sent : Sending) (places : HugePlaced) (flows : Flows) (kept : HugePages)
      (is : old.huge ≡ Some kept) (state : State) (stands : RunsAs old state)
      (found : IsFound old.core.space.machine state said words sent)
      (walks : IsWalk (walk_of state) places flows) (core : CoreState)
      (same : setup_of core ≡ setup_of old.core) where
    -- memory lacked when the policy was to be set
    pub settle-starved : (refusal : Refusal)
        → Accepts old.core (command_of said) (Err refusal) core
        → ServesIn old (command_reply cause.NoMemory)
        (record old { core = core; huge = Some kept }) sends_both state
    settle-starved refusal accepts = subst (λ (h : Option HugePages).
        ServesIn old (command_reply cause.NoMemory) (record old { core = core; huge = h })
        sends_both state) is
        (served old (record old { core = core }) (command_reply cause.NoMemory) sends_both state
        state Starved refl
        (runs-then old (command_of said) (Err refusal) core accepts same state stands old.pages
        state.lying stands.lies))

    abbrev asked : Asked
    asked = asked_of (process state) said (toucher_of words)

    abbrev lying_then : Lying
    lying_then = with_sent state.resident asked state.lying

    abbrev memory_then : HugeMemory
    memory_then = huge_sent (process state) said (toucher_of words) (memory state)

    -- the policy is set, and pages of both sizes went
    pub settle-done : (version moved left : ℕ) (pages_then : Option PageState)
        (kept_then : HugePages) (late : Bool) → Accepts old.core (command_of said) (Ok version) core
        → ((lying : Lying) (held : Kept) (asked : Asked) → Lies old.pages lying
        → HasSent sent held asked lying → Lies pages_then (with_sent held asked lying))
        → ((memory : HugeMemory) (walk : HugeWalk) → IsMemory kept memory
        → IsWalk walk places flows
        → IsMemory kept_then (record memory { pages = walk.huge; told = walk.told }))
        → length old.resident < 2 ^ 63
        → moved ≡ min (sent.moved + length flows.moves.items) 18446744073709551615
        → left ≡ min (sent.left + flows.left) 18446744073709551615
        → late ≡ tells_left words.strict said.spec left
        → ServesIn old (reply.Sent version moved left late)
        (record { core = core; resident = old.resident; pages = pages_then; huge = Some kept_then })
        sends_both state
    settle-done version moved left pages_then kept_then late accepts settles settles_huge held
        moved_is left_is tells =
        let new : Running = record {
          core = core;
          resident = old.resident;
          pages = pages_then;
          huge = Some kept_then;
        } in
        let machine = old.core.space.machine in
        let lies_then : Lies pages_then lying_then =
        settles state.lying state.resident asked stands.lies found.1 in
        let kept_so : IsMemory kept_then memory_then =
        settles_huge (memory state) (walk_of state) (kept-memory old kept is state stands) walks in
        let after : State = record (state_then old (command_of said) (Ok version) core accepts same
        state stands) { lying = lying_then; huge = Some memory_then } in
        elim (starved-or old (command_of said) (Ok version) core accepts same state stands) [
          | inl told ↦
              let free : refusal_of (setup_of old.core).machine (setup_of old.core).bounds
              state.world.history (command_of said) ≡ None =
              (λ i. refusal_of machine (sym stands.core.bounds i) state.world.history
              (command_of said)) ∙ found.0 in
              let counts : version ≡ suc (length state.world.history) = accepted-version
              (setup_of old.core) state (command_of said) version free told in
              let small = sent_in state.resident asked state.lying in
              let few = sent-few state.resident asked state.lying in
              let more = walk-few (process state) said (toucher_of words) (memory state) in
              let residents : length old.resident ≡ length state.resident =
              ap length stands.resident in
              let moved_so : small.moved + memory_then.told.moved ≡ moved = omega (
                arith,
                moved_is,
                few.0,
                more.0,
                found.1.moved,
                walks.told.moved,
              ) in
              let left_so : small.left + memory_then.told.left ≡ left = omega (
                arith,
                left_is,
                few.1,
                more.1,
                residents,
                held,
                found.1.left,
                walks.told.left,
              ) in
              let late_so : tells_left words.strict said.spec (small.left + memory_then.told.left)
              ≡ late = ap (tells_left words.strict said.spec) left_so ∙ sym tells in
              let base : State = (accepted_outcome Enough machine state (command_of said)).state in
              let first : sends_both Enough machine state
              ≡ both_sent machine state said words memory_then =
              ap (λ (o : Option Refusal). sent_where o Enough machine state said words) found.0
              ∙ ap (λ (m : Option HugeMemory). sent_with m machine state said words)
              (kept-some old kept is state stands) in
              let said_so : both_sent machine state said words memory_then
              ≡ with_reply (reply.Sent version moved left late)
              (record base { lying = lying_then; huge = Some memory_then }) = λ i. with_reply
              (reply.Sent (sym counts i) (moved_so i) (left_so i) (late_so i))
              (record base { lying = lying_then; huge = Some memory_then }) in
              let state_is = ap (λ (s : Served). with_reply (reply.Sent version moved left late)
              (record s.state { lying = lying_then; huge = Some memory_then }))
              (accepted-is old (command_of said) (Ok version) core accepts same state stands Enough
              told) in
              served old new (reply.Sent version moved left late) sends_both state after Enough
              (first ∙ said_so ∙ state_is)
              (runs-both old (command_of said) (Ok version) core accepts same state stands
              pages_then lying_then (Some kept_then) (Some memory_then) lies_then kept_so)
          | inr lack ↦ cc
        ]
