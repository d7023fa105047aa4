-- What more is so where the core accepted a command, and what lack of memory leaves as it was.
use Rattle.std.proofs.Common.{◌≡◌, ℕ, true, false, Option, Result, Ok, Err}
use Rattle.std.proofs.Common.{sym, ap, ◌∙◌, inl, inr}
use Rattle.std.specs.Prelude.{is_err, if◌then◌else◌}
use Rattle.numa_machine.specs.Machine.{Hardware}
use Rattle.numa_requests.specs.declared.command.Command.{Command}
use Rattle.numa_requests.specs.declared.page_refusal.PlacedRefusal.TheVariants as cause
use Rattle.numa_requests.specs.declared.refusal.Refusal.{Refusal}
use Rattle.numa_core.specs.World.{World}
use Rattle.numa_core.specs.Steps.{accept_answer, version_of}
use Rattle.numa_core.specs.declared.acceptance.Acceptance.{Acceptance}
use Rattle.numa_core.specs.Standing.{CoreState, setup_of}
use Rattle.numa_huge.specs.Moves.{HugeMemory}
use Rattle.numa_huge.specs.Tallies.{StandsForHuge}
use Rattle.numa_huge.specs.declared.pages.HugePages.{HugePages}
use Rattle.numa_page_state.specs.Lying.{Lying}
use Rattle.numa_page_state.specs.Outcomes.{Enough, Lack, Starved}
use Rattle.numa_page_state.specs.Standing.{Lies}
use Rattle.numa_page_state.specs.declared.state.PageState.{PageState}
use Rattle.numa_script.specs.Replies.{reply_to}
use Rattle.numa_script.specs.declared.reply.Reply.{Reply}
use Rattle.numa_run.specs.Answering.{Served, with_reply}
use Rattle.numa_run.specs.Obeying.{accepted_outcome, command_reply, is_accepted}
use Rattle.numa_run.specs.Standing.{RunsAs, ServesIn}
use Rattle.numa_run.specs.States.{State}
use Rattle.numa_run.specs.declared.running.Running.{Running}
use Rattle.numa_run.proofs.Accepting.{Accepts, also-is, runs-both, runs-then, served, starved-or}
use Rattle.numa_run.proofs.Accepting.{state_then}

module _ (old : Running) (command : Command) (core : CoreState)
    (same : setup_of core ≡ setup_of old.core) (state : State) (stands : RunsAs old state)
    (serve : Lack → Hardware → State → Served) (more : Served → Served)
    (enough : serve Enough old.core.space.machine state
    ≡ (if is_accepted Enough old.core.space.machine state command
    then more (accepted_outcome Enough old.core.space.machine state command)
    else accepted_outcome Enough old.core.space.machine state command))
    (starved : serve Starved old.core.space.machine state
    ≡ with_reply (command_reply cause.NoMemory) state) where
  so-refused : (refusal : Refusal) → Accepts old.core command (Err refusal) core
      → ServesIn old (reply_to (accept_answer (Err refusal))) (record old { core = core }) serve
      state
  so-refused refusal accepts =
      let new : Running = record old { core = core } in
      let answer : Reply = reply_to (accept_answer (Err refusal)) in
      let runs : RunsAs new state = runs-then old command (Err refusal) core accepts same state
      stands old.pages state.lying stands.lies in
      elim (starved-or old command (Err refusal) core accepts same state stands) [
        | inl is ↦ served old new answer serve state state Enough
            (enough ∙ also-is old command (Err refusal) core accepts same state stands Enough is
            more) runs
        | inr lack ↦ served old new answer serve state state Starved
            (starved ∙ ap (λ (r : Reply). with_reply r state) (sym lack.0)) runs
      ]

  module _ (pages : Option PageState) (lying : Lying) (huge : Option HugePages)
      (memory : Option HugeMemory) (lies : Lies pages lying) (kept : StandsForHuge huge memory)
      (so : (answer : Reply) (world : World) → more (with_reply answer (record state {
        world = world;
      })) ≡ with_reply answer (record state { world = world; lying = lying; huge = memory }))
    where
      abbrev then_running : Running
      then_running = record {
        core = core;
        resident = old.resident;
        pages = pages;
        huge = huge;
      }

      so-done : (version : ℕ) → Accepts old.core command (Ok version) core
          → ServesIn old (reply_to (accept_answer (Ok version))) then_running serve state
      so-done version accepts =
          let answer : Reply = reply_to (accept_answer (Ok version)) in
          let after : State = state_then old command (Ok version) core accepts same state stands in
          elim (starved-or old command (Ok version) core accepts same state stands) [
            | inl is ↦ served old then_running answer serve state
                (record after { lying = lying; huge = memory }) Enough
                (enough ∙ also-is old command (Ok version) core accepts same state stands Enough is
                more ∙ so answer after.world)
                (runs-both old command (Ok version) core accepts same state stands pages lying huge
                memory lies kept)
            | inr lack ↦ cc
          ]

      -- the command was accepted
      pub so-goes : (result : Result Acceptance Refusal) → is_err result ≡ false
          → Accepts old.core command (version_of result) core
          → ServesIn old (reply_to (accept_answer (version_of result))) then_running serve state
      so-goes (Ok acceptance) e accepts = so-done acceptance.version accepts
      so-goes (Err refusal) e accepts = cc

  -- it was refused
  pub so-stays : (result : Result Acceptance Refusal) → is_err result ≡ true
      → Accepts old.core command (version_of result) core
      → ServesIn old (reply_to (accept_answer (version_of result))) (record old { core = core })
      serve state
  so-stays (Ok acceptance) e accepts = cc
  so-stays (Err refusal) e accepts = so-refused refusal accepts
