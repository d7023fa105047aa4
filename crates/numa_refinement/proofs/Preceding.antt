-- What a later world has published was published wherever a worker could begin with it.
use Rattle.std.proofs.Common.{◌≡◌, ℕ, ◌<◌, ◌≤◌, true, false, Option, Some, None, is_some}
use Rattle.std.proofs.Common.{List, [], ◌∷◌, ◌++◌, length, refl, sym, ap, subst, ◌∙◌, inl, arith}
use Rattle.std.proofs.Common.{nat_le, append_assoc, length-append}
use Rattle.std.proofs.lemmas.Bool.Decides.{nat_tests}
use Rattle.std.specs.Prelude.{slice_index}
use Rattle.numa_requests.specs.declared.command.Command.{Command}
use Rattle.numa_requests.specs.declared.request.Request.{Request}
use Rattle.numa_requests.specs.declared.event.CoreRefusal.TheVariants.{NoSuchWorker, Busy, BadCpu}
use Rattle.numa_requests.specs.declared.event.CoreRefusal.TheVariants.{Unmapped}
use Rattle.numa_requests.specs.declared.event.Event.TheVariants.{Begin}
use Rattle.numa_core.specs.World.{Setup, World, FrameSearch, first_commands, frame_search_of}
use Rattle.numa_core.specs.World.{is_published}
use Rattle.numa_core.specs.Steps.{answer_of}
use Rattle.numa_core.specs.Executions.{world_of}
use Rattle.numa_core.proofs.Answered.{four_rows, replied}
use Rattle.numa_core.proofs.Tracking.{first_commands-more}
use Rattle.numa_core.proofs.Versions.{sound}
use Rattle.numa_refinement.specs.WalkSteps.{event_of}
use Rattle.numa_refinement.specs.Moves.{PoolState}
use Rattle.numa_refinement.specs.Plays.{Deed, makes_step, splits, has_event, Done, IsPlay}
use Rattle.numa_refinement.specs.Plays.{execution_of}
use Rattle.numa_refinement.specs.Faults.{IsReady}
use Rattle.numa_refinement.specs.Interleaved.{begins}
use Rattle.numa_refinement.specs.LegalSteps.{HasPublished, IsPublishedIn}
use Rattle.numa_refinement.proofs.Playing.{plays}
use Rattle.numa_refinement.proofs.Desking.{lasts}

-- the first commands are the same behind any later ones
pub further : (version : ℕ) (more history : List Command) → version ≤ length history
    → first_commands version (more ++ history) ≡ first_commands version history
further version [] history le = refl
further version (command ∷ more) history le =
    let low : version ≤ length (more ++ history) = omega (arith, le, length-append more history) in
    first_commands-more version command (more ++ history) low ∙ further version more history le

lasts-deed : (s : Setup) (deed : Deed) (pools : PoolState) (rest : List Done)
    (history : List Command) (versions : List ℕ)
    → HasPublished (world_of s (execution_of s rest)) history versions
    → HasPublished (world_of s (execution_of s (record { deed = deed; pools = pools } ∷ rest)))
    history versions
lasts-deed s (makes_step id e) pools rest history versions has =
    let world = world_of s (execution_of s rest) in
    lasts s world 0 (event_of id e) (answer_of s world 0 (event_of id e)) history versions has
lasts-deed s (splits id) pools rest history versions has = has
lasts-deed s (has_event version event) pools rest history versions has =
    let world = world_of s (execution_of s rest) in
    lasts s world version event (answer_of s world version event) history versions has

lasts-on : (s : Setup) (done later : List Done) (history : List Command) (versions : List ℕ)
    → HasPublished (world_of s (execution_of s done)) history versions
    → HasPublished (world_of s (execution_of s (later ++ done))) history versions
lasts-on s done [] history versions has = has
lasts-on s done (d ∷ later) history versions has =
    lasts-deed s d.deed d.pools (later ++ done) history versions
    (lasts-on s done later history versions has)

pub below : (a b : ℕ) → nat_le a b ≡ false → b < a
below a b e = grind (arith, nat_tests)

pub none-there : (o : Option FrameSearch) → is_some o ≡ false → o ≡ None
none-there None e = refl
none-there (Some frame_search) e = absurd (cc)

module _ (s : Setup) (few : (n : ℕ) → slice_index s.machine.frames n ≤ 4096)
    (some_worker : 0 < s.workers) (first : PoolState) where
  before : (done later : List Done) → IsPlay s first (later ++ done) → IsPlay s first done
  before done [] play = play
  before done (d ∷ later) play = before done later play.0

  pub was-published : (done later : List Done) (history : List Command)
      → IsPlay s first (later ++ done)
      → IsPublishedIn (world_of s (execution_of s (later ++ done))) history
      → is_published (world_of s (execution_of s done)) (length history) ≡ true
      → IsPublishedIn (world_of s (execution_of s done)) history
  was-published done later history play is among =
      let world = world_of s (execution_of s done) in
      let then = world_of s (execution_of s (later ++ done)) in
      let legal = (plays s few some_worker first done (before done later play)).legal in
      let low : length history ≤ length world.history =
      (sound s (execution_of s done) legal).published (length history) among in
      let has : HasPublished then world.history world.published =
      lasts-on s done later world.history world.published
      (record { commands = ([], refl); numbers = ([], refl) }) in
      record {
        published = among;
        commands = sym (ap (λ (h : List Command). first_commands (length history) h) has.commands.1
            ∙ further (length history) has.commands.0 world.history low) ∙ is.commands;
      }

  pub was-ready : (w : ℕ) (pools : PoolState) (done later : List Done) (history : List Command)
      (request : Request)
      → IsPlay s first (later ++ begins w (length history) request pools ∷ done)
      → IsPublishedIn (world_of s
      (execution_of s (later ++ begins w (length history) request pools ∷ done))) history
      → IsReady s w history (world_of s (execution_of s done))
  was-ready w pools done later history request play is =
      let begin : Done = begins w (length history) request pools in
      let world : World = world_of s (execution_of s done) in
      let here : IsPlay s first (begin ∷ done) = before (begin ∷ done) later play in
      let step = here.1.2.1 in
      let tests = four_rows _ _ _ _ NoSuchWorker Busy BadCpu (Unmapped (length history))
      (replied s world (length history) (Begin w request) here.1.2.0 (inl (sym step.1))).0 in
      let all : (later ++ begin ∷ []) ++ done ≡ later ++ begin ∷ done =
      append_assoc later (begin ∷ []) done in
      record {
        worker = below s.workers w tests.0;
        known = was-published done (later ++ begin ∷ []) history
            (subst (λ (l : List Done). IsPlay s first l) (sym all) play)
            (subst (λ (l : List Done). IsPublishedIn (world_of s (execution_of s l)) history)
            (sym all) is) step.0.0;
        idle = none-there (frame_search_of world w) tests.1;
        last = step.0.1;
      }
