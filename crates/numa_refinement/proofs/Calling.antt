-- The calls of a desk in an interleaving.
use Rattle.std.proofs.Common.{◌≡◌, ℕ, ◌<◌, ◌≤◌, Bool, true, is_ok, List, [], ◌∷◌, ◌++◌, refl, sym}
use Rattle.std.proofs.Common.{subst, if◌then◌else◌}
use Rattle.std.specs.Prelude.{slice_index}
use Rattle.numa_requests.specs.declared.command.Command.{Command}
use Rattle.numa_publish.specs.Shown.{DeskState}
use Rattle.numa_core.specs.World.{Setup}
use Rattle.numa_core.specs.Steps.{answer_of, effect_of}
use Rattle.numa_core.specs.Executions.{world_of}
use Rattle.numa_requests.specs.declared.event.Event.TheVariants.{Accept, Publish, Begin, Seek}
use Rattle.numa_requests.specs.declared.event.Event.TheVariants.{Look, Try, Give}
use Rattle.numa_refinement.specs.WalkSteps.{event_of}
use Rattle.numa_refinement.specs.Moves.{PoolState}
use Rattle.numa_refinement.specs.Plays.{Deed, makes_step, splits, has_event, Done, IsPlay}
use Rattle.numa_refinement.specs.Plays.{execution_of}
use Rattle.numa_refinement.proofs.Playing.{plays}
use Rattle.numa_refinement.specs.Desks.{IsDeskOf}
use Rattle.numa_refinement.specs.Interleaved.{Calls, CallsAt}
use Rattle.numa_refinement.specs.LegalSteps.{IsPublishedIn}
use Rattle.numa_refinement.proofs.Among.{its-worker}
use Rattle.numa_refinement.proofs.Desking.{opens, accepts, publishes, stays, workers}

module _ (s : Setup) (few : (n : ℕ) → slice_index s.machine.frames n ≤ 4096)
    (some_worker : 0 < s.workers) (first : PoolState) where
  one-call : (deed : Deed) (pools : PoolState) (rest : List Done) (desk : DeskState)
      → IsPlay s first (record { deed = deed; pools = pools } ∷ rest)
      → ((before : DeskState) → Calls s rest before → IsDeskOf s (world_of s (execution_of s rest))
      before) → CallsAt s deed (Calls s rest) desk
      → IsDeskOf s (world_of s (execution_of s (record { deed = deed; pools = pools } ∷ rest))) desk
  one-call (makes_step id e) pools rest desk play before calls =
      let world = world_of s (execution_of s rest) in
      workers s world desk 0 id (event_of id e) (answer_of s world 0 (event_of id e))
      (before desk calls) (its-worker id e)
  one-call (splits id) pools rest desk play before calls = before desk calls
  one-call (has_event version (Accept command)) pools rest desk play before calls =
      let world = world_of s (execution_of s rest) in
      let answered : is_ok (answer_of s world version (Accept command)) ≡ true =
      (plays s few some_worker first
      (record { deed = has_event version (Accept command); pools = pools } ∷ rest)
      play).granted.0 in
      subst (λ (b : Bool).
      IsDeskOf s (if b then effect_of s world version (Accept command) else world) desk)
      (sym answered)
      (accepts s world calls.0 desk command calls.2.0 (before calls.0 calls.1) calls.2.1).1
  one-call (has_event version Publish) pools rest desk play before calls =
      let world = world_of s (execution_of s rest) in
      let answered : is_ok (answer_of s world version Publish) ≡ true =
      (plays s few some_worker first (record { deed = has_event version Publish; pools = pools }
      ∷ rest) play).granted.0 in
      subst (λ (b : Bool). IsDeskOf s (if b then effect_of s world version Publish else world) desk)
      (sym answered)
      (publishes s world calls.0 desk (before calls.0 calls.1) calls.3 calls.2).1
  one-call (has_event version (Begin v request)) pools rest desk play before calls =
      let world = world_of s (execution_of s rest) in
      workers s world desk version v (Begin v request) (answer_of s world version (Begin v request))
      (before desk calls) refl
  one-call (has_event version (Seek v node)) pools rest desk play before calls =
      let world = world_of s (execution_of s rest) in
      workers s world desk version v (Seek v node) (answer_of s world version (Seek v node))
      (before desk calls) refl
  one-call (has_event version (Look v word)) pools rest desk play before calls = absurd play.1.0
  one-call (has_event version (Try v frame)) pools rest desk play before calls = absurd play.1.0
  one-call (has_event version (Give v frame)) pools rest desk play before calls = absurd play.1.0

  pub called : (done : List Done) (desk : DeskState) → IsPlay s first done → Calls s done desk
      → IsDeskOf s (world_of s (execution_of s done)) desk
  called [] desk play new = opens s desk new
  called (d ∷ done) desk play calls = one-call d.deed d.pools done desk play
      (λ before calls. called done before play.0 calls) calls

stays-deed : (s : Setup) (deed : Deed) (pools : PoolState) (rest : List Done)
    (history : List Command) → IsPublishedIn (world_of s (execution_of s rest)) history
    → IsPublishedIn (world_of s (execution_of s (record { deed = deed; pools = pools } ∷ rest)))
    history
stays-deed s (makes_step id e) pools rest history is =
    let world = world_of s (execution_of s rest) in
    stays s world 0 (event_of id e) (answer_of s world 0 (event_of id e)) history is
stays-deed s (splits id) pools rest history is = is
stays-deed s (has_event version event) pools rest history is =
    let world = world_of s (execution_of s rest) in
    stays s world version event (answer_of s world version event) history is

pub stays-on : (s : Setup) (done later : List Done) (history : List Command)
    → IsPublishedIn (world_of s (execution_of s done)) history
    → IsPublishedIn (world_of s (execution_of s (later ++ done))) history
stays-on s done [] history is = is
stays-on s done (d ∷ later) history is = stays-deed s d.deed d.pools (later ++ done) history
    (stays-on s done later history is)
