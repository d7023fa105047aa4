-- The calls of a desk, which stand first, are a play.
use Rattle.std.proofs.Common.{◌≡◌, ℕ, ◌<◌, ◌≤◌, List, [], ◌∷◌, Ok, refl, sym, ⊎_elim}
use Rattle.std.specs.Prelude.{slice_index, None}
use Rattle.numa_requests.specs.declared.event.CoreReply.{CoreReply}
use Rattle.numa_requests.specs.declared.event.CoreReply.TheVariants.{Accepted, Published}
use Rattle.numa_requests.specs.declared.event.Event.{Event}
use Rattle.numa_requests.specs.declared.event.Event.TheVariants.{Accept, Publish, Begin, Seek}
use Rattle.numa_requests.specs.declared.event.Event.TheVariants.{Look, Try, Give}
use Rattle.numa_core.specs.World.{Setup, World}
use Rattle.numa_core.specs.Steps.{IsAnswer, IsOutOfMemory, answer_of, refusal_of}
use Rattle.numa_core.specs.Executions.{world_of}
use Rattle.numa_publish.specs.Shown.{DeskState, accepted_commands}
use Rattle.std.proofs.Common.{length}
use Rattle.numa_refinement.specs.Crews.{AreDesks, AreEarly, calls_at}
use Rattle.numa_refinement.specs.Interleaved.{Calls}
use Rattle.numa_refinement.specs.Moves.{IsOpening, PoolState}
use Rattle.numa_refinement.specs.Plays.{IsPlay, execution_of, pools_of}
use Rattle.numa_refinement.proofs.Calling.{called}
use Rattle.numa_refinement.proofs.Desking.{accepts, publishes}

pub are_early : (pools : PoolState) (events : List Event) → AreDesks events
    → AreEarly (calls_at pools events)
are_early pools [] desks = tt
are_early pools (e ∷ events) desks = (are_early pools events desks.0, desks.1)

accepted_so : (s : Setup) (world : World) (version : ℕ) (event : Event) (reply : CoreReply)
    → (IsOutOfMemory event (Ok reply) → ⊥) → IsAnswer s world version event (Ok reply)
    → answer_of s world version event ≡ Ok reply
accepted_so s world version event reply not answer =
    ⊎_elim (λ (is : Ok reply ≡ answer_of s world version event). sym is)
    (λ (out : (refusal_of s world version event ≡ None) × IsOutOfMemory event (Ok reply)).
    absurd (not out.1)) answer

module _ (s : Setup) (few : (n : ℕ) → slice_index s.machine.frames n ≤ 4096)
    (some_worker : 0 < s.workers) (first : PoolState) (opening : IsOpening s.machine.frames first)
  where
    stay : (events : List Event) → pools_of s first (calls_at first events) ≡ first
    stay [] = refl
    stay (e ∷ events) = refl

    pub calls_play : (events : List Event) (desk : DeskState) → AreDesks events
        → Calls s (calls_at first events) desk → IsPlay s first (calls_at first events)
    calls_play [] desk desks calls = opening
    calls_play (Accept command ∷ events) desk desks calls =
        let world = world_of s (execution_of s (calls_at first events)) in
        let play = calls_play events calls.0 desks.0 calls.1 in
        let step = accepts s world calls.0 desk command calls.2.0
        (called s few some_worker first (calls_at first events) calls.0 play calls.1) calls.2.1 in (
          play,
          (
            tt,
            sym (stay events),
            (
              Accepted calls.2.0,
              (
                tt,
                accepted_so s world 0 (Accept command) (Accepted calls.2.0)
                    (λ out. let no = out.0 in absurd (cc)) step.0.1,
              ),
            ),
          ),
        )
    calls_play (Publish ∷ events) desk desks calls =
        let world = world_of s (execution_of s (calls_at first events)) in
        let play = calls_play events calls.0 desks.0 calls.1 in
        let step = publishes s world calls.0 desk
        (called s few some_worker first
        (calls_at first events) calls.0 play calls.1) calls.3 calls.2
        in (
          play,
          (
            tt,
            sym (stay events),
            (
              Published (length (accepted_commands calls.0)),
              (
                tt,
                accepted_so s world 0 Publish (Published (length (accepted_commands calls.0)))
                    (λ out. let no = out in absurd (cc)) step.0.1,
              ),
            ),
          ),
        )
    calls_play (Begin w request ∷ events) desk desks calls = absurd desks.1
    calls_play (Seek w node ∷ events) desk desks calls = absurd desks.1
    calls_play (Look w word ∷ events) desk desks calls = absurd desks.1
    calls_play (Try w frame ∷ events) desk desks calls = absurd desks.1
    calls_play (Give w frame ∷ events) desk desks calls = absurd desks.1
