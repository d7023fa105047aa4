-- What the core's answers come to.
use Rattle.std.proofs.Common.{◌≡◌, ℕ, Bool, true, false, Option, Some, None, Result, Err, refl, ap}
use Rattle.std.proofs.Common.{◌∙◌, inl, inr}
use Rattle.std.proofs.lemmas.Bool.{ne_eqb}
use Rattle.std.specs.Prelude.{not, if◌then◌else◌}
use Rattle.numa_space.specs.Steps.{MayNeedRoom}
use Rattle.numa_requests.specs.declared.command.Command.{Command}
use Rattle.numa_requests.specs.declared.command.Command.TheVariants.{Map, Unmap, Mbind, SetTask}
use Rattle.numa_requests.specs.declared.command.Command.TheVariants.{Inherit, SetHome, SetWeight}
use Rattle.numa_requests.specs.declared.command.Command.TheVariants.{SetMems}
use Rattle.numa_requests.specs.declared.refusal.Refusal.TheVariants.{NoMemory as NoRoom}
use Rattle.numa_core.specs.World.{Setup, World, newest_published}
use Rattle.numa_core.specs.Steps.{refusal_of, reply_of, refused_or, IsAnswer}
use Rattle.numa_machine.specs.declared.frame.Frame.{Frame}
use Rattle.numa_requests.specs.declared.event.Event.{Event}
use Rattle.numa_requests.specs.declared.event.Event.TheVariants.{Accept, Publish, Begin, Seek}
use Rattle.numa_requests.specs.declared.event.Event.TheVariants.{Give, Look, Try}
use Rattle.numa_requests.specs.declared.event.CoreReply.{CoreReply}
use Rattle.numa_requests.specs.declared.event.CoreRefusal.{CoreRefusal}
use Rattle.numa_requests.specs.declared.event.CoreRefusal.TheVariants.{Command as Because}
use Rattle.numa_page_state.specs.Outcomes.{Crowded, Enough, Lack, Starved}
use Rattle.numa_run.specs.Work.{event_answer, needs_room, unless_wanting}

-- a command that may need room does so by the definition
room-needed : (command : Command) → MayNeedRoom command → needs_room command ≡ true
room-needed (Map start bytes offset size) room = refl
room-needed (Unmap start bytes) room = ap not (ne_eqb bytes 0 room)
room-needed (Mbind start bytes spec) room = ap not (ne_eqb bytes 0 room)
room-needed (SetHome start bytes node) room = ap not (ne_eqb bytes 0 room)
room-needed (SetTask task spec) room = ap not room
room-needed (Inherit task from) room = refl
room-needed (SetWeight node weight) room = absurd room
room-needed (SetMems mask) room = absurd room

-- where such a command is told to want memory, the answer is that of the definition
wanting-told : (needs : Bool) → needs ≡ true → (o : Option CoreRefusal) → o ≡ None
    → (reply : CoreReply)
    → Err (Because NoRoom) ≡ unless_wanting (if needs then Some (Because NoRoom) else None)
    (refused_or o reply)
wanting-told needs is o none reply = rw (is, none) refl

-- an answer that the core may give is that of the definition, whatever lacked
pub answer-told : (s : Setup) (world : World) (event : Event)
    (answer : Result CoreReply CoreRefusal) → IsAnswer s world (newest_published world) event answer
    → (lack : Lack) × (answer ≡ event_answer lack s world event)
answer-told s world event answer (inl is) = (Enough, is)
answer-told s world (Accept command) answer (inr want) = (
  Starved,
  want.1.0 ∙ wanting-told (needs_room command) (room-needed command want.1.1)
      (refusal_of s world (newest_published world) (Accept command)) want.0
      (reply_of s world (newest_published world) (Accept command)),
)
answer-told s world Publish answer (inr want) = (Starved, want.1)
answer-told s world (Begin w request) answer (inr want) = absurd want.1
answer-told s world (Seek w node) answer (inr want) = absurd want.1
answer-told s world (Look w word) answer (inr want) = absurd want.1
answer-told s world (Try w frame) answer (inr want) = absurd want.1
answer-told s world (Give w frame) answer (inr want) = absurd want.1

-- a Give wants no memory
pub give-told : (lack : Lack) (s : Setup) (world : World) (w : ℕ) (frame : Frame)
    (answer : Result CoreReply CoreRefusal)
    → IsAnswer s world (newest_published world) (Give w frame) answer
    → answer ≡ event_answer lack s world (Give w frame)
give-told Enough s world w frame answer (inl is) = is
give-told Crowded s world w frame answer (inl is) = is
give-told Starved s world w frame answer (inl is) = is
give-told lack s world w frame answer (inr want) = absurd want.1
