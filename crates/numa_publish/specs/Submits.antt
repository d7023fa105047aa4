-- What a submit without a receipt leaves.
use Rattle.std.specs.Prelude.{◌≡◌, ◌⊎◌, ℕ, ◌+◌, List, ◌∷◌, Some, None, length}
use Rattle.numa_machine.specs.Machine.{Hardware}
use Rattle.numa_space.specs.Limited.{Bounds}
use Rattle.numa_space.specs.Refusals.{refusal_of}
use Rattle.numa_requests.specs.declared.command.Command.{Command}
use Rattle.numa_publish.specs.declared.shared.SubmitRefusal.{SubmitRefusal}
use Rattle.numa_publish.specs.declared.shared.SubmitRefusal.TheVariants.{Refused, Held}
use Rattle.numa_requests.specs.declared.refusal.Refusal.TheVariants as refusal
use Rattle.numa_publish.specs.Shown.{DeskIdentity, DeskState, Refuses, accepted_commands}

-- refused: nothing changed; held: nothing refused the command, it is pending, and nothing else
-- changed, and the number is its version
abbrev pub LeavesAfter : DeskState → DeskState → Command → SubmitRefusal → Type 0
LeavesAfter before after command (Refused refusal) =
    (after ≡ before) × Refuses before command refusal
LeavesAfter before after command (Held version) =
    (after ≡ record before { pending = command ∷ before.pending })
    × (version ≡ length (accepted_commands after))
    × (refusal_of before.desk.machine before.bounds (accepted_commands before) command ≡ None)

-- a desk, and its limits, are the named ones
pub record IsNamed (named : DeskIdentity) (limits : Bounds) (state : DeskState) : Type 0 where
  pub desk : state.desk ≡ named
  pub bounds : state.bounds ≡ limits

-- behind some accepted commands the command is refused for this, or there is no memory; or it is
-- accepted behind them as this version, and can't be published
abbrev pub IsRefusedBy : Hardware → Bounds → Command → SubmitRefusal → Type 0
IsRefusedBy machine bounds command (Refused why) = (why ≡ refusal.NoMemory)
    ⊎ ((before : List Command) × (refusal_of machine bounds before command ≡ Some why))
IsRefusedBy machine bounds command (Held version) = (before : List Command)
    × (version ≡ length before + 1) × (refusal_of machine bounds before command ≡ None)
