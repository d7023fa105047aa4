-- A `HeapSlot` may go to another thread: what it keeps may, and so may the right to free it.
use mir.Raw.{raw}
use denote.Memory.{lone}
use denote.Builtin.{RawPtr}
use denote.RawPtr.{Ptr}
use base.Shift.{Keyless}
use denote.Param.Send.{IsSend, owning_send, struct_send, sendable}
use denote.Struct.Struct.{exits_of}
use denote.Struct.Owning.{shape, fields, to}
use Rattle.std.proofs.Crossing.{frees}
use Rattle.std.specs.Prelude.{Option, Some, None}
use Rattle.std_alloc.proofs.SendSync.{quiet, lies}
use Rattle.numaplan_handles.proofs.kept.Kept.TheSendSync.{the_send}
use Rattle.numaplan_handles.specs.declared.kept.Kept.{Kept}
use Rattle.numaplan_handles.specs.contracts.kept.Kept as kept
use Rattle.numaplan_handles.specs.Held.{held_owns}
use Rattle.numaplan_handles.specs.contracts.held.HeapSlot.{the_row, the_type}

owns_no_key : (p : Ptr) (held : Option Kept) → Keyless (held_owns p held)
owns_no_key p None = tt
owns_no_key p (Some x) = (
  lies kept.the_row the_send p x,
  frees.frees (record { memory = record { seal = tt } })
      (raw (lone (kept.the_row).mir)) p,
)

pub send : IsSend the_row
send =
    let pointers : IsSend RawPtr = search sendable in
    owning_send the_type (pointers, tt) (λ h. owns_no_key h.at h.kept)
    (λ k. quiet (to the_type) (exits_of k (fields the_type))
    ((struct_send (shape the_type) (pointers, tt)).leaving k))
