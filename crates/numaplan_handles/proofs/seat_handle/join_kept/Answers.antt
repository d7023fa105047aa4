use Rattle.std.proofs.Common.{ap, Some}
use Rattle.numaplan_handles.specs.Kinds.{seat_of}
use Rattle.numaplan_handles.specs.declared.kept.Kept.{Kept}
use Rattle.numaplan_handles.proofs.seat_handle.join_kept.Goals as goal

pub join-requires : goal.join-requires
join-requires c = c.requires.together c.in-Seat-kept.seat c.in-Seat.other
    (ap (λ (k : Kept). seat_of (Some k)) c.in-Seat-kept.is)
    (ap (λ (k : Kept). seat_of (Some k)) c.in-Seat.is)
