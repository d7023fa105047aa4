-- The core's answers as replies.
use Rattle.std.specs.Prelude.{◌≡◌, Bool, true, false, if◌then◌else◌, Option, Some, None}
use Rattle.std.specs.Prelude.{Result, Ok, Err}
use Rattle.numa_machine.specs.declared.fault.MachineFault.TheVariants as machine
use Rattle.numa_requests.specs.declared.event.CoreRefusal.TheVariants as core
use Rattle.numa_requests.specs.declared.host_refusal.HostRefusal.TheVariants as host
use Rattle.numa_requests.specs.declared.page_refusal.MoveRefusal.TheVariants as move
use Rattle.numa_requests.specs.declared.page_refusal.PlacedRefusal.TheVariants as placed
use Rattle.numa_requests.specs.declared.refusal.Refusal.TheVariants as command
use Rattle.numa_requests.specs.declared.event.CoreRefusal.{CoreRefusal}
use Rattle.numa_requests.specs.declared.event.CoreReply.{CoreReply}
use Rattle.numa_requests.specs.declared.event.CoreReply.TheVariants as done
use Rattle.numa_requests.specs.declared.placement.Placement.{Placement}
use Rattle.numa_requests.specs.declared.page_refusal.HugeRefusal.TheVariants as huge
use Rattle.numa_script.specs.declared.reply.Win.{Win}
use Rattle.numa_script.specs.declared.reply.Reply.{Reply}
use Rattle.numa_script.specs.declared.reply.Reply.TheVariants as reply

-- what a line says of a placement that was won
abbrev pub win_of : Placement → Win
win_of placement = record {
  version = placement.version;
  node = placement.node;
  frame = placement.frame.number;
  rank = placement.rank;
}

abbrev pub done_reply : CoreReply → Reply
done_reply (done.Accepted version) = reply.Accepted version
done_reply (done.Published version) = reply.Published version
done_reply done.Still = reply.Still
done_reply (done.Exhausted version) = reply.Exhausted version
done_reply (done.Won placement) = reply.Won (win_of placement)
done_reply (done.Found frame) = reply.Found frame
done_reply done.Full = reply.Full
done_reply done.Given = reply.Given

abbrev pub reply_to : Result CoreReply CoreRefusal → Reply
reply_to (Ok answer) = done_reply answer
reply_to (Err cause) = reply.Refused cause

-- ---- what a reply tells

-- a fault or a refusal
abbrev pub is_fault : Reply → Bool
is_fault reply.BadWords = true
is_fault reply.BadState = true
is_fault reply.BadLimits = true
is_fault (reply.BadMachine fault) = true
is_fault (reply.BadWord fault) = true
is_fault (reply.Refused cause) = true
is_fault reply.Placed = true
is_fault (reply.HostRefused cause) = true
is_fault (reply.PlacedRefused cause) = true
is_fault (reply.MoveRefused cause) = true
is_fault (reply.HugeRefused cause) = true
is_fault _ = false

-- the reply, where it is a fault or a refusal
abbrev pub fault_in : Reply → Option Reply
fault_in told = if is_fault told then Some told else None

-- that there was no memory for the line: for its machine, for a command, for a worker's step or an
-- answer, for a host, or for pages
abbrev pub LacksMemory : Reply → Type 0
LacksMemory (reply.BadMachine fault) = fault ≡ machine.NoMemory
LacksMemory (reply.Refused (core.Command cause)) = cause ≡ command.NoMemory
LacksMemory (reply.Refused core.NoMemory) = Unit {0}
LacksMemory (reply.HostRefused cause) = cause ≡ host.NoMemory
LacksMemory (reply.PlacedRefused cause) = cause ≡ placed.NoMemory
LacksMemory (reply.MoveRefused cause) = cause ≡ move.NoMemory
LacksMemory (reply.HugeRefused cause) = cause ≡ huge.NoMemory
LacksMemory _ = ⊥

-- that only scripts of hosts or with lines about pages have
abbrev pub is_wider : Reply → Bool
is_wider reply.Placed = true
is_wider reply.HostReady = true
is_wider (reply.HostRefused cause) = true
is_wider reply.AtOk = true
is_wider reply.RoomOk = true
is_wider reply.MemoryMigrateOk = true
is_wider (reply.Moved moved left) = true
is_wider (reply.MovedTo node) = true
is_wider (reply.Sent version moved left late) = true
is_wider (reply.PlacedRefused cause) = true
is_wider (reply.MoveRefused cause) = true
is_wider (reply.HugeRefused cause) = true
is_wider _ = false
