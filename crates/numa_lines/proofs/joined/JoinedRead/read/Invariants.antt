use Rattle.std.proofs.Common.{◌≡◌, ◌+◌, length, option_to_list}
use Rattle.std.specs.Io.KnownBytes.{Keeps}
use Rattle.std.specs.Vec.Iter.{into_iter_items}
use Rattle.numa_lines.specs.Joined.{joined_bytes}
use Rattle.numa_lines.proofs.joined.JoinedRead.read.Given as goal

abbrev pub invariant-loop-self : goal.invariant-loop-self
invariant-loop-self g l = record {
  room : length l.buffer ≡ length l.fn.buffer;
  kept : Keeps (joined_bytes g.R.Read.remaining l.fn.self) (joined_bytes g.R.Read.remaining l.self);
}

-- how many readers there are left
abbrev pub decreases-loop-self : goal.decreases-loop-self
decreases-loop-self g l =
    length (option_to_list l.self.reader) + length (into_iter_items l.self.others)
