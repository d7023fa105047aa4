-- The processes at the places so far are added.
use Rattle.std.proofs.Common.{take}
use Rattle.std.specs.Prelude.{flat_map}
use Rattle.numa_moves.specs.Sums.{AddsEach, moves_at}
use Rattle.numa_moves.proofs.sheet.Sheet.put_each.Given as goal

abbrev pub invariant-loop-place : goal.invariant-loop-place
invariant-loop-place l =
    AddsEach l.fn.all (flat_map (moves_at l.told) (take l.place-index l.order)) l.all
