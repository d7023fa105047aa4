use Rattle.std.specs.Prelude.{◌≡◌, length, All}
use Rattle.numa_publish.proofs.board.empty_places.Given as goal

-- so many places so far, each of the desk
abbrev pub invariant-loop-made : goal.invariant-loop-made
invariant-loop-made l = record {
  long : length l.places.items ≡ l._made;
  marked : All (λ at. at ≡ l.mark) l.places.items;
}
