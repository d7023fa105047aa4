use Rattle.numa_objects.proofs.Counted.{first-in_range}
use Rattle.numa_objects.proofs.counting.add_parts.Goals as goal

pub add_part-requires-clause-in_range : goal.add_part-requires-clause-in_range
add_part-requires-clause-in_range c =
    (first-in_range c.loop-run.invariant.apart.0 c.loop-run.run-iterator c.next.new.self
    c.in-Some.run' c.in-Some.ensures.steps c.loop-run.invariant.apart.1).0
