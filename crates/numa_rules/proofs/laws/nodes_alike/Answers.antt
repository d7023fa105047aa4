use Rattle.numa_rules.proofs.Left.{neither, ranges-alike, tasks-alike}
use Rattle.numa_rules.proofs.laws.nodes_alike.Goals as goal

pub returns : goal.returns
returns c = record {
  ranges = λ space after none run among r is.
      ranges-alike space.allowed after space.ranges (neither _ _ none).0 run among r is;
  tasks = λ space after none held among.
      tasks-alike space.allowed after space.tasks (neither _ _ none).1 held among;
}
