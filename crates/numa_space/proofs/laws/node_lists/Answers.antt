use Rattle.numa_space.proofs.Meant.{meant-list}
use Rattle.numa_space.proofs.laws.node_lists.Goals as goal

pub returns : goal.returns
returns c = record {
  sound = λ machine bounds history task page cpu some small accepted.
      meant-list machine bounds some small history task page cpu accepted;
}
