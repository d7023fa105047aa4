use Rattle.std.proofs.Common.{ℕ, ◌≤◌, arith}
use Rattle.std.proofs.lemmas.List.{length-replicate}
use Rattle.std.proofs.lemmas.List.Elements.{All-replicate}
use Rattle.numa_machine.proofs.Turns.{get_or-replicate_same}
use Rattle.numa_machine.proofs.weights.Weights.new.Goals as goal

pub invariant_of-result : goal.invariant_of-result
invariant_of-result c =
    record {
      few_nodes = omega arith;
      one_for_each = length-replicate {A = ℕ} 256 1;
      in_range = All-replicate (λ weight. (1 ≤ weight) × (weight ≤ 255)) 256 1
          (omega arith, omega arith);
    }

pub returns-clause-weights : goal.returns-clause-weights
returns-clause-weights c = λ node. get_or-replicate_same 256 1 node
