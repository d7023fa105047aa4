use Rattle.std.proofs.Common.{◌≡◌, ◌+◌, ◌++◌, ◌∷◌, List, ℕ, length, length-append, replicate, refl}
use Rattle.std.proofs.Common.{ap, ◌∙◌, arith}
use Rattle.std.proofs.lemmas.List.{length-replicate}
use Rattle.numa_mask.specs.NodeSet.{members}
use Rattle.numa_machine.specs.Weights.{weight_at}
use Rattle.numa_space.proofs.ListSizes.{weight-few}
use Rattle.numa_compile.specs.Rules.{places_from}
use Rattle.numa_compile.proofs.RowSteps.{turns-moved}
use Rattle.numa_compile.proofs.turns.weighted_turns.Goals as goal

pub loop-node-init : goal.loop-node-init
loop-node-init c =
    let start : c.into_iter-node-iterator.result ≡ c.args.set.now = cc in
    rw start
    (record {
      cycle =
          ap (λ (xs : List ℕ). xs ++ places_from 0 (weight_at c.args.weights.now)
          (members c.args.set.now)) c.new-cycle.ensures.items;
      few =
          omega (arith, weight-few c.args.set.now);
      each = omega arith;
    })

pub loop-node-preserved : goal.loop-node-preserved
loop-node-preserved c =
    let step : members c.loop-node.node-iterator ≡ c.in-Some.node ∷ members c.next.new.self =
    c.in-Some.ensures.steps in
    let weight : c.get-turns.result ≡ weight_at c.args.weights.now c.in-Some.node =
    c.get-turns.ensures.weight ∙ ap (weight_at c.args.weights.now)
    (c.from.ensures ∙ c.number.ensures.number) in
    record {
      cycle = turns-moved (weight_at c.args.weights.now) c.loop-node.place (c.loop-node.place + 1)
          c.in-Some.node c.get-turns.result (members c.loop-node.node-iterator)
          (members c.next.new.self) c.loop-node.cycle.items c.push_turns.new.cycle.items _ step
          weight refl c.in_ok-push_turns.ensures c.loop-node.invariant.cycle;
      few = omega (arith, c.loop-node.invariant.few, ap (length {A = ℕ}) step);
      each = omega (
        arith,
        c.loop-node.invariant.each,
        ap (length {A = ℕ}) step,
        ap (length {A = ℕ}) c.in_ok-push_turns.ensures,
        length-append c.loop-node.cycle.items
            (replicate c.get-turns.result c.loop-node.place),
        length-replicate c.get-turns.result
            c.loop-node.place,
        c.get-turns.ensures.at_least,
      );
    }
