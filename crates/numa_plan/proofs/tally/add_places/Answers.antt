use Rattle.std.proofs.Common.{◌≡◌, ℕ, ◌*◌, ◌+◌, ◌∷◌, [], ◌++◌, ◌<◌, ◌≤◌, ◌^◌, List, get_or, take}
use Rattle.std.proofs.Common.{length, length-set, arith, add-one, ap, sym, ◌∙◌}
use Rattle.std.proofs.Math.Seq.{take-suc}
use Rattle.numa_lanes.specs.Spans.{node_count}
use Rattle.numa_plan.proofs.CountLemmas.{places_next, places_left, places_room}
use Rattle.numa_plan.proofs.tally.add_places.Goals as goal

-- one place more
nodes-more : (nodes : List ℕ) (i : ℕ) → i < length nodes → take (i + 1) nodes ≡ take i nodes
    ++ get_or nodes i 0 ∷ []
nodes-more nodes i l = ap (λ (n : ℕ). take n nodes) (add-one i) ∙ take-suc nodes i 0 l

pub overflow_add-counts : goal.overflow_add-counts
overflow_add-counts c =
    let at : ℕ = c.loop-node.node-index in
    let nodes : List ℕ = c.args.nodes.now in
    let hit : get_or nodes at 0 ≡ c.from.result = sym c.from.ensures in
    let small : c.from.result < 256 = omega (arith, c.type_inv.nodes at, hit) in
    let left : node_count c.from.result (take at nodes) + 1 ≤ node_count c.from.result nodes =
    places_left nodes at c.from.result c.loop-node-test.true hit in
    let room = places_room c.args.pages (node_count c.from.result (take at nodes))
    (node_count c.from.result nodes) (get_or c.loop-node.counts c.from.result 0)
    (get_or c.args.counts.now c.from.result 0) (2 ^ 64) left
    (c.loop-node.invariant.added c.from.result small) (c.requires c.from.result small) in
    omega (arith, room)

pub loop-node-preserved : goal.loop-node-preserved
loop-node-preserved c =
    let at : ℕ = c.loop-node.node-index in
    let nodes : List ℕ = c.args.nodes.now in
    let hit : get_or nodes at 0 ≡ c.from.result = sym c.from.ensures in
    let small : c.from.result < 256 = omega (arith, c.type_inv.nodes at, hit) in
    record {
      added = λ node lt.
          places_next c.loop-node.counts (take at nodes) c.from.result c.args.pages
          (λ node. get_or c.args.counts.now node 0)
          (omega (arith, small, c.loop-node.invariant.long)) c.loop-node.invariant.added node lt
          ∙ ap (λ (x : ℕ). get_or c.args.counts.now node 0 + c.args.pages * node_count node
          (take at nodes ++ x ∷ [])) (sym hit)
          ∙ ap (λ (part : List ℕ). get_or c.args.counts.now node 0 + c.args.pages * node_count node
          part) (sym (nodes-more nodes at c.loop-node-test.true));
      long = length-set _ _ _ ∙ c.loop-node.invariant.long;
    }
