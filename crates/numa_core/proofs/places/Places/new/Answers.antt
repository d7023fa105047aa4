use Rattle.std.proofs.Common.{◌≡◌, ◌≢◌, ◌==◌, ◌⊎◌, inl, inr, true, false, ℕ, List, ◌+◌, ◌<◌, ◌≤◌}
use Rattle.std.proofs.Common.{◌∷◌, [], ◌++◌, arith, sym, ap, subst, ◌∙◌, length, slice_index, take}
use Rattle.std.proofs.lemmas.Bool.Decides.{eqb_tells}
use Rattle.std.proofs.lemmas.List.{take_more, take_all}
use Rattle.numa_machine.proofs.NoFault.{frames_size}
use Rattle.numa_core.specs.Standing.{frames_before}
use Rattle.numa_core.proofs.InARow.{sums-more, all-few, before-next}
use Rattle.numa_core.proofs.places.Places.new.Goals as goal

below_few : (frames : List ℕ) (node : ℕ) → ((n : ℕ) → n < node → slice_index frames n ≤ 4096)
    → slice_index frames node ≤ 4096 → (n : ℕ) → n < node + 1 → slice_index frames n ≤ 4096
below_few frames node few here n low = go (eqb_tells n node)
  where
    go : ((n == node ≡ true) × (n ≡ node)) ⊎ ((n == node ≡ false) × (n ≢ node))
        → slice_index frames n ≤ 4096
    go (inl e) = subst (λ i. slice_index frames i ≤ 4096) (sym e.1) here
    go (inr e) = let ne : n ≢ node = e.1 in few n (omega arith)

-- each node was counted
end : (c : goal.After-loop-node) → c.loop-node.node ≡ length c.args.machine.now.frames
end c =
    let size = frames_size c.args.machine.now.nodes c.args.machine.now.memory
    c.args.machine.now.distances c.args.machine.now.frames c.nodes-nodes.ensures.no_fault in
    omega (arith, c.nodes-nodes.ensures.nodes, c.loop-node-test.false, c.loop-node.auto.node-end)

whole : (c : goal.After-loop-node) → c.loop-node.frames.items ≡ c.args.machine.now.frames
whole c = c.loop-node.invariant.counts ∙ take_all c.loop-node.node c.args.machine.now.frames
    (let is = end c in omega arith)

pub loop-node-preserved : goal.loop-node-preserved
loop-node-preserved c =
    let size = frames_size c.args.machine.now.nodes c.args.machine.now.memory
    c.args.machine.now.distances c.args.machine.now.frames c.nodes-nodes.ensures.no_fault in
    let within : c.loop-node.node < length c.args.machine.now.frames =
    omega (arith, c.nodes-nodes.ensures.nodes, c.loop-node-test.true) in
    let count : c.frames-count.result ≡ slice_index c.args.machine.now.frames c.loop-node.node =
    c.frames-count.ensures.frames in
    record {
      counts = c.in_ok-push.ensures.items ∙ ap (λ xs. xs ++ c.frames-count.result ∷ [])
          c.loop-node.invariant.counts ∙ ap (λ x. take c.loop-node.node c.args.machine.now.frames
          ++ x ∷ []) count ∙ sym (take_more c.args.machine.now.frames c.loop-node.node 0 within);
      as_long = omega (arith, c.in_ok-push.ensures.len, c.loop-node.invariant.as_long);
      sums_long = omega (arith, c.in_ok-push-2.ensures.len, c.loop-node.invariant.sums_long);
      sums = λ n low. ap (λ xs. slice_index xs n) c.in_ok-push-2.ensures.items
          ∙ sums-more c.args.machine.now.frames c.loop-node.before.items c.loop-node.total
          c.loop-node.node (omega (arith, c.loop-node.before.ok.0, c.loop-node.invariant.sums_long))
          c.loop-node.invariant.sums c.loop-node.invariant.total n low;
      total =
          omega (
            arith,
            c.loop-node.invariant.total,
            count,
            before-next c.args.machine.now.frames
                c.loop-node.node,
          );
      few = λ n low. below_few c.args.machine.now.frames c.loop-node.node c.loop-node.invariant.few
          (subst (λ x. x ≤ 4096) count c.frames-count.ensures.at_most) n low;
      small = omega (arith, c.loop-node.invariant.small, c.frames-count.ensures.at_most);
    }

pub invariant_of-result : goal.invariant_of-result
invariant_of-result c = record {
  as_long = omega (
    arith,
    c.loop-node.invariant.as_long,
    c.loop-node.invariant.sums_long,
    c.loop-node.frames.ok.0,
    c.loop-node.before.ok.0,
  );
  sums = λ n low. subst (λ (fs : List ℕ). n < length fs → slice_index c.loop-node.before.items n
      ≡ frames_before fs n) (sym (whole c))
      (λ few. c.loop-node.invariant.sums n (subst (λ m. n < m) (sym (end c)) few)) low;
  total_is = subst (λ (fs : List ℕ). c.loop-node.total ≡ frames_before fs (length fs))
      (sym (whole c)) (c.loop-node.invariant.total ∙ ap (frames_before c.args.machine.now.frames)
      (end c));
  few = subst (λ (fs : List ℕ). (n : ℕ) → slice_index fs n ≤ 4096) (sym (whole c))
      (all-few c.args.machine.now.frames
      (λ n low. c.loop-node.invariant.few n (subst (λ m. n < m) (sym (end c)) low)));
  small = omega (
    arith,
    c.loop-node.invariant.small,
    c.loop-node.auto.node-end,
    c.nodes-nodes.ensures.at_most,
  );
}

pub returns : goal.returns
returns c = whole c
