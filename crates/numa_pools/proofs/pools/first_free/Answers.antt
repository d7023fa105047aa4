use Rattle.std.proofs.Common.{◌≡◌, ℕ, ◌<◌, List, ◌∷◌, true, false, arith, get_or, refl, sym}
use Rattle.std.proofs.Common.{◌∙◌, Some}
use Rattle.std.specs.Prelude.{nat_lt, slice_index}
use Rattle.std.proofs.lemmas.Bool.{le-ltb, lt-ltb}
use Rattle.std.proofs.lemmas.List.{at_drop_all, at_drop_more}
use Rattle.numa_pools.specs.Pools.{first_free}
use Rattle.numa_pools.proofs.pools.first_free.Goals as goal

found : (free : List ℕ) (node : ℕ) (nodes : List ℕ) → 0 < slice_index free node
    → first_free free (node ∷ nodes) ≡ Some node
found free node nodes some =
    let full : nat_lt 0 (slice_index free node) ≡ true = lt-ltb 0 (slice_index free node) some in
    rw full refl

passed : (free : List ℕ) (node : ℕ) (nodes : List ℕ) → slice_index free node ≡ 0
    → first_free free (node ∷ nodes) ≡ first_free free nodes
passed free node nodes none =
    let empty : nat_lt 0 (slice_index free node) ≡ false =
    le-ltb 0 (slice_index free node) (omega (arith, none)) in
    rw empty refl

pub loop-node-preserved : goal.loop-node-preserved
loop-node-preserved c =
    c.loop-node.invariant
    ∙ at_drop_more (first_free c.args.free.now) c.args.nodes.now c.loop-node.node-index 0
    c.loop-node-test.true
    ∙ passed c.args.free.now (get_or c.args.nodes.now
    c.loop-node.node-index 0) _ (omega (arith, c.if-free-node-gt0.false))

pub returns-then-free-node-gt0-clause-node : goal.returns-then-free-node-gt0-clause-node
returns-then-free-node-gt0-clause-node c =
    sym (c.loop-node.invariant
    ∙ at_drop_more (first_free c.args.free.now) c.args.nodes.now c.loop-node.node-index 0
    c.loop-node-test.true
    ∙ found c.args.free.now (get_or c.args.nodes.now
    c.loop-node.node-index 0) _ c.if-free-node-gt0.true)

pub returns-clause-node : goal.returns-clause-node
returns-clause-node c =
    sym (c.loop-node.invariant
    ∙ at_drop_all (first_free c.args.free.now) c.args.nodes.now c.loop-node.node-index
    c.loop-node-test.false)
