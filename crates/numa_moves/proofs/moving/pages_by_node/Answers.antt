use Rattle.std.proofs.Common.{ℕ, List, ap, arith}
use Rattle.std.proofs.lemmas.List.{drop_all, drop_more}
use Rattle.std.proofs.lemmas.Simd.{get_or-replicate}
use Rattle.numa_moves.specs.Shares.{pages_on}
use Rattle.numa_moves.specs.declared.share.Share.{Share}
use Rattle.numa_moves.proofs.moving.pages_by_node.Goals as goal

pub loop-share-init : goal.loop-share-init
loop-share-init c node small few = omega (arith, get_or-replicate {A = ℕ} 256 node 0 0 small)

pub loop-share-preserved : goal.loop-share-preserved
loop-share-preserved c node small few =
    let d : Share = record { span = record { first = 0; pages = 0 }; node = 0; there = 0 } in
    let before = c.loop-share.invariant node small few in
    let step = ap (λ (l : List Share). pages_on l node)
    (drop_more c.args.shares.now c.loop-share.share-index d c.loop-share-test.true) in
    omega (
      arith,
      before,
      step,
      few,
      c.add_share.ensures node small (omega (arith, before, step, few)),
    )

pub returns : goal.returns
returns c node small few =
    omega (
      arith,
      c.loop-share.invariant node small few,
      ap (λ (l : List Share). pages_on l node)
          (drop_all c.loop-share.share-index c.args.shares.now c.loop-share-test.false),
    )
