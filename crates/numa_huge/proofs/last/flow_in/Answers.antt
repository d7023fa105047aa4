use Rattle.std.proofs.Common.{◌≤◌, ℕ, Bool, List, ap, arith, get_or, true, false}
use Rattle.std.proofs.lemmas.List.{drop_all}
use Rattle.std.proofs.lemmas.Simd.{get_or-replicate}
use Rattle.numa_huge.specs.Tallies.{flow_in, is_flow}
use Rattle.numa_huge.specs.declared.last.HugeMove.{HugeMove}
use Rattle.numa_huge.proofs.Flowing.{flow-next, one_if}
use Rattle.numa_huge.proofs.last.flow_in.Goals as goal

at-most : (b : Bool) → one_if b ≤ 1
at-most true = omega arith
at-most false = omega arith

pub loop-gone-init : goal.loop-gone-init
loop-gone-init c = record {
  sum = λ to small. omega (arith, get_or-replicate {A = ℕ} 256 to 0 0 small);
  few = λ to small. omega (arith, get_or-replicate {A = ℕ} 256 to 0 0 small);
}

pub add_move-requires : goal.add_move-requires
add_move-requires c to small = omega (arith, c.loop-gone.invariant.few to small)

pub loop-gone-preserved : goal.loop-gone-preserved
loop-gone-preserved c =
    let d : HugeMove = record { from = 0; to = 0 } in
    let at : ℕ = c.loop-gone.gone-index in
    let gone : HugeMove = get_or c.args.moves.now at d in
    record {
      sum = λ to small. omega (
        arith,
        c.loop-gone.invariant.sum to small,
        c.add_move.ensures to small,
        flow-next c.args.moves.now at c.args.from to d c.loop-gone-test.true,
      );
      few = λ to small. omega (
        arith,
        c.loop-gone.invariant.few to small,
        c.add_move.ensures to small,
        at-most (is_flow c.args.from to gone),
      );
    }

pub returns : goal.returns
returns c to small =
    omega (
      arith,
      c.loop-gone.invariant.sum to small,
      ap (λ (l : List HugeMove). flow_in l c.args.from to)
          (drop_all c.loop-gone.gone-index c.args.moves.now c.loop-gone-test.false),
    )
