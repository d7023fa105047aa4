use Rattle.std.proofs.Common.{◌≡◌, ℕ, ◌-◌, ◌+◌, ◌∙◌, Bool, Option, sym, suc, arith, ap}
use Rattle.numa_placed.specs.Shifts.{later_of, source_from}
use Rattle.numa_placed.proofs.Sources.{source-clear, source-next, source-none}
use Rattle.numa_placed.proofs.course.next_source.Goals as goal

pub returns-then-is_clear : goal.returns-then-is_clear
returns-then-is_clear c go still are waits =
    let node = c.loop-node.node in
    let size : 256 - node ≡ suc (255 - node) = omega (arith, c.loop-node-test.true) in
    sym (source-clear go still c.loop-node.last node (255 - node) (256 - node) size
    (sym (c.is_clear.ensures go still are waits) ∙ c.if-is_clear.true))
    ∙ c.loop-node.invariant.so_far go still are waits

pub loop-node-preserved : goal.loop-node-preserved
loop-node-preserved c = record {
  so_far = λ go still are waits.
      let node = c.loop-node.node in
      let size : 256 - node ≡ suc (256 - (node + 1)) = omega (arith, c.loop-node-test.true) in
      let last = c.later_of-last.ensures
      ∙ ap (λ (b : Bool). later_of b node c.loop-node.last) (c.may_go.ensures go still are waits) in
      ap (λ (l : Option ℕ). source_from go still l (node + 1) (256 - (node + 1))) last
      ∙ sym (source-next go still c.loop-node.last node (256 - (node + 1)) (256 - node) size
      (sym (c.is_clear.ensures go still are waits) ∙ c.if-is_clear.false))
      ∙ c.loop-node.invariant.so_far go still are waits;
}

pub returns : goal.returns
returns c go still are waits =
    let node = c.loop-node.node in
    let none : 256 - node ≡ 0 = omega (arith, c.loop-node-test.false) in
    sym (ap (λ (n : ℕ). source_from go still c.loop-node.last node n) none
    ∙ source-none go still c.loop-node.last node)
    ∙ c.loop-node.invariant.so_far go still are waits
