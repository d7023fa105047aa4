use Rattle.std.proofs.Common.{◌≡◌, ◌-◌, ◌+◌, ◌<◌, arith, inl, inr, ap, ◌∙◌}
use Rattle.std.proofs.lemmas.Bool.{cases_lt}
use Rattle.std.specs.List.{fold, range_with_len}
use Rattle.numa_mask.specs.NodeSet.{with_node}
use Rattle.numa_mask.proofs.Reading.{between_more}
use Rattle.numa_mask.proofs.list.insert_between.Goals as goal

pub loop-number-preserved : goal.loop-number-preserved
loop-number-preserved c = record {
  set = between_more c.args.set.now c.loop-number.set c.insert.new.self c.args.first
      c.loop-number.number c.of.result c.loop-number.auto.number c.loop-number.invariant.set
      c.of.ensures c.insert.ensures;
  none = λ back. absurd (omega (arith, c.loop-number-test.true, c.loop-number.auto.number));
}

pub returns : goal.returns
returns c =
    let back : c.args.last < c.args.first = elim (cases_lt c.args.last c.args.first) [
      | inl back ↦ back
      | inr front ↦
          absurd (omega (arith, c.loop-number.auto.number-end front, c.loop-number-test.false))
    ] in
    let start : c.loop-number.number ≡ c.args.first = c.loop-number.invariant.none back in
    let none : c.loop-number.number - c.args.first ≡ c.args.last + 1 - c.args.first = omega arith in
    c.loop-number.invariant.set ∙ ap
    (λ n. fold with_node c.args.set.now (range_with_len c.args.first n)) none

pub returns-2 : goal.returns-2
returns-2 c =
    let all : c.loop-number.number + 1 - c.args.first ≡ c.args.last + 1 - c.args.first =
    omega arith in
    between_more c.args.set.now c.loop-number.set c.insert.new.self c.args.first
    c.loop-number.number c.of.result c.loop-number.auto.number c.loop-number.invariant.set
    c.of.ensures c.insert.ensures
    ∙ ap (λ n. fold with_node c.args.set.now (range_with_len c.args.first n)) all
