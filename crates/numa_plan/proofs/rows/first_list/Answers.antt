use Rattle.std.proofs.Common.{◌+◌, ◌∙◌, ap, arith}
use Rattle.std.proofs.lemmas.List.{take_all}
use Rattle.numa_plan.specs.Rules.{first_nodes}
use Rattle.numa_plan.proofs.ListSteps.{first-more}
use Rattle.numa_plan.proofs.rows.first_list.Goals as goal

pub push_reserved-requires : goal.push_reserved-requires
push_reserved-requires c = omega (arith, c.loop-number.invariant.size, c.loop-number.invariant.room)

pub loop-number-preserved : goal.loop-number-preserved
loop-number-preserved c = record {
  same = first-more c.args.rows.now c.args.width c.args.cycle.now c.loop-number.firsts.items
      c.push_reserved.new.self.items c.first_at.result c.loop-number.number-index (omega arith)
      c.first_at.ensures c.loop-number.invariant.same c.push_reserved.ensures.items;
  size = c.push_reserved.ensures.len ∙ ap (λ n. n + 1) c.loop-number.invariant.size;
  room = omega (arith, c.push_reserved.ensures.capacity, c.loop-number.invariant.room);
}

pub returns : goal.returns
returns c = c.loop-number.invariant.same ∙ ap (first_nodes c.args.rows.now c.args.width)
    (take_all c.loop-number.number-index c.args.cycle.now (omega arith))
