use Rattle.numaplan_handles.proofs.Ranged.{range-end}
use Rattle.numaplan_handles.proofs.core_questions.range_of.Goals as goal

pub returns-clause-end : goal.returns-clause-end
returns-clause-end c = range-end c.args.space.now.ranges c.args.place c.range_at.result
    c.range_iter.ensures.rising c.range_at.ensures.range

pub returns-clause-meaning : goal.returns-clause-meaning
returns-clause-meaning c history stands =
    record {
      rising = c.range_iter.ensures.rising;
      each =
          c.range_iter.ensures.meaning history stands;
    }
