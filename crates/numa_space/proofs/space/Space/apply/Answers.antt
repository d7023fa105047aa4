use Rattle.std.proofs.Common.{arith}
use Rattle.numa_space.proofs.Answers.{answer-ok, answer-err, answer-unchanged, answer-kept}
use Rattle.numa_space.proofs.Answers.{answer-step}
use Rattle.numa_space.proofs.space.Space.apply.Goals as goal

pub returns-clause-applied : goal.returns-clause-applied
returns-clause-applied c = record {
  ok = λ history stands. answer-ok c.args.self.now c.answer.new.self history c.args.command.now
      c.answer.result stands c.answer.ensures.answer;
  err = λ history stands. answer-err c.args.self.now c.answer.new.self history c.args.command.now
      c.answer.result stands c.answer.ensures.answer;
  unchanged = answer-unchanged c.args.self.now c.answer.new.self c.args.command.now c.answer.result
      c.answer.ensures.answer;
  room = c.answer.ensures.room;
  step = answer-step c.args.self.now c.answer.new.self c.args.command.now c.answer.result
      c.range_iter.ensures.rising c.range_iter.ensures.maximal
      (omega (arith, c.ranges-2.ensures.ranges, c.ranges-2.ensures.at_most))
      (omega (arith, c.task_count.ensures.tasks, c.task_count.ensures.at_most))
      c.answer.ensures.answer;
  machine =
      (answer-kept c.args.self.now c.answer.new.self c.args.command.now c.answer.result
      c.answer.ensures.answer).0;
  bounds =
      (answer-kept c.args.self.now c.answer.new.self c.args.command.now c.answer.result
      c.answer.ensures.answer).1;
}
