use Rattle.std.proofs.Common.{arith}
use Rattle.numa_plan.proofs.CountLemmas.{count-most}
use Rattle.numa_plan.specs.Meaning.{is_number, planned_first}
use Rattle.numa_reports.proofs.Placed.{few-numbers}
use Rattle.numa_reports.proofs.lying.add_alike.Goals as goal

pub move_counts-requires-clause-few : goal.move_counts-requires-clause-few
move_counts-requires-clause-few c = few-numbers
    (λ page. planned_first c.args.asked.plan.now c.args.asked.touch.task page
    c.args.asked.touch.cpu) c.args.first
    c.args.alike.pages c.in-Ok.part (omega arith) c.in-Ok.ensures.ok.2

pub move_counts-requires-clause-room : goal.move_counts-requires-clause-room
move_counts-requires-clause-room c node small =
    omega (
      arith,
      c.in-Ok.ensures.ok.2 node small,
      count-most (λ page. is_number node
          (planned_first c.args.asked.plan.now c.args.asked.touch.task page
          c.args.asked.touch.cpu)) c.args.first
          c.args.alike.pages,
      c.requires.room node small,
    )
