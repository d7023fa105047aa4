-- A record that is added stands behind all others, so each keeps its number.
use Rattle.std.proofs.Common.{List, subst, arith}
use Rattle.numa_mode.specs.Policy.{PolicyRecord}
use Rattle.numa_ranges.specs.Numbered.{IsLonger}
use Rattle.numa_ranges.proofs.Numbered.{longer-more, last-value}
use Rattle.numa_space.proofs.task_records.TaskRecords.append.Goals as goal

pub returns-clause-number : goal.returns-clause-number
returns-clause-number c =
    rw c.in_ok-push.ensures.items
    (last-value c.self.inside.items.items c.args.policy c.len-len.result
    (omega (arith, c.len-len.ensures, c.self.inside.items.ok.0)))

pub returns-clause-longer : goal.returns-clause-longer
returns-clause-longer c =
    subst (λ (l : List PolicyRecord). IsLonger l c.push.new.self.items) c.self.view_is
    (rw c.in_ok-push.ensures.items (longer-more c.self.inside.items.items c.args.policy))

pub returns-clause-unchanged : goal.returns-clause-unchanged
returns-clause-unchanged c = tt
