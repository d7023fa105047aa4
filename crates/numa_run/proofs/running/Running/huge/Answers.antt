use Rattle.numa_run.proofs.Faulted.{huge-begun, huge-plain}
use Rattle.numa_run.proofs.running.Running.huge.Goals as goal

pub returns-then-not-begins : goal.returns-then-not-begins
returns-then-not-begins c =
    huge-plain c.args.self.now c.args.self.now c.huge_begun.new.self c.args.said.now
    c.huge_begun.result c.begins.result c.begins.ensures c.if-not-begins.true
    c.huge_begun.ensures

pub returns : goal.returns
returns c =
    huge-begun c.args.self.now c.begin_huge.new.self c.huge_begun-2.new.self c.args.said.now
    c.huge_begun-2.result c.begins.result c.begins.ensures c.if-not-begins.false
    c.begin_huge.ensures.core c.begin_huge.ensures.runs c.huge_begun-2.ensures
