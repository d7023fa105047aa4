use Rattle.std.proofs.Common.{None, Some, Ok, Err}
use Rattle.numa_traces.proofs.Stepped.{marked-line, other-line}
use Rattle.numa_traces.proofs.trace_state.TraceState.step.Goals as goal

pub returns-in-Some : goal.returns-in-Some
returns-in-Some c =
    marked-line c.args.self.now.process c.args.line.now c.in-Some.text.now c.in-Some.ensures

pub returns-in-Err : goal.returns-in-Err
returns-in-Err c = other-line c.args.self.now.process c.args.line.now (Err c.in-Err.fault)
    c.in_default.ensures c.in-Err.ensures

pub returns-in-Ok-None : goal.returns-in-Ok-None
returns-in-Ok-None c = other-line c.args.self.now.process c.args.line.now (Ok None)
    c.in_default.ensures (rw c.in-Ok-None.field-0-is at c.in-Ok-None.ensures)

pub returns-in-Ok-Some : goal.returns-in-Ok-Some
returns-in-Ok-Some c =
    other-line c.args.self.now.process c.args.line.now (Ok (Some c.in-Ok-Some.access))
    c.in_default.ensures (rw c.in-Ok-Some.field-0-is at c.in-Ok-Some.ensures)
