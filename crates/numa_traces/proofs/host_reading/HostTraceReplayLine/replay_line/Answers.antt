use Rattle.std.proofs.Common.{ℕ, Option, None, Some, Ok, Err, Result, OnOk, IfErr, refl, subst}
use Rattle.numa_traces.specs.HostReading.{EndsAtHostLine, ReplaysHostLine}
use Rattle.numa_traces.specs.Phases.{Step}
use Rattle.numa_traces.specs.declared.access.Access.{Access}
use Rattle.numa_traces.specs.declared.fault.ReplayError.{ReplayError}
use Rattle.numa_traces.specs.declared.host_reading.HostTrace.{HostTrace}
use Rattle.numa_traces.proofs.Closing.{marked-line, other-line, touched-host}
use Rattle.numa_traces.proofs.host_reading.HostTraceReplayLine.replay_line.Goals as goal

abbrev Said : Type 0
Said = Result (Option (Step (ℕ × Access))) ReplayError

pub returns-in-Some-clause-ok : goal.returns-in-Some-clause-ok
returns-in-Some-clause-ok c =
    subst (λ (said : Said). OnOk c.close.result
    (ReplaysHostLine said c.args.self.now c.close.new.self))
    (marked-line c.args.line.now c.in-Some.text.now c.in-Some.ensures) c.close.ensures.ok

pub returns-in-Some-clause-err : goal.returns-in-Some-clause-err
returns-in-Some-clause-err c =
    subst (λ (said : Said). IfErr c.close.result (EndsAtHostLine said c.args.self.now))
    (marked-line c.args.line.now c.in-Some.text.now c.in-Some.ensures) c.close.ensures.err

pub returns-in-Err-clause-err : goal.returns-in-Err-clause-err
returns-in-Err-clause-err c =
    subst (λ (said : Said). EndsAtHostLine said c.args.self.now c.in-Err.fault)
    (other-line c.args.line.now (Err c.in-Err.fault) c.in_default.ensures c.in-Err.ensures) refl

pub returns-in-Ok-None-clause-ok : goal.returns-in-Ok-None-clause-ok
returns-in-Ok-None-clause-ok c =
    subst (λ (said : Said). ReplaysHostLine said c.args.self.now c.args.self.now)
    (other-line c.args.line.now (Ok None) c.in_default.ensures
    (rw c.in-Ok-None.field-0-is at c.in-Ok-None.ensures)) refl

pub returns-in-Ok-Some-clause-ok : goal.returns-in-Ok-Some-clause-ok
returns-in-Ok-Some-clause-ok c =
    let old : HostTrace = c.args.self.now in
    subst (λ (said : Said). OnOk c.take.result (ReplaysHostLine said old
    (record { alloc = old.alloc; replay = c.take.new.self; marks = old.marks })))
    (other-line c.args.line.now (Ok (Some (c.in-Ok-Some.process, c.in-Ok-Some.access)))
    c.in_default.ensures (rw c.in-Ok-Some.field-0-is at c.in-Ok-Some.ensures))
    (touched-host c.take.result old c.take.new.self (c.in-Ok-Some.process, c.in-Ok-Some.access)
    c.take.ensures.processes c.take.ensures.ok c.take.ensures.accepted)

pub returns-in-Ok-Some-clause-err : goal.returns-in-Ok-Some-clause-err
returns-in-Ok-Some-clause-err c =
    subst (λ (said : Said). IfErr c.take.result (EndsAtHostLine said c.args.self.now))
    (other-line c.args.line.now (Ok (Some (c.in-Ok-Some.process, c.in-Ok-Some.access)))
    c.in_default.ensures (rw c.in-Ok-Some.field-0-is at c.in-Ok-Some.ensures)) c.take.ensures.err
