use Rattle.std.proofs.Common.{ℕ, Option, IfErr, OnOk, inl, refl, subst}
use Rattle.numa_traces.specs.Phases.{accesses_in}
use Rattle.numa_traces.specs.Ranging.{CountsRange, EndsCounted}
use Rattle.numa_traces.specs.Replaying.{IsNext, Replayed, is_first, route_from}
use Rattle.numa_traces.specs.Placing.{Frames}
use Rattle.numa_traces.specs.Resting.{laid, lies_where}
use Rattle.numa_traces.specs.declared.trace_state.TraceState.{TraceState}
use Rattle.numa_traces.proofs.ByRange.{counted-same, more-ranged, on-three}
use Rattle.numa_traces.proofs.Stepped.{touched}
use Rattle.numa_traces.proofs.trace_state.TraceState.touch.Goals as goal

pub returns-in-Err-clause-err : goal.returns-in-Err-clause-err
returns-in-Err-clause-err c = inl c.in-Err.ensures.err

pub returns-clause-ok : goal.returns-clause-ok
returns-clause-ok c =
    let old : TraceState = c.args.self.now in
    let plan = c.args.plan.now in
    let there : ℕ → Option ℕ = lies_where c.args.before.now in
    let access = c.args.access in
    let ranges = c.take_counted.new.ranges in
    let found = c.in_default.ensures.found in
    let frames : Frames = laid there old.replay.frames access.page in
    on-three c.take_counted.result (λ allowed next counts. (
      record {
        process = refl;
        ranges = counted-same old.ranges ranges access (route_from plan frames access)
            (is_first frames access) counts;
      },
      allowed,
      λ start steps was. record {
        trace = touched plan there start steps access old.replay c.take_counted.new.replay
            old.marks.items next was.trace;
        ranges = more-ranged plan there start (accesses_in steps) access old.replay.frames
            old.ranges ranges was.trace.frames counts was.ranges;
      },
    )) c.take_counted.ensures.accepted
    (subst (λ (met : Replayed). OnOk c.take_counted.result
    (IsNext plan access met c.take_counted.new.replay)) found c.take_counted.ensures.next)
    (subst (λ (met : Replayed). OnOk c.take_counted.result (CountsRange old.ranges access
    (route_from plan met.frames access) (is_first met.frames access) ranges)) found
    c.take_counted.ensures.ranges)

pub returns-clause-err : goal.returns-clause-err
returns-clause-err c =
    let old : TraceState = c.args.self.now in
    subst (λ (met : Replayed). IfErr c.take_counted.result
    (EndsCounted c.args.plan.now met old.ranges c.args.access)) c.in_default.ensures.found
    c.take_counted.ensures.err
