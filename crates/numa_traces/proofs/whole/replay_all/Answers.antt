use Rattle.std.proofs.Common.{List, inr, reverse, subst, sym, take}
use Rattle.std.proofs.lemmas.List.{take_all}
use Rattle.numa_traces.specs.Replaying.{IsReplay}
use Rattle.numa_traces.specs.declared.access.Access.{Access}
use Rattle.numa_traces.proofs.Reversed.{next-reversed}
use Rattle.numa_traces.proofs.whole.replay_all.Goals as goal

pub loop-place-preserved : goal.loop-place-preserved
loop-place-preserved c =
    let d : Access = record { task = 0; page = 0; cpu = 0; count = 0 } in
    let before = reverse (take c.loop-place.place c.args.trace.now) in
    subst (λ (t : List Access). IsReplay c.args.machine.now c.args.plan.now t c.take.new.self)
    (sym (next-reversed c.args.trace.now c.loop-place.place d c.loop-place-test.true))
    (c.in_default-take.ensures.ok c.args.machine.now before c.loop-place.invariant)

pub returns-in-Err-clause-err : goal.returns-in-Err-clause-err
returns-in-Err-clause-err c =
    let d : Access = record { task = 0; page = 0; cpu = 0; count = 0 } in
    inr (c.loop-place.replay, c.loop-place.invariant, c.loop-place-test.true, d, c.in-Err.ensures.err)

pub returns-clause-ok : goal.returns-clause-ok
returns-clause-ok c = subst (λ (t : List Access). IsReplay c.args.machine.now c.args.plan.now
    (reverse t) c.loop-place.replay)
    (take_all c.loop-place.place c.args.trace.now c.loop-place-test.false) c.loop-place.invariant
