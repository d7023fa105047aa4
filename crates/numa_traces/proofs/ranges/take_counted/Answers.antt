use Rattle.std.proofs.Common.{◌∙◌, ℕ, Bool, Option, Some, IfErr, OnOk, ap, inl, inr, is_some}
use Rattle.std.proofs.Common.{subst, sym}
use Rattle.numa_traces.specs.Placing.{Frames, node_of}
use Rattle.numa_traces.specs.Ranging.{CountsRange, EndsCounted, Ranged}
use Rattle.numa_traces.specs.Replaying.{is_first, route_from}
use Rattle.numa_traces.specs.Tallies.{Route}
use Rattle.numa_traces.proofs.RangeCounted.{counted-ends, counted-range, uncounted}
use Rattle.numa_traces.proofs.Replays.{in-any, on-ok}
use Rattle.numa_traces.proofs.Stepped.{if-err}
use Rattle.numa_traces.proofs.ranges.take_counted.Goals as goal

pub returns-in_default-clause-ranges : goal.returns-in_default-clause-ranges
returns-in_default-clause-ranges c =
    in-any c.take.result (uncounted c.args.ranges.now c.args.access
    (route_from c.args.plan.now c.args.replay.now.frames c.args.access)
    (is_first c.args.replay.now.frames c.args.access) c.in_default.is)

pub returns-in_default-clause-err : goal.returns-in_default-clause-err
returns-in_default-clause-err c = if-err c.take.result (λ why ends. inr (inl ends)) c.take.ensures.err

pub returns-in-Err-clause-err : goal.returns-in-Err-clause-err
returns-in-Err-clause-err c = inr (inl c.in-Err.ensures.err)

pub returns-clause-accepted : goal.returns-clause-accepted
returns-clause-accepted c = in-any c.count.result c.in_default-take.ensures.accepted

pub returns-clause-next : goal.returns-clause-next
returns-clause-next c = in-any c.count.result c.in_default-take.ensures.next

pub returns-clause-ranges : goal.returns-clause-ranges
returns-clause-ranges c =
    let page = c.args.access.page in
    let lies = c.node_of-node.ensures
    ∙ ap (λ (frames : Frames). node_of frames.pages page) c.memory-2.ensures in
    let fault = ap (λ (node : Option ℕ). is_some node) (sym (c.node_of-was.ensures
    ∙ ap (λ (frames : Frames). node_of frames.pages page) c.memory.ensures)) ∙ c.is_none.ensures in
    let route : Route = route_from c.args.plan.now c.args.replay.now.frames c.args.access in
    let first : Bool = is_first c.args.replay.now.frames c.args.access in
    subst (λ (ranges : Option Ranged). OnOk c.count.result (CountsRange ranges c.args.access route
    first (Some c.count.new.self))) (sym c.in-Some.is)
    (on-ok c.count.result (counted-range c.args.plan.now c.args.access c.args.replay.now
    c.take-2.new.self c.in-Some.counted c.node_of-node.result c.is_none.result
    c.in_default-take.ensures.next lies fault c.count.new.self c.count.ensures.firsts)
    c.count.ensures.counts)

pub returns-clause-err : goal.returns-clause-err
returns-clause-err c =
    let page = c.args.access.page in
    let lies = c.node_of-node.ensures
    ∙ ap (λ (frames : Frames). node_of frames.pages page) c.memory-2.ensures in
    let fault = ap (λ (node : Option ℕ). is_some node) (sym (c.node_of-was.ensures
    ∙ ap (λ (frames : Frames). node_of frames.pages page) c.memory.ensures)) ∙ c.is_none.ensures in
    subst (λ (ranges : Option Ranged). IfErr c.count.result
    (EndsCounted c.args.plan.now c.args.replay.now ranges c.args.access)) (sym c.in-Some.is)
    (counted-ends c.args.plan.now c.args.access c.args.replay.now c.take-2.new.self
    c.in-Some.counted c.node_of-node.result c.is_none.result c.in_default-take.ensures.next lies
    fault c.count.result c.count.ensures.err c.count.ensures.full)
