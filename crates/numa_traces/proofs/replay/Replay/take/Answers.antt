use Rattle.std.proofs.Common.{◌≡◌, ℕ, Bool, true, false, not, is_some, Option, Some, IfErr, sym, ap}
use Rattle.std.proofs.Common.{subst, ◌∙◌}
use Rattle.numa_traces.specs.Placing.{node_of}
use Rattle.numa_traces.specs.Replaying.{EndsReplay, IsNext, Replayed}
use Rattle.numa_traces.specs.Tallies.{Counts}
use Rattle.numa_traces.proofs.Replays.{in-any, next-of, none-refused, on-ok, placed-route}
use Rattle.numa_traces.proofs.Replays.{replayed, room-ends, touched-route}
use Rattle.numa_traces.proofs.replay.Replay.take.Goals as goal

pub returns-in-Some-clause-accepted : goal.returns-in-Some-clause-accepted
returns-in-Some-clause-accepted c =
    in-any c.add.result (none-refused c.args.plan.now c.args.access.task c.args.access.page
    c.args.access.cpu c.in-Ok.list.now c.in-Ok.ensures.ok.0 c.in-Ok.ensures.ok.1)

pub returns-clause-accepted : goal.returns-clause-accepted
returns-clause-accepted c =
    in-any c.add-2.result (none-refused c.args.plan.now c.args.access.task c.args.access.page
    c.args.access.cpu c.in-Ok.list.now c.in-Ok.ensures.ok.0 c.in-Ok.ensures.ok.1)

pub returns-in_default-place-clause-err : goal.returns-in_default-place-clause-err
returns-in_default-place-clause-err c = none-refused c.args.plan.now c.args.access.task
    c.args.access.page c.args.access.cpu c.in-Ok.list.now c.in-Ok.ensures.ok.0 c.in-Ok.ensures.ok.1

pub returns-in-Some-clause-err : goal.returns-in-Some-clause-err
returns-in-Some-clause-err c =
    let old : Replayed =
    record { frames = c.self.inside.memory; tallies = c.self.inside.tallies } in
    let lies : node_of old.frames.pages c.args.access.page ≡ Some c.in-Some.node =
    sym c.node_of.ensures ∙ c.in-Some.is in
    let none = none-refused c.args.plan.now c.args.access.task c.args.access.page c.args.access.cpu
    c.in-Ok.list.now c.in-Ok.ensures.ok.0 c.in-Ok.ensures.ok.1 in
    subst (λ (met : Replayed). IfErr c.add.result (EndsReplay c.args.plan.now met c.args.access))
    c.self.view_is
    (room-ends c.args.plan.now old c.args.access (
      c.args.access.task,
      c.args.access.cpu,
      Some c.in-Some.node,
    ) false c.add.result none
    (placed-route c.args.plan.now old.frames c.args.access c.in-Some.node lies)
    (ap (λ (o : Option ℕ). not (is_some o)) lies) c.add.ensures.err c.add.ensures.full)

pub returns-clause-err : goal.returns-clause-err
returns-clause-err c =
    let old : Replayed =
    record { frames = c.self.inside.memory; tallies = c.self.inside.tallies } in
    let none = none-refused c.args.plan.now c.args.access.task c.args.access.page c.args.access.cpu
    c.in-Ok.list.now c.in-Ok.ensures.ok.0 c.in-Ok.ensures.ok.1 in
    subst (λ (met : Replayed). IfErr c.add-2.result (EndsReplay c.args.plan.now met c.args.access))
    c.self.view_is
    (room-ends c.args.plan.now old c.args.access (
      c.args.access.task,
      c.args.access.cpu,
      c.in-Ok-place.node,
    ) true c.add-2.result none
    (touched-route c.args.plan.now old.frames c.place.new.self c.args.access c.in-Ok.list.now
    c.in-Ok-place.node c.in-Ok.ensures.ok.1 c.in-Ok-place.ensures.placed
    c.in-Ok-place.ensures.lies)
    (ap (λ (o : Option ℕ). not (is_some o)) (sym c.node_of.ensures ∙ c.in_default.is))
    c.add-2.ensures.err c.add-2.ensures.full)

pub returns-clause-next : goal.returns-clause-next
returns-clause-next c =
    let P : Replayed → Type 0 = λ met. IsNext c.args.plan.now c.args.access met
    (record { frames = c.place.new.self; tallies = c.add-2.new.self }) in
    let old : Replayed =
    record { frames = c.self.inside.memory; tallies = c.self.inside.tallies } in
    let new : Replayed = record { frames = c.place.new.self; tallies = c.add-2.new.self } in
    let lies : node_of new.frames.pages c.args.access.page ≡ c.in-Ok-place.node =
    c.in-Ok-place.ensures.lies in
    let fault : true ≡ not (is_some (node_of old.frames.pages c.args.access.page)) =
    sym (ap (λ o. not (is_some o)) (sym c.node_of.ensures ∙ c.in_default.is)) in
    let counted : Option ℕ → Bool → Type 0 = λ node is_fault.
    Counts old.tallies (c.args.access.task, c.args.access.cpu, node) c.args.access.count
    is_fault new.tallies in
    let next = λ (counts : counted c.in-Ok-place.node true). subst P c.self.view_is
    (next-of c.args.plan.now c.args.access old new c.in-Ok.list.now c.in-Ok.ensures.ok.1
    c.in-Ok-place.ensures.placed
    (subst (counted (node_of new.frames.pages c.args.access.page)) fault
    (subst (λ node. counted node true) (sym lies) counts))) in
    on-ok c.add-2.result next c.add-2.ensures.counts

pub returns-clause-ok : goal.returns-clause-ok
returns-clause-ok c machine trace was = on-ok c.add-2.result
    (λ next. replayed machine c.args.plan.now trace c.args.access c.args.self.now
    (record { frames = c.place.new.self; tallies = c.add-2.new.self }) next was)
    (returns-clause-next c)
