use Rattle.std.proofs.Common.{Bool, false, refl, sym, ap, ◌∙◌}
use Rattle.std.specs.Prelude.{if◌then◌else◌}
use Rattle.numa_placed.specs.Spots.{is_placed}
use Rattle.numa_page_state.specs.Outcomes.{Enough}
use Rattle.numa_script.specs.declared.reply.Reply.TheVariants as reply
use Rattle.numa_script.specs.declared.work.Work.TheVariants as work
use Rattle.numa_run.specs.Answering.{with_reply}
use Rattle.numa_run.specs.PageLines.{work_served, worked}
use Rattle.numa_run.specs.Work.{work_outcome}
use Rattle.numa_run.specs.declared.running.Running.{Running}
use Rattle.numa_run.proofs.Doing.{does-event}
use Rattle.numa_run.proofs.LineLemmas.{done_here, serves_same}
use Rattle.numa_run.proofs.Paged.{there-plain, there-refused}
use Rattle.numa_run.proofs.running.Running.work.Goals as goal

pub returns-in-Event : goal.returns-in-Event
returns-in-Event c =
    let stepped : Running = record c.args.self.now { core = c.step-answer.new.self } in
    rw (c.in-Event.is, c.to_event.ensures)
    (done_here c.args.self.now stepped _
    (λ lack s state. work_outcome lack s state.world state.resident
    (work.Event c.in-Event.event))
    (λ lack machine state. work_served lack machine state (work.Event c.in-Event.event))
    (does-event c.args.self.now stepped c.in-Event.event c.step-answer.result
    c.step-answer.ensures.answer c.step-answer.ensures.setup refl (refl, refl))
    (λ lack state stands. refl))

pub returns-then-is_huge_part : goal.returns-then-is_huge_part
returns-then-is_huge_part c =
    let said = work.Touch c.in-Touch.worker c.in-Touch.request in
    rw c.in-Touch.is
    (there-refused c.args.self.now c.in-Touch.request.page 1
    (λ lack machine state. if is_placed (state.lying.spots c.in-Touch.request.page)
    then with_reply reply.Placed state else worked lack machine state said)
    c.is_huge_part.result c.is_huge_part.ensures c.if-is_huge_part.true)

pub returns-then-is_there : goal.returns-then-is_there
returns-then-is_there c =
    let said = work.Touch c.in-Touch.worker c.in-Touch.request in
    rw c.in-Touch.is
    (there-plain c.args.self.now c.in-Touch.request.page 1
    (λ lack machine state. if is_placed (state.lying.spots c.in-Touch.request.page)
    then with_reply reply.Placed state else worked lack machine state said)
    c.is_huge_part.result c.is_huge_part.ensures c.args.self.now reply.Placed
    c.if-is_huge_part.false
    (serves_same c.args.self.now reply.Placed
    (λ lack machine state. if is_placed (state.lying.spots c.in-Touch.request.page)
    then with_reply reply.Placed state else worked lack machine state said)
    (λ state stands.
    ap (λ (b : Bool). if b then with_reply reply.Placed state
    else worked Enough c.args.self.now.core.space.machine state said)
    (sym (c.is_there.ensures state.lying stands.lies) ∙ c.if-is_there.true))))

pub returns-else-is_there : goal.returns-else-is_there
returns-else-is_there c =
    let said = work.Touch c.in-Touch.worker c.in-Touch.request in
    rw c.in-Touch.is
    (there-plain c.args.self.now c.in-Touch.request.page 1
    (λ lack machine state. if is_placed (state.lying.spots c.in-Touch.request.page)
    then with_reply reply.Placed state else worked lack machine state said)
    c.is_huge_part.result c.is_huge_part.ensures c.touch.new.self c.touch.result
    c.if-is_huge_part.false
    (done_here c.args.self.now c.touch.new.self c.touch.result
    (λ lack s state. work_outcome lack s state.world state.resident said)
    (λ lack machine state. if is_placed (state.lying.spots c.in-Touch.request.page)
    then with_reply reply.Placed state else worked lack machine state said)
    c.touch.ensures
    (λ lack state stands.
    ap (λ (b : Bool). if b then with_reply reply.Placed state
    else worked lack c.args.self.now.core.space.machine state said)
    (sym (c.is_there.ensures state.lying stands.lies) ∙ c.if-is_there.false))))

pub returns-in-Release : goal.returns-in-Release
returns-in-Release c =
    let said = work.Release c.in-Release.worker c.in-Release.page in
    rw c.in-Release.is
    (done_here c.args.self.now c.release.new.self c.release.result
    (λ lack s state. work_outcome lack s state.world state.resident said)
    (λ lack machine state. work_served lack machine state said)
    c.release.ensures (λ lack state stands. refl))
