use Rattle.std.proofs.Common.{subst, arith}
use Rattle.numa_placed.specs.Binds.{Asked, IsBound, asked_of as asked_by, bound_spots}
use Rattle.numa_placed.specs.Refusals.{IsRefusal, span_cause}
use Rattle.numa_placed.specs.Spots.{spot_at}
use Rattle.numa_page_state.specs.Outcomes.{rooms_of}
use Rattle.numa_page_state.specs.Standing.{asked_for}
use Rattle.numa_page_state.proofs.Asking.{asked-list, few-bound, held-same, sent-refused}
use Rattle.numa_page_state.proofs.Asking.{sent-so}
use Rattle.numa_page_state.proofs.sending.sent_in.Goals as goal

pub returns-in-Err-clause-err : goal.returns-in-Err-clause-err
returns-in-Err-clause-err c = λ lying lies serves.
    let asked = asked_for c.args.space.now c.args.said.now c.args.toucher in
    let are = c.rooms_of-given.ensures lying.room lies.room in
    let first = span_cause c.args.said.now.start c.args.said.now.length in
    sent-refused c.args.state.now lying lies asked c.args.resident.now c.in-Ok.placed
    c.bind_astray.new.self c.in-Ok.ensures c.in-Err.cause first
    (subst (λ (a : Asked). IsRefusal first (bound_spots a (spot_at c.in-Ok.placed)
    (rooms_of lying.room)) c.in-Err.cause)
    (asked-list c.args.space.now c.args.said.now c.args.toucher c.mask-list.result
    c.mask-list.ensures) (c.in-Err.ensures.err (rooms_of lying.room) are))

pub overflow_add-result : goal.overflow_add-result
overflow_add-result c = omega (
  arith,
  few-bound (asked_by c.args.space.now c.args.said.now.start c.args.said.now.length
      c.mask-list.result c.args.toucher.task c.args.toucher.cpu) (spot_at c.in-Ok.placed)
      c.rooms_of-given.result c.bind_astray.new.rooms (spot_at c.bind_astray.new.self)
      c.in-Ok-bind_astray.bound c.in-Ok-bind_astray.ensures.ok,
  c.in-Ok-held_kept.ensures.few,
)

pub returns-clause-ok : goal.returns-clause-ok
returns-clause-ok c = λ lying lies.
    let asked = asked_for c.args.space.now c.args.said.now c.args.toucher in
    let are = c.rooms_of-given.ensures lying.room lies.room in
    sent-so c.args.state.now lying lies asked c.args.resident.now c.in-Ok.placed
    c.bind_astray.new.self c.in-Ok.ensures c.in-Ok-copy.copy c.bind_astray.new.rooms
    c.rooms_if.result c.in-Ok-bind_astray.bound c.in-Ok-held_kept.held c.rooms_if.ensures
    (subst (λ (a : Asked). IsBound a (spot_at c.in-Ok.placed) (rooms_of lying.room)
    (spot_at c.bind_astray.new.self) c.bind_astray.new.rooms c.in-Ok-bind_astray.bound)
    (asked-list c.args.space.now c.args.said.now c.args.toucher c.mask-list.result
    c.mask-list.ensures) (c.in-Ok-bind_astray.ensures.ok (rooms_of lying.room) are))
    c.in-Ok-copy.ensures
    (held-same c.args.state.now lying c.args.resident.now asked c.in-Ok-held_kept.held lies
    (c.in-Ok-held_kept.ensures.kept (rooms_of lying.room) are))
