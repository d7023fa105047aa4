use Rattle.std.proofs.Common.{◌+◌, ◌∷◌, ◌++◌, ◌∙◌, [], List, ap, sym, subst, refl, arith, length}
use Rattle.std.proofs.Common.{drop, get_or, append_assoc, length-append}
use Rattle.numa_requests.specs.declared.request.Request.{Request}
use Rattle.numa_fault.specs.Crew.{column, Serves}
use Rattle.numa_fault.specs.Worker.{Parts, parts_of}
use Rattle.numa_fault.specs.declared.answer.Answer.{Answer}
use Rattle.numa_fault.proofs.Columns.{column-drop, column-next, length-column, share-few}
use Rattle.numa_fault.proofs.InTurn.{serves-more, serves-length}
use Rattle.numa_fault.proofs.serving.serve.Goals as goal

abbrev nothing : Request
nothing = record { task = 0; page = 0; cpu = 0 }

pub loop-request-init : goal.loop-request-init
loop-request-init g c = record {
  table = refl;
  room = c.requires.room.1;
  served = (
    [],
    column-drop c.args.step c.args.first c.args.requests.now,
    subst (λ (l : List Answer). Serves c.args.pools.now.frames [] (parts_of c.args.worker.now)
        (parts_of c.args.worker.now) l) (sym c.requires.room.0) refl,
  );
}

pub note-requires : goal.note-requires
note-requires g c =
    let i = c.loop-request.invariant in
    let done = i.served.0 in
    let xs = c.args.requests.now in
    let step = c.args.step in
    let next = column-next step c.loop-request.request xs nothing c.requires.step.0
    c.loop-request-test.true in
    let whole = ap (λ (l : List Request). length l) (i.served.1 ∙ ap (λ l. done ++ l) next)
    ∙ length-append done _ in
    let some_few = length-column step c.args.first xs in
    let few = share-few step c.args.first (length xs) c.requires.step.0 in
    let kept = serves-length c.args.pools.now.frames done (parts_of c.args.worker.now)
    (parts_of c.loop-request.worker) c.loop-request.worker.kept i.served.2 in
    let same = ap (λ (l : List Answer). length l) c.answer-answer.ensures.kept.0 in
    let roomy = i.room in
    let stays = c.answer-answer.ensures.kept.1 in
    omega arith

pub loop-request-preserved : goal.loop-request-preserved
loop-request-preserved g c =
    let i = c.loop-request.invariant in
    let done = i.served.0 in
    let xs = c.args.requests.now in
    let step = c.args.step in
    let at = c.loop-request.request in
    let r = get_or xs at nothing in
    let a = c.answer-answer.result in
    let frames = c.args.pools.now.frames in
    let next = column-next step at xs nothing c.requires.step.0 c.loop-request-test.true in
    let kept = c.note.ensures.kept ∙ ap (λ l. l ++ a ∷ []) c.answer-answer.ensures.kept.0 in
    let hands = c.note.ensures.same in
    let roomy = i.room in
    let grows = c.note.ensures.room in
    let stays = c.answer-answer.ensures.kept.1 in
    record {
      table = ap (λ (h : Parts). h.seat.table) hands ∙ c.answer-answer.ensures.table ∙ i.table;
      room = omega arith;
      served = (
        done ++ r ∷ [],
        i.served.1 ∙ ap (λ l. done ++ l) next
            ∙ sym (append_assoc done (r ∷ []) (column step 0 (drop (at + step) xs))),
        subst (λ (p : Parts × List Answer). Serves frames (done ++ r ∷ [])
            (parts_of c.args.worker.now) p.0 p.1) (λ j. (sym hands j, sym kept j))
            (serves-more frames done (parts_of c.args.worker.now) (parts_of c.loop-request.worker)
            (parts_of c.answer-answer.new.worker) c.loop-request.worker.kept r a i.served.2
            c.answer-answer.ensures.answer),
      );
    }
