use Rattle.std.proofs.Common.{ℕ, IfOk, subst}
use Rattle.numa_space.specs.History.{page_of}
use Rattle.numa_placed.specs.Binds.{Asked, IsBound, asked_in, asked_of, bound_spots}
use Rattle.numa_placed.specs.Laid.{Laid}
use Rattle.numa_placed.specs.Refusals.{span_cause}
use Rattle.numa_placed.specs.Spots.{spot_at}
use Rattle.numa_placed.specs.Turns.{spots_of}
use Rattle.numa_placed.proofs.Edits.{lack-refusal}
use Rattle.numa_placed.proofs.placed.Placed.bind_astray.Goals as goal

pub returns-clause-ok : goal.returns-clause-ok
returns-clause-ok c room are =
    let span = c.in_ok-first.ensures.span in
    let of : ℕ → ℕ → Asked = λ first pages. asked_in c.args.space.now first pages c.args.list.now
    c.args.task c.args.cpu in
    let before : Laid = record {
      runs = c.self.inside.places.map.runs;
      nodes = c.self.inside.places.nodes.items;
    } in
    let P : Asked → Laid → Type 0 = λ asked laid. IfOk c.touch_span.result (IsBound asked
    (spot_at laid) room (spots_of c.touch_span.new.places) c.touch_span.new.rooms) in
    subst (P (asked_of c.args.space.now c.args.start c.args.length c.args.list.now c.args.task
    c.args.cpu)) c.self.view_is
    (subst (λ (n : ℕ). P (of (page_of c.args.start) n) before) span.2
    (subst (λ (n : ℕ). P (of n c.in_ok-first.pages) before) span.1
    (c.touch_span.ensures.bound room are)))

pub returns-clause-err : goal.returns-clause-err
returns-clause-err c room are =
    let span = c.in_ok-first.ensures.span in
    lack-refusal (span_cause c.args.start c.args.length) _
    (bound_spots (asked_of c.args.space.now c.args.start c.args.length c.args.list.now c.args.task
    c.args.cpu) (spot_at c.args.self.now) room) c.touch_span.result span.0
    (λ i. bound_spots (asked_in c.args.space.now (span.1 i) (span.2 i) c.args.list.now c.args.task
    c.args.cpu) (spot_at (c.self.view_is i)) room)
    (c.touch_span.ensures.lack room are)
