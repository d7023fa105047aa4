use Rattle.std.proofs.Common.{◌≡◌, ℕ, Bool, None, is_some, IfOk, subst}
use Rattle.numa_ranges.specs.Runs.{page_at}
use Rattle.numa_space.specs.History.{page_of, page_count}
use Rattle.numa_placed.specs.Binds.{Asked, IsBound, bound_spots, touched_in, touched_of}
use Rattle.numa_placed.specs.Laid.{Laid}
use Rattle.numa_placed.specs.Refusals.{populate_cause, span_cause, touch_cause}
use Rattle.numa_placed.specs.Spots.{spot_at}
use Rattle.numa_placed.specs.Turns.{spots_of}
use Rattle.numa_placed.proofs.Edits.{lack-refusal}
use Rattle.numa_placed.proofs.Fits.{ok-always, touch-free}
use Rattle.numa_placed.proofs.placed.Placed.populate.Goals as goal

pub returns-clause-accepted : goal.returns-clause-accepted
returns-clause-accepted c =
    let span = c.in_ok-first.ensures.span in
    let mapped : ℕ → Bool = λ p. is_some (page_at c.args.space.now.ranges p) in
    let machine = c.args.space.now.machine in
    let free : touch_cause machine mapped (page_of c.args.start) (page_count c.args.length)
    c.args.cpu ≡ None = subst (λ (n : ℕ). touch_cause machine mapped (page_of c.args.start) n
    c.args.cpu ≡ None) span.2 (subst (λ (n : ℕ). touch_cause machine mapped n c.in_ok-first.pages
    c.args.cpu ≡ None) span.1 c.in_ok-judge_touch.ensures) in
    let none : populate_cause machine mapped c.args.start c.args.length c.args.cpu ≡ None =
    touch-free (span_cause c.args.start c.args.length) (touch_cause machine mapped
    (page_of c.args.start) (page_count c.args.length) c.args.cpu) span.0 free in
    ok-always c.touch_span.result none

pub returns-clause-ok : goal.returns-clause-ok
returns-clause-ok c room are =
    let span = c.in_ok-first.ensures.span in
    let of : ℕ → ℕ → Asked = λ first pages. touched_in c.args.space.now c.args.resident.now first
    pages c.args.task c.args.cpu in
    let before : Laid = record {
      runs = c.self.inside.places.map.runs;
      nodes = c.self.inside.places.nodes.items;
    } in
    let P : Asked → Laid → Type 0 = λ asked laid. IfOk c.touch_span.result (IsBound asked
    (spot_at laid) room (spots_of c.touch_span.new.places) c.touch_span.new.rooms) in
    subst (P (touched_of c.args.space.now c.args.resident.now c.args.start c.args.length
    c.args.task c.args.cpu)) c.self.view_is
    (subst (λ (n : ℕ). P (of (page_of c.args.start) n) before) span.2
    (subst (λ (n : ℕ). P (of n c.in_ok-first.pages) before) span.1
    (c.touch_span.ensures.bound room are)))

pub returns-clause-err : goal.returns-clause-err
returns-clause-err c room are =
    let span = c.in_ok-first.ensures.span in
    let mapped : ℕ → Bool = λ p. is_some (page_at c.args.space.now.ranges p) in
    let machine = c.args.space.now.machine in
    let free : touch_cause machine mapped (page_of c.args.start) (page_count c.args.length)
    c.args.cpu ≡ None = subst (λ (n : ℕ). touch_cause machine mapped (page_of c.args.start) n
    c.args.cpu ≡ None) span.2 (subst (λ (n : ℕ). touch_cause machine mapped n c.in_ok-first.pages
    c.args.cpu ≡ None) span.1 c.in_ok-judge_touch.ensures) in
    let none : populate_cause machine mapped c.args.start c.args.length c.args.cpu ≡ None =
    touch-free (span_cause c.args.start c.args.length) (touch_cause machine mapped
    (page_of c.args.start) (page_count c.args.length) c.args.cpu) span.0 free in
    lack-refusal (populate_cause machine mapped c.args.start c.args.length c.args.cpu) _
    (bound_spots (touched_of c.args.space.now c.args.resident.now c.args.start c.args.length
    c.args.task c.args.cpu) (spot_at c.args.self.now) room) c.touch_span.result none
    (λ i. bound_spots (touched_in c.args.space.now c.args.resident.now (span.1 i) (span.2 i)
    c.args.task c.args.cpu) (spot_at (c.self.view_is i)) room)
    (c.touch_span.ensures.lack room are)
