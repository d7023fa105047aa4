-- The last run that starts inside the span or before it decides whether the span is free.
use Rattle.std.proofs.Common.{◌+◌, ◌-◌, arith, ap, refl}
use Rattle.numa_ranges.proofs.Apart.{run-bounds, pages-some}
use Rattle.numa_ranges.proofs.Insert.{room-none, room-some, room-free, room-taken}
use Rattle.numa_ranges.proofs.range_map.RangeMap.place_between.Goals as goal

pub returns-then-place-eq0-clause-room : goal.returns-then-place-eq0-clause-room
returns-then-place-eq0-clause-room g c =
    let found = c.starts_near-place.ensures in
    room-none c.args.self.now.runs c.starts_near-place.result c.args.first
    (c.args.first + (c.args.pages - 1)) found.apart found.maximal c.if-place-eq0.true
    found.parts

pub returns-then-place-eq0-clause-free : goal.returns-then-place-eq0-clause-free
returns-then-place-eq0-clause-free g c =
    let found = c.starts_near-place.ensures in
    room-free c.args.self.now.runs 0 c.args.first (c.args.first + (c.args.pages - 1)) c.args.pages
    (room-none c.args.self.now.runs c.starts_near-place.result c.args.first
    (c.args.first + (c.args.pages - 1)) found.apart found.maximal c.if-place-eq0.true
    found.parts) refl c.requires.span.some

pub overflow_add-run : goal.overflow_add-run
overflow_add-run g c =
    let found = c.starts_near-place.ensures in
    let bounds = run-bounds c.args.self.now.runs (c.starts_near-place.result - 1) c.get-run.result
    found.apart (omega arith)
    (rw (← (ap (λ v. v.runs) c.self.view_is)) (c.get-run.ensures c.get-run.result)) in
    omega (arith, bounds.0, bounds.1)

pub returns-then-run-first-clause-none : goal.returns-then-run-first-clause-none
returns-then-run-first-clause-none g c =
    let found = c.starts_near-place.ensures in
    room-taken c.args.self.now.runs c.starts_near-place.result c.args.first c.args.pages
    c.get-run.result found.apart found.within found.parts c.requires.span.some
    c.if-place-eq0.false (rw (← (ap (λ v. v.runs) c.self.view_is))
    (c.get-run.ensures c.get-run.result)) c.if-run-first.true
    (pages-some 0 c.args.self.now.runs (c.starts_near-place.result - 1) c.get-run.result found.apart
    (omega arith)
    (rw (← (ap (λ v. v.runs) c.self.view_is)) (c.get-run.ensures c.get-run.result)))

pub returns-else-run-first-clause-room : goal.returns-else-run-first-clause-room
returns-else-run-first-clause-room g c =
    let found = c.starts_near-place.ensures in
    room-some c.args.self.now.runs c.starts_near-place.result c.args.first
    (c.args.first + (c.args.pages - 1)) c.get-run.result found.apart found.maximal found.within
    found.parts c.if-place-eq0.false
    (rw (← (ap (λ v. v.runs) c.self.view_is)) (c.get-run.ensures c.get-run.result))
    c.if-run-first.false

pub returns-else-run-first-clause-free : goal.returns-else-run-first-clause-free
returns-else-run-first-clause-free g c =
    let found = c.starts_near-place.ensures in
    room-free c.args.self.now.runs c.starts_near-place.result c.args.first
    (c.args.first + (c.args.pages - 1)) c.args.pages
    (room-some c.args.self.now.runs c.starts_near-place.result c.args.first
    (c.args.first + (c.args.pages - 1)) c.get-run.result found.apart found.maximal found.within
    found.parts c.if-place-eq0.false
    (rw (← (ap (λ v. v.runs) c.self.view_is)) (c.get-run.ensures c.get-run.result))
    c.if-run-first.false) refl c.requires.span.some
