-- The window that is put in its place makes the whole list with the run put in and joined.
use Rattle.std.proofs.Common.{◌≡◌, ◌+◌, ◌-◌, ◌≤◌, min, length, arith, ap}
use Rattle.numa_ranges.proofs.Placed.{placed-stands, placed-refused}
use Rattle.numa_ranges.proofs.range_map.RangeMap.insert_run.Goals as goal

pub gather_with-pieces-requires-clause-apart : goal.gather_with-pieces-requires-clause-apart
gather_with-pieces-requires-clause-apart g c = c.self.invariant.0

pub gather_with-pieces-requires-clause-reaches : goal.gather_with-pieces-requires-clause-reaches
gather_with-pieces-requires-clause-reaches g c =
    omega (arith, c.requires.room.within, ap (λ v. length v.runs) c.self.view_is)

pub put-requires-clause-window : goal.put-requires-clause-window
put-requires-clause-window g c =
    let within : c.args.place ≤ length c.self.inside.runs =
    omega (arith, c.requires.room.within, ap (λ v. length v.runs) c.self.view_is) in
    (omega arith, omega arith)

pub put-requires-clause-room : goal.put-requires-clause-room
put-requires-clause-room g c = omega (arith, c.gather_with-pieces.ensures.count)

pub returns-in-Err-clause-err : goal.returns-in-Err-clause-err
returns-in-Err-clause-err g c =
    let runs = ap (λ v. v.runs) c.self.view_is in
    let from : c.saturating_sub-from.result ≡ c.args.place - 1 = omega arith in
    let to : c.min-to.result ≡ min (length c.args.self.now.runs) (c.args.place + 1) =
    omega (arith, ap length runs) in
    rw (← (ap (λ v. v.max_ranges) c.self.view_is))
    (placed-refused g.T.PartialEq.eq g.met.T.Exact.exact g.met.T.Eq.laws.refl
    c.args.self.now.runs c.self.inside.runs c.gather_with-pieces.result c.args.run c.args.place
    c.saturating_sub-from.result c.min-to.result c.self.inside.max_ranges c.in-Err.refused
    runs from to c.requires.room c.requires.span.some c.requires.span.within c.requires.index
    c.gather_with-pieces.ensures.gathered c.in-Err.ensures.err)

pub invariant_of-self-2 : goal.invariant_of-self-2
invariant_of-self-2 g c =
    let runs = ap (λ v. v.runs) c.self.view_is in
    let from : c.saturating_sub-from.result ≡ c.args.place - 1 = omega arith in
    let to : c.min-to.result ≡ min (length c.args.self.now.runs) (c.args.place + 1) =
    omega (arith, ap length runs) in
    let all = placed-stands g.T.PartialEq.eq g.met.T.Exact.exact g.met.T.Eq.laws.refl
    c.args.self.now.runs c.self.inside.runs c.put.new.runs c.gather_with-pieces.result
    c.args.run c.args.place c.saturating_sub-from.result c.min-to.result
    c.self.inside.max_ranges runs from to c.requires.room c.requires.span.some
    c.requires.span.within c.requires.index c.gather_with-pieces.ensures.gathered
    c.in_default.ensures.ok in
    (all.apart, all.maximal, all.size)

pub returns-clause-ok : goal.returns-clause-ok
returns-clause-ok g c =
    let runs = ap (λ v. v.runs) c.self.view_is in
    let from : c.saturating_sub-from.result ≡ c.args.place - 1 = omega arith in
    let to : c.min-to.result ≡ min (length c.args.self.now.runs) (c.args.place + 1) =
    omega (arith, ap length runs) in
    let all = placed-stands g.T.PartialEq.eq g.met.T.Exact.exact g.met.T.Eq.laws.refl
    c.args.self.now.runs c.self.inside.runs c.put.new.runs c.gather_with-pieces.result
    c.args.run c.args.place c.saturating_sub-from.result c.min-to.result
    c.self.inside.max_ranges runs from to c.requires.room c.requires.span.some
    c.requires.span.within c.requires.index c.gather_with-pieces.ensures.gathered
    c.in_default.ensures.ok in
    record {
      shows = all.page;
      accepted = rw (← (ap (λ v. v.max_ranges) c.self.view_is))
          all.accepted;
    }

pub returns-clause-err : goal.returns-clause-err
returns-clause-err g c = tt

pub returns-clause-unchanged : goal.returns-clause-unchanged
returns-clause-unchanged g c = tt

pub returns-clause-max_ranges : goal.returns-clause-max_ranges
returns-clause-max_ranges g c = ap (λ v. v.max_ranges) c.self.view_is

pub returns-in-Err-clause-max_ranges : goal.returns-in-Err-clause-max_ranges
returns-in-Err-clause-max_ranges g c = ap (λ v. v.max_ranges) c.self.view_is
