-- What is left behind the first runs is read on from the place.
use Rattle.std.proofs.Common.{length, arith, ap}
use Rattle.std.proofs.lemmas.List.{length-drop}
use Rattle.numa_ranges.specs.Gathered.{Gathered}
use Rattle.numa_ranges.proofs.Walked.{left-of, both-seen}
use Rattle.numa_ranges.proofs.Spans.{in-range-window}
use Rattle.numa_ranges.proofs.edit.gather_with.Goals as goal

pub add_all-requires-clause-within : goal.add_all-requires-clause-within
add_all-requires-clause-within g c =
    omega (
      arith,
      ap length c.iter_near-rest.ensures,
      length-drop c.args.from c.args.runs.now,
      c.requires.rises,
      c.requires.reaches,
      c.requires.within,
    )

pub add_all-requires-clause-in_range : goal.add_all-requires-clause-in_range
add_all-requires-clause-in_range g c =
    rw (c.iter_near-rest.ensures)
    (in-range-window c.args.runs.now c.args.from c.args.place c.requires.apart c.requires.rises
    (omega (arith, c.requires.reaches, c.requires.within)))

pub add_all-requires-clause-room : goal.add_all-requires-clause-room
add_all-requires-clause-room g c = omega (arith, c.new-pieces.ensures.count)

pub add-requires-clause-in_range : goal.add-requires-clause-in_range
add-requires-clause-in_range g c = c.requires.run

pub add-requires-clause-room : goal.add-requires-clause-room
add-requires-clause-room g c =
    omega (
      arith,
      c.new-pieces.ensures.count,
      c.add_all.ensures.count,
      c.requires.few,
      c.requires.reaches,
    )

pub add_all-requires-2-clause-within : goal.add_all-requires-2-clause-within
add_all-requires-2-clause-within g c =
    let ahead = left-of c.args.runs.now c.iter_near-rest.result c.add_all.new.rest c.args.from
    c.args.place c.requires.rises c.iter_near-rest.ensures c.add_all.ensures.rest in
    omega (
      arith,
      ap length ahead,
      length-drop c.args.place c.args.runs.now,
      c.requires.reaches,
      c.requires.within,
    )

pub add_all-requires-2-clause-in_range : goal.add_all-requires-2-clause-in_range
add_all-requires-2-clause-in_range g c =
    let ahead = left-of c.args.runs.now c.iter_near-rest.result c.add_all.new.rest c.args.from
    c.args.place c.requires.rises c.iter_near-rest.ensures c.add_all.ensures.rest in
    rw ahead (in-range-window c.args.runs.now c.args.place c.args.to c.requires.apart
    c.requires.reaches c.requires.within)

pub add_all-requires-2-clause-room : goal.add_all-requires-2-clause-room
add_all-requires-2-clause-room g c =
    omega (
      arith,
      c.new-pieces.ensures.count,
      c.add_all.ensures.count,
      c.add.ensures.count,
      c.requires.few,
      c.requires.reaches,
    )

pub returns-clause-gathered : goal.returns-clause-gathered
returns-clause-gathered g c =
    let ahead = left-of c.args.runs.now c.iter_near-rest.result c.add_all.new.rest c.args.from
    c.args.place c.requires.rises c.iter_near-rest.ensures c.add_all.ensures.rest in
    both-seen (Gathered g.T.PartialEq.eq c.add_all-2.new.pieces) c.args.runs.now
    c.iter_near-rest.result c.add_all.new.rest c.args.run c.args.from c.args.place c.args.to
    c.iter_near-rest.ensures ahead
    (c.add_all-2.ensures.gathered _
    (c.add.ensures.gathered _ (c.add_all.ensures.gathered _ c.new-pieces.ensures.gathered)))

pub returns-clause-count : goal.returns-clause-count
returns-clause-count g c =
    omega (
      arith,
      c.new-pieces.ensures.count,
      c.add_all.ensures.count,
      c.add.ensures.count,
      c.add_all-2.ensures.count,
      c.requires.few,
      c.requires.rises,
      c.requires.reaches,
    )
