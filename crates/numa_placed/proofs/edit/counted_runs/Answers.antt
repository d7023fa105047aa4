use Rattle.std.proofs.Common.{◌≡◌, ◌∙◌, ap, arith}
use Rattle.numa_placed.specs.Stored.{begins}
use Rattle.numa_placed.specs.Turns.{spots_of}
use Rattle.numa_placed.proofs.Begun.{begun, begun-few, kept-begun}
use Rattle.numa_placed.proofs.edit.counted_runs.Goals as goal

pub loop-run-init : goal.loop-run-init
loop-run-init c =
    let all : c.into_iter-run-iterator.result ≡ c.args.places.now.map.runs =
    c.into_iter-run-iterator.ensures.into_iter_gives ∙ c.iter-run-items.ensures.runs in
    omega (arith, ap (begun (begins (spots_of c.args.places.now))) all)

pub returns : goal.returns
returns c =
    omega (
      arith,
      c.loop-run.invariant,
      ap (begun (begins (spots_of c.args.places.now))) c.in-None.ensures.steps.0,
      kept-begun c.args.places.now c.iter-run-items.ensures.rising
          c.iter-run-items.ensures.maximal,
    )

pub overflow_add-count : goal.overflow_add-count
overflow_add-count c =
    omega (
      arith,
      c.loop-run.invariant,
      begun-few (begins (spots_of c.args.places.now)) c.args.places.now.map.runs,
      c.len.ensures.runs,
      c.len.ensures.max_ranges,
      c.requires.limit,
    )
