use Rattle.std.proofs.Common.{◌≡◌, ◌≤◌, ℕ, ◌+◌, ◌-◌, ◌*◌, ◌/◌, List, length, get_or, ap, arith}
use Rattle.std.proofs.Math.Nat.{div-mul-le_self, div-le_self}
use Rattle.numa_ranges.specs.Counts.{count_pages}
use Rattle.numa_plan.proofs.PartLemmas.{count-rounds, part_is, rounds_room}
use Rattle.numa_plan.proofs.parts.add_part_rounds.Goals as goal

-- `times` is pages / 512 / length, `done` times * length * 512
within : (pages len : ℕ) → pages / 512 / len * len * 512 ≤ pages
within pages len = omega (arith, div-mul-le_self (pages / 512) len)

-- as many parts for each place of a round
times_within : (pages len : ℕ) → pages / 512 / len * 512 ≤ pages
times_within pages len = omega (arith, div-le_self (pages / 512) len)

pub returns : goal.returns
returns c node small =
    let nodes : List ℕ = c.nodes-nodes.result.now in
    let times : ℕ = c.args.pages / 512 / length nodes in
    let done : ℕ = times * length nodes * 512 in
    omega (
      arith,
      c.add_places.ensures node small,
      c.add_parts.ensures node small,
      count-rounds nodes node c.args.index c.args.pages times c.requires.part
          c.requires.last (within c.args.pages (length nodes)),
      ap (λ (cycle : List ℕ). count_pages (part_is cycle node) c.args.index c.args.pages)
          c.nodes-nodes.ensures.is,
      ap (λ (cycle : List ℕ). count_pages (part_is cycle node) (c.args.index + done)
          (c.args.pages - done)) c.nodes-nodes.ensures.is,
    )

pub add_places-requires : goal.add_places-requires
add_places-requires c node small =
    let nodes : List ℕ = c.nodes-nodes.result.now in
    omega (
      arith,
      rounds_room nodes node c.args.pages (c.args.pages / 512 / length nodes)
          (get_or c.args.counts.now node 0) 18446744073709551616
          (within c.args.pages (length nodes)) (c.requires.room node small),
    )

pub add_parts-requires-clause-room : goal.add_parts-requires-clause-room
add_parts-requires-clause-room c node small =
    let nodes : List ℕ = c.nodes-nodes.result.now in
    omega (
      arith,
      c.add_places.ensures node small,
      rounds_room nodes node c.args.pages (c.args.pages / 512 / length nodes)
          (get_or c.args.counts.now node 0) 18446744073709551616
          (within c.args.pages (length nodes)) (c.requires.room node small),
    )

pub add_parts-requires-clause-last : goal.add_parts-requires-clause-last
add_parts-requires-clause-last c =
    omega (arith, within c.args.pages (length c.nodes-nodes.result.now), c.requires.last)
