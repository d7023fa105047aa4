use Rattle.std.proofs.Common.{◌≡◌, ℕ, ◌-◌, List, take, drop, length, length-drop, ap, arith}
use Rattle.std.proofs.lemmas.List.{take_all}
use Rattle.numa_lanes.specs.Spans.{node_count}
use Rattle.numa_plan.proofs.CountLemmas.{count-window, count-around}
use Rattle.numa_plan.proofs.tally.add_rest.Goals as goal

pub returns-then-pages-length : goal.returns-then-pages-length
returns-then-pages-length c node small =
    omega (
      arith,
      c.tally.ensures node small,
      count-window c.args.nodes.now node c.args.start
          c.args.pages (omega arith),
    )

pub returns-else-pages-length : goal.returns-else-pages-length
returns-else-pages-length c node small =
    let nodes : List ℕ = c.args.nodes.now in
    let tail : List ℕ = drop c.args.start nodes in
    let all : take (length nodes - c.args.start) tail ≡ tail =
    take_all (length nodes - c.args.start) tail
    (omega (arith, length-drop c.args.start nodes)) in
    let begun : ℕ = c.args.pages - (length nodes - c.args.start) in
    let whole : begun - 0 ≡ begun = omega arith in
    let one = ap (λ (part : List ℕ). node_count node part) all in
    let two = ap (λ (n : ℕ). node_count node (take n nodes)) whole in
    omega (
      arith,
      one,
      two,
      c.tally-else-pages-length.ensures node small,
      c.tally-else-pages-length-2.ensures node small,
      count-around nodes node c.args.start
          c.args.pages begun c.requires.start (omega arith) (omega arith),
    )
