use Rattle.std.proofs.Common.{◌+◌, ◌-◌, ◌%◌, ◌∙◌, ℕ, List, Some, ap, arith}
use Rattle.std.proofs.Common.{slice_index, sym}
use Rattle.std.proofs.Math.Nat.{mod-lt}
use Rattle.numa_placed.specs.Binds.{first_with_room, nodes_in}
use Rattle.numa_placed.proofs.Heads.{same-list}
use Rattle.numa_placed.proofs.in_turn.plan_turn.Goals as goal

pub returns-clause-heads : goal.returns-clause-heads
returns-clause-heads c room are p low high =
    let list = nodes_in c.args.space.now c.args.touch.task c.args.touch.cpu in
    let new = c.push_cycle.new.nodes.items in
    let first = same-list list c.args.page (c.args.end - c.args.page) c.args.count p
    c.requires.some c.requires.repeats low (omega (arith, high, c.requires.long)) in
    let small = mod-lt p c.requires.some in
    ap (λ (l : List ℕ). first_with_room room l) first
    ∙ c.in-Ok.ensures.heads room are c.if-not-all.false (p % c.args.count) small
    ∙ ap (λ (k : ℕ). Some (slice_index new (k + p % c.args.count))) (sym c.length_of-from.ensures)
