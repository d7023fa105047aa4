use Rattle.std.proofs.Common.{ℕ, ◌≡◌, ◌∙◌, ◌+◌, ◌*◌, ◌/◌, ◌%◌, ap, sym, subst, arith, List}
use Rattle.numa_machine.specs.declared.frame.Frame.{Frame}
use Rattle.numa_pool.specs.Frames.{without}
use Rattle.numa_pool.specs.Seats.{Marks}
use Rattle.numa_pool.proofs.Marking.{marks_without}
use Rattle.numa_pool.proofs.pools.Pools.give.Goals as goal

pub invariant_of-seat : goal.invariant_of-seat
invariant_of-seat c =
    let e = c.clear.ensures in
    let i = c.seat.invariant in
    let f = c.args.frame in
    let same : 64 * (f.number / 64) + f.number % 64 ≡ f.number = omega arith in
    let held = ap (λ v. v.held) e.1 ∙ ap (λ j. without f.node j c.seat.inside.token.view.held)
    same in
    subst (λ (p : ℕ × List Frame). Marks p.0 c.unmark.new.bits.items p.1)
    (λ j. (sym (ap (λ t. t.words) e.0) j, sym held j))
    (marks_without c.seat.inside.token.table.words c.seat.inside.bits.items c.unmark.new.bits.items
    c.seat.inside.token.view.held f (c.unmark.ensures.same_length ∙ i.words)
    c.unmark.ensures.bits i)
