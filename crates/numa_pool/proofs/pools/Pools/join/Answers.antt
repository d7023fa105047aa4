use Rattle.std.proofs.Common.{ℕ, ◌∙◌, ap, sym, subst, List}
use Rattle.numa_machine.specs.declared.frame.Frame.{Frame}
use Rattle.numa_pool.specs.Seats.{Marks}
use Rattle.numa_pool.specs.Steps.{after_check}
use Rattle.numa_pool.proofs.Marking.{marks_both}
use Rattle.numa_pool.proofs.pools.Pools.join.Goals as goal

pub invariant_of-seat : goal.invariant_of-seat
invariant_of-seat c =
    let e = c.pour.ensures in
    let k = c.check.ensures.same in
    let i = c.seat.invariant in
    let o = c.other.invariant in
    let one_table = ap (λ v. v.table) c.other.view_is ∙ c.requires.1 ∙ sym c.requires.0
    ∙ sym (ap (λ v. v.table) c.seat.view_is) in
    let others = subst (λ (p : ℕ × List ℕ). Marks p.0 p.1 c.other.inside.token.view.held)
    (λ j. ((one_table j).words, sym c.as_slice.ensures.value j)) o in
    subst (λ (p : ℕ × List Frame). Marks p.0 c.add_marks.new.bits.items p.1)
    (λ j. (
      sym (ap (λ t. t.words) (k.0 ∙ e.0)) j,
      sym (ap (λ v. v.held) (k.1 ∙ ap after_check e.1)) j,
    ))
    (marks_both c.seat.inside.token.table.words c.seat.inside.bits.items c.as_slice.result.now
    c.add_marks.new.bits.items _ _ (c.add_marks.ensures.same_length ∙ i.words)
    c.add_marks.ensures.bits i others)
