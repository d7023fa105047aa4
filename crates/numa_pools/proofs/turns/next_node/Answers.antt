use Rattle.std.proofs.Common.{ℕ, ◌+◌, ◌%◌, List, drop, filter, refl, sym, ap, ◌∙◌}
use Rattle.std.proofs.Common.{arith}
use Rattle.std.specs.Prelude.{slice_index}
use Rattle.numa_mask.specs.NodeSet.{has}
use Rattle.numa_pools.specs.Turns.{around, ring}
use Rattle.numa_pools.proofs.Ringing.{around-end, around-next, filter-in, filter-out}
use Rattle.numa_pools.proofs.turns.next_node.Goals as goal

pub loop-place-init : goal.loop-place-init
unfolding ring
loop-place-init c = refl

pub loop-place-preserved : goal.loop-place-preserved
loop-place-preserved c =
    let place : ℕ = c.loop-place.place in
    let node : ℕ = (c.args.mark + place) % 256 in
    let rest : List ℕ = drop (place + 1) (around c.args.mark) in
    c.loop-place.invariant
    ∙ ap (λ (xs : List ℕ). slice_index (filter (has c.args.nodes.now) xs) 0)
    (around-next c.args.mark place c.requires c.loop-place-test.true)
    ∙ ap (λ (xs : List ℕ). slice_index xs 0)
    (filter-out (has c.args.nodes.now) node rest (sym c.has.ensures ∙ c.if-has.false))

pub returns-then-has-clause-next : goal.returns-then-has-clause-next
returns-then-has-clause-next c =
    let place : ℕ = c.loop-place.place in
    let node : ℕ = (c.args.mark + place) % 256 in
    let rest : List ℕ = drop (place + 1) (around c.args.mark) in
    sym (c.loop-place.invariant
    ∙ ap (λ (xs : List ℕ). slice_index (filter (has c.args.nodes.now) xs) 0)
    (around-next c.args.mark place c.requires c.loop-place-test.true)
    ∙ ap (λ (xs : List ℕ). slice_index xs 0)
    (filter-in (has c.args.nodes.now) node rest (sym c.has.ensures ∙ c.if-has.true)))

pub returns-clause-next : goal.returns-clause-next
returns-clause-next c =
    sym (c.loop-place.invariant
    ∙ ap (λ (xs : List ℕ). slice_index (filter (has c.args.nodes.now) xs) 0)
    (around-end c.args.mark c.loop-place.place c.requires (omega (arith, c.loop-place-test.false))))
