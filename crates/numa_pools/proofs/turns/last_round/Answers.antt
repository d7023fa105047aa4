use Rattle.std.proofs.Common.{ℕ, ◌+◌, ◌%◌, List, drop, sym, ap, ◌∙◌, arith}
use Rattle.std.specs.Prelude.{slice_index, if◌then◌else◌, nat_lt, ◌&&◌}
use Rattle.numa_mask.specs.NodeSet.{has}
use Rattle.numa_pools.specs.Turns.{around, one_less_at}
use Rattle.numa_pools.specs.Rounds.{Round, round}
use Rattle.numa_pools.proofs.Ringing.{around-end, around-next, round-ends, round-none, round-step}
use Rattle.numa_pools.proofs.turns.last_round.Goals as goal

pub loop-place-preserved : goal.loop-place-preserved
loop-place-preserved c =
    let place : ℕ = c.loop-place.place in
    let node : ℕ = (c.args.mark + place) % 256 in
    let rest : List ℕ = drop (place + 1) (around c.args.mark) in
    let nodes : ℕ = c.args.nodes.now in
    let room : List ℕ = c.loop-place.room in
    let left : ℕ = c.loop-place.left in
    c.loop-place.invariant
    ∙ ap (λ (xs : List ℕ). round nodes xs c.args.first left room)
    (around-next c.args.mark place c.requires.mark c.loop-place-test.true)
    ∙ round-step nodes node rest c.args.first left room
    (sym c.is_next.ensures ∙ c.if-is_next.false)
    ∙ ap (λ (n : ℕ). round nodes rest c.args.first n
    (if has nodes node && nat_lt 0 (slice_index room node) then one_less_at room node else room))
    (sym c.visit-left.ensures.left)
    ∙ ap (λ (r : List ℕ). round nodes rest c.args.first c.visit-left.result r)
    (sym c.visit-left.ensures.room)

pub returns-then-is_next-clause-room : goal.returns-then-is_next-clause-room
returns-then-is_next-clause-room c =
    let place : ℕ = c.loop-place.place in
    let node : ℕ = (c.args.mark + place) % 256 in
    let rest : List ℕ = drop (place + 1) (around c.args.mark) in
    sym (ap (λ (r : Round). r.room) (c.loop-place.invariant
    ∙ ap (λ (xs : List ℕ). round c.args.nodes.now xs c.args.first c.loop-place.left
    c.loop-place.room) (around-next c.args.mark place c.requires.mark c.loop-place-test.true)
    ∙ round-ends c.args.nodes.now node rest c.args.first c.loop-place.left c.loop-place.room
    (sym c.is_next.ensures ∙ c.if-is_next.true)))

pub returns-then-is_next-clause-next : goal.returns-then-is_next-clause-next
returns-then-is_next-clause-next c =
    let place : ℕ = c.loop-place.place in
    let node : ℕ = (c.args.mark + place) % 256 in
    let rest : List ℕ = drop (place + 1) (around c.args.mark) in
    sym (ap (λ (r : Round). r.next) (c.loop-place.invariant
    ∙ ap (λ (xs : List ℕ). round c.args.nodes.now xs c.args.first c.loop-place.left
    c.loop-place.room) (around-next c.args.mark place c.requires.mark c.loop-place-test.true)
    ∙ round-ends c.args.nodes.now node rest c.args.first c.loop-place.left c.loop-place.room
    (sym c.is_next.ensures ∙ c.if-is_next.true)))

pub returns-clause-room : goal.returns-clause-room
returns-clause-room c =
    sym (ap (λ (r : Round). r.room) (c.loop-place.invariant
    ∙ ap (λ (xs : List ℕ). round c.args.nodes.now xs c.args.first c.loop-place.left
    c.loop-place.room) (around-end c.args.mark c.loop-place.place c.requires.mark
    (omega (arith, c.loop-place-test.false)))
    ∙ round-none c.args.nodes.now c.args.first c.loop-place.left c.loop-place.room))

pub returns-clause-next : goal.returns-clause-next
returns-clause-next c =
    sym (ap (λ (r : Round). r.next) (c.loop-place.invariant
    ∙ ap (λ (xs : List ℕ). round c.args.nodes.now xs c.args.first c.loop-place.left
    c.loop-place.room) (around-end c.args.mark c.loop-place.place c.requires.mark
    (omega (arith, c.loop-place-test.false)))
    ∙ round-none c.args.nodes.now c.args.first c.loop-place.left c.loop-place.room))
