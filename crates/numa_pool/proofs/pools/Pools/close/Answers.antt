use Rattle.std.proofs.Common.{ℕ, List, ◌∷◌, ◌∙◌, sym, subst}
use Rattle.numa_pool.specs.Order.{HaveOrder}
use Rattle.numa_pool.specs.Seats.{Closes, PoolsView, SeatView}
use Rattle.numa_pool.specs.Steps.{past_of}
use Rattle.numa_pool.proofs.pools.Pools.close.Goals as goal

pub returns-clause-end : goal.returns-clause-end
returns-clause-end c =
    let taken = c.counted.result.taken in
    let alone = c.counted.result.alone in
    let inside = subst (λ (fs : List ℕ). Closes fs c.seat.inside.token.view.held taken alone)
    (c.as_slice-2.ensures.value ∙ sym c.self.invariant.1) c.counted.ensures.end in
    subst (λ (p : PoolsView). Closes p.frames c.args.seat.held taken alone) c.self.view_is
    (subst (λ (s : SeatView). Closes c.self.inside.words.frames s.held taken alone) c.seat.view_is
    inside)

pub returns-clause-order : goal.returns-clause-order
returns-clause-order c =
    let taken = c.counted.result.taken in
    let view = c.seat.inside.token.view in
    let inside = subst (λ (fs : List ℕ).
    HaveOrder fs (past_of view.log view.unlogged ∷ view.unlogged.past) taken)
    (c.as_slice-2.ensures.value ∙ sym c.self.invariant.1) c.counted.ensures.order in
    subst (λ (p : PoolsView). HaveOrder p.frames
    (past_of c.args.seat.log c.args.seat.unlogged ∷ c.args.seat.unlogged.past) taken) c.self.view_is
    (subst (λ (s : SeatView). HaveOrder c.self.inside.words.frames
    (past_of s.log s.unlogged ∷ s.unlogged.past) taken)
    c.seat.view_is inside)
