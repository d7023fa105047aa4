use Rattle.std.proofs.Common.{◌≡◌, ◌<◌, ◌^◌, ℕ, List, IfOk, OnOk, map, subst, sym}
use Rattle.numa_moves.specs.Held.{arranged, order_in}
use Rattle.numa_moves.specs.Moving.{AreCounted, IsStep, nodes_after, nodes_in}
use Rattle.numa_moves.specs.Shares.{pages_on}
use Rattle.numa_moves.specs.declared.holding.Holding.{Holding}
use Rattle.numa_moves.proofs.Arranged.{all-arranged}
use Rattle.numa_moves.proofs.holding.Holdings.follow.Goals as goal

pub returns-clause-does : goal.returns-clause-does
returns-clause-does c before from to room left follows are counted =
    let order : List ℕ = order_in c.args.scene before in
    let items : List Holding = c.args.self.now.list.items in
    let put : List Holding = c.arrange.new.holdings.items in
    let same : put ≡ arranged order items = c.in_ok-arrange.ensures before left in
    subst (λ (l : List Holding). IfOk c.follow_each.result (IsStep from to l room)) same
    (c.follow_each.ensures.does from to room follows are
    (subst (λ (l : List Holding). AreCounted l) (sym same)
    (all-arranged (λ (h : Holding). (node : ℕ) → pages_on h.shares.items node < 2 ^ 64) order
    items counted)))

pub returns-clause-nodes : goal.returns-clause-nodes
returns-clause-nodes c before left =
    subst (λ (l : List Holding). OnOk c.follow_each.result
    (map nodes_in c.follow_each.new.self.list.items ≡ map (nodes_after c.args.scene) l))
    (c.in_ok-arrange.ensures before left) c.follow_each.ensures.nodes
