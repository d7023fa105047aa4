use Rattle.std.proofs.Common.{◌≡◌, ◌+◌, ◌≤◌, ◌<◌, ◌^◌, ℕ, List, ap, min, subst, sym, ◌∙◌}
use Rattle.std.specs.Prelude.{sum}
use Rattle.numa_pools.specs.declared.shares.Shares.{Shares}
use Rattle.numa_pools.specs.Turns.{in_turn, least}
use Rattle.numa_pools.specs.Pools.{PoolCounts, end_surplus}
use Rattle.numa_pools.specs.Shown.{shown}
use Rattle.numa_pools.proofs.Resizing.{ending-is, kept-ending, least-fits}
use Rattle.numa_pools.proofs.pools.Pools.end_surplus.Goals as goal

pub in_turn-shares-requires-clause-mark : goal.in_turn-shares-requires-clause-mark
in_turn-shares-requires-clause-mark c = c.self.invariant.shrink

pub in_turn-shares-requires-clause-fits : goal.in_turn-shares-requires-clause-fits
in_turn-shares-requires-clause-fits c =
    subst (λ (xs : List ℕ). sum xs < 2 ^ 64) (sym c.least_of-room.ensures)
    (least-fits (shown c.self.inside) c.self.invariant)

shares-are : (p : PoolCounts) (pages times all : ℕ) (room : List ℕ) (shares : Shares)
    → times ≡ min pages all → all ≡ sum p.surplus → room ≡ least p.surplus p.free
    → shares ≡ in_turn times p.memory p.shrink room
    → shares ≡ in_turn (min pages (sum p.surplus)) p.memory p.shrink (least p.surplus p.free)
shares-are p pages times all room shares t a r is =
    is ∙ ap (λ (n : ℕ). in_turn n p.memory p.shrink room) (t ∙ ap (min pages) a)
    ∙ ap (in_turn (min pages (sum p.surplus)) p.memory p.shrink) r

pub invariant_of-self : goal.invariant_of-self
invariant_of-self c =
    let p : PoolCounts = shown c.self.inside in
    let all : c.all_surplus.result ≡ sum p.surplus =
    c.all_surplus.ensures ∙ sym (ap (λ (q : PoolCounts). sum q.surplus) c.self.view_is) in
    let is : c.in_turn-shares.result
    ≡ in_turn (min c.args.pages (sum p.surplus)) p.memory p.shrink (least p.surplus p.free) =
    shares-are p c.args.pages c.min-times.result c.all_surplus.result c.least_of-room.result
    c.in_turn-shares.result c.min-times.ensures all c.least_of-room.ensures
    c.in_turn-shares.ensures.shares in
    let enough : p.reserved + c.args.pages ≤ sum p.free =
    subst (λ (q : PoolCounts). q.reserved + c.args.pages ≤ sum q.free) (sym c.self.view_is)
    c.requires in
    kept-ending p c.args.pages c.in_turn-shares.result c.take_each.new.xs c.take_each-2.new.xs
    c.take_each-3.new.xs c.self.invariant enough is c.in_turn-shares.ensures.within
    c.take_each.ensures c.take_each-2.ensures c.take_each-3.ensures

pub returns : goal.returns
returns c =
    let p : PoolCounts = shown c.self.inside in
    let all : c.all_surplus.result ≡ sum p.surplus =
    c.all_surplus.ensures ∙ sym (ap (λ (q : PoolCounts). sum q.surplus) c.self.view_is) in
    let is : c.in_turn-shares.result
    ≡ in_turn (min c.args.pages (sum p.surplus)) p.memory p.shrink (least p.surplus p.free) =
    shares-are p c.args.pages c.min-times.result c.all_surplus.result c.least_of-room.result
    c.in_turn-shares.result c.min-times.ensures all c.least_of-room.ensures
    c.in_turn-shares.ensures.shares in
    ending-is p c.args.pages c.in_turn-shares.result c.take_each.new.xs c.take_each-2.new.xs
    c.take_each-3.new.xs is c.take_each.ensures c.take_each-2.ensures c.take_each-3.ensures
    ∙ ap (λ (q : PoolCounts). end_surplus q c.args.pages) c.self.view_is
