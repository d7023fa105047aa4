use Rattle.std.proofs.Common.{◌≡◌, ◌-◌, ◌<◌, ◌^◌, ℕ, List, ap, subst, sym, ◌∙◌}
use Rattle.std.specs.Prelude.{sum}
use Rattle.numa_pools.specs.declared.shares.Shares.{Shares}
use Rattle.numa_pools.specs.Turns.{in_turn, less}
use Rattle.numa_pools.specs.Pools.{PoolCounts, lasting}
use Rattle.numa_pools.specs.Resize.{call_surplus}
use Rattle.numa_pools.specs.Shown.{shown}
use Rattle.numa_pools.proofs.Resizing.{called-fits, called-room, calling-is, kept-calling}
use Rattle.numa_pools.proofs.pools.Pools.call_surplus.Goals as goal

-- the turns that there are, from what was asked of the pools
shares-are : (p q : PoolCounts) (nodes goal last times : ℕ) (room : List ℕ) (shares : Shares)
    → p ≡ q → last ≡ lasting q → times ≡ last - goal → room ≡ less p.total p.surplus
    → shares ≡ in_turn times nodes p.shrink room
    → shares ≡ in_turn (lasting p - goal) nodes p.shrink (less p.total p.surplus)
shares-are p q nodes goal last times room shares same l t r is =
    let a : last ≡ lasting p = l ∙ sym (ap lasting same) in
    is ∙ ap (λ (n : ℕ). in_turn n nodes p.shrink room) (t ∙ ap (λ (n : ℕ). n - goal) a)
    ∙ ap (in_turn (lasting p - goal) nodes p.shrink) r

pub in_turn-shares-requires-clause-mark : goal.in_turn-shares-requires-clause-mark
in_turn-shares-requires-clause-mark c = c.self.invariant.shrink

pub in_turn-shares-requires-clause-fits : goal.in_turn-shares-requires-clause-fits
in_turn-shares-requires-clause-fits c =
    subst (λ (xs : List ℕ). sum xs < 2 ^ 64) (sym c.take_each.ensures)
    (called-fits (shown c.self.inside) c.self.invariant)

pub add_each-requires : goal.add_each-requires
add_each-requires c =
    called-room (shown c.self.inside) c.saturating_sub-times.result c.args.nodes.now
    c.in_turn-shares.result c.self.invariant
    (c.in_turn-shares.ensures.shares
    ∙ ap (in_turn c.saturating_sub-times.result c.args.nodes.now c.self.inside.shrink)
    c.take_each.ensures)

pub invariant_of-self : goal.invariant_of-self
invariant_of-self c =
    kept-calling (shown c.self.inside) c.args.nodes.now c.args.goal c.in_turn-shares.result
    c.add_each.new.xs c.self.invariant
    (shares-are (shown c.self.inside) c.args.self.now c.args.nodes.now c.args.goal
    c.lasting.result c.saturating_sub-times.result c.take_each.new.xs c.in_turn-shares.result
    c.self.view_is c.lasting.ensures.lasting c.saturating_sub-times.ensures c.take_each.ensures
    c.in_turn-shares.ensures.shares)
    c.in_turn-shares.ensures.within c.add_each.ensures

pub returns : goal.returns
returns c =
    calling-is (shown c.self.inside) c.args.nodes.now c.args.goal c.in_turn-shares.result
    c.add_each.new.xs
    (shares-are (shown c.self.inside) c.args.self.now c.args.nodes.now c.args.goal
    c.lasting.result c.saturating_sub-times.result c.take_each.new.xs c.in_turn-shares.result
    c.self.view_is c.lasting.ensures.lasting c.saturating_sub-times.ensures c.take_each.ensures
    c.in_turn-shares.ensures.shares)
    c.add_each.ensures
    ∙ ap (call_surplus c.args.nodes.now c.args.goal) c.self.view_is
