use Rattle.std.proofs.Common.{◌≡◌, ◌-◌, ◌+◌, ℕ, ap, max, sym, ◌∙◌}
use Rattle.numa_pools.specs.declared.shares.Shares.{Shares}
use Rattle.numa_pools.specs.Turns.{in_turn}
use Rattle.numa_pools.specs.Pools.{PoolCounts, lasting, used}
use Rattle.numa_pools.specs.Resize.{drop_free}
use Rattle.numa_pools.specs.Shown.{shown}
use Rattle.numa_pools.proofs.Resizing.{dropping-is, free-fits, kept-dropping}
use Rattle.numa_pools.proofs.pools.Pools.drop_free.Goals as goal

-- the turns that there are, from what was asked of the pools
shares-are : (p q : PoolCounts) (nodes goal last kept most times : ℕ) (shares : Shares) → p ≡ q
    → last ≡ lasting q → kept ≡ used q + q.reserved → most ≡ max goal kept → times ≡ last - most
    → shares ≡ in_turn times nodes p.shrink p.free
    → shares ≡ in_turn (lasting p - max goal (used p + p.reserved)) nodes p.shrink p.free
shares-are p q nodes goal last kept most times shares same l k m t is =
    let a : last ≡ lasting p = l ∙ sym (ap lasting same) in
    let b : kept ≡ used p + p.reserved =
    k ∙ sym (ap (λ (r : PoolCounts). used r + r.reserved) same) in
    is ∙ ap (λ (n : ℕ). in_turn n nodes p.shrink p.free)
    (t ∙ ap (λ (n : ℕ). n - most) a ∙ ap (λ (n : ℕ). lasting p - n) (m ∙ ap (max goal) b))

pub in_turn-shares-requires-clause-mark : goal.in_turn-shares-requires-clause-mark
in_turn-shares-requires-clause-mark c = c.self.invariant.shrink

pub in_turn-shares-requires-clause-fits : goal.in_turn-shares-requires-clause-fits
in_turn-shares-requires-clause-fits c = free-fits (shown c.self.inside) c.self.invariant

pub invariant_of-self : goal.invariant_of-self
invariant_of-self c =
    kept-dropping (shown c.self.inside) c.args.nodes.now c.args.goal c.in_turn-shares.result
    c.take_each.new.xs c.take_each-2.new.xs c.self.invariant
    (shares-are (shown c.self.inside) c.args.self.now c.args.nodes.now c.args.goal
    c.lasting.result c.kept.result c.max.result c.saturating_sub-times.result
    c.in_turn-shares.result c.self.view_is c.lasting.ensures.lasting c.kept.ensures.kept
    c.max.ensures c.saturating_sub-times.ensures c.in_turn-shares.ensures.shares)
    c.in_turn-shares.ensures.within c.take_each.ensures c.take_each-2.ensures

pub returns : goal.returns
returns c =
    dropping-is (shown c.self.inside) c.args.nodes.now c.args.goal c.in_turn-shares.result
    c.take_each.new.xs c.take_each-2.new.xs
    (shares-are (shown c.self.inside) c.args.self.now c.args.nodes.now c.args.goal
    c.lasting.result c.kept.result c.max.result c.saturating_sub-times.result
    c.in_turn-shares.result c.self.view_is c.lasting.ensures.lasting c.kept.ensures.kept
    c.max.ensures c.saturating_sub-times.ensures c.in_turn-shares.ensures.shares)
    c.take_each.ensures c.take_each-2.ensures
    ∙ ap (drop_free c.args.nodes.now c.args.goal) c.self.view_is
