use Rattle.std.proofs.Common.{◌≡◌, ◌-◌, ℕ, ap, min, sym, ◌∙◌}
use Rattle.std.specs.Prelude.{sum}
use Rattle.numa_pools.specs.Turns.{in_turn}
use Rattle.numa_pools.specs.Pools.{PoolCounts, lasting}
use Rattle.numa_pools.specs.Resize.{adopt}
use Rattle.numa_pools.specs.Shown.{shown}
use Rattle.numa_pools.proofs.Resizing.{adopting-is, kept-adopting, surplus-fits}
use Rattle.numa_pools.proofs.pools.Pools.adopt.Goals as goal

pub in_turn-shares-requires-clause-mark : goal.in_turn-shares-requires-clause-mark
in_turn-shares-requires-clause-mark c = c.self.invariant.grow

pub in_turn-shares-requires-clause-fits : goal.in_turn-shares-requires-clause-fits
in_turn-shares-requires-clause-fits c = surplus-fits (shown c.self.inside) c.self.invariant

pub invariant_of-self : goal.invariant_of-self
invariant_of-self c =
    kept-adopting (shown c.self.inside) c.min-times.result c.args.nodes.now
    c.in_turn-shares.result c.take_each.new.xs c.self.invariant c.in_turn-shares.ensures.shares
    c.in_turn-shares.ensures.within c.take_each.ensures

pub returns : goal.returns
returns c =
    let p : PoolCounts = shown c.self.inside in
    let missing : c.saturating_sub-missing.result ≡ c.args.goal - lasting p =
    c.saturating_sub-missing.ensures ∙ ap (λ (n : ℕ). c.args.goal - n)
    (c.lasting.ensures.lasting ∙ sym (ap lasting c.self.view_is)) in
    let all : c.all_surplus.result ≡ sum p.surplus =
    c.all_surplus.ensures ∙ sym (ap (λ (q : PoolCounts). sum q.surplus) c.self.view_is) in
    let times : c.min-times.result ≡ min (c.args.goal - lasting p) (sum p.surplus) =
    c.min-times.ensures ∙ ap (λ (n : ℕ). min n c.all_surplus.result) missing
    ∙ ap (min (c.args.goal - lasting p)) all in
    adopting-is p c.args.nodes.now c.args.goal c.in_turn-shares.result c.take_each.new.xs
    (c.in_turn-shares.ensures.shares
    ∙ ap (λ (n : ℕ). in_turn n c.args.nodes.now p.grow p.surplus) times) c.take_each.ensures
    ∙ ap (adopt c.args.nodes.now c.args.goal) c.self.view_is
