use Rattle.std.proofs.Common.{◌≡◌, ◌∙◌, ℕ, true, false, ap, refl, sym}
use Rattle.numa_pools.specs.Pools.{PoolCounts, freeing, has_spare, renewing, taking}
use Rattle.numa_pools.proofs.pools.Pools.renew_page.Goals as goal

-- no page serves
stays : (pools : PoolCounts) (node : ℕ) → has_spare pools node ≡ false
    → pools ≡ renewing pools node
unfolding renewing
stays pools node none = rw none refl

-- one serves
serves : (pools : PoolCounts) (node : ℕ) → has_spare pools node ≡ true
    → freeing (taking pools node false) node 1 ≡ renewing pools node
unfolding renewing
serves pools node spare = rw spare refl

pub returns-then-not-has_spare : goal.returns-then-not-has_spare
returns-then-not-has_spare c =
    stays c.args.self.now c.args.node (sym c.has_spare.ensures ∙ c.if-not-has_spare.true)

pub returns : goal.returns
returns c =
    c.free_pages.ensures
    ∙ ap (λ (p : PoolCounts). freeing (taking p c.args.node false) c.args.node 1) c.self.view_is
    ∙ serves c.args.self.now c.args.node (sym c.has_spare.ensures ∙ c.if-not-has_spare.false)
