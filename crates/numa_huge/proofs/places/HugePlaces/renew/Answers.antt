use Rattle.std.proofs.Common.{◌≡◌, ◌<◌, ℕ, ap, arith, ◌∙◌}
use Rattle.numa_pools.specs.Pools.{renewing}
use Rattle.numa_huge.specs.Huge.{HugeLying, HugePlaced, huge_at}
use Rattle.numa_huge.proofs.Keeping.{keeps-shown, kept-renewed}
use Rattle.numa_huge.proofs.places.HugePlaces.renew.Goals as goal

pub invariant_of-self : goal.invariant_of-self
invariant_of-self c = (
  c.self.invariant.0,
  kept-renewed c.self.invariant.0 c.self.inside.pools c.renew_page.new.self
      c.self.inside.map.runs c.args.node (omega (arith, c.ranges.node.fits)) c.keep.ensures
      c.keep-2.ensures c.self.invariant.1 c.renew_page.ensures,
  c.self.invariant.2,
)

pub returns-clause-pages : goal.returns-clause-pages
returns-clause-pages c =
    ap (λ (pools : _). let lying : HugeLying =
    record { pools = pools; spots = huge_at c.self.inside.map.runs } in lying) c.renew_page.ensures
    ∙ ap (λ (p : HugePlaced). let lying : HugeLying =
    record { pools = renewing p.pools c.args.node; spots = huge_at p.runs } in lying)
    c.self.view_is

pub returns-clause-keeps : goal.returns-clause-keeps
returns-clause-keeps c =
    keeps-shown (record { pools = c.self.inside.pools; runs = c.self.inside.map.runs })
    c.args.self.now
    (record { pools = c.renew_page.new.self; runs = c.self.inside.map.runs }) c.self.view_is
    (λ others pooled. (kept-renewed others c.self.inside.pools c.renew_page.new.self
    c.self.inside.map.runs c.args.node (omega (arith, c.ranges.node.fits)) c.keep.ensures
    c.keep-2.ensures (record { own = c.self.invariant.1.own; pooled = pooled })
    c.renew_page.ensures).pooled)
