use Rattle.std.proofs.Common.{◌≡◌, ℕ, ◌≤◌, ◌∙◌, ap, subst, sym}
use Rattle.std.specs.Prelude.{if◌then◌else◌}
use Rattle.numa_pools.specs.Pools.{PoolCounts, reserving, unreserved}
use Rattle.numa_huge.specs.Huge.{HugeLying, HugePlaced, huge_at}
use Rattle.numa_huge.specs.Kept.{AreKept, ArePooled}
use Rattle.numa_huge.proofs.places.HugePlaces.mapped.Goals as goal

pub reserve_if-requires : goal.reserve_if-requires
reserve_if-requires c asked =
    subst (λ (p : HugePlaced). c.args.pages ≤ unreserved p.pools) (sym c.self.view_is)
    (c.requires.room asked)

pub invariant_of-result : goal.invariant_of-result
invariant_of-result c = (
  c.self.invariant.0,
  subst (λ (p : PoolCounts). AreKept c.self.invariant.0 p c.in-Ok.map.runs)
      (sym (c.reserve_if.ensures ∙ ap (λ (p : HugePlaced). if c.args.reserves
      then reserving p.pools c.args.pages else p.pools) c.self.view_is))
      (c.in-Ok.ensures.may.kept c.self.invariant.0 (subst (λ (p : HugePlaced).
      AreKept c.self.invariant.0 p.pools p.runs) c.self.view_is c.self.invariant.1)),
  c.in-Ok.ensures.may.most,
)

pub returns-clause-ok : goal.returns-clause-ok
returns-clause-ok c =
    ap {B = HugeLying} (λ (p : PoolCounts). record { pools = p; spots = huge_at c.in-Ok.map.runs })
    (c.reserve_if.ensures ∙ ap (λ (p : HugePlaced). if c.args.reserves
    then reserving p.pools c.args.pages else p.pools) c.self.view_is)
    ∙ c.in-Ok.ensures.ok

pub returns-clause-keeps : goal.returns-clause-keeps
returns-clause-keeps c others pooled =
    let own = (subst (λ (p : HugePlaced). AreKept c.self.invariant.0 p.pools p.runs)
    c.self.view_is c.self.invariant.1).own in
    subst (λ (p : PoolCounts). ArePooled others p (huge_at c.in-Ok.map.runs))
    (sym (c.reserve_if.ensures ∙ ap (λ (p : HugePlaced). if c.args.reserves
    then reserving p.pools c.args.pages else p.pools) c.self.view_is))
    (c.in-Ok.ensures.may.kept others (record { own = own; pooled = pooled })).pooled
