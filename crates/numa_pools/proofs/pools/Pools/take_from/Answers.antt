use Rattle.std.proofs.Common.{◌≡◌, ◌<◌, ℕ, true, arith, ap, sym, subst, ◌∙◌}
use Rattle.std.specs.Prelude.{slice_index}
use Rattle.numa_pools.specs.Turns.{one_less_at}
use Rattle.numa_pools.specs.Pools.{PoolCounts, may_give, taking}
use Rattle.numa_pools.specs.Kept.{AreKept}
use Rattle.numa_pools.specs.Shown.{shown}
use Rattle.numa_pools.proofs.Keeping.{kept-taking}
use Rattle.numa_pools.proofs.pools.Pools.take_from.Goals as goal

pub overflow_sub-self : goal.overflow_sub-self
overflow_sub-self c =
    omega (
      arith,
      c.requires.free,
      ap (λ (p : PoolCounts). slice_index p.free c.args.node)
          c.self.view_is,
    )

pub invariant_of-self : goal.invariant_of-self
invariant_of-self c =
    let p : PoolCounts = shown c.self.inside in
    let some : 0 < slice_index p.free c.args.node =
    omega (
      arith,
      c.requires.free,
      ap (λ (q : PoolCounts). slice_index q.free c.args.node)
          c.self.view_is,
    ) in
    let may : may_give p c.args.by_reservation ≡ true =
    ap (λ (q : PoolCounts). may_give q c.args.by_reservation) c.self.view_is ∙ c.requires.may in
    subst (λ (r : ℕ). AreKept (record p {
      free = one_less_at p.free c.args.node;
      reserved = r;
    })) (sym c.reserved_after-reserved.ensures)
    (kept-taking p c.args.node c.args.by_reservation c.self.invariant
    (omega (arith, c.ranges.node.fits)) some may)

pub returns : goal.returns
returns c =
    let p : PoolCounts = shown c.self.inside in
    ap (λ (r : ℕ). let q : PoolCounts =
    record p { free = one_less_at p.free c.args.node; reserved = r } in q)
    c.reserved_after-reserved.ensures
    ∙ ap (λ (q : PoolCounts). taking q c.args.node c.args.by_reservation) c.self.view_is
