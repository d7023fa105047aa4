use Rattle.std.proofs.Common.{◌+◌, ◌≤◌, ℕ, arith, inl, inr, subst, sym}
use Rattle.std.proofs.lemmas.Bool.{cases_eq}
use Rattle.numa_pools.specs.Pools.{PoolCounts, free_at, total_at, used_at}
use Rattle.numa_pools.proofs.Using.{AreElsewhere, moving-used}
use Rattle.numa_pools.specs.Moves.{movable}
use Rattle.numa_huge.proofs.places.moving.go_over.Goals as goal

pub move_pages-requires-clause-used : goal.move_pages-requires-clause-used
move_pages-requires-clause-used c =
    omega (arith, c.requires.used, c.keep.ensures.within c.args.from)

pub returns-clause-others : goal.returns-clause-others
returns-clause-others c node ne =
    let old : PoolCounts = c.args.pools.now in
    let from : ℕ = c.args.from in
    let to : ℕ = c.args.to in
    let pages : ℕ = c.args.pages in
    let fits : free_at old from + pages ≤ total_at old from =
    omega (arith, c.requires.used, c.keep.ensures.within from) in
    let so : AreElsewhere old (c.move_pages.new.self) from to (movable old from to pages) =
    subst (λ (p : PoolCounts). AreElsewhere old p from to (movable old from to pages))
    (sym c.move_pages.ensures.pools)
    (moving-used old from to pages c.keep.ensures c.requires.other (omega arith) (omega arith)
    fits) in
    elim (cases_eq node to) [
      | inl e ↦ subst (λ (k : ℕ). used_at old k ≤ used_at c.move_pages.new.self k) (sym e)
          (omega (arith, so.come))
      | inr other ↦ omega (arith, so.stay node ne other)
    ]
