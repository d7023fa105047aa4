use Rattle.std.proofs.Common.{◌≡◌, ℕ, ◌+◌, ◌-◌, ◌≤◌, ◌<◌, true, false, ap, arith, refl, ◌∙◌}
use Rattle.std.specs.Prelude.{nat_lt}
use Rattle.std.proofs.lemmas.Bool.{le-ltb, lt-ltb}
use Rattle.numa_pools.specs.Pools.{PoolCounts, end_surplus, refusing, unreserved}
use Rattle.numa_pools.proofs.pools.Pools.refuse.Goals as goal

few : (p : PoolCounts) (pages n : ℕ) → n ≡ unreserved p → n < pages
    → p ≡ refusing p pages
few p pages n is l =
    let short : nat_lt (unreserved p) pages ≡ true =
    lt-ltb (unreserved p) pages (omega (arith, is, l)) in
    rw short refl

enough : (p : PoolCounts) (pages n : ℕ) → n ≡ unreserved p → pages ≤ n
    → end_surplus p pages ≡ refusing p pages
enough p pages n is l =
    let there : nat_lt (unreserved p) pages ≡ false =
    le-ltb (unreserved p) pages (omega (arith, is, l)) in
    let back : p.reserved ≡ p.reserved + pages - pages = omega arith in
    rw there (ap (λ (r : ℕ). end_surplus (record p { reserved = r }) pages)
    back)

pub returns-then-unreserved-pages : goal.returns-then-unreserved-pages
returns-then-unreserved-pages c =
    few c.args.self.now c.args.pages c.unreserved.result c.unreserved.ensures
    c.if-unreserved-pages.true

pub end_surplus-requires : goal.end_surplus-requires
end_surplus-requires c =
    omega (arith, c.unreserved.ensures, c.if-unreserved-pages.false, c.keep.ensures.reserved)

pub returns : goal.returns
returns c =
    c.end_surplus.ensures
    ∙ enough c.args.self.now c.args.pages c.unreserved.result c.unreserved.ensures
    c.if-unreserved-pages.false
