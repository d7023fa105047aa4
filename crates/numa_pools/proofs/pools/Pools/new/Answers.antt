use Rattle.std.proofs.Common.{◌≡◌, ℕ, ap, arith, refl, sym, ◌∙◌}
use Rattle.numa_pools.specs.Pools.{PoolCounts, first_of, no_pages, zeros}
use Rattle.numa_pools.proofs.Keeping.{first-is, kept-none}
use Rattle.numa_pools.proofs.pools.Pools.new.Goals as goal

pub invariant_of-result : goal.invariant_of-result
invariant_of-result c =
    kept-none _ _ 256 refl (omega (arith, c.from-first.ensures, c.number.ensures.within))

pub returns : goal.returns
unfolding zeros first_of
returns c =
    let first : c.from-first.result ≡ first_of c.memory-memory.result =
    c.from-first.ensures ∙ c.number.ensures.number
    ∙ sym (first-is c.memory-memory.result c.in-Some.first
    (sym c.first.ensures.first ∙ c.in-Some.is)) in
    ap (λ (mark : ℕ). let p : PoolCounts = record {
      memory = c.memory-memory.result;
      total = zeros;
      free = zeros;
      surplus = zeros;
      reserved = 0;
      grow = mark;
      shrink = mark;
    } in p) first
    ∙ ap no_pages c.memory-memory.ensures.memory
