use Rattle.std.proofs.Common.{◌≤◌, ◌∙◌, ℕ, ap, arith}
use Rattle.std.proofs.lemmas.Simd.{get_or-replicate}
use Rattle.numa_host_script.specs.Paging.{pages_at}
use Rattle.numa_placed.specs.Spots.{is_on, pages_where, spot_at}
use Rattle.numa_placed.proofs.Shared.{count-le}
use Rattle.numaplan_handles.proofs.Located.{none-lies}
use Rattle.numaplan_handles.proofs.host_places.small_counts.Goals as goal

pub returns-in-Some-clause-counts : goal.returns-in-Some-clause-counts
returns-in-Some-clause-counts c = λ at runs node small.
    c.counts.ensures node small
    ∙ ap (pages_where (is_on node)) (λ i page. c.in-Some.ensures at runs page i)

pub returns-in-Some-clause-few : goal.returns-in-Some-clause-few
returns-in-Some-clause-few c = λ node small.
    let few = count-le (λ page. is_on node (spot_at c.in-Some.placed.now page)) 0 34359738368 in
    omega (arith, c.counts.ensures node small, few)

pub returns-in-None-clause-counts : goal.returns-in-None-clause-counts
returns-in-None-clause-counts c = λ at runs.
    none-lies (pages_at at c.args.process).spots (c.in-None.ensures at runs)

pub returns-in-None-clause-few : goal.returns-in-None-clause-few
returns-in-None-clause-few c = λ node small.
    omega (arith, get_or-replicate {A = ℕ} 256 node 0 0 small)
