use Rattle.std.proofs.Common.{ℕ, arith, ◌∙◌}
use Rattle.std.proofs.lemmas.Simd.{get_or-replicate}
use Rattle.numa_host_pages.proofs.summing.huge_row.Goals as goal

pub returns-in-Some : goal.returns-in-Some
returns-in-Some c = λ at lies to small.
    let has = c.in-Some.ensures.home at lies in
    rw has.1 (c.flow_from.ensures to small
    ∙ has.2.1.told.flow c.args.from to (omega arith) small)

pub returns-in-None : goal.returns-in-None
returns-in-None c = λ at lies to small.
    rw (c.in-None.ensures.home at lies) (get_or-replicate {A = ℕ} 256 to 0 0 small)
