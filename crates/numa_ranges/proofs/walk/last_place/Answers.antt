-- A run of a map ends at page 2^35 at the latest.
use Rattle.std.proofs.Common.{◌-◌, ◌≤◌, ◌^◌, arith, subst, sym}
use Rattle.numa_ranges.specs.Runs.{end_of}
use Rattle.numa_ranges.specs.declared.run.Run.{Run}
use Rattle.numa_ranges.proofs.Apart.{apart-bounds}
use Rattle.numa_ranges.proofs.walk.last_place.Goals as goal

pub overflow_add-last : goal.overflow_add-last
overflow_add-last g c =
    let last = c.get_near-last.result in
    let bounds = apart-bounds 0 c.args.runs.now (c.args.count - 1) last c.requires.apart
    (omega (arith, c.requires.within)) in
    let ends : end_of last ≤ 2 ^ 35 =
    subst (λ (r : Run g.row.T.Denot). end_of r ≤ 2 ^ 35) (sym (c.get_near-last.ensures last))
    bounds.0 in
    omega (arith, ends)
