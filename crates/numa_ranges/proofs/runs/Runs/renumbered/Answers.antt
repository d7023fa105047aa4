-- All runs stand in the place of none.
use Rattle.std.proofs.Common.{◌++◌, append-nil, ap, ◌∙◌, arith}
use Rattle.numa_ranges.proofs.runs.Runs.renumbered.Goals as goal

pub returns : goal.returns
returns g c = c.in-Ok-splice_near.ensures.ok
    ∙ (ap (λ l. c.deref.result.now ++ l) c.new-fresh.ensures
    ∙ (append-nil c.deref.result.now ∙ (c.deref.ensures.value ∙ c.in-Ok.ensures)))

pub splice_near-requires : goal.splice_near-requires
splice_near-requires g c = (omega arith, omega arith)
