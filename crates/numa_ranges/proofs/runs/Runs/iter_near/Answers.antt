-- The rows from the rank on have the runs from the rank on.
use Rattle.std.proofs.Common.{ap, ◌∙◌, length, drop, arith}
use Rattle.numa_ranges.specs.Numbered.{runs_of}
use Rattle.numa_ranges.proofs.Numbered.{length-runs, numbered-drop, runs-drop}
use Rattle.numa_ranges.proofs.runs.Runs.iter_near.Goals as goal

pub iter_near-requires : goal.iter_near-requires
iter_near-requires g c =
    omega (
      arith,
      c.requires,
      length-runs c.self.inside.values c.self.inside.rows c.self.invariant,
      ap length c.self.view_is,
    )

pub new-requires : goal.new-requires
new-requires g c = rw (c.items.ensures, c.iter_near.ensures)
    (numbered-drop c.self.inside.values c.args.rank c.self.inside.rows c.self.invariant)

pub returns : goal.returns
returns g c =
    c.new.ensures ∙ ((λ i. runs_of (c.items.ensures i) (c.iter_near.ensures i))
    ∙ (runs-drop c.self.inside.values c.args.rank c.self.inside.rows c.self.invariant
    ∙ ap (drop c.args.rank) c.self.view_is))
