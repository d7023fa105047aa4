-- The row of the rank has the run of the rank.
use Rattle.std.proofs.Common.{◌≡◌, ◌∷◌, [], ◌<◌, length, get_or, ap, sym, ◌∙◌, arith}
use Rattle.numa_ranges.specs.Numbered.{run_of}
use Rattle.numa_ranges.proofs.Numbered.{length-runs, number-at, run-at}
use Rattle.numa_ranges.proofs.runs.Runs.get_near.Goals as goal

pub get_near-row-requires : goal.get_near-row-requires
get_near-row-requires g c =
    omega (
      arith,
      c.requires,
      length-runs c.self.inside.values c.self.inside.rows c.self.invariant,
      ap length c.self.view_is,
    )

pub with_value-requires : goal.with_value-requires
with_value-requires g c =
    let within : c.args.rank < length c.self.inside.rows =
    omega (
      arith,
      c.requires,
      length-runs c.self.inside.values c.self.inside.rows
          c.self.invariant,
      ap length c.self.view_is,
    ) in
    rw c.items.ensures
    (number-at c.self.inside.values c.self.inside.rows c.args.rank c.get_near-row.result.now
    c.self.invariant within (c.get_near-row.ensures c.get_near-row.result.now))

pub returns : goal.returns
returns g c d =
    let within : c.args.rank < length c.self.inside.rows =
    omega (
      arith,
      c.requires,
      length-runs c.self.inside.values c.self.inside.rows
          c.self.invariant,
      ap length c.self.view_is,
    ) in
    let one : run_of c.self.inside.values c.get_near-row.result.now ≡ c.with_value.result ∷ [] =
    ap (λ v. run_of v c.get_near-row.result.now) (sym c.items.ensures) ∙ c.with_value.ensures in
    run-at c.self.inside.values c.self.inside.rows c.args.rank c.get_near-row.result.now
    c.with_value.result d c.self.invariant within (c.get_near-row.ensures c.get_near-row.result.now) one
    ∙ ap (λ l. get_or l c.args.rank d) c.self.view_is
