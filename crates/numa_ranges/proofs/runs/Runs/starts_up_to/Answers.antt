-- The runs rise, so the rows that start at the page or before it come first.
use Rattle.std.proofs.Common.{length, leb, ap, sym, subst, rules, arith}
use Rattle.std.proofs.lemmas.List.Sorted.{IsPartitionedBy-leb, IsPartitionPoint-from_clause}
use Rattle.std.proofs.lemmas.Bool.{leb-true, leb-false}
use Rattle.numa_ranges.specs.Edits.{StartsAround}
use Rattle.numa_ranges.specs.Runs.{AreApart}
use Rattle.numa_ranges.proofs.Numbered.{length-runs, rows-rising, starts-around}
use Rattle.numa_ranges.proofs.runs.Runs.starts_up_to.Goals as goal

pub returns-clause-within : goal.returns-clause-within
returns-clause-within g c =
    omega (
      arith,
      c.partition_point.ensures.bound,
      length-runs c.self.inside.values c.self.inside.rows c.self.invariant,
      ap length c.self.view_is,
    )

pub returns-clause-parts : goal.returns-clause-parts
returns-clause-parts g c =
    let rising = rows-rising c.self.inside.values c.self.inside.rows c.self.invariant
    (subst (AreApart 0) (sym c.self.view_is) c.requires) in
    let found = IsPartitionPoint-from_clause (λ row. leb row.first c.args.page) _ _
    c.partition_point.ensures.partitioned (IsPartitionedBy-leb (λ row. row.first) _ c.args.page
    rising) (λ a r f k. search rules) in
    subst (λ l. StartsAround l c.partition_point.result c.args.page) c.self.view_is
    (starts-around c.self.inside.values c.self.inside.rows c.partition_point.result c.args.page
    c.self.invariant c.partition_point.ensures.bound
    (λ k d low high. leb-true _ _ (found.0 k d low high))
    (λ k d low high. leb-false _ _ (found.1 k d low high)))
