-- The runs rise, so the rows that start at the page or before it come first.
use Rattle.std.proofs.Common.{length, leb, ap, sym, subst, rules, arith}
use Rattle.std.proofs.lemmas.List.Sorted.{IsPartitionedBy-leb}
use Rattle.std.proofs.lemmas.Bool.{leb-true, leb-false}
use Rattle.numa_ranges.specs.Edits.{StartsAround}
use Rattle.numa_ranges.specs.Runs.{AreApart}
use Rattle.numa_ranges.proofs.Numbered.{length-runs, rows-rising, starts-around, starts-beside}
use Rattle.numa_ranges.proofs.Numbered.{starts-all}
use Rattle.numa_ranges.proofs.runs.Runs.starts_near.Goals as goal

pub returns-clause-within : goal.returns-clause-within
returns-clause-within g c =
    omega (
      arith,
      c.partition_point_near.ensures.bound,
      length-runs c.self.inside.values c.self.inside.rows c.self.invariant,
      ap length c.self.view_is,
    )

pub returns-clause-parts : goal.returns-clause-parts
returns-clause-parts g c =
    let rising = rows-rising c.self.inside.values c.self.inside.rows c.self.invariant
    (subst (AreApart 0) (sym c.self.view_is) c.requires) in
    let found = c.partition_point_near.ensures.partitioned (λ row. leb row.first c.args.page)
    (λ value made h. search rules)
    (IsPartitionedBy-leb (λ row. row.first) _ c.args.page rising) in
    subst (λ l. StartsAround l c.partition_point_near.result c.args.page) c.self.view_is
    (starts-around c.self.inside.values c.self.inside.rows c.partition_point_near.result c.args.page
    c.self.invariant c.partition_point_near.ensures.bound
    (λ k d low high. leb-true _ _ (found.0 k d low high))
    (λ k d low high. leb-false _ _ (found.1 k d low high)))

pub returns-in-Some-starts_beside-clause-within : goal.returns-in-Some-starts_beside-clause-within
returns-in-Some-starts_beside-clause-within g c =
    omega (
      arith,
      c.in-Some-starts_beside.ensures.within,
      length-runs c.self.inside.values c.self.inside.rows
          c.self.invariant,
      ap length c.self.view_is,
    )

pub returns-in-Some-starts_beside-clause-parts : goal.returns-in-Some-starts_beside-clause-parts
returns-in-Some-starts_beside-clause-parts g c =
    subst (λ l. StartsAround l c.in-Some-starts_beside.count c.args.page) c.self.view_is
    (starts-beside c.self.inside.values c.self.inside.rows c.in-Some-starts_beside.count c.args.page
    c.self.invariant (subst (AreApart 0) (sym c.self.view_is) c.requires) c.in-Some-starts_beside.ensures.some
    c.in-Some-starts_beside.ensures.within c.in-Some-starts_beside.ensures.before c.in-Some-starts_beside.ensures.behind)

pub returns-in-Some-clause-within : goal.returns-in-Some-clause-within
returns-in-Some-clause-within g c =
    omega (
      arith,
      c.in-Some.ensures.all,
      length-runs c.self.inside.values c.self.inside.rows
          c.self.invariant,
      ap length c.self.view_is,
    )

pub returns-in-Some-clause-parts : goal.returns-in-Some-clause-parts
returns-in-Some-clause-parts g c =
    subst (λ l. StartsAround l c.in-Some.count c.args.page) c.self.view_is
    (starts-all c.self.inside.values c.self.inside.rows c.in-Some.count c.args.page
    c.self.invariant (subst (AreApart 0) (sym c.self.view_is) c.requires) c.in-Some.ensures.some
    c.in-Some.ensures.all c.in-Some.ensures.before)
