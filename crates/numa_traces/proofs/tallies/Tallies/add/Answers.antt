use Rattle.std.proofs.Common.{◌≡◌, ◌+◌, List, ap, sym, subst, ◌∙◌}
use Rattle.numa_traces.specs.Tallies.{Route, Counts, tally_at, with_accesses}
use Rattle.numa_traces.specs.declared.tallies.AccessCounts.{AccessCounts}
use Rattle.numa_traces.proofs.Counted.{counted}
use Rattle.numa_traces.proofs.tallies.Tallies.add.Goals as goal

pub returns-clause-counts : goal.returns-clause-counts
returns-clause-counts c =
    let P : List (Route × AccessCounts) → Type 0 =
    λ old. Counts old c.args.route c.args.count c.args.is_fault
    c.insert.new.self.entries in
    let written : AccessCounts =
    record { accesses = c.in-Some.accesses; faults = c.in-Some-checked_add.faults } in
    let is : written ≡ with_accesses (tally_at c.args.self.now c.args.route) c.args.count
    c.args.is_fault =
    (λ i.
    record {
      accesses =
          (c.in-Some.ensures.1 ∙ (λ j. (c.get-tally.ensures j).accesses + c.from.ensures j)) i;
      faults =
          (c.in-Some-checked_add.ensures.1 ∙ (λ j. (c.get-tally.ensures j).faults
          + c.fault_count.ensures j)) i;
    }) in
    let here : written ≡ with_accesses (tally_at c.self.inside.0.entries c.args.route)
    c.args.count c.args.is_fault =
    is ∙ ap (λ tallies. with_accesses (tally_at tallies c.args.route) c.args.count c.args.is_fault)
    (sym c.self.view_is) in
    subst P c.self.view_is
    (counted c.self.inside.0.entries c.insert.new.self.entries c.args.route written
    c.args.count c.args.is_fault c.in_default-insert.ensures.updates.0 here)
