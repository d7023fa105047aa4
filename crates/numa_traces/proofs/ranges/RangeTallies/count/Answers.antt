use Rattle.std.proofs.Common.{◌≡◌, ℕ, IfErr, OnOk, subst}
use Rattle.numa_traces.specs.Ranging.{Ranged, by_range}
use Rattle.numa_traces.specs.Tallies.{Counts, IsFull}
use Rattle.numa_traces.specs.declared.fault.ReplayError.{ReplayError}
use Rattle.numa_traces.specs.declared.fault.ReplayError.TheVariants.{TooMany}
use Rattle.numa_traces.proofs.ranges.RangeTallies.count.Goals as goal

pub returns-clause-counts : goal.returns-clause-counts
returns-clause-counts c =
    let access = c.args.access in
    let firsts = c.args.self.now.firsts in
    subst (λ (ranged : Ranged). OnOk c.add.result (Counts ranged.tallies
    (by_range firsts access.page (access.task, access.cpu, c.args.node)) access.count
    c.args.is_fault c.add.new.self)) c.self.view_is
    (subst (λ (number : ℕ). OnOk c.add.result (Counts c.self.inside.tallies
    (number, access.cpu, c.args.node) access.count c.args.is_fault c.add.new.self))
    c.range_of.ensures c.add.ensures.counts)

pub returns-clause-full : goal.returns-clause-full
returns-clause-full c =
    let access = c.args.access in
    let firsts = c.args.self.now.firsts in
    subst (λ (ranged : Ranged). IfErr c.add.result (λ (why : ReplayError). why ≡ TooMany
    → IsFull ranged.tallies (by_range firsts access.page (access.task, access.cpu, c.args.node))
    access.count c.args.is_fault)) c.self.view_is
    (subst (λ (number : ℕ). IfErr c.add.result (λ (why : ReplayError). why ≡ TooMany
    → IsFull c.self.inside.tallies (number, access.cpu, c.args.node) access.count c.args.is_fault))
    c.range_of.ensures c.add.ensures.full)
