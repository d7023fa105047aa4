use Rattle.std.proofs.Common.{◌≡◌, ◌∙◌, ℕ, List, ap, min, subst}
use Rattle.std.specs.Prelude.{nat_le}
use Rattle.std.specs.List.{prefix_len}
use Rattle.std.specs.List.Sorted.{IsNonDecreasingBy}
use Rattle.numa_traces.specs.Ranging.{Ranged, range_of}
use Rattle.numa_traces.proofs.ranges.RangeTallies.range_of.Goals as goal

pub returns : goal.returns
returns c =
    let firsts : List ℕ = c.self.inside.firsts.items in
    let count = c.count_to.result in
    let counted : count ≡ prefix_len (λ first. nat_le first c.args.page) firsts =
    subst (λ (pages : List ℕ). IsNonDecreasingBy (λ first. first) pages
    → count ≡ prefix_len (λ first. nat_le first c.args.page) pages)
    c.as_slice.ensures.value c.count_to.ensures c.self.invariant in
    c.number_of.ensures ∙ ap (λ (n : ℕ). min n 4294967295) counted
    ∙ ap (λ (ranged : Ranged). range_of ranged.firsts c.args.page) c.self.view_is
