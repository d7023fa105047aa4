use Rattle.std.proofs.Common.{◌≡◌, ℕ, ◌<◌, ap, arith, slice_index, ◌∙◌}
use Rattle.numa_lines.proofs.Adding.{said_same}
use Rattle.numa_huge.specs.Huge.{huge_at, on_node, pages_in as pages_in_span}
use Rattle.numa_maps.specs.Listing.{huge_line}
use Rattle.numa_placed.proofs.Shared.{count-le}
use Rattle.numa_placed.specs.Shifts.{sum_below}
use Rattle.numa_space.specs.Standing.{policy_in}
use Rattle.numa_run.specs.Listings.{huge_in}
use Rattle.numa_run.proofs.There.{huge-same, sum-same}
use Rattle.numa_run.proofs.listing.say_huge_range.Goals as goal

pub total-requires : goal.total-requires
total-requires g c node small =
    let few = count-le (λ page. on_node node (huge_at c.args.huge.now.runs page))
    c.huge_span-span.result.first c.huge_span-span.result.pages in
    omega (
      arith,
      c.counts_in-counts.ensures.on node small,
      few,
      c.huge_span-span.ensures.within,
    )

pub returns : goal.returns
returns g c = λ memory lies.
    let range = c.args.range.now in
    let each : (node : ℕ) → node < 256 → slice_index c.counts_in-counts.result.on node
    ≡ huge_in memory range node = λ node small. c.counts_in-counts.ensures.on node small
    ∙ (λ i. pages_in_span (on_node node) (lies i).spots (c.huge_span-span.ensures.first i)
    (c.huge_span-span.ensures.pages i)) in
    let sums = sum-same 256 (slice_index c.counts_in-counts.result.on) (huge_in memory range)
    each in
    said_same g.W.Write.contents c.args.output.now c.say_huge.new.output _ _
    (ap (λ policy. huge_line policy range.first c.total.result
    (λ node. slice_index c.counts_in-counts.result.on node)) c.policy_at-policy.ensures.policy
    ∙ huge-same (policy_in c.args.space.now c.args.task range.first) range.first c.total.result
    (sum_below 256 (huge_in memory range)) (λ node. slice_index c.counts_in-counts.result.on node)
    (huge_in memory range)
    (c.total.ensures.sum ∙ sums) each) c.say_huge.ensures
