use Rattle.std.proofs.Common.{◌≡◌, ℕ, ◌+◌, ap, arith, slice_index, ◌∙◌}
use Rattle.std.proofs.lemmas.List.Sums.{count_by-le-length}
use Rattle.std.specs.Prelude.{◌==◌}
use Rattle.numa_lines.proofs.Adding.{said_same}
use Rattle.numa_maps.specs.Listing.{counted_line, placed_in}
use Rattle.numa_space.specs.Standing.{policy_in}
use Rattle.numa_requests.specs.declared.placement.Placement.{Placement}
use Rattle.numa_run.specs.Listings.{count_in, pages_in, stated_in}
use Rattle.numa_run.proofs.There.{line-same, sum-same}
use Rattle.numa_run.proofs.listing.say_range.Goals as goal

pub add-both-requires-clause-held : goal.add-both-requires-clause-held
add-both-requires-clause-held g c node small =
    omega (
      arith,
      c.pages_by_node-by_node.ensures node small,
      count_by-le-length (λ (p : ℕ × Placement). p.1.node == node)
          (placed_in c.args.resident.now c.args.range.now),
      c.count_in-held.ensures.count,
      c.count_in-held.ensures.few,
    )

pub returns : goal.returns
returns g c = λ spots lies.
    let sums = sum-same 256 (slice_index c.stated_in-stated.result)
    (stated_in spots c.args.range.now)
    (λ node small. c.stated_in-stated.ensures.counts spots lies node small) in
    let count : c.count_in-held.result + c.total-more.result
    ≡ count_in c.args.resident.now spots c.args.range.now =
    omega (arith, c.count_in-held.ensures.count, c.total-more.ensures.sum, sums) in
    said_same g.W.Write.contents c.args.output.now c.say_counted.new.output _ _
    (ap (λ policy. counted_line policy c.args.range.now.first
    (c.count_in-held.result + c.total-more.result) (λ node. slice_index c.add-both.result node))
    c.policy_at-policy.ensures.policy
    ∙ line-same (policy_in c.args.space.now c.args.task c.args.range.now.first)
    c.args.range.now.first (c.count_in-held.result + c.total-more.result)
    (count_in c.args.resident.now spots c.args.range.now)
    (λ node. slice_index c.add-both.result node)
    (pages_in c.args.resident.now spots c.args.range.now) count
    (λ node small. omega (
      arith,
      c.add-both.ensures node small,
      c.pages_by_node-by_node.ensures node small,
      c.stated_in-stated.ensures.counts spots lies node small,
    ))) c.say_counted.ensures
