use Rattle.std.proofs.Common.{◌+◌, ◌∙◌, ap, sym, arith, List, [], ◌++◌, length, append-nil}
use Rattle.numa_mode.specs.Policy.{PolicyRecord}
use Rattle.numa_ranges.specs.Edits.{maximal_runs}
use Rattle.numa_ranges.specs.declared.run.Run.{Run}
use Rattle.numa_objects.specs.Changes.{bound_policy}
use Rattle.numa_objects.specs.Counting.{befores, behinds, bound_run}
use Rattle.numa_objects.specs.Objects.{ObjectData, policy_of, ranges_by}
use Rattle.numa_objects.specs.Same.{same_policy}
use Rattle.numa_objects.proofs.Overwritten.{count-after}
use Rattle.numa_objects.proofs.object.Object.ranges_after.Goals as goal

pub add_parts-requires : goal.add_parts-requires
add_parts-requires c = record {
  room = omega (arith, c.len.ensures.runs, c.len.ensures.few, c.new-tally.ensures.count);
}

pub add_span-requires-clause-room : goal.add_span-requires-clause-room
add_span-requires-clause-room c =
    omega (
      arith,
      c.len.ensures.runs,
      c.len.ensures.few,
      c.new-tally.ensures.count,
      c.add_parts.ensures.count,
    )

pub add_parts-requires-2 : goal.add_parts-requires-2
add_parts-requires-2 c = record {
  room = omega (
    arith,
    c.len.ensures.runs,
    c.len.ensures.few,
    c.new-tally.ensures.count,
    c.add_parts.ensures.count,
    c.add_span.ensures.count,
  );
}

pub total-requires : goal.total-requires
total-requires c =
    omega (
      arith,
      c.len.ensures.runs,
      c.len.ensures.few,
      c.new-tally.ensures.count,
      c.add_parts.ensures.count,
      c.add_span.ensures.count,
      c.add_parts-2.ensures.count,
    )

pub returns-clause-ranges : goal.returns-clause-ranges
returns-clause-ranges c =
    let runs : List (Run PolicyRecord) = c.self.inside.policies.runs in
    let front = befores c.args.first runs in
    let span = bound_run c.args.first c.args.pages c.args.policy.now in
    let back = behinds (c.args.first + c.args.pages) runs in
    c.total.ensures ∙ c.add_parts-2.ensures.ranges [] ∙ c.add_span.ensures.ranges (back ++ [])
    ∙ c.add_parts.ensures.ranges (span ++ (back ++ []))
    ∙ c.new-tally.ensures.ranges (front ++ (span ++ (back ++ [])))
    ∙ ap (λ (l : List (Run PolicyRecord)). length (maximal_runs same_policy (front ++ (span ++ l))))
    (append-nil back)
    ∙ sym (count-after c.args.first c.args.pages c.args.policy.now runs c.iter.ensures.rising
    c.requires.some c.requires.within c.self.invariant.places)
    ∙ ap (λ (o : ObjectData). ranges_by (bound_policy c.args.first c.args.pages c.args.policy.now
    (policy_of o))) c.self.view_is
