use Rattle.std.proofs.Common.{◌≡◌, ◌+◌, ◌<◌, ℕ, List, Option, length, get_or, sym, ap, subst, ◌∙◌}
use Rattle.std.proofs.Common.{arith}
use Rattle.std.specs.List.{slice_range}
use Rattle.numa_mode.specs.Policy.{PolicyRecord}
use Rattle.numa_ranges.specs.Windows.{begins_in}
use Rattle.numa_ranges.specs.declared.run.Run.{Run}
use Rattle.numa_space.specs.Policies.{where_live}
use Rattle.numa_plan.specs.Slots.{policy_in}
use Rattle.numa_compile.specs.Copies.{AreCopies, IsNumber}
use Rattle.numa_compile.specs.Windows.{IsNumbered}
use Rattle.numa_compile.proofs.SpanLemmas.{gathered-next}
use Rattle.numa_compile.proofs.recompiler.gather.gather_runs.Goals as goal

pub number_in-value-requires-clause-outside : goal.number_in-value-requires-clause-outside
number_in-value-requires-clause-outside c =
    let range = c.range_there-range.result in
    let there : get_or c.args.space.now.ranges c.loop-k.k range ≡ range =
    c.range_there-range.ensures.there range in
    let short : c.loop-k.k < length c.args.space.now.ranges = omega (arith, c.requires.within) in
    λ out. subst (λ (run : Run (Option PolicyRecord)). IsNumbered c.args.plan.now run) there
    (c.requires.outside c.loop-k.k range short
    (ap (begins_in c.args.window.now.first c.args.window.now.end) there ∙ out))

pub number_in-value-requires-clause-inside : goal.number_in-value-requires-clause-inside
number_in-value-requires-clause-inside c =
    let range = c.range_there-range.result in
    let there : get_or c.args.space.now.ranges c.loop-k.k range ≡ range =
    c.range_there-range.ensures.there range in
    λ within.
    subst (λ (run : Run (Option PolicyRecord)). IsNumber (policy_in c.args.plan.now.slots)
    (where_live run.value) c.args.given) there
    (c.requires.inside c.loop-k.k range (omega arith) (omega arith)
    (ap (begins_in c.args.window.now.first c.args.window.now.end) there ∙ within))

pub loop-k-preserved : goal.loop-k-preserved
loop-k-preserved c =
    let at = policy_in c.args.plan.now.slots in
    let range = c.range_there-range.result in
    subst (λ (runs : List (Run (Option ℕ))).
    AreCopies at (slice_range c.args.space.now.ranges c.args.window.now.from (c.loop-k.k + 1))
    runs) (sym c.in_ok-push_run.ensures)
    (gathered-next at c.args.space.now.ranges c.loop-k.runs.items c.args.window.now.from c.loop-k.k
    range c.number_in-value.result (omega arith) (omega (arith, c.requires.within))
    (c.range_there-range.ensures.there range) c.number_in-value.ensures c.loop-k.invariant)

pub range_there-range-requires : goal.range_there-range-requires
range_there-range-requires c = omega (arith, c.requires.within)
