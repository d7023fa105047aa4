use Rattle.std.proofs.Common.{◌≡◌, ◌+◌, ◌-◌, ◌<◌, ℕ, List, [], Option, length, take, drop, refl}
use Rattle.std.proofs.Common.{sym, ap, subst, ◌∙◌, arith}
use Rattle.std.specs.List.{slice_range}
use Rattle.numa_mode.specs.Policy.{PolicyRecord}
use Rattle.numa_ranges.specs.Windows.{begins_in}
use Rattle.numa_ranges.specs.declared.run.Run.{Run}
use Rattle.numa_plan.specs.Slots.{policy_in}
use Rattle.numa_compile.specs.Copies.{AreCopies}
use Rattle.numa_compile.specs.Windows.{IsNumbered, WereAdded}
use Rattle.numa_compile.proofs.CommandLemmas.{open-within}
use Rattle.numa_compile.proofs.GrownLemmas.{open-grown}
use Rattle.numa_compile.proofs.HomeLemmas.{begun-take, begun-writes, copies-grown, open-nodes}
use Rattle.numa_compile.proofs.HomeLemmas.{writes-less}
use Rattle.numa_compile.proofs.RangeLemmas.{range-in_force}
use Rattle.numa_compile.proofs.SpanLemmas.{gathered-next, open-numbered}
use Rattle.numa_compile.proofs.recompiler.home.gather_homes.Goals as goal

pub range_there-range-requires : goal.range_there-range-requires
range_there-range-requires c =
    omega (arith, (open-within c.args.space.now c.args.plan.now c.args.window.now c.requires.of).1)

pub number_of_home-requires-clause-in_force : goal.number_of_home-requires-clause-in_force
number_of_home-requires-clause-in_force c =
    let ranges = c.args.space.now.ranges in
    let short : c.loop-k.k < length c.args.space.now.ranges =
    omega (
      arith,
      (open-within c.args.space.now c.args.plan.now c.args.window.now c.requires.of).1,
    ) in
    let there = c.range_there-range.ensures.there c.range_there-range.result in
    λ r is. range-in_force c.args.space.now c.loop-k.k c.range_there-range.result short
    c.range_there-range.ensures.rising c.requires.ready.sound r
    (ap (λ (run : Run (Option PolicyRecord)). run.value) there ∙ is)

pub number_of_home-requires-clause-nodes : goal.number_of_home-requires-clause-nodes
number_of_home-requires-clause-nodes c =
    open-nodes c.args.space.now c.loop-k.plan c.args.window.now
    (open-grown c.args.space.now c.args.plan.now c.loop-k.plan c.args.window.now
    c.loop-k.added.items c.requires.of c.loop-k.invariant.added)

pub number_of_home-requires-clause-outside : goal.number_of_home-requires-clause-outside
number_of_home-requires-clause-outside c =
    let ranges = c.args.space.now.ranges in
    let window = c.args.window.now in
    let short : c.loop-k.k < length c.args.space.now.ranges =
    omega (
      arith,
      (open-within c.args.space.now c.args.plan.now c.args.window.now c.requires.of).1,
    ) in
    let there = c.range_there-range.ensures.there c.range_there-range.result in
    let of = open-grown c.args.space.now c.args.plan.now c.loop-k.plan window c.loop-k.added.items
    c.requires.of c.loop-k.invariant.added in
    λ out. subst (λ (run : Run (Option PolicyRecord)). IsNumbered c.loop-k.plan run) there
    (open-numbered c.args.space.now c.loop-k.plan window of c.range_there-range.ensures.rising
    c.range_there-range.ensures.maximal c.loop-k.k c.range_there-range.result short
    (ap (λ (run : Run (Option PolicyRecord)). begins_in window.first window.end run) there
    ∙ out))

pub returns-in_err-value-clause-few : goal.returns-in_err-value-clause-few
returns-in_err-value-clause-few c =
    let ranges = c.args.space.now.ranges in
    let window = c.args.window.now in
    let short : c.loop-k.k < length c.args.space.now.ranges =
    omega (
      arith,
      (open-within c.args.space.now c.args.plan.now c.args.window.now c.requires.of).1,
    ) in
    let there = c.range_there-range.ensures.there c.range_there-range.result in
    writes-less c.args.steps.now c.number_of_home.new.steps _ _
    (begun-writes c.args.steps.now c.loop-k.steps c.number_of_home.new.steps window.first window.end
    c.loop-k.k ranges c.range_there-range.result short there c.loop-k.invariant.writes
    c.number_of_home.ensures.few)
    (begun-take window.first window.end (c.loop-k.k + 1) ranges)

pub returns-in_err-push_run-clause-few : goal.returns-in_err-push_run-clause-few
returns-in_err-push_run-clause-few c =
    let ranges = c.args.space.now.ranges in
    let window = c.args.window.now in
    let short : c.loop-k.k < length c.args.space.now.ranges =
    omega (
      arith,
      (open-within c.args.space.now c.args.plan.now c.args.window.now c.requires.of).1,
    ) in
    let there = c.range_there-range.ensures.there c.range_there-range.result in
    writes-less c.args.steps.now c.number_of_home.new.steps _ _
    (begun-writes c.args.steps.now c.loop-k.steps c.number_of_home.new.steps window.first window.end
    c.loop-k.k ranges c.range_there-range.result short there c.loop-k.invariant.writes
    c.number_of_home.ensures.few)
    (begun-take window.first window.end (c.loop-k.k + 1) ranges)

pub loop-k-preserved : goal.loop-k-preserved
loop-k-preserved c =
    let ranges = c.args.space.now.ranges in
    let window = c.args.window.now in
    let range = c.range_there-range.result in
    let at = policy_in c.number_of_home.new.plan.slots in
    let short : c.loop-k.k < length c.args.space.now.ranges =
    omega (
      arith,
      (open-within c.args.space.now c.args.plan.now c.args.window.now c.requires.of).1,
    ) in
    let there = c.range_there-range.ensures.there range in
    let before = copies-grown c.loop-k.plan.slots c.number_of_home.new.plan.slots
    (slice_range ranges window.from c.loop-k.k) c.loop-k.runs.items
    c.number_of_home.ensures.kept c.loop-k.invariant.copies in
    record {
      copies =
          subst (λ (runs : List (Run (Option ℕ))).
          AreCopies at (slice_range ranges window.from (c.loop-k.k + 1)) runs)
          (sym c.in_ok-push_run.ensures)
          (gathered-next at ranges c.loop-k.runs.items window.from c.loop-k.k range
          c.in_ok-value.value (omega arith) short there c.in_ok-value.ensures.number before);
      added = c.number_of_home.ensures.added c.args.plan.now c.loop-k.invariant.added;
      writes = begun-writes c.args.steps.now c.loop-k.steps c.number_of_home.new.steps window.first
          window.end c.loop-k.k ranges range short there c.loop-k.invariant.writes
          c.number_of_home.ensures.few;
    }

pub loop-k-init : goal.loop-k-init
loop-k-init c =
    let ranges : List (Run (Option PolicyRecord)) = c.args.space.now.ranges in
    let from : ℕ = c.args.window.now.from in
    let at = policy_in c.args.plan.now.slots in
    let zero : from - from ≡ 0 = omega arith in
    let none : slice_range ranges from from ≡ [] = ap (λ (n : ℕ). take n (drop from ranges)) zero in
    record {
      copies =
          subst (λ (runs : List (Run (Option ℕ))). AreCopies at (slice_range ranges from from) runs)
          (sym c.requires.no_run)
          (subst (λ (rs : List (Run (Option PolicyRecord))). AreCopies at rs []) (sym none) tt);
      added =
          subst (λ (numbers : List (Option ℕ)). WereAdded c.args.space.now c.args.plan.now numbers
          c.args.plan.now) (sym c.requires.none_added) refl;
      writes = record {
        compares = omega arith;
        runs = refl;
        rules = omega arith;
        rules_rise =
            omega arith;
      };
    }

pub returns-in_err-value-clause-added : goal.returns-in_err-value-clause-added
returns-in_err-value-clause-added c = c.number_of_home.ensures.added c.args.plan.now
    c.loop-k.invariant.added

pub returns-in_err-push_run-clause-added : goal.returns-in_err-push_run-clause-added
returns-in_err-push_run-clause-added c = c.number_of_home.ensures.added c.args.plan.now
    c.loop-k.invariant.added

pub returns-clause-added : goal.returns-clause-added
returns-clause-added c = c.loop-k.invariant.added

pub returns-clause-few : goal.returns-clause-few
returns-clause-few c = writes-less c.args.steps.now c.loop-k.steps _ _ c.loop-k.invariant.writes
    (begun-take c.args.window.now.first c.args.window.now.end c.loop-k.k c.args.space.now.ranges)

pub number_of_home-requires-clause-ready : goal.number_of_home-requires-clause-ready
number_of_home-requires-clause-ready c = c.requires.ready
