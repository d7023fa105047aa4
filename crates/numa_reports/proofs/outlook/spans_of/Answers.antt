use Rattle.std.proofs.Common.{◌++◌, ◌∷◌, [], ◌∙◌, List, Option, ap, subst, sym, map, append_assoc}
use Rattle.std.proofs.lemmas.List.{append-nil}
use Rattle.numa_mode.specs.Policy.{PolicyRecord}
use Rattle.numa_ranges.specs.declared.run.Run.{Run}
use Rattle.numa_reports.specs.Common.{AreRising}
use Rattle.numa_reports.specs.Mapped.{span_of}
use Rattle.numa_reports.proofs.Meeting.{spans-rise}
use Rattle.numa_reports.proofs.outlook.spans_of.Goals as goal

pub loop-range-init : goal.loop-range-init
loop-range-init c = record {
  spans = ap (λ l. l ++ map span_of c.into_iter-range-iterator.result) c.new-spans.ensures.items
      ∙ ap (λ (runs : List (Run (Option PolicyRecord))). map span_of runs)
      (c.into_iter-range-iterator.ensures.into_iter_gives ∙ c.range_iter-range-items.ensures.runs);
  apart = c.range_iter-range-items.ensures.rising;
}

pub loop-range-preserved : goal.loop-range-preserved
loop-range-preserved c =
    let rest = map span_of c.next.new.self in
    record {
      spans = ap (λ l. l ++ rest) c.in_ok-push.ensures.items
          ∙ append_assoc c.loop-range.spans.items (span_of c.in-Some.range ∷ []) rest
          ∙ ap (λ (runs : List (Run (Option PolicyRecord))). c.loop-range.spans.items
          ++ map span_of runs) (sym c.in-Some.ensures.steps)
          ∙ c.loop-range.invariant.spans;
      apart = c.loop-range.invariant.apart;
    }

pub returns-clause-spans : goal.returns-clause-spans
returns-clause-spans c = sym (append-nil c.loop-range.spans.items)
    ∙ ap (λ (runs : List (Run (Option PolicyRecord))). c.loop-range.spans.items ++ map span_of runs)
    (sym c.in-None.ensures.steps.0) ∙ c.loop-range.invariant.spans

pub returns-clause-rising : goal.returns-clause-rising
returns-clause-rising c = subst (AreRising 0) (sym (returns-clause-spans c))
    (spans-rise 0 c.args.space.now.ranges c.loop-range.invariant.apart)
