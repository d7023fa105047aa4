use Rattle.std.proofs.Common.{◌≡◌, ℕ, List, arith, ap, subst, sym, ◌∙◌, Option, Bool, refl}
use Rattle.std.proofs.Common.{length, inl, inr}
use Rattle.std.proofs.lemmas.Simd.{get_or-replicate}
use Rattle.std.proofs.lemmas.Result.{err_from_is_err_and}
use Rattle.std.proofs.lemmas.List.Sums.{sum_by-cons}
use Rattle.numa_mode.specs.Policy.{PolicyRecord}
use Rattle.numa_ranges.specs.Counts.{count_pages}
use Rattle.numa_ranges.specs.declared.run.Run.{Run}
use Rattle.numa_plan.specs.Meaning.{is_number}
use Rattle.numa_reports.specs.Lying.{planned_node, spots_in}
use Rattle.numa_reports.specs.Predicted.{IsLying}
use Rattle.numa_reports.specs.Told.{LacksOne, ToldEach}
use Rattle.numa_reports.proofs.Refusing.{left-all, left-end, left-next, left-pages, left-value}
use Rattle.numa_reports.proofs.Refusing.{range-fails}
use Rattle.numa_reports.proofs.There.{all-lie}
use Rattle.numa_reports.proofs.Tiling.{count_runs, runs-most, runs-none}
use Rattle.numa_reports.proofs.prediction.predict_ranges.Goals as goal

pub loop-range-init : goal.loop-range-init
loop-range-init g c =
    let runs : c.into_iter-range-iterator.result ≡ c.args.asked.space.now.ranges =
    c.into_iter-range-iterator.ensures.into_iter_gives
    ∙ c.range_iter-range-items.ensures.runs in
    record {
      none = λ node small. get_or-replicate {A = ℕ} 256 node 0 0 small;
      all = λ node small.
          let test : ℕ → Bool =
          λ page.
          is_number node (planned_node c.args.asked.plan.now (spots_in c.args.asked.placed)
          c.args.asked.touch.task
          c.args.asked.touch.cpu page) in
          omega (
            arith,
            get_or-replicate {A = ℕ} 256 node 0 0 small,
            ap (λ (runs : List (Run (Option PolicyRecord))). count_runs test runs) runs,
          );
      apart = c.range_iter-range-items.ensures.rising;
      rest = left-all c.into_iter-range-iterator.result c.args.asked.space.now.ranges runs
          c.range_iter-range-items.ensures.rising;
      lack =
          λ has.
          subst (λ (runs : List (Run (Option PolicyRecord))). LacksOne g.T.TakeRange.lacks runs)
          runs has;
      long = refl;
      told = λ history stands planned end has.
          subst (λ (runs : List (Run (Option PolicyRecord))). ToldEach g.T.TakeRange.told
          (IsLying c.args.asked.space.now.machine history (spots_in c.args.asked.placed)
          c.args.asked.touch.task
          c.args.asked.touch.cpu) runs
          c.args.taker.now end) runs has;
    }

pub predict_next-requires-clause-room : goal.predict_next-requires-clause-room
predict_next-requires-clause-room g c node small =
    let test : ℕ → Bool =
    λ page.
    is_number node (planned_node c.args.asked.plan.now (spots_in c.args.asked.placed)
    c.args.asked.touch.task
    c.args.asked.touch.cpu page) in
    let step = ap (λ (runs : List (Run (Option PolicyRecord))). count_runs test runs)
    c.in-Some.ensures.steps in
    omega (
      arith,
      step,
      c.loop-range.invariant.all node small,
      runs-most test 0 c.args.asked.space.now.ranges c.loop-range.invariant.apart,
      sum_by-cons (λ run. count_pages test run.first run.pages) c.in-Some.range c.next.new.self,
    )

pub predict_next-requires-clause-known : goal.predict_next-requires-clause-known
predict_next-requires-clause-known g c = c.requires.known

pub predict_next-requires-clause-pages : goal.predict_next-requires-clause-pages
predict_next-requires-clause-pages g c = left-pages c.loop-range.range-iterator
    c.args.asked.space.now.ranges c.next.new.self c.in-Some.range c.loop-range.invariant.rest
    c.in-Some.ensures.steps

pub predict_next-requires-clause-small : goal.predict_next-requires-clause-small
predict_next-requires-clause-small g c =
    omega (
      arith,
      left-end c.loop-range.range-iterator c.args.asked.space.now.ranges c.next.new.self
          c.in-Some.range c.loop-range.invariant.rest c.in-Some.ensures.steps,
    )

pub predict_next-requires-clause-own : goal.predict_next-requires-clause-own
predict_next-requires-clause-own g c = left-value c.loop-range.range-iterator
    c.args.asked.space.now.ranges c.next.new.self c.in-Some.range c.loop-range.invariant.rest
    c.in-Some.ensures.steps

pub loop-range-preserved : goal.loop-range-preserved
loop-range-preserved g c = record {
  none = c.in_ok-predict_next.ensures.none;
  all = λ node small.
      let test : ℕ → Bool =
      λ page.
      is_number node (planned_node c.args.asked.plan.now (spots_in c.args.asked.placed)
      c.args.asked.touch.task
      c.args.asked.touch.cpu page) in
      let step = ap (λ (runs : List (Run (Option PolicyRecord))). count_runs test runs)
      c.in-Some.ensures.steps in
      omega (
        arith,
        step,
        c.in_ok-predict_next.ensures.all node small,
        c.loop-range.invariant.all node small,
        sum_by-cons (λ run. count_pages test run.first run.pages) c.in-Some.range
            c.next.new.self,
      );
  apart = c.loop-range.invariant.apart;
  rest = left-next c.loop-range.range-iterator c.args.asked.space.now.ranges c.next.new.self
      c.in-Some.range c.loop-range.invariant.rest c.in-Some.ensures.steps;
  lack =
      λ has. c.loop-range.invariant.lack
      (subst (λ (runs : List (Run (Option PolicyRecord))). LacksOne g.T.TakeRange.lacks runs)
      (sym c.in-Some.ensures.steps) (inr has));
  long = omega arith;
  told = λ history stands planned end has. c.loop-range.invariant.told history stands planned end
      (subst (λ (runs : List (Run (Option PolicyRecord))). ToldEach g.T.TakeRange.told
      (IsLying c.args.asked.space.now.machine history (spots_in c.args.asked.placed)
      c.args.asked.touch.task
      c.args.asked.touch.cpu) runs
      c.loop-range.taker end) (sym c.in-Some.ensures.steps)
      (c.predict_next.new.taker, c.in_ok-predict_next.ensures.told history stands planned, has));
}

pub returns-clause-ok : goal.returns-clause-ok
returns-clause-ok g c history stands planned node small =
    let test : ℕ → Bool =
    λ page.
    is_number node (planned_node c.args.asked.plan.now (spots_in c.args.asked.placed)
    c.args.asked.touch.task
    c.args.asked.touch.cpu page) in
    omega (
      arith,
      c.loop-range.invariant.all node small,
      runs-none test c.loop-range.range-iterator
          (ap length c.in-None.ensures.steps.0),
      all-lie c.args.asked.space.now c.args.asked.plan.now history (spots_in c.args.asked.placed)
          c.args.asked.touch.task c.args.asked.touch.cpu node stands planned c.requires.known
          c.loop-range.invariant.apart,
    )

pub returns-clause-told : goal.returns-clause-told
returns-clause-told g c history stands planned = c.loop-range.invariant.told history stands planned
    c.loop-range.taker
    (subst (λ (runs : List (Run (Option PolicyRecord))). ToldEach g.T.TakeRange.told
    (IsLying c.args.asked.space.now.machine history (spots_in c.args.asked.placed)
    c.args.asked.touch.task
    c.args.asked.touch.cpu) runs
    c.loop-range.taker c.loop-range.taker) (sym c.in-None.ensures.steps.0) refl)

pub returns-in_err-predict_next-clause-err : goal.returns-in_err-predict_next-clause-err
returns-in_err-predict_next-clause-err g c history stands planned =
    let exit = err_from_is_err_and c.from_residual.result c.from_residual.ensures.1 in
    rw (exit.1, exit.2)
    (range-fails c.args.asked.space.now c.args.asked.plan.now history c.loop-range.range-iterator
    c.next.new.self c.in-Some.range c.args.asked.touch.cpu c.in_err-predict_next.field-0.0 stands
    planned c.loop-range.invariant.rest c.in-Some.ensures.steps
    c.in_err-predict_next.ensures.err)

pub returns-in_err-predict_next-clause-lack : goal.returns-in_err-predict_next-clause-lack
returns-in_err-predict_next-clause-lack g c =
    let exit = err_from_is_err_and c.from_residual.result c.from_residual.ensures.1 in
    rw (exit.1, exit.2) (λ is. c.loop-range.invariant.lack
    (subst (λ (runs : List (Run (Option PolicyRecord))). LacksOne g.T.TakeRange.lacks runs)
    (sym c.in-Some.ensures.steps)
    (inl (c.loop-range.taker, c.in_err-predict_next.ensures.lack is))))
