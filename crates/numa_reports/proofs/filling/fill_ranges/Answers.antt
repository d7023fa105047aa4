use Rattle.std.proofs.Common.{◌≡◌, ℕ, ◌<◌, List, ap, subst, ◌∙◌, sym, refl, Option, inl, inr}
use Rattle.std.proofs.lemmas.Result.{err_from_is_err_and}
use Rattle.numa_mode.specs.Policy.{PolicyRecord}
use Rattle.numa_ranges.specs.declared.run.Run.{Run}
use Rattle.numa_reports.specs.Lying.{absent_nodes, asked_nodes, spots_in}
use Rattle.numa_reports.specs.Told.{IsTakenBeside, LacksOne, ToldOne}
use Rattle.numa_reports.proofs.Refusing.{left-all, left-end, left-next, left-pages, left-value}
use Rattle.numa_reports.proofs.Refusing.{range-fails}
use Rattle.numa_reports.proofs.Taking.{free_runs, free-all, runs-left}
use Rattle.numa_reports.proofs.Telling.{FilledEach, filled-all}
use Rattle.numa_reports.proofs.filling.fill_ranges.Goals as goal

pub loop-range-init : goal.loop-range-init
loop-range-init g c =
    let nodes =
    absent_nodes (spots_in c.args.asked.placed)
    (asked_nodes c.args.asked) in
    let runs : c.into_iter-range-iterator.result ≡ c.args.asked.space.now.ranges =
    c.into_iter-range-iterator.ensures.into_iter_gives
    ∙ c.range_iter-range-items.ensures.runs in
    record {
      left = λ history stands planned.
          ap (λ (runs : List (Run (Option PolicyRecord))). free_runs nodes c.args.free.now runs)
          runs;
      apart = c.range_iter-range-items.ensures.rising;
      known = c.requires.known;
      rest = left-all c.into_iter-range-iterator.result c.args.asked.space.now.ranges runs
          c.range_iter-range-items.ensures.rising;
      lack =
          λ has.
          subst (λ (runs : List (Run (Option PolicyRecord))). LacksOne g.T.TakeRange.lacks runs)
          runs has;
      told = λ history stands planned end has.
          subst (λ (runs : List (Run (Option PolicyRecord))). FilledEach g.T.TakeRange.told
          (IsTakenBeside c.args.asked.space.now.machine history c.args.asked.placed
          c.args.asked.touch.task) nodes c.args.free.now runs
          c.args.taker.now end) runs has;
    }

pub fill_next-requires-clause-own : goal.fill_next-requires-clause-own
fill_next-requires-clause-own g c = left-value c.loop-range.range-iterator
    c.args.asked.space.now.ranges
    c.next.new.self c.in-Some.range c.loop-range.invariant.rest c.in-Some.ensures.steps

pub fill_next-requires-clause-known : goal.fill_next-requires-clause-known
fill_next-requires-clause-known g c = c.loop-range.invariant.known

pub fill_next-requires-clause-pages : goal.fill_next-requires-clause-pages
fill_next-requires-clause-pages g c = left-pages c.loop-range.range-iterator
    c.args.asked.space.now.ranges
    c.next.new.self c.in-Some.range c.loop-range.invariant.rest c.in-Some.ensures.steps

pub fill_next-requires-clause-small : goal.fill_next-requires-clause-small
fill_next-requires-clause-small g c = left-end c.loop-range.range-iterator
    c.args.asked.space.now.ranges c.next.new.self c.in-Some.range c.loop-range.invariant.rest
    c.in-Some.ensures.steps

pub loop-range-preserved : goal.loop-range-preserved
loop-range-preserved g c =
    let nodes =
    absent_nodes (spots_in c.args.asked.placed)
    (asked_nodes c.args.asked) in
    record {
      left = λ history stands planned.
          runs-left nodes (free_runs nodes c.args.free.now c.args.asked.space.now.ranges)
          c.loop-range.free c.fill_next.new.free c.loop-range.range-iterator c.next.new.self
          c.in-Some.range (c.in_ok-fill_next.ensures.free history stands planned)
          c.in-Some.ensures.steps (c.loop-range.invariant.left history stands planned);
      apart = c.loop-range.invariant.apart;
      known = c.loop-range.invariant.known;
      rest = left-next c.loop-range.range-iterator c.args.asked.space.now.ranges c.next.new.self
          c.in-Some.range c.loop-range.invariant.rest c.in-Some.ensures.steps;
      lack =
          λ has. c.loop-range.invariant.lack
          (subst (λ (runs : List (Run (Option PolicyRecord))). LacksOne g.T.TakeRange.lacks runs)
          (sym c.in-Some.ensures.steps) (inr has));
      told = λ history stands planned end has.
          let takes =
          IsTakenBeside c.args.asked.space.now.machine history c.args.asked.placed
          c.args.asked.touch.task in
          let both =
          subst (λ (f : List ℕ). ToldOne g.T.TakeRange.told (takes c.loop-range.free f)
          c.in-Some.range c.loop-range.taker c.fill_next.new.taker
          × FilledEach g.T.TakeRange.told takes nodes f c.next.new.self c.fill_next.new.taker
          end) (c.in_ok-fill_next.ensures.free history stands planned)
          (c.in_ok-fill_next.ensures.told history stands planned, has) in
          c.loop-range.invariant.told history stands planned end
          (subst (λ (runs : List (Run (Option PolicyRecord))). FilledEach g.T.TakeRange.told takes
          nodes c.loop-range.free runs c.loop-range.taker end) (sym c.in-Some.ensures.steps)
          (c.fill_next.new.taker, both.0, both.1));
    }

pub returns-clause-ok : goal.returns-clause-ok
returns-clause-ok g c history stands planned =
    let lt : c.args.asked.touch.cpu < c.args.asked.space.now.machine.nodes = c.requires.known in
    sym (ap (λ (runs : List (Run (Option PolicyRecord))).
    free_runs (absent_nodes (spots_in c.args.asked.placed)
    (asked_nodes c.args.asked))
    c.loop-range.free runs) c.in-None.ensures.steps.0)
    ∙ c.loop-range.invariant.left history stands planned
    ∙ free-all c.args.asked.space.now c.args.asked.plan.now history (spots_in c.args.asked.placed)
    c.args.asked.touch.task c.args.asked.touch.cpu c.args.free.now stands planned lt
    c.loop-range.invariant.apart

pub returns-clause-told : goal.returns-clause-told
returns-clause-told g c history stands planned =
    let lt : c.args.asked.touch.cpu < c.args.asked.space.now.machine.nodes = c.requires.known in
    filled-all g.T.TakeRange.told c.args.asked.space.now c.args.asked.plan.now history
    c.args.asked.placed
    c.args.asked.touch.task c.args.asked.touch.cpu c.args.free.now c.args.taker.now
    c.loop-range.taker stands planned lt
    c.loop-range.invariant.apart
    (c.loop-range.invariant.told history stands planned c.loop-range.taker
    (subst (λ (runs : List (Run (Option PolicyRecord))). FilledEach g.T.TakeRange.told
    (IsTakenBeside c.args.asked.space.now.machine history c.args.asked.placed
    c.args.asked.touch.task)
    (absent_nodes (spots_in c.args.asked.placed)
    (asked_nodes c.args.asked)) c.loop-range.free runs
    c.loop-range.taker c.loop-range.taker) (sym c.in-None.ensures.steps.0) refl))

pub returns-in_err-fill_next-clause-err : goal.returns-in_err-fill_next-clause-err
returns-in_err-fill_next-clause-err g c history stands planned =
    let exit = err_from_is_err_and c.from_residual.result c.from_residual.ensures.1 in
    rw (exit.1, exit.2)
    (range-fails c.args.asked.space.now c.args.asked.plan.now history c.loop-range.range-iterator
    c.next.new.self c.in-Some.range c.args.asked.touch.cpu c.in_err-fill_next.field-0.0 stands
    planned
    c.loop-range.invariant.rest c.in-Some.ensures.steps c.in_err-fill_next.ensures.err)

pub returns-in_err-fill_next-clause-lack : goal.returns-in_err-fill_next-clause-lack
returns-in_err-fill_next-clause-lack g c =
    let exit = err_from_is_err_and c.from_residual.result c.from_residual.ensures.1 in
    rw (exit.1, exit.2) (λ is. c.loop-range.invariant.lack
    (subst (λ (runs : List (Run (Option PolicyRecord))). LacksOne g.T.TakeRange.lacks runs)
    (sym c.in-Some.ensures.steps)
    (inl (c.loop-range.taker, c.in_err-fill_next.ensures.lack is))))
