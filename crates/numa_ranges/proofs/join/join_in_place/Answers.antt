-- One more run joins the open one, or closes it and opens.
use Rattle.std.proofs.Common.{◌≡◌, ℕ, zero, suc, eqb, ◌<◌, ◌∷◌, ◌+◌, ◌++◌, [], true, false, drop}
use Rattle.std.proofs.Common.{take, length, ap, sym, ◌∙◌, arith, refl}
use Rattle.std.proofs.lemmas.Bool.{eqb-true}
use Rattle.std.proofs.lemmas.List.{drop-set-lt}
use Rattle.std.proofs.lemmas.Grind.{drop_more_same}
use Rattle.numa_ranges.specs.Runs.{Continues}
use Rattle.numa_ranges.specs.Edits.{maximal_runs, joined_from}
use Rattle.numa_ranges.specs.Numbered.{runs_of}
use Rattle.numa_ranges.proofs.InPlace.{first-open, closed-last, next-run, step-joins, step-closes}
use Rattle.numa_ranges.proofs.InPlace.{in-range-next, in-range-grown, maximal-still}
use Rattle.numa_ranges.proofs.Numbered.{length-runs, no-runs}
use Rattle.numa_ranges.proofs.join.join_in_place.Goals as goal

some-rows : (n : ℕ) → eqb n 0 ≡ false → 0 < n
some-rows zero odd = absurd (cc)
some-rows (suc n) is = omega arith

pub returns-then-is_empty-clause-joined : goal.returns-then-is_empty-clause-joined
returns-then-is_empty-clause-joined g c =
    let none : runs_of c.args.values.now c.args.rows.now ≡ [] =
    no-runs c.args.values.now c.args.rows.now
    (eqb-true (length c.args.rows.now) 0 (sym c.if-is_empty.ensures)) in
    none ∙ ap (maximal_runs g.T.PartialEq.eq) (sym none)

pub has_joint-requires : goal.has_joint-requires
has_joint-requires g c =
    record { numbered = c.requires.numbered; in_range = c.requires.in_range }

pub returns-then-not-has_joint-clause-numbered : goal.returns-then-not-has_joint-clause-numbered
returns-then-not-has_joint-clause-numbered g c = c.requires.numbered

pub returns-then-not-has_joint-clause-joined : goal.returns-then-not-has_joint-clause-joined
returns-then-not-has_joint-clause-joined g c =
    sym (maximal-still g.T.PartialEq.eq g.met.T.Exact.exact g.met.T.Eq.laws.refl
    (runs_of c.args.values.now c.args.rows.now) (c.has_joint.ensures c.if-not-has_joint.true))

pub loop-i-init : goal.loop-i-init
loop-i-init g c =
    let whole = runs_of c.args.values.now c.args.rows.now in
    let size = length-runs c.args.values.now c.args.rows.now c.requires.numbered in
    let some : 0 < length c.args.rows.now =
    some-rows (length c.args.rows.now) (sym c.if-is_empty.ensures) in
    record {
      some = some;
      behind = omega arith;
      size = refl;
      numbered = c.requires.numbered;
      number = c.run_at-first.ensures.number;
      ahead = refl;
      so_far = first-open g.T.PartialEq.eq g.met.T.Exact.exact g.met.T.Eq.laws.refl whole
          c.run_at-first.result.0 (omega (arith, size, some))
          (c.run_at-first.ensures.run c.run_at-first.result.0);
      in_range = rw (c.run_at-first.ensures.run c.run_at-first.result.0)
          (c.requires.in_range 0 c.run_at-first.result.0 (omega (arith, size, some)));
    }

pub overflow_add-last : goal.overflow_add-last
overflow_add-last g c =
    let inv = c.loop-i.invariant in
    let run = c.run_at-seen.result.0 in
    let now = runs_of c.args.values.now c.loop-i.rows in
    let whole = runs_of c.args.values.now c.args.rows.now in
    let here = length-runs c.args.values.now c.loop-i.rows inv.numbered in
    let size = length-runs c.args.values.now c.args.rows.now c.requires.numbered in
    let opens : drop c.loop-i.i whole ≡ run ∷ drop (c.loop-i.i + 1) whole =
    next-run now whole c.loop-i.i run (omega (arith, here)) inv.ahead
    (c.run_at-seen.ensures.run run) in
    let fits = in-range-next whole (drop (c.loop-i.i + 1) whole) c.loop-i.i run c.requires.in_range
    (omega (arith, inv.size, size)) opens in
    omega (arith, fits.end, inv.in_range.end)

pub loop-i-preserved-then-continues : goal.loop-i-preserved-then-continues
loop-i-preserved-then-continues g c =
    let inv = c.loop-i.invariant in
    let run = c.run_at-seen.result.0 in
    let now = runs_of c.args.values.now c.loop-i.rows in
    let whole = runs_of c.args.values.now c.args.rows.now in
    let here = length-runs c.args.values.now c.loop-i.rows inv.numbered in
    let size = length-runs c.args.values.now c.args.rows.now c.requires.numbered in
    let opens : drop c.loop-i.i whole ≡ run ∷ drop (c.loop-i.i + 1) whole =
    next-run now whole c.loop-i.i run (omega (arith, here)) inv.ahead
    (c.run_at-seen.ensures.run run) in
    let fits = in-range-next whole (drop (c.loop-i.i + 1) whole) c.loop-i.i run c.requires.in_range
    (omega (arith, inv.size, size)) opens in
    let goes : Continues c.loop-i.last run = c.if-continues.ensures.0 refl in
    record {
      some = inv.some;
      behind = omega (arith, inv.behind);
      size = inv.size;
      numbered = inv.numbered;
      number = inv.number;
      ahead = drop_more_same now whole c.loop-i.i inv.ahead;
      so_far = step-joins g.T.PartialEq.eq g.met.T.Exact.exact g.met.T.Eq.laws.refl
          (take c.loop-i.kept now) (drop (c.loop-i.i + 1) whole)
          (maximal_runs g.T.PartialEq.eq whole) c.loop-i.last run
          (ap (λ l. take c.loop-i.kept now ++ joined_from g.T.PartialEq.eq l c.loop-i.last)
          (sym opens) ∙ inv.so_far) goes;
      in_range = in-range-grown c.loop-i.last run inv.in_range fits goes;
    }

pub loop-i-preserved : goal.loop-i-preserved
loop-i-preserved g c =
    let inv = c.loop-i.invariant in
    let run = c.run_at-seen.result.0 in
    let now = runs_of c.args.values.now c.loop-i.rows in
    let whole = runs_of c.args.values.now c.args.rows.now in
    let here = length-runs c.args.values.now c.loop-i.rows inv.numbered in
    let size = length-runs c.args.values.now c.args.rows.now c.requires.numbered in
    let opens : drop c.loop-i.i whole ≡ run ∷ drop (c.loop-i.i + 1) whole =
    next-run now whole c.loop-i.i run (omega (arith, here)) inv.ahead
    (c.run_at-seen.ensures.run run) in
    let fits = in-range-next whole (drop (c.loop-i.i + 1) whole) c.loop-i.i run c.requires.in_range
    (omega (arith, inv.size, size)) opens in
    record {
      some = inv.some;
      behind = omega (arith, inv.behind);
      size = c.put_run.ensures.size ∙ inv.size;
      numbered = c.put_run.ensures.numbered;
      number = c.run_at-seen.ensures.number;
      ahead = ap (drop (c.loop-i.i + 1)) c.put_run.ensures.runs
          ∙ (drop-set-lt (c.loop-i.i + 1) now c.loop-i.kept c.loop-i.last
          (omega (arith, inv.behind)) ∙ drop_more_same now whole c.loop-i.i inv.ahead);
      so_far =
          ap (λ l. take (c.loop-i.kept + 1) l
          ++ joined_from g.T.PartialEq.eq (drop (c.loop-i.i + 1) whole) run) c.put_run.ensures.runs
          ∙ step-closes g.T.PartialEq.eq g.met.T.Exact.exact g.met.T.Eq.laws.refl now
          (drop (c.loop-i.i + 1) whole) (maximal_runs g.T.PartialEq.eq whole) c.loop-i.kept
          c.loop-i.last run (omega (arith, inv.behind, here))
          (ap (λ l. take c.loop-i.kept now ++ joined_from g.T.PartialEq.eq l c.loop-i.last)
          (sym opens) ∙ inv.so_far) (λ k. let odd : false ≡ true = c.if-continues.ensures.1 k in
          cc);
      in_range = fits;
    }

pub returns-clause-joined : goal.returns-clause-joined
returns-clause-joined g c =
    let inv = c.loop-i.invariant in
    let now = runs_of c.args.values.now c.loop-i.rows in
    let whole = runs_of c.args.values.now c.args.rows.now in
    let here = length-runs c.args.values.now c.loop-i.rows inv.numbered in
    let size = length-runs c.args.values.now c.args.rows.now c.requires.numbered in
    closed-last g.T.PartialEq.eq g.met.T.Exact.exact g.met.T.Eq.laws.refl now whole
    (runs_of c.args.values.now c.put_run-2.new.rows)
    (runs_of c.args.values.now c.keep_runs.new.rows) c.loop-i.kept c.loop-i.i c.loop-i.last
    (omega (arith, inv.behind, inv.size, inv.some, here)) (omega (arith, size))
    c.put_run-2.ensures.runs c.keep_runs.ensures.runs inv.so_far

pub returns-then-is_empty-clause-numbered : goal.returns-then-is_empty-clause-numbered
returns-then-is_empty-clause-numbered g c = c.requires.numbered

pub run_at-first-requires-clause-numbered : goal.run_at-first-requires-clause-numbered
run_at-first-requires-clause-numbered g c = c.requires.numbered

pub run_at-first-requires-clause-within : goal.run_at-first-requires-clause-within
run_at-first-requires-clause-within g c =
    some-rows (length c.args.rows.now) (sym c.if-is_empty.ensures)

pub run_at-seen-requires-clause-numbered : goal.run_at-seen-requires-clause-numbered
run_at-seen-requires-clause-numbered g c = c.loop-i.invariant.numbered

pub run_at-seen-requires-clause-within : goal.run_at-seen-requires-clause-within
run_at-seen-requires-clause-within g c = omega (arith, c.loop-i.invariant.size)

pub put_run-requires-clause-numbered : goal.put_run-requires-clause-numbered
put_run-requires-clause-numbered g c = c.loop-i.invariant.numbered

pub put_run-requires-clause-within : goal.put_run-requires-clause-within
put_run-requires-clause-within g c =
    omega (arith, c.loop-i.invariant.behind, c.loop-i.invariant.size)

pub put_run-requires-clause-number : goal.put_run-requires-clause-number
put_run-requires-clause-number g c = c.loop-i.invariant.number

pub put_run-requires-2-clause-numbered : goal.put_run-requires-2-clause-numbered
put_run-requires-2-clause-numbered g c = c.loop-i.invariant.numbered

pub put_run-requires-2-clause-number : goal.put_run-requires-2-clause-number
put_run-requires-2-clause-number g c = c.loop-i.invariant.number

pub keep_runs-requires : goal.keep_runs-requires
keep_runs-requires g c = record { numbered = c.put_run-2.ensures.numbered }

pub returns-clause-numbered : goal.returns-clause-numbered
returns-clause-numbered g c = c.keep_runs.ensures.numbered
