use Rattle.std.proofs.Common.{◌≡◌, ℕ, ◌-◌, ◌&&◌, Bool, arith, ap, inl}
use Rattle.std.proofs.lemmas.Result.{err_from_is_err_and}
use Rattle.numa_ranges.specs.Counts.{count_pages}
use Rattle.numa_plan.specs.Meaning.{is_number, planned_first}
use Rattle.numa_plan.proofs.CountLemmas.{count-most}
use Rattle.numa_reports.proofs.Moving.{count-more, none-moved, moves-meant}
use Rattle.numa_reports.proofs.Refusing.{both-part, far-refused}
use Rattle.numa_reports.proofs.moves.add_moves.Goals as goal

pub loop-page-init : goal.loop-page-init
loop-page-init g c = record {
  low = omega arith;
  high = omega arith;
  counted = λ from to f t.
      omega (
        arith,
        none-moved (λ page.
            is_number from (planned_first c.args.change.before.now c.args.change.touch.task page
            c.args.change.touch.cpu)
            && is_number to
            (planned_first c.args.change.after.now c.args.change.touch.task page
            c.args.change.touch.cpu))
            c.args.span.first,
      );
  entries = c.requires.room.entries;
}

pub add_block-requires-clause-room : goal.add_block-requires-clause-room
add_block-requires-clause-room g c = record {
  entries = c.loop-page.invariant.entries;
  room = λ from to f t.
      let test : ℕ → Bool =
      λ page.
      is_number from (planned_first c.args.change.before.now c.args.change.touch.task page
      c.args.change.touch.cpu)
      && is_number to
      (planned_first c.args.change.after.now c.args.change.touch.task page c.args.change.touch.cpu)
      in
      omega (
        arith,
        c.loop-page.invariant.counted from to f t,
        count-most test c.args.span.first (c.loop-page.page - c.args.span.first),
        c.requires.room.room from to f t,
        c.min-part.ensures,
      );
}

pub loop-page-preserved : goal.loop-page-preserved
loop-page-preserved g c = record {
  low = omega (arith, c.loop-page.invariant.low);
  high = omega (arith, c.min-part.ensures);
  counted = λ from to f t.
      let test : ℕ → Bool =
      λ page.
      is_number from (planned_first c.args.change.before.now c.args.change.touch.task page
      c.args.change.touch.cpu)
      && is_number to
      (planned_first c.args.change.after.now c.args.change.touch.task page c.args.change.touch.cpu)
      in
      omega (
        arith,
        c.loop-page.invariant.counted from to f t,
        c.in_ok-add_block.ensures.ok from to
            f t,
        count-more test c.args.span.first c.loop-page.page c.min-part.result
            c.loop-page.invariant.low,
      );
  entries = c.add_block.ensures.entries;
}

pub returns-clause-ok : goal.returns-clause-ok
returns-clause-ok g c machine old new was is lt from to f t =
    let test : ℕ → Bool =
    λ page.
    is_number from (planned_first c.args.change.before.now c.args.change.touch.task page
    c.args.change.touch.cpu)
    && is_number to (planned_first c.args.change.after.now c.args.change.touch.task page
    c.args.change.touch.cpu) in
    let all : c.loop-page.page - c.args.span.first ≡ c.args.span.pages =
    omega (arith, c.loop-page.invariant.low, c.loop-page.invariant.high) in
    omega (
      arith,
      c.loop-page.invariant.counted from to f t,
      ap (λ (n : ℕ). count_pages test c.args.span.first n) all,
      moves-meant machine c.args.change.before.now c.args.change.after.now old new
          c.args.change.touch.task
          c.args.change.touch.cpu c.args.span.first c.args.span.pages from to was is lt,
    )

pub returns-clause-planned : goal.returns-clause-planned
returns-clause-planned g c from to f t =
    let test : ℕ → Bool =
    λ page.
    is_number from (planned_first c.args.change.before.now c.args.change.touch.task page
    c.args.change.touch.cpu)
    && is_number to (planned_first c.args.change.after.now c.args.change.touch.task page
    c.args.change.touch.cpu) in
    let all : c.loop-page.page - c.args.span.first ≡ c.args.span.pages =
    omega (arith, c.loop-page.invariant.low, c.loop-page.invariant.high) in
    omega (
      arith,
      c.loop-page.invariant.counted from to f t,
      ap (λ (n : ℕ). count_pages test c.args.span.first n) all,
    )

pub returns-in_default-clause-err : goal.returns-in_default-clause-err
returns-in_default-clause-err g c =
    inl (far-refused c.args.change.before.now c.args.span.first c.args.span.pages
    c.args.change.touch.cpu
    c.run_count.ensures.apart c.requires.known (omega arith) (omega (arith, c.in_default.ensures)))

pub returns-in_err-add_block-clause-err : goal.returns-in_err-add_block-clause-err
returns-in_err-add_block-clause-err g c =
    let exit = err_from_is_err_and c.from_residual.result c.from_residual.ensures.1 in
    rw (exit.1, exit.2)
    (both-part c.args.change.before.now c.args.change.after.now c.args.span.first c.args.span.pages
    c.loop-page.page c.min-part.result c.args.change.touch.cpu c.in_err-add_block.field-0.0
    c.loop-page.invariant.low (omega (arith, c.min-part.ensures))
    c.in_err-add_block.ensures.err)

pub returns-clause-left : goal.returns-clause-left
returns-clause-left g c left has few = record {
  entries = c.loop-page.invariant.entries;
  room = λ from to f t.
      let test : ℕ → Bool =
      λ page.
      is_number from (planned_first c.args.change.before.now c.args.change.touch.task page
      c.args.change.touch.cpu)
      && is_number to
      (planned_first c.args.change.after.now c.args.change.touch.task page c.args.change.touch.cpu)
      in
      omega (
        arith,
        c.loop-page.invariant.counted from to f t,
        count-most test c.args.span.first (c.loop-page.page - c.args.span.first),
        has.room from to f t,
        few,
        c.loop-page.invariant.low,
        c.loop-page.invariant.high,
      );
}
