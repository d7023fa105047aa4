-- What is set or cleared is what the task is given.
use Rattle.std.proofs.Common.{◌≡◌, ◌∙◌, Result, Ok, Err, OnOk, OnErr, true, false, true≢false}
use Rattle.std.proofs.Common.{refl, sym}
use Rattle.std.specs.Result.{is_err}
use Rattle.std.specs.declared.alloc.AllocError.{AllocError}
use Rattle.numa_space.proofs.Changes.{given-clear, given-set}
use Rattle.numa_space.proofs.space.changes.give.Goals as goal

on_ok : {P : Type 0} (r : Result (Unit {0}) AllocError) → is_err r ≡ false → OnOk r P → P
on_ok (Ok u) e h = h
on_ok (Err x) e h = absurd (true≢false e)

on_err : {P : Type 0} (r : Result (Unit {0}) AllocError) → is_err r ≡ true → OnErr r P → P
on_err (Ok u) e h = absurd (true≢false (sym e))
on_err (Err x) e h = h

pub returns-in_default-clause-ok : goal.returns-in_default-clause-ok
returns-in_default-clause-ok c = rw c.in_default.is (
  refl,
  given-clear c.args.tasks.now c.clear.new.self c.args.task c.clear.ensures.records
      c.clear.ensures.count,
)

pub returns-clause-ok : goal.returns-clause-ok
returns-clause-ok c =
    let went = sym c.is_err.ensures.value ∙ c.if-is_err.false in
    rw c.in-Some.is (
      sym c.lacks_place.ensures ∙ c.if-lacks_place.false,
      given-set c.args.tasks.now c.set.new.self c.args.task c.in-Some.policy
          (on_ok c.set.result went c.set.ensures.records)
          (on_ok c.set.result went c.set.ensures.count),
    )

pub returns-then-lacks_place-clause-err : goal.returns-then-lacks_place-clause-err
returns-then-lacks_place-clause-err c = (
  rw c.in-Some.is refl,
  rw (sym c.lacks_place.ensures ∙ c.if-lacks_place.true) refl,
)

pub returns-then-is_err-clause-err : goal.returns-then-is_err-clause-err
returns-then-is_err-clause-err c = (
  rw c.in-Some.is refl,
  rw (sym c.lacks_place.ensures ∙ c.if-lacks_place.false) refl,
)

pub returns-then-is_err-clause-unchanged : goal.returns-then-is_err-clause-unchanged
returns-then-is_err-clause-unchanged c =
    on_err c.set.result (sym c.is_err.ensures.value ∙ c.if-is_err.true) c.set.ensures.err
