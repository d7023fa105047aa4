use Rattle.std.proofs.Common.{◌≡◌, ℕ, ◌-◌, ◌+◌, ◌∙◌, sym, suc, refl, arith, ap}
use Rattle.std.proofs.Common.{◌<◌, slice_index, subst}
use Rattle.numa_placed.specs.Shifts.{going_from, step, steps}
use Rattle.numa_placed.specs.Standing.{GoesAs}
use Rattle.numa_placed.proofs.Sources.{steps-full, steps-none, steps-end, steps-next}
use Rattle.numa_placed.proofs.course.course_of.Goals as goal

pub loop-turn-init : goal.loop-turn-init
loop-turn-init c = record {
  goes = λ go count room are pages rooms. (
    going_from c.args.from.now room,
    c.begin-course.ensures room rooms,
    refl,
  );
}

pub returns-then-course : goal.returns-then-course
returns-then-course c go count room are pages rooms =
    let so = c.loop-turn.invariant.goes go count room are pages rooms in
    let full = sym so.1.full ∙ c.if-course.true in
    subst (GoesAs c.loop-turn.course)
    (sym (steps-full go count (256 - c.loop-turn.turn) so.0 full) ∙ so.2) so.1

pub returns-in_default : goal.returns-in_default
returns-in_default c go count room are pages rooms =
    let so = c.loop-turn.invariant.goes go count room are pages rooms in
    let none = sym (c.next_source.ensures go so.0.waits are so.1.waits) ∙ c.in_default.is in
    subst (GoesAs c.loop-turn.course)
    (sym (steps-none go count (256 - c.loop-turn.turn) so.0 none) ∙ so.2) so.1

pub loop-turn-preserved : goal.loop-turn-preserved
loop-turn-preserved c = record {
  goes = λ go count room are pages rooms.
      let so = c.loop-turn.invariant.goes go count room are pages rooms in
      let source = c.in-Some.source in
      let turn = c.loop-turn.turn in
      let some = sym (c.next_source.ensures go so.0.waits are so.1.waits) ∙ c.in-Some.is in
      let left = sym so.1.full ∙ c.if-course.false in
      let size : 256 - turn ≡ suc (256 - (turn + 1)) = omega (arith, c.loop-turn-test.true) in
      let small : source < 256 = omega arith in
      let done = c.step.ensures so.0 so.1 in
      let by_pages = subst (λ (k : ℕ). GoesAs c.step.new.self (step k source
      (slice_index c.args.targets.now source) so.0)) (pages source small) done in
      let by_target = subst (λ (t : ℕ). GoesAs c.step.new.self (step (count source) source t so.0))
      (are source small) by_pages in (
        step (count source) source (go source) so.0,
        by_target,
        sym (steps-next go count (256 - (turn + 1)) (256 - turn) so.0 source size left some)
            ∙ so.2,
      );
}

pub returns : goal.returns
returns c go count room are pages rooms =
    let so = c.loop-turn.invariant.goes go count room are pages rooms in
    let none : 256 - c.loop-turn.turn ≡ 0 = omega (arith, c.loop-turn-test.false) in
    let over = ap (λ (n : ℕ). steps n go count so.0) none ∙ steps-end go count so.0 in
    subst (GoesAs c.loop-turn.course) (sym over ∙ so.2) so.1
