-- Each number so far fails the test.
use Rattle.std.proofs.Common.{◌≡◌, ◌+◌, true, false, inl, inr, subst, arith}
use Rattle.std.proofs.lemmas.Bool.{cases_lt}
use Rattle.numa_core.specs.Standing.{frames_before}
use Rattle.numa_core.proofs.InARow.{index_within}
use Rattle.numa_core.proofs.places.Places.lowest.Given.{F-post}
use Rattle.numa_core.proofs.places.Places.lowest.Goals as goal

pub first-first-requires : goal.first-first-requires
first-first-requires g c = index_within c.args.self.now c.args.node c.args.from
    (omega (arith, c.frames-frames.ensures.frames, c.if-from-frames.false))

pub overflow_add-first : goal.overflow_add-first
overflow_add-first g c = record {
  fits = omega (
    arith,
    c.first-first.ensures.at_most,
    c.frames-frames.ensures.at_most,
    c.loop-number-test.true,
  );
}

pub loop-number-preserved : goal.loop-number-preserved
loop-number-preserved g c k from lt = elim (cases_lt k c.loop-number.number) [
  | inl before ↦ c.loop-number.invariant k from before
  | inr behind ↦
      let place : c.first-first.result + c.loop-number.number
      ≡ frames_before c.args.self.now c.args.node + k =
      omega (arith, c.first-first.ensures.first) in
      subst (λ place. F-post g c.args.test place false) place c.if-test.ensures
]

pub returns-then-test-clause-found : goal.returns-then-test-clause-found
returns-then-test-clause-found g c = (
  c.loop-number.auto.number,
  omega (arith, c.frames-frames.ensures.frames, c.loop-number-test.true),
  subst (λ first. F-post g c.args.test (first + c.loop-number.number) true)
      c.first-first.ensures.first c.if-test.ensures,
)

pub returns-then-test-clause-below : goal.returns-then-test-clause-below
returns-then-test-clause-below g c = c.loop-number.invariant

pub returns-clause-none : goal.returns-clause-none
returns-clause-none g c same k from lt = c.loop-number.invariant k from
    (omega (arith, c.loop-number-test.false, c.frames-frames.ensures.frames, lt))

pub returns-then-from-frames-clause-none : goal.returns-then-from-frames-clause-none
returns-then-from-frames-clause-none g c same k from lt =
    absurd (omega (arith, c.if-from-frames.true, c.frames-frames.ensures.frames, from, lt))
