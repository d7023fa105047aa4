use Rattle.std.proofs.Common.{◌≡◌, ℕ, ◌+◌, Some, None, inl, inr, subst}
use Rattle.std.proofs.Common.{arith}
use Rattle.std.proofs.lemmas.Bool.{cases_lt}
use Rattle.numa_core.specs.Standing.{frames_before, owner_at}
use Rattle.numa_core.proofs.InARow.{index_within}
use Rattle.numa_core.proofs.free_frames.free_number.Goals as goal

pub first-first-requires : goal.first-first-requires
first-first-requires c = index_within c.args.places.now c.args.node c.args.from
    (omega (arith, c.frames-frames.ensures.frames, c.if-from-frames.false))

pub owned_from-owned-requires-clause-owners : goal.owned_from-owned-requires-clause-owners
owned_from-owned-requires-clause-owners c =
    omega (
      arith,
      c.first-first.ensures.within,
      c.frames-frames.ensures.frames,
      c.requires.owners,
      c.loop-number-test.true,
    )

pub owned_from-owned-requires-clause-room : goal.owned_from-owned-requires-clause-room
owned_from-owned-requires-clause-room c =
    omega (
      arith,
      c.first-first.ensures.within,
      c.frames-frames.ensures.frames,
      c.requires.room,
      c.loop-number-test.true,
    )

pub owned_from-owned-requires-clause-marked : goal.owned_from-owned-requires-clause-marked
owned_from-owned-requires-clause-marked c = c.requires.marked

pub loop-number-init : goal.loop-number-init
loop-number-init c = record {
  low = omega arith;
  few = omega (arith, c.frames-frames.ensures.at_most, c.if-from-frames.false);
  owned = λ k low high. absurd (omega arith);
}

pub loop-number-preserved : goal.loop-number-preserved
loop-number-preserved c =
    let before : ℕ = frames_before c.args.places.now c.args.node in
    record {
      low = omega (arith, c.loop-number.invariant.low);
      few = omega (
        arith,
        c.frames-frames.ensures.at_most,
        c.loop-number-test.true,
        c.owned_from-owned.ensures.few,
      );
      owned = λ k low high. elim (cases_lt k c.loop-number.number) [
        | inl early ↦ c.loop-number.invariant.owned k low early
        | inr late ↦
            c.owned_from-owned.ensures.owned (before + k)
            (omega (arith, c.first-first.ensures.first, late))
            (omega (arith, c.first-first.ensures.first, high))
      ];
    }

pub returns-then-owned-eq0-clause-free : goal.returns-then-owned-eq0-clause-free
returns-then-owned-eq0-clause-free c = (
  omega (arith, c.frames-frames.ensures.frames, c.loop-number-test.true),
  subst (λ (first : ℕ). owner_at c.args.owners.now.items (Some (first + c.loop-number.number))
      ≡ None) c.first-first.ensures.first
      (c.owned_from-owned.ensures.free (omega arith)),
)

pub returns-then-owned-eq0-clause-below : goal.returns-then-owned-eq0-clause-below
returns-then-owned-eq0-clause-below c = c.loop-number.invariant.owned

pub returns-clause-none : goal.returns-clause-none
returns-clause-none c none k low high = c.loop-number.invariant.owned k low
    (omega (arith, c.frames-frames.ensures.frames, c.loop-number-test.false, high))

pub returns-then-from-frames-clause-none : goal.returns-then-from-frames-clause-none
returns-then-from-frames-clause-none c none k low high =
    absurd (omega (arith, c.frames-frames.ensures.frames, c.if-from-frames.true, low, high))
