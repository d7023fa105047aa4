-- What a migration leaves the seat.
use Rattle.std.proofs.Common.{◌≡◌, ℕ, Bool, true, false, refl, ap, subst}
use Rattle.std.proofs.Common.{arith, List, ◌∷◌, eq-eqb}
use Rattle.numa_machine.specs.declared.frame.Frame.{Frame}
use Rattle.numa_pool.specs.Frames.{Holds, is_frame, one_if, times, without}
use Rattle.numa_pool.proofs.Totals.{is_frame-same, times_without-here}

module _ (held : List Frame) (old new : Frame) (fresh : times new.node new.number held ≡ 0)
    (holds : Holds held old) where
  -- a frame that isn't held is another than one that is
  other : is_frame new old.node old.number ≡ false
  other = pick (is_frame new old.node old.number) refl
    where
      pick : (b : Bool) → is_frame new old.node old.number ≡ b → b ≡ false
      pick false e = refl
      pick true e =
          let same = is_frame-same new old.node old.number e in
          let none : times old.node old.number held ≡ 0 =
          subst (λ (y : ℕ × ℕ). times y.0 y.1 held ≡ 0) (λ i. (same.0 i, same.1 i)) fresh in
          absurd (omega arith)

  -- the old one given up, once the new one was won
  pub old-gone : times old.node old.number (new ∷ without old.node old.number held) ≡ 0
  old-gone =
      let none : one_if (is_frame new old.node old.number) ≡ 0 = ap one_if other in
      let rest = times_without-here old.node old.number held in
      omega arith

-- the newest frame is held
pub newest-held : (held : List Frame) (new : Frame) → Holds (new ∷ held) new
newest-held held new =
    let one : one_if (is_frame new new.node new.number) ≡ 1 =
    rw (eq-eqb new.node new.node refl, eq-eqb new.number new.number refl) refl in
    omega arith
