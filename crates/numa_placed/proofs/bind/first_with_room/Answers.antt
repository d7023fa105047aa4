use Rattle.std.proofs.Common.{◌≡◌, ◌==◌, ◌<◌, ℕ, zero, suc, false, refl, sym, ◌∙◌, arith}
use Rattle.numa_placed.specs.Shifts.{room_of}
use Rattle.numa_placed.proofs.bind.first_with_room.Goals as goal

positive : (n : ℕ) → (n == 0) ≡ false → 0 < n
positive zero none = cc
positive (suc n) some = omega arith

pub returns-then-not-is_full-clause-room : goal.returns-then-not-is_full-clause-room
returns-then-not-is_full-clause-room c =
    positive _ (sym (c.is_full.ensures (room_of c.args.rooms.now) (λ node small. refl))
    ∙ c.if-not-is_full.true)
