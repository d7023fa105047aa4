-- What each kind of step does to what a seat shows: the frames that it holds, and its own steps,
-- newest first.
use Rattle.std.specs.Prelude.{◌≡◌, ℕ, ◌+◌, ◌*◌, ◌/◌, ◌%◌, ◌^◌, ◌<◌, ◌==◌}
use Rattle.std.specs.Prelude.{Bool, true, false, List, [], ◌∷◌, ◌++◌}
use Rattle.std.specs.Int.{bit_at, bit_not}
use mir.Syntax.{w64}
use Rattle.atomic_table.specs.Table.{Me, Step}
use Rattle.numa_machine.specs.declared.frame.Frame.{Frame}
use Rattle.numa_pool.specs.declared.view.Entry.{Entry}
use Rattle.numa_pool.specs.declared.view.Entry.TheVariants.{Load, Won, Lost, Gave}
use Rattle.numa_pool.specs.declared.view.Past.{Past}
use Rattle.numa_pool.specs.declared.view.Unlogged.{Unlogged}
use Rattle.numa_pool.specs.declared.view.View.{View}
use Rattle.numa_pool.specs.Frames.{frame_of, times, without, IsOnce}

-- the first seat: no other step, and no seat was joined
abbrev pub no_other : Unlogged
no_other = record { name = []; splits = 0; steps = 0; past = [] }

-- one step more
abbrev pub one_other : Unlogged → Unlogged
one_other u = record u { steps = u.steps + 1 }

-- one step more, a split
abbrev pub one_split : Unlogged → Unlogged
one_split u = record u { steps = u.steps + 1; splits = u.splits + 1 }

-- the seat that is split off then
abbrev pub split_off : Unlogged → Unlogged
split_off u = record { name = u.splits ∷ u.name; splits = 0; steps = 0; past = [] }

-- what a seat with this log did, which leaves this out
abbrev pub past_of : List Entry → Unlogged → Past
past_of entries u = record { name = u.name; splits = u.splits; log = entries }

-- one step more, a join of a seat with this log, which leaves these out
abbrev pub joined : Unlogged → List Entry → Unlogged → Unlogged
joined u entries others = record u {
  steps = u.steps + 1;
  past = (past_of entries others ∷ others.past) ++ u.past;
}

-- the first seat holds nothing and has made no step
abbrev pub newcomer : View
newcomer = record { held = []; log = []; unlogged = no_other; gone = false }

-- nor has one that is split off this one
abbrev pub newborn : View → View
newborn v = record { held = []; log = []; unlogged = split_off v.unlogged; gone = false }

-- what is left of a seat that was joined into another
abbrev pub spent : View
spent = record newcomer { gone = true }

abbrev pub with_entry : View → Entry → View
with_entry v e = record v { log = e ∷ v.log }

-- after a try of the frame, which was free or not
abbrev pub after_try : View → Frame → Bool → View
after_try v f true = record v { held = f ∷ v.held; log = Won f ∷ v.log }
after_try v f false = with_entry v (Lost f)

-- after the frame was given up
abbrev pub after_give : View → Frame → View
after_give v f = record v { held = without f.node f.number v.held; log = Gave f ∷ v.log }

-- after a split: one step more, which the log leaves out
abbrev pub after_split : View → View
after_split v = record v { unlogged = one_split v.unlogged }

-- after a join: the first seat has the frames of both, and one step more, which the log leaves out,
-- with what the other one did
abbrev pub after_join : View → View → View
after_join v w = record v {
  held = v.held ++ w.held;
  unlogged = joined v.unlogged w.log w.unlogged;
}

-- after a check: one step more, which the log leaves out
abbrev pub after_check : View → View
after_check v = record v { unlogged = one_other v.unlogged }

-- the frame of a bit of a word
abbrev pub frame_at : ℕ → ℕ → Frame
frame_at word bit = frame_of (word / 64) (64 * (word % 64) + bit)

module _ {S : Type 0} where
  -- a load: the seat logs the word and the value found
  abbrev pub IsLook : Step S → Me S View → ℕ → Me S View → Type 0
  IsLook step before found after =
      after ≡ (with_entry before.0 (Load (step.word / 64) (step.word % 64) found), before.1)

  -- a check: a load of which the seat learns only that it holds no frame twice
  abbrev pub IsCheck : Step S → Me S View → ℕ → Me S View → Type 0
  IsCheck step before found after =
      (after ≡ (after_check before.0, before.1)) × IsOnce before.0.held

  -- an or of one bit: won where the bit was clear, and then the seat did not hold the frame; lost
  -- where it was set
  abbrev pub IsAttempt : Step S → Me S View → ℕ → Me S View → Type 0
  IsAttempt step before found after =
      (bit : ℕ) → bit < 64 → step.first ≡ 2 ^ bit
      → (after ≡ (after_try before.0 (frame_at step.word bit) (bit_at found bit == 0), before.1))
      × (bit_at found bit ≡ 0 →
      times (step.word / 64) (64 * (step.word % 64) + bit) before.0.held ≡ 0)

  -- an and of all bits but one: the seat gives up the frame
  abbrev pub IsReturn : Step S → Me S View → ℕ → Me S View → Type 0
  IsReturn step before found after =
      (bit : ℕ) → bit < 64 → step.first ≡ bit_not w64 (2 ^ bit)
      → after ≡ (after_give before.0 (frame_at step.word bit), before.1)
