-- Frames, lists of them, and the bits that stand for them.
-- Each node has 64 words. Frame k of node n is bit k % 64 of word 64 * n + k / 64.
use Rattle.std.specs.Prelude.{ℕ, zero, suc, ◌+◌, ◌*◌, ◌/◌, ◌%◌, ◌<◌, ◌≤◌, ◌==◌, ◌&&◌, Bool}
use Rattle.std.specs.Prelude.{cond, List, [], ◌∷◌, slice_index, Option, Some, None}
use Rattle.std.specs.Int.{bit_at}
use Rattle.numa_machine.specs.declared.frame.Frame.{Frame}

abbrev pub frame_of : ℕ → ℕ → Frame
frame_of n k = record { node = n; number = k }

-- the frame is frame k of node n
abbrev pub is_frame : Frame → ℕ → ℕ → Bool
is_frame f n k = (f.node == n) && (f.number == k)

abbrev pub one_if : Bool → ℕ
one_if b = cond b 1 0

-- how often frame k of node n is among these
abbrev pub times : ℕ → ℕ → List Frame → ℕ
times n k [] = 0
times n k (f ∷ fs) = one_if (is_frame f n k) + times n k fs

-- no frame is among these twice
abbrev pub IsOnce : List Frame → Type 0
IsOnce held = (n k : ℕ) → times n k held ≤ 1

-- how many of these are frames of node n
abbrev pub held_on : ℕ → List Frame → ℕ
held_on n [] = 0
held_on n (f ∷ fs) = one_if (f.node == n) + held_on n fs

-- the frame is among these
abbrev pub Holds : List Frame → Frame → Type 0
Holds held f = 0 < times f.node f.number held

-- these without frame k of node n
abbrev pub without : ℕ → ℕ → List Frame → List Frame
without n k [] = []
without n k (f ∷ fs) = cond (is_frame f n k) (without n k fs) (f ∷ without n k fs)

-- these and the frame that was found, if one was
abbrev pub with_found : Option Frame → List Frame → List Frame
with_found None held = held
with_found (Some f) held = f ∷ held

-- these and each frame that was found, one after the other
abbrev pub gained_each : List (Option Frame) → List Frame → List Frame
gained_each [] held = held
gained_each (found ∷ more) held = gained_each more (with_found found held)

-- the bit of frame k of node n
abbrev pub bit_in : List ℕ → ℕ → ℕ → ℕ
bit_in words n k = bit_at (slice_index words (64 * n + k / 64)) (k % 64)

-- how many of the first m frames of node n have their bit set
abbrev pub set_below : List ℕ → ℕ → ℕ → ℕ
set_below words n zero = 0
set_below words n (suc m) = bit_in words n m + set_below words n m
