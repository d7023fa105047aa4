-- Which frames are known to be owned.
use Rattle.std.specs.Prelude.{◌≡◌, ℕ, ◌+◌, ◌<◌, ◌≤◌, true, Option, Some, is_some, List, length}
use Rattle.std.specs.Prelude.{slice_index, vec_len}
use Rattle.numa_machine.specs.declared.frame.Frame.{Frame}
use Rattle.numa_core.specs.Seats.{HasRoom}
use Rattle.numa_core.specs.Standing.{frames_before, is_met, owner_at, place_in}
use Rattle.numa_core.specs.declared.free_frames.Known.{Known}

-- the frame at each place that is marked is owned
abbrev pub AreMarked : List (Option ℕ) → List ℕ → Type 0
AreMarked owners marks = (p : ℕ) → is_met marks (Some p) ≡ true
    → is_some (owner_at owners (Some p)) ≡ true

-- for each node a number below which all its frames are owned
pub record AreLowest (frames : List ℕ) (owners : List (Option ℕ)) (lowest : List ℕ) : Type 0 where
  pub as_long : length lowest ≡ length frames
  pub owned : (n k : ℕ) → k < slice_index lowest n → k < slice_index frames n →
      is_some (owner_at owners (place_in frames n k)) ≡ true

-- what is known of the owners is so, and there is room for a mark at each place
pub record AreTaken (frames : List ℕ) (owners : List (Option ℕ)) (known : Known) : Type 0 where
  pub lowest : AreLowest frames owners known.lowest.items
  pub marked : AreMarked owners known.marks.items
  pub room : HasRoom frames (vec_len known.marks)

-- the frames of a node from one number to another are owned
abbrev pub OwnsFrom : List ℕ → List (Option ℕ) → ℕ → ℕ → ℕ → Type 0
OwnsFrom frames owners n from end = (k : ℕ) → from ≤ k → k < end →
    is_some (owner_at owners (Some (frames_before frames n + k))) ≡ true

-- the frame is one of the machine, and each lower one of its node is owned
pub record IsLow (frames : List ℕ) (owners : List (Option ℕ)) (frame : Frame) : Type 0 where
  pub there : frame.number < slice_index frames frame.node
  pub below : (k : ℕ) → k < frame.number →
      is_some (owner_at owners (place_in frames frame.node k)) ≡ true
