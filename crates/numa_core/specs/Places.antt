-- A table of the places of nodes' first frames.
use Rattle.std.specs.Prelude.{◌≡◌, ℕ, ◌<◌, ◌≤◌, List, length, slice_index}
use Rattle.numa_core.specs.Standing.{frames_before}

-- for each node how many frames the nodes below it have, and how many all have; no node has more
-- than 4,096, and all together at most 1,048,576
pub record IsTable (frames before : List ℕ) (total : ℕ) : Type 0 where
  pub as_long : length before ≡ length frames
  pub sums : (n : ℕ) → n < length frames → slice_index before n ≡ frames_before frames n
  pub total_is : total ≡ frames_before frames (length frames)
  pub few : (n : ℕ) → slice_index frames n ≤ 4096
  pub small : total ≤ 1048576
