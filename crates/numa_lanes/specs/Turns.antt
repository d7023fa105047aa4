-- How a cycle is kept.
use Rattle.std.specs.Prelude.{◌≡◌, ℕ, ◌+◌, ◌%◌, ◌<◌, List, length, slice_index}

-- a table of the entries of a cycle of this many entries, and of as many further turns as a vector
-- of 64 bytes takes
pub record IsTable (len : ℕ) (table : List ℕ) : Type 0 where
  pub some : 0 < len
  pub long : length table ≡ len + 64
  pub again : (turn : ℕ) → turn < len + 64 → slice_index table turn ≡ slice_index table (turn % len)
