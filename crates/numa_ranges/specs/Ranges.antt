-- What contracts see of a range map.
use Rattle.std.specs.Prelude.{ℕ, List}
use Rattle.numa_ranges.specs.declared.run.Run.{Run}

-- the ranges in rising order, and how many there may be
pub record Ranges (T : Type 0) : Type 0 where
  pub runs : List (Run T)
  pub max_ranges : ℕ
