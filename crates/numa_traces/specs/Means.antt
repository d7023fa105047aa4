-- The mean distance of accesses, whose numbers are counted by distance.
use Rattle.std.specs.Prelude.{ℕ, ◌≡◌, ◌≤◌, ◌<◌, ◌+◌, ◌*◌, suc, Option, None, Some, List, [], ◌∷◌, sum}

-- the sum of all distances, where the first number is that of the accesses at this one
abbrev pub far_from : ℕ → List ℕ → ℕ
far_from distance [] = 0
far_from distance (count ∷ counts) = distance * count + far_from (suc distance) counts

-- the sum of the distances of all accesses
abbrev pub all_far : List ℕ → ℕ
all_far counts = far_from 0 counts

-- a number of thousandths is the nearest to the mean distance, the higher one of two: it is the sum
-- of the distances by the number of accesses, both doubled, and half a thousandth more at most
pub record IsMean (counts : List ℕ) (mean : ℕ) : Type 0 where
  pub least : mean * (2 * sum counts) ≤ 2000 * all_far counts + sum counts
  pub most : 2000 * all_far counts + sum counts < mean * (2 * sum counts) + 2 * sum counts

-- the mean, which none have that are no accesses
abbrev pub MeanOf : List ℕ → Option ℕ → Type 0
MeanOf counts None = sum counts ≡ 0
MeanOf counts (Some mean) = IsMean counts mean
