-- Where the spaces of a line stand, as the bits of a number.
use Rattle.std.specs.Prelude.{◌≡◌, ℕ, ◌+◌, ◌^◌, ◌<◌, ◌==◌, if◌then◌else◌, List, slice_index}
use Rattle.std.specs.Prelude.{Bool, length}
use Rattle.std.specs.Int.{bit_at}
use Rattle.std.specs.List.{list_any}

-- bit k is 1 where byte k of the text is a space
pub record Marks (text : List ℕ) (marks : ℕ) : Type 0 where
  pub bits : (k : ℕ) → bit_at marks k ≡ (if slice_index text k == 32 then 1 else 0)

-- the same of as many bytes as there are lanes, from `at` on
pub record MarksFrom (text : List ℕ) (at lanes marks : ℕ) : Type 0 where
  pub bits : (k : ℕ) → k < lanes
      → bit_at marks k ≡ (if slice_index text (at + k) == 32 then 1 else 0)
  pub few : marks < 2 ^ lanes

-- one of the words has no byte
abbrev pub any_empty : List (List ℕ) → Bool
any_empty words = list_any (λ word. length word == 0) words
