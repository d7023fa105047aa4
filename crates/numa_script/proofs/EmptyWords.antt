-- Whether one of the words of a line is empty.
use Rattle.std.specs.Prelude.{◌≡◌, ◌==◌, ℕ, false, List, ◌∷◌, length, ◌||◌}
use Rattle.std.proofs.Common.{ap, arith}
use Rattle.std.proofs.lemmas.Bool.Decides.{nat_tests}
pub use Rattle.numa_script.specs.Words.{any_empty}

pub word_begun : (b : ℕ) (word : List ℕ) → (length (b ∷ word) == 0) ≡ false
word_begun b word = grind (arith, nat_tests)

pub any_behind : (b : ℕ) (word : List ℕ) (words : List (List ℕ)) → any_empty ((b ∷ word) ∷ words)
    ≡ any_empty words
any_behind b word words = ap (λ t. t || any_empty words) (word_begun b word)
