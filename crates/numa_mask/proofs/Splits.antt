-- Taking the first part of a text.
use Rattle.std.specs.Prelude.{◌≡◌, ℕ, ◌+◌, ◌==◌, ◌<◌, Bool, true, false, List, [], ◌∷◌, length}
use Rattle.std.specs.Prelude.{take, drop, position, Some, None}
use Rattle.std.proofs.Common.{◌∙◌, ap, arith, get_or, ◌≤◌, not, refl}
use Rattle.std.specs.List.{position_or_len}
use Rattle.std.proofs.lemmas.List.Splits.{slice_split_first, slice_split_none}
use Rattle.std.proofs.lemmas.Bool.Decides.{nat_tests}
use Rattle.std.proofs.lemmas.List.Elements.{All-from_get_or}
use Rattle.std.proofs.lemmas.List.Sums.{prefix_len_passes}
use Rattle.numa_mask.specs.Parts.{parts_of}

-- what has the separator at n is the part before it and the parts after it
pub cut_at : (separator : ℕ) (text : List ℕ) (n : ℕ) → position (λ b. b == separator) text ≡ Some n
    → parts_of separator text ≡ take n text ∷ parts_of separator (drop (n + 1) text)
cut_at separator text n h =
    let lt : position_or_len (λ b. b == separator) text < length text = grind (arith, nat_tests) in
    let at : position_or_len (λ b. b == separator) text ≡ n = grind (arith, nat_tests) in
    slice_split_first (λ b. b == separator) text 0 lt
    ∙ ap (λ k. take k text ∷ parts_of separator (drop (k + 1) text)) at

not_true : (b : Bool) → not b ≡ true → b ≡ false
not_true true h = cc
not_true false h = refl

-- what has no separator is one part
pub cut_nowhere : (separator : ℕ) (text : List ℕ) → position (λ b. b == separator) text ≡ None
    → parts_of separator text ≡ text ∷ []
cut_nowhere separator text h =
    let all : length text ≤ position_or_len (λ b. b == separator) text = grind (arith, nat_tests) in
    let no_separator : (i : ℕ) → i < length text → (get_or text i 0 == separator) ≡ false =
    λ i lt. not_true _ (prefix_len_passes (λ b. not (b == separator)) text i 0 (omega arith)) in
    slice_split_none (λ b. b == separator) text
    (All-from_get_or (λ b. (b == separator) ≡ false) text 0 (λ i lt. no_separator i lt))
