-- Words and the columns at which they begin.
use Rattle.std.specs.Prelude.{zero, suc, ◌≡◌, ℕ, ◌+◌, ◌==◌, ◌≤◌, ◌<◌, ◌-◌, true, false, List, []}
use Rattle.std.specs.Prelude.{◌∷◌, length, take, None, cond, refl}
use native.Mathlib.Numerals.{unary_clauses}
use Rattle.std.proofs.Common.{arith}
use Rattle.std.specs.List.{onto_first}
use Rattle.numa_script.specs.Causes.{first_misfit, width_of}
use Rattle.numa_script.specs.declared.keyword.Keyword.{Keyword}
use Rattle.numa_script.specs.declared.parameter.Parameter.{Parameter}
use Rattle.numa_mask.specs.Parts.{parts_of}
use Rattle.numa_script.specs.Parts.{words_of}

pub width_of-take-le : (count : ℕ) (words : List (List ℕ)) → width_of (take count words)
    ≤ width_of words
width_of-take-le zero words = omega arith
width_of-take-le (suc count) [] = omega arith
width_of-take-le (suc count) (word ∷ words) = omega (arith, width_of-take-le count words)

pub length-le-width_of : (words : List (List ℕ)) → length words ≤ width_of words
length-le-width_of [] = omega arith
length-le-width_of (word ∷ words) = omega (arith, length-le-width_of words)

width_of-onto_first : (b : ℕ) (words : List (List ℕ)) (n : ℕ) → width_of words ≡ suc n
    → width_of (onto_first b words) ≡ suc (suc n)
width_of-onto_first b [] n h = cc
width_of-onto_first b (word ∷ words) n h = omega arith

-- the parts of a text, each with a separator behind it, have one byte more than the text
pub width_of-parts_of : (separator : ℕ) (text : List ℕ) → width_of (parts_of separator text)
    ≡ suc (length text)
width_of-parts_of separator [] = refl
width_of-parts_of separator (b ∷ text) =
    elim (b == separator) as
    (λ t.
    width_of (cond t ([] ∷ parts_of separator text) (onto_first b (parts_of separator text)))
    ≡ suc (suc (length text))) [
      | true ↦ omega (arith, width_of-parts_of separator text)
      | false ↦ width_of-onto_first b (parts_of separator text) (length text)
          (width_of-parts_of separator text)
    ]

-- no word is left to be of another form
pub first_misfit_no_words : (k : Keyword) (parameters : List Parameter) (column : ℕ)
    → first_misfit k parameters column [] ≡ None
first_misfit_no_words k [] column = refl
first_misfit_no_words k (p ∷ ps) column = refl

pub width_of_words : (line : List ℕ) → width_of (words_of line) ≡ suc (length line)
width_of_words line = width_of-parts_of 32 line

-- one word of several
pub width_of-take-step : (left : ℕ) (words rest : List (List ℕ)) (word : List ℕ) → 0 < left
    → words ≡ word ∷ rest
    → width_of (take left words) ≡ length word + 1 + width_of (take (left - 1) rest)
width_of-take-step zero words rest word some is = absurd (omega arith)
width_of-take-step (suc left) words rest word some is = rw is (simp unary_clauses)
