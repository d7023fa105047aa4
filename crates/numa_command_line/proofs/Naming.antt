-- The word of a command line, and what the parse found behind it.
use Rattle.std.proofs.Common.{◌≡◌, ◌∙◌, ◌∷◌, ◌<◌, Bool, cond, true, false, refl, ap, List, []}
use Rattle.std.proofs.Common.{Global, None, Option, Some, String, length, map, slice_get}
use Rattle.std.proofs.Common.{slice_index_or, subst, sym}
use Rattle.std.proofs.lemmas.Option.{slice_get-map, slice_get_read}
use Rattle.std.specs.String.{string_bytes}
use Rattle.std.specs.Option.{option_map, unwrap_or}
use Rattle.std.specs.Str.{bytes_eq}
use Rattle.std.proofs.lemmas.Slice.Eq.{bytes_eq-Decides}
use Rattle.clap.specs.Words.{Row}
use Rattle.numa_command_line.specs.Asked.{rows_behind}
use Rattle.numa_command_line.specs.Jobs.{Text}

some_is : {X : Type 0} (x y : X) → Some x ≡ Some y → x ≡ y
some_is x y e = ap (λ o. unwrap_or o x) e

-- a subcommand of this name was found, with these rows
pub behind_some : {B : Type 0} (found : Option B) (called : B → Text) (holds : B → List Row)
    (name : Text) (rows : List Row)
    → option_map called found ≡ Some name
    → option_map (λ (p : Text × List Row). p.1) (option_map (λ b. (called b, holds b)) found)
    ≡ Some rows
    → rows_behind name (option_map (λ b. (called b, holds b)) found) ≡ Some rows
behind_some None called holds name rows is has = cc
behind_some (Some b) called holds name rows is has =
    let same : bytes_eq (called b) name ≡ true =
    (bytes_eq-Decides (called b) name).1 (some_is _ _ is) in
    rw same has

-- none of this name was
pub behind_none : {B : Type 0} (found : Option B) (called : B → Text) (holds : B → List Row)
    (name : Text)
    → (option_map called found ≡ Some name → ⊥)
    → rows_behind name (option_map (λ b. (called b, holds b)) found) ≡ None
behind_none None called holds name other = refl
behind_none (Some b) called holds name other = go (bytes_eq (called b) name) refl
  where
    go : (t : Bool) → bytes_eq (called b) name ≡ t → cond t (Some (holds b)) None ≡ None
    go true e = absurd (other (ap Some ((bytes_eq-Decides (called b) name).0 e)))
    go false e = refl

-- the word behind the program's name
pub second_is : (words : List (String Global)) (first : String Global) (name : Text)
    → 1 < length words
    → first ≡ slice_index_or words 1 first → name ≡ string_bytes first
    → slice_get (map string_bytes words) 1 ≡ Some name
second_is words first name below at said =
    slice_get-map string_bytes words 1
    ∙ (ap (option_map string_bytes) (slice_get_read words _ 1 first refl below at)
    ∙ ap Some (sym said))

-- what holds of all lines with this word behind the first holds of this one
pub behind_first : (P : List Text → Type 0) (line : List Text) (name : Text)
    → slice_get line 1 ≡ Some name
    → ((first : Text) (rest : List Text) → P (first ∷ name ∷ rest)) → P line
behind_first P [] name second all = cc
behind_first P (a ∷ []) name second all = cc
behind_first P (first ∷ word ∷ rest) name second all =
    subst (λ n. P (first ∷ n ∷ rest)) (sym (some_is word name second)) (all first rest)
