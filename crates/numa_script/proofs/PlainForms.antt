-- The name of a mode has no `=`, so a policy word that is one is its own only part.
use Rattle.std.specs.Prelude.{◌≡◌, ◌==◌, ℕ, Bool, true, false, List, [], ◌∷◌, ◌&&◌, cond}
use Rattle.std.specs.Prelude.{if◌then◌else◌, Some, refl}
use Rattle.std.proofs.Common.{◌∙◌, ap, not}
use Rattle.std.specs.List.{onto_first}
use Rattle.std.specs.Option.{option_map}
use Rattle.std.specs.Str.{bytes_eq}
use Rattle.std.proofs.lemmas.Slice.Eq.{bytes_eq-Decides}
use Rattle.numa_mask.specs.Parts.{parts_of}
use Rattle.numa_mode.specs.declared.modes.Mode.{Mode}
use Rattle.numa_script.specs.Policies.{form_of, form_of_parts, mode_names, mode_of, plain_form}
use Rattle.numa_script.specs.Tables.{meaning_of}

-- no byte is `=`
abbrev lacks : List ℕ → Bool
lacks [] = true
lacks (b ∷ bs) = not (b == 61) && lacks bs

one_part : (text : List ℕ) → lacks text ≡ true → parts_of 61 text ≡ text ∷ []
one_part [] lack = refl
one_part (b ∷ bs) lack = by_byte (b == 61) (one_part bs) lack
  where
    by_byte : (is : Bool) → (lacks bs ≡ true → parts_of 61 bs ≡ bs ∷ [])
        → (not is && lacks bs) ≡ true
        → cond is ([] ∷ parts_of 61 bs) (onto_first b (parts_of 61 bs)) ≡ (b ∷ bs) ∷ []
    by_byte true behind lack = cc
    by_byte false behind lack = ap (onto_first b) (behind lack)

abbrev names_lack : List (List ℕ × Mode) → Bool
names_lack [] = true
names_lack (entry ∷ entries) = lacks entry.0 && names_lack entries

both_true : (a b : Bool) → (a && b) ≡ true → (a ≡ true) × (b ≡ true)
both_true true b e = (refl, e)
both_true false b e = cc

name_lacks : (entries : List (List ℕ × Mode)) (text : List ℕ) (m : Mode)
    → names_lack entries ≡ true → meaning_of entries text ≡ Some m → lacks text ≡ true
name_lacks [] text m all found = cc
name_lacks (entry ∷ entries) text m all found =
    let each = both_true (lacks entry.0) (names_lack entries) all in
    by_name (bytes_eq text entry.0) refl each.0 (name_lacks entries text m each.1) found
  where
    by_name : (is : Bool) → bytes_eq text entry.0 ≡ is → lacks entry.0 ≡ true
        → (meaning_of entries text ≡ Some m → lacks text ≡ true)
        → (if is then Some entry.1 else meaning_of entries text) ≡ Some m → lacks text ≡ true
    by_name true same lack behind found = ap lacks ((bytes_eq-Decides text entry.0).0 same) ∙ lack
    by_name false same lack behind found = behind found

-- the name of a mode is the form without flags
pub plain_is_form : (text : List ℕ) (m : Mode) → mode_of text ≡ Some m
    → form_of text ≡ Some (plain_form m)
unfolding mode_of
plain_is_form text m found =
    ap form_of_parts (one_part text (name_lacks mode_names text m refl found))
    ∙ ap (option_map plain_form) found
