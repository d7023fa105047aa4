-- An empty word is no number, so a line of numbers that has one is malformed anyway: it need be
-- looked for only where a list, a policy or a part of a machine may stand.
use Rattle.std.specs.Prelude.{◌≡◌, ℕ, ◌&&◌, ◌||◌, Bool, true, false, List, []}
use Rattle.std.specs.Prelude.{◌∷◌, length, nat_lt, is_some, unwrap_or, if◌then◌else◌, Option, Some}
use Rattle.std.specs.Prelude.{None, option_and_then, refl, codes, drop}
use Rattle.std.specs.Str.{bytes_eq}
use Rattle.std.specs.Option.{option_map}
use Rattle.std.proofs.Common.{sym, ◌∙◌, ap, arith}
use Rattle.std.proofs.lemmas.Bool.Decides.{nat_tests}
use Rattle.numa_script.specs.Causes.{behind_huge, behind_map, fault_behind, form_of, misfit_of}
use Rattle.numa_script.specs.Causes.{wanted_of, first_misfit, is_malformed}
use Rattle.numa_script.specs.Lines.{alone, begun, is_in, keyword_of, line_after, script_after}
use Rattle.numa_script.specs.Lines.{takes_texts, words_line}
use Rattle.numa_script.specs.Numbers.{number_of, numeral_of}
use Rattle.numa_script.specs.declared.keyword.Keyword.{Keyword}
use Rattle.numa_script.specs.declared.keyword.Keyword.TheVariants as keyword
use Rattle.numa_script.specs.declared.line.Line.{Line}
use Rattle.numa_script.specs.declared.line.Line.TheVariants as line
use Rattle.numa_script.specs.declared.malformed.Malformed.{Malformed}
use Rattle.numa_script.specs.declared.parameter.Form.{Form}
use Rattle.numa_script.specs.declared.parameter.Form.TheVariants as form
use Rattle.numa_script.specs.declared.parameter.Parameter.{Parameter}
use Rattle.numa_script.specs.declared.parameter.Parameter.TheVariants as parameter
use Rattle.numa_script.proofs.EmptyWords.{any_empty, any_behind}
use Rattle.numa_script.proofs.Malformations.{says}
use Rattle.numa_script.proofs.Together.{any_misfit, some_first}

-- ---- what has to be a number

abbrev is_number : Form → Bool
is_number (form.Number greatest) = true
is_number form.Rules = false
is_number form.Frames = false
is_number form.Distances = false
is_number form.Switch = false
is_number form.Word = true
is_number form.Any = false

abbrev are_numbers : List Parameter → Bool
are_numbers [] = true
are_numbers (p ∷ ps) = is_number (form_of p) && are_numbers ps

-- the words behind the offset of a mapping aren't empty either
huge_numbers : (words : List (List ℕ)) → are_numbers (behind_huge words) ≡ true
huge_numbers [] = refl
huge_numbers (task ∷ []) = refl
huge_numbers (task ∷ word ∷ words) = either (bytes_eq word (codes "noreserve"))
  where
    either : (b : Bool) → are_numbers (if b then parameter.Task ∷ parameter.NoReserve ∷ []
        else parameter.Task ∷ []) ≡ true
    either true = refl
    either false = refl

numbers_if : (b : Bool) (ps : List Parameter) → are_numbers ps ≡ true
    → are_numbers (if b then ps else []) ≡ true
numbers_if true ps e = e
numbers_if false ps e = refl

map_numbers : (words : List (List ℕ)) → are_numbers (behind_map words) ≡ true
map_numbers [] = refl
map_numbers (word ∷ words) = numbers_if (bytes_eq word (codes "huge"))
    (parameter.Huge ∷ behind_huge words) (huge_numbers words)

numbers_of : (k : Keyword) (words : List (List ℕ)) → takes_texts k ≡ false
    → are_numbers (wanted_of k words) ≡ true
numbers_of keyword.Limits words e = refl
numbers_of keyword.Rules words e = cc
numbers_of keyword.Cpus words e = cc
numbers_of keyword.Machine words e = cc
numbers_of keyword.Map words e = map_numbers (drop 3 words)
numbers_of keyword.Unmap words e = refl
numbers_of keyword.Mbind words e = cc
numbers_of keyword.Home words e = refl
numbers_of keyword.Task words e = cc
numbers_of keyword.Inherit words e = refl
numbers_of keyword.Weight words e = refl
numbers_of keyword.Mems words e = cc
numbers_of keyword.Place words e = refl
numbers_of keyword.Span words e = refl
numbers_of keyword.Counts words e = refl
numbers_of keyword.Ranges words e = refl
numbers_of keyword.Maps words e = refl
numbers_of keyword.Publish words e = refl
numbers_of keyword.Begin words e = refl
numbers_of keyword.Look words e = refl
numbers_of keyword.Try words e = refl
numbers_of keyword.Give words e = refl
numbers_of keyword.Touch words e = refl
numbers_of keyword.Release words e = refl
numbers_of keyword.At words e = refl
numbers_of keyword.Room [] e = refl
numbers_of keyword.Room (word ∷ words) e = refl
numbers_of keyword.MemoryMigrate words e = cc
numbers_of keyword.Migrate words e = cc
numbers_of keyword.Move words e = refl
numbers_of keyword.Moved words e = refl
numbers_of keyword.Populate words e = refl
numbers_of keyword.Pool [] e = refl
numbers_of keyword.Pool (a ∷ []) e = refl
numbers_of keyword.Pool (a ∷ b ∷ []) e = refl
numbers_of keyword.Pool (a ∷ b ∷ d ∷ words) e = refl
numbers_of keyword.Fault words e = refl
numbers_of keyword.Host words e = refl
numbers_of keyword.Group words e = refl
numbers_of keyword.GroupMems words e = cc
numbers_of keyword.Process words e = refl
numbers_of keyword.Exit words e = refl
numbers_of keyword.Attach words e = refl
numbers_of keyword.Fork words e = refl
numbers_of keyword.In words e = cc

-- nor does such a line tell a process
not_in : (k : Keyword) → takes_texts k ≡ false → is_in k ≡ false
not_in keyword.Limits e = refl
not_in keyword.Rules e = cc
not_in keyword.Cpus e = cc
not_in keyword.Machine e = cc
not_in keyword.Map e = refl
not_in keyword.Unmap e = refl
not_in keyword.Mbind e = cc
not_in keyword.Home e = refl
not_in keyword.Task e = cc
not_in keyword.Inherit e = refl
not_in keyword.Weight e = refl
not_in keyword.Mems e = cc
not_in keyword.Place e = refl
not_in keyword.Span e = refl
not_in keyword.Counts e = refl
not_in keyword.Ranges e = refl
not_in keyword.Maps e = refl
not_in keyword.Publish e = refl
not_in keyword.Begin e = refl
not_in keyword.Look e = refl
not_in keyword.Try e = refl
not_in keyword.Give e = refl
not_in keyword.Touch e = refl
not_in keyword.Release e = refl
not_in keyword.At e = refl
not_in keyword.Room e = refl
not_in keyword.MemoryMigrate e = cc
not_in keyword.Migrate e = cc
not_in keyword.Move e = refl
not_in keyword.Moved e = refl
not_in keyword.Populate e = refl
not_in keyword.Pool e = refl
not_in keyword.Fault e = refl
not_in keyword.Host e = refl
not_in keyword.Group e = refl
not_in keyword.GroupMems e = cc
not_in keyword.Process e = refl
not_in keyword.Exit e = refl
not_in keyword.Attach e = refl
not_in keyword.Fork e = refl
not_in keyword.In e = cc

-- ---- an empty word is no number

no_number : number_of [] ≡ None
unfolding number_of numeral_of
no_number = refl

empty_misfit : (f : Form) → is_number f ≡ true → is_some (misfit_of f []) ≡ true
empty_misfit (form.Number greatest) e = rw no_number refl
empty_misfit form.Rules e = cc
empty_misfit form.Frames e = cc
empty_misfit form.Distances e = cc
empty_misfit form.Switch e = cc
empty_misfit form.Word e = refl
empty_misfit form.Any e = cc

both_true : (a b : Bool) → (a && b) ≡ true → (a ≡ true) × (b ≡ true)
both_true true b e = (refl, e)
both_true false b e = cc

or_true : (a b : Bool) → b ≡ true → (a || b) ≡ true
or_true true b e = refl
or_true false b e = e

some_misfit : (ps : List Parameter) (words : List (List ℕ)) → are_numbers ps ≡ true
    → length words ≡ length ps → any_empty words ≡ true → any_misfit ps words ≡ true
some_misfit ps [] numbers same empty = cc
some_misfit [] (word ∷ words) numbers same empty = absurd (omega (arith, same))
some_misfit (p ∷ ps) ([] ∷ words) numbers same empty =
    ap (λ b. b || any_misfit ps words)
    (empty_misfit (form_of p) (both_true (is_number (form_of p)) (are_numbers ps) numbers).0)
some_misfit (p ∷ ps) ((b ∷ word) ∷ words) numbers same empty =
    or_true (is_some (misfit_of (form_of p) (b ∷ word))) (any_misfit ps words)
    (some_misfit ps words (both_true (is_number (form_of p)) (are_numbers ps) numbers).1
    (omega (arith, same)) (sym (any_behind b word words) ∙ empty))

by_length : (few many : Bool) (one other : Malformed) (m : Option Malformed)
    → (few ≡ false → many ≡ false → is_some m ≡ true)
    → is_some (if few then Some one else if many then Some other else m) ≡ true
by_length true many one other m h = refl
by_length false true one other m h = refl
by_length false false one other m h = h refl refl

some_fault : (k : Keyword) (words : List (List ℕ)) → takes_texts k ≡ false → any_empty words ≡ true
    → is_some (fault_behind k 1 words) ≡ true
some_fault k words numbers empty =
    by_length (nat_lt (length words) (length (wanted_of k words)))
    (nat_lt (length (wanted_of k words)) (length words)) _ _
    (first_misfit k (wanted_of k words) 1 words)
    (λ few many.
    let same : length words ≡ length (wanted_of k words) = grind (arith, nat_tests, few, many) in
    some_first k (wanted_of k words) 1 words
    ∙ some_misfit (wanted_of k words) words (numbers_of k words numbers) same empty)

-- ---- so the line is malformed

malformed_is : (l : Line) → is_malformed l ≡ true → l ≡ line.Malformed
malformed_is line.Silent e = cc
malformed_is line.Malformed e = refl
malformed_is (line.Limits ranges tasks commands) e = cc
malformed_is (line.Rules rules) e = cc
malformed_is (line.Cpus said) e = cc
malformed_is (line.Machine said) e = cc
malformed_is (line.Command said) e = cc
malformed_is (line.EmptyBind start fault) e = cc
malformed_is (line.Question said) e = cc
malformed_is (line.Maps task) e = cc
malformed_is (line.Work said) e = cc
malformed_is (line.Pages said) e = cc
malformed_is (line.Bind start bytes policy pages) e = cc
malformed_is (line.Huge said) e = cc
malformed_is line.Host e = cc
malformed_is (line.HostCommand said) e = cc

empty_among_numbers : (k : Keyword) (words : List (List ℕ)) → takes_texts k ≡ false
    → any_empty words ≡ true → unwrap_or (line_after k words) line.Malformed ≡ line.Malformed
empty_among_numbers k words numbers empty =
    malformed_is (unwrap_or (line_after k words) line.Malformed)
    (sym (says k 1 words (not_in k numbers)) ∙ some_fault k words numbers empty)

alone_malformed : (o : Option Line) → unwrap_or o line.Malformed ≡ line.Malformed
    → unwrap_or (option_map alone o) (alone line.Malformed) ≡ alone line.Malformed
alone_malformed None e = refl
alone_malformed (Some l) e = ap alone e

script_among_numbers : (k : Keyword) (words : List (List ℕ)) → takes_texts k ≡ false
    → any_empty words ≡ true
    → unwrap_or (script_after k words) (alone line.Malformed) ≡ alone line.Malformed
script_among_numbers k words numbers empty =
    rw (not_in k numbers) (alone_malformed (line_after k words)
    (empty_among_numbers k words numbers empty))

-- ---- a keyword, and the words behind it

abbrev with_rest : List (List ℕ) → Option Keyword → Option (Keyword × List (List ℕ))
with_rest rest o = option_map (λ k. (k, rest)) o

pub begun_none : (words : List (List ℕ)) → begun words ≡ None → words_line words ≡ None
begun_none [] none = refl
begun_none (first ∷ rest) none = by_keyword (keyword_of first) none
  where
    by_keyword : (o : Option Keyword) → with_rest rest o ≡ None
        → option_and_then (λ k. script_after k rest) o ≡ None
    by_keyword None none = refl
    by_keyword (Some k) none = cc

begun_line : (words : List (List ℕ)) (it : Keyword × List (List ℕ)) → begun words ≡ Some it
    → words_line words ≡ script_after it.0 it.1
begun_line [] it some = cc
begun_line (first ∷ rest) it some = by_keyword (keyword_of first) some
  where
    by_keyword : (o : Option Keyword) → with_rest rest o ≡ Some it
        → option_and_then (λ k. script_after k rest) o ≡ script_after it.0 it.1
    by_keyword None some = cc
    by_keyword (Some k) some =
        ap (λ (o : Option (Keyword × List (List ℕ))). option_and_then (λ v. script_after v.0 v.1) o)
        some

no_keyword : keyword_of [] ≡ None
unfolding keyword_of
no_keyword = refl

pub begun_empty : (words : List (List ℕ)) (it : Keyword × List (List ℕ)) → begun words ≡ Some it
    → any_empty words ≡ any_empty it.1
begun_empty [] it some = cc
begun_empty ([] ∷ rest) it some = by_keyword (keyword_of []) no_keyword some
  where
    by_keyword : (o : Option Keyword) → o ≡ None → with_rest rest o ≡ Some it
        → any_empty ([] ∷ rest) ≡ any_empty it.1
    by_keyword None none some = cc
    by_keyword (Some k) none some = cc
begun_empty ((b ∷ word) ∷ rest) it some =
    any_behind b word rest ∙ by_keyword (keyword_of (b ∷ word)) some
  where
    by_keyword : (o : Option Keyword) → with_rest rest o ≡ Some it
        → any_empty rest ≡ any_empty it.1
    by_keyword None some = cc
    by_keyword (Some k) some =
        ap (λ (o : Option (Keyword × List (List ℕ))). unwrap_or (option_map (λ v. any_empty v.1) o)
        false) some

-- the line, where an empty word is looked for among texts alone
pub line_begun : (words : List (List ℕ)) (it : Keyword × List (List ℕ)) (empty : Bool)
    → begun words ≡ Some it → any_empty words ≡ empty → (takes_texts it.0 && empty) ≡ false
    → unwrap_or (script_after it.0 it.1) (alone line.Malformed)
    ≡ (if empty then alone line.Malformed
    else unwrap_or (words_line words) (alone line.Malformed))
line_begun words it false some is_empty passed =
    ap (λ o. unwrap_or o (alone line.Malformed)) (sym (begun_line words it some))
line_begun words it true some is_empty passed =
    script_among_numbers it.0 it.1 (numbers (takes_texts it.0) passed)
    (sym (begun_empty words it some) ∙ is_empty)
  where
    numbers : (texts : Bool) → (texts && true) ≡ false → texts ≡ false
    numbers true e = e
    numbers false e = refl
