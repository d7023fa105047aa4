-- The ranges of rows, and the numbers of rules that are known.
use Rattle.std.proofs.Common.{◌≡◌, ℕ, ◌<◌, Option, Some, None, List, ◌∷◌, ◌++◌, length, get_or, set}
use Rattle.std.proofs.Common.{replicate, slice_get, sym, ap, subst, ◌∙◌, arith, inl, inr, unwrap_or}
use Rattle.std.proofs.lemmas.Bool.{cases_eq, cases_lt}
use Rattle.std.proofs.lemmas.List.{get_or-replicate, get_or-set_same, get_or-set_other, get_or_past}
use Rattle.std.proofs.lemmas.List.{length-replicate}
use Rattle.numa_mode.specs.Policy.{PolicyRecord}
use Rattle.numa_ranges.specs.Numbered.{AreNumbered, runs_of}
use Rattle.numa_ranges.specs.declared.row.Row.{Row}
use Rattle.numa_ranges.specs.declared.run.Run.{Run}
use Rattle.numa_ranges.proofs.Numbered.{one-run}
use Rattle.numa_space.specs.Policies.{where_live}
use Rattle.numa_compile.specs.Copies.{AreKnown, Grows, IsNumber}
use Rattle.numa_compile.proofs.CopyLemmas.{number-grow}

-- the range of a row, with its record
abbrev pub range-of : List (Option PolicyRecord) → Row → Run (Option PolicyRecord)
range-of values row = record {
  first = row.first;
  pages = row.pages;
  index = row.index;
  value = get_or values row.number None;
}

module _ (values : List (Option PolicyRecord)) (before rest : List Row) (row : Row)
    (numbered : AreNumbered values before) (is : before ≡ row ∷ rest) where
  both : (row.number < length values) × AreNumbered values rest
  both = subst (AreNumbered values) is numbered

  pub row-number : row.number < length values
  row-number = both.0

  pub rest-numbered : AreNumbered values rest
  rest-numbered = both.1

  -- the first row's range comes first
  pub range-first : runs_of values before ≡ range-of values row ∷ runs_of values rest
  range-first = ap (runs_of values) is
      ∙ ap (λ (l : List (Run (Option PolicyRecord))). l ++ runs_of values rest)
      (one-run values row None row-number)

module _ (at : ℕ → Option PolicyRecord) (values : List (Option PolicyRecord)) where
  -- nothing is known yet
  pub known-none : (known : List (Option (Option ℕ))) (n : ℕ) → known ≡ replicate n None
      → AreKnown at values known
  known-none known n is value number found =
      let no : Option (Option ℕ) = None in
      let none : get_or known value None ≡ None = ap (λ l. get_or l value None) is
      ∙ elim (cases_lt value n) [
        | inl within ↦ get_or-replicate n value None None within
        | inr behind ↦ get_or_past (replicate n None) value None
            (omega (arith, length-replicate n no))
      ] in
      absurd (let odd : ◌≡◌ {A = Option (Option ℕ)} None (Some number) = sym none ∙ found in cc)

  -- one more is known
  pub known-set : (known : List (Option (Option ℕ))) (place : ℕ) (made : Option ℕ)
      → place < length known → IsNumber at (where_live (get_or values place None)) made
      → AreKnown at values known → AreKnown at values (set known place (Some made))
  known-set known place made within is so value number found =
      elim (cases_eq value place) [
        | inl same ↦
            let here : get_or (set known place (Some made)) place None ≡ Some number =
            ap (λ k. get_or (set known place (Some made)) k None) (sym same) ∙ found in
            let made-is : made ≡ number = ap (λ (o : Option (Option ℕ)). unwrap_or o None)
            (sym (get_or-set_same known place (Some made) None within) ∙ here) in
            subst (λ k. IsNumber at (where_live (get_or values k None)) number) (sym same)
            (subst (λ n. IsNumber at (where_live (get_or values place None)) n) made-is is)
        | inr other ↦
            so value number (sym (get_or-set_other known place value (Some made) None other)
            ∙ found)
      ]

-- the records are more, and what was known still holds
pub known-grow : (old new : List PolicyRecord) (policy : Option PolicyRecord)
    (values : List (Option PolicyRecord)) (known : List (Option (Option ℕ))) → Grows old policy new
    → AreKnown (slice_get old) values known → AreKnown (slice_get new) values known
known-grow old new policy values known grows so value number found =
    number-grow old new policy grows (where_live (get_or values value None)) number
    (so value number found)
