-- What a range of a space and a row of pages with one advice have in common is an area.
use Rattle.std.proofs.Common.{◌≡◌, ℕ, zero, suc, ◌+◌, ◌-◌, ◌<◌, ◌≤◌, ◌⊎◌, Bool, true, false}
use Rattle.std.proofs.Common.{not, Option, Some, max, min, is_some, ap, ◌∙◌, sym, subst}
use Rattle.std.proofs.Common.{arith, refl, inl, inr}
use Rattle.std.proofs.lemmas.Bool.{and_left, and_parts, and_right, cases_lt}
use Rattle.numa_ranges.specs.Counts.{goes_on, is_start, IsRange}
use Rattle.numa_ranges.specs.Runs.{end_of}
use Rattle.numa_ranges.specs.declared.run.Run.{Run}
use Rattle.numa_blocks.specs.Areas.{IsAdvised, IsArea, common_area, goes_on_at, same_advice}
use Rattle.numa_blocks.specs.declared.area.Advised.{Advised}
use Rattle.numa_blocks.specs.declared.settings.Advice.{Advice}

not-true : (b : Bool) → not b ≡ true → b ≡ false
not-true true e = sym e
not-true false e = refl

-- the first page of a range doesn't continue the page before it
begins-anew : {T : Type 0} (same : T → T → Bool) (at : ℕ → Option (ℕ × T)) (page : ℕ) → 0 < page
    → is_start same at page ≡ true → goes_on same (at (page - 1)) (at page) ≡ false
begins-anew same at zero some start = absurd (omega (arith, some))
begins-anew same at (suc page) some start =
    let parts = and_parts (is_some (at (suc page)))
    (not (goes_on same (at page) (at (suc page)))) start in
    subst (λ (n : ℕ). goes_on same (at n) (at (suc page)) ≡ false) (omega arith)
    (not-true (goes_on same (at page) (at (suc page))) parts.1)

-- the greater of two numbers is one of them, and so is the lesser
greater : (a b : ℕ) → (max a b ≡ a) ⊎ (max a b ≡ b)
greater a b = elim (cases_lt a b) [
  | inl l ↦ inr (omega (arith, l))
  | inr l ↦ inl (omega (arith, l))
]

lesser : (a b : ℕ) → (min a b ≡ a) ⊎ (min a b ≡ b)
lesser a b = elim (cases_lt a b) [
  | inl l ↦ inl (omega (arith, l))
  | inr l ↦ inr (omega (arith, l))
]

module _ {T : Type 0} (same : T → T → Bool) (at : ℕ → Option (ℕ × T)) (advice : ℕ → Advice)
    (run : Run T) (row : Advised) (range : IsRange same at run) (row_is : IsAdvised advice row)
  where
    abbrev GoesOn : ℕ → Type 0
    GoesOn page = goes_on_at same at advice page ≡ false

    -- neither continues across the border of a range, nor across that of a row
    begins-at : (first : ℕ) → 0 < first → (first ≡ run.first) ⊎ (first ≡ row.first) → GoesOn first
    begins-at first some (inl e) =
        subst GoesOn (sym e) (and_left (goes_on same (at (run.first - 1)) (at run.first))
        (same_advice (advice (run.first - 1)) (advice run.first))
        (begins-anew same at run.first (omega (arith, some, e)) range.begins))
    begins-at first some (inr e) =
        subst GoesOn (sym e) (and_right (goes_on same (at (row.first - 1)) (at row.first))
        (same_advice (advice (row.first - 1)) (advice row.first))
        (row_is.begins (omega (arith, some, e))))

    ends-at : (end : ℕ) → (end ≡ end_of run) ⊎ (end ≡ row.end) → GoesOn end
    ends-at end (inl e) =
        subst GoesOn (sym e) (and_left (goes_on same (at (end_of run - 1)) (at (end_of run)))
        (same_advice (advice (end_of run - 1)) (advice (end_of run))) range.ends)
    ends-at end (inr e) =
        subst GoesOn (sym e) (and_right (goes_on same (at (row.end - 1)) (at row.end))
        (same_advice (advice (row.end - 1)) (advice row.end)) row_is.ends)

    -- they have a page in common
    module _ (met : max run.first row.first < min (end_of run) row.end) where
      end-same : max run.first row.first + (min (end_of run) row.end - max run.first row.first)
          ≡ min (end_of run) row.end
      end-same = omega (arith, met)

      -- its pages are of both
      from : (page : ℕ) → (common_area run row).first ≤ page
          → (run.first ≤ page) × (row.first ≤ page)
      from page low =
          let low' : max run.first row.first ≤ page = low in
          (omega (arith, low'), omega (arith, low'))

      to : (page : ℕ) → page < (common_area run row).first + (common_area run row).pages
          → (page < end_of run) × (page < row.end)
      to page high =
          let high' : page < min (end_of run) row.end = subst (λ (n : ℕ). page < n) end-same high in
          (omega (arith, high'), omega (arith, high'))

      index-same : (page : ℕ) → (common_area run row).first ≤ page
          → run.index + (page - run.first)
          ≡ (common_area run row).index + (page - (common_area run row).first)
      index-same page low =
          let low' : max run.first row.first ≤ page = low in
          let same' : run.index + (page - run.first)
          ≡ run.index + (max run.first row.first - run.first) + (page - max run.first row.first) =
          omega (arith, low') in
          same'

      pub is-common : IsArea same at advice (common_area run row) run.value
      is-common = record {
        some = omega (arith, met);
        pages = λ page low high.
            range.pages page (from page low).0 (to page high).0
            ∙ ap (λ (n : ℕ). Some (n, run.value)) (index-same page low);
        advised = λ page low high. row_is.pages page (from page low).1 (to page high).1;
        begins = λ some. begins-at (max run.first row.first) some (greater run.first row.first);
        ends = subst GoesOn (sym end-same)
            (ends-at (min (end_of run) row.end) (lesser (end_of run) row.end));
      }
