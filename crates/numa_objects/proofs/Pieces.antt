-- The first piece of places that have one policy: a walk over the runs from a place on.
use Rattle.std.proofs.Common.{◌≡◌, ℕ, ◌+◌, ◌-◌, ◌<◌, ◌≤◌, Option, Some, None, List, [], ◌∷◌, refl}
use Rattle.std.proofs.Common.{sym, ap, subst, ◌∙◌, arith}
use Rattle.std.specs.Prelude.{option_map}
use Rattle.numa_mode.specs.Policy.{PolicyRecord}
use Rattle.numa_ranges.specs.Runs.{page_at, end_of, AreApart}
use Rattle.numa_ranges.specs.declared.run.Run.{Run}
use Rattle.numa_ranges.proofs.Apart.{in_pages-above, in_pages-true, page_at-before}

module _ (runs left rest : List (Run PolicyRecord)) (run : Run PolicyRecord) (place low : ℕ)
    (opens : left ≡ run ∷ rest) (apart : AreApart low left)
    (same : (page : ℕ) → place ≤ page → page_at left page ≡ page_at runs page) where
  whole : AreApart low (run ∷ rest)
  whole = subst (AreApart low) opens apart

  -- before the run no place has a policy
  pub gap-policy : (q : ℕ) → place + q < run.first
      → option_map (λ at. at.1) (page_at runs (place + q)) ≡ None
  gap-policy q early =
      ap (option_map (λ (at : ℕ × PolicyRecord). at.1))
      (sym (same (place + q) (omega arith)) ∙ ap (λ l. page_at l (place + q)) opens
      ∙ page_at-before run.first (run ∷ rest) (place + q)
      (omega arith, whole.1, whole.2, whole.3) early)

  -- in it each has its own
  pub run-policy : (q : ℕ) → run.first ≤ place → place + q < end_of run
      → option_map (λ at. at.1) (page_at runs (place + q)) ≡ Some run.value
  run-policy q from inside =
      ap (option_map (λ (at : ℕ × PolicyRecord). at.1))
      (sym (same (place + q) (omega arith)) ∙ ap (λ l. page_at l (place + q)) opens)
      ∙ rw (in_pages-true run.first run.pages (place + q) (omega (arith, from)) inside) refl

  -- behind it the runs that are left say what all do
  pub behind-same : end_of run ≤ place → (page : ℕ) → place ≤ page
      → page_at rest page ≡ page_at runs page
  behind-same past page high =
      sym (ap (λ l. page_at l page) opens
      ∙ rw (in_pages-above run.first run.pages page (omega (arith, past, high))) refl)
      ∙ same page high

  pub behind-apart : AreApart (end_of run) rest
  behind-apart = whole.3

-- where no run is left
pub none-policy : (runs left : List (Run PolicyRecord)) (place q : ℕ) → left ≡ []
    → ((page : ℕ) → place ≤ page → page_at left page ≡ page_at runs page)
    → option_map (λ at. at.1) (page_at runs (place + q)) ≡ None
none-policy runs left place q is same =
    ap (option_map (λ (at : ℕ × PolicyRecord). at.1))
    (sym (same (place + q) (omega arith)) ∙ ap (λ l. page_at l (place + q)) is)
