-- Tests over the pages of a span.
use Rattle.std.proofs.Common.{◌≡◌, ℕ, zero, suc, ◌+◌, ◌<◌, ◌≤◌, Bool, true, false, ◌||◌, refl, ap}
use Rattle.std.proofs.Common.{◌∙◌, arith, inl, inr}
use Rattle.std.proofs.Math.Bool.{or-true}
use Rattle.std.proofs.lemmas.Bool.{cases_eq}
use Rattle.std.specs.List.{list_any, range_with_len}
use Rattle.numa_ranges.specs.Maps.{any_page}

pub any_page-true : (test : ℕ → Bool) (first pages page : ℕ) → first ≤ page → page < first + pages
    → test page ≡ true → any_page test first pages ≡ true
unfolding any_page
any_page-true test first zero page low high h = absurd (omega arith)
any_page-true test first (suc pages) page low high h =
    elim (cases_eq first page) [
      | inl e ↦ ap (λ b. b || list_any test (range_with_len (first + 1) pages)) (ap test e ∙ h)
      | inr ne ↦
          ap (λ b. test first || b)
          (any_page-true test (first + 1) pages page (omega arith) (omega arith) h) ∙ or-true _
    ]

pub any_page-false : (test : ℕ → Bool) (first pages : ℕ)
    → ((page : ℕ) → first ≤ page → page < first + pages → test page ≡ false)
    → any_page test first pages ≡ false
unfolding any_page
any_page-false test first zero h = refl
any_page-false test first (suc pages) h =
    rw (h first (omega arith) (omega arith))
    (any_page-false test (first + 1) pages
    (λ page low high. h page (omega arith) (omega arith)))
