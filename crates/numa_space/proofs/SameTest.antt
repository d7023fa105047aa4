-- The test by which a map of pages joins its ranges is `same_record`.
use Rattle.std.proofs.Common.{◌≡◌, Bool, true, sym, ◌∙◌, subst, inl, inr}
use Rattle.std.proofs.lemmas.Bool.{cases_Bool}
use Rattle.numa_space.specs.Same.{same_record}
use Rattle.numa_space.specs.Exact.{range-exact}
use Rattle.numa_space.proofs.Same.{same_record-exact, same_record-refl}
use Rattle.numa_space.specs.contracts.range_record.RangeRecordPartialEq.TheImpl as range_test
use Rattle.numa_space.specs.contracts.range_record.RangeRecordEq.TheImpl.Laws as range_law

-- two tests that hold of a value and itself, and of no two others, are one test
pub tests-agree : {A : Type 0} (f g : A → A → Bool) → ((a b : A) → f a b ≡ true → a ≡ b)
    → ((a : A) → f a a ≡ true) → ((a b : A) → g a b ≡ true → a ≡ b) → ((a : A) → g a a ≡ true)
    → (a b : A) → f a b ≡ g a b
tests-agree f g fe fr ge gr a b =
    elim (cases_Bool (f a b)) [
      | inl held ↦ held ∙ sym (subst (λ x. g a x ≡ true) (fe a b held) (gr a))
      | inr fails ↦ fails ∙ sym (elim (cases_Bool (g a b)) [
        | inl other ↦
            absurd (let same : f a b ≡ true = subst (λ x. f a x ≡ true) (ge a b other) (fr a) in cc)
        | inr none ↦ none
      ])
    ]

pub range_test-same : range_test.ghosts.eq ≡ same_record
range_test-same = λ i a b. tests-agree range_test.ghosts.eq same_record range-exact
    range_law.laws-law.refl same_record-exact same_record-refl a b i
