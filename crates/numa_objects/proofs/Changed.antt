-- A map of places of which a span is unmapped, and gets a policy, if there is one.
use Rattle.std.proofs.Common.{◌≡◌, ℕ, ◌+◌, ◌-◌, ◌<◌, ◌≤◌, ◌^◌, true, false, Option, Some, None, List}
use Rattle.std.proofs.Common.{[], ◌∷◌, length, refl, sym, ap, subst, ◌∙◌, arith, inl, inr}
use Rattle.std.specs.Prelude.{is_some, nat_le, nat_lt, option_map, if◌then◌else◌}
use Rattle.std.specs.Option.{ForSome}
use Rattle.std.proofs.lemmas.Bool.{and_parts, cases_Bool, leb-true}
use Rattle.numa_mode.specs.Policy.{PolicyRecord}
use Rattle.numa_ranges.specs.Maps.{Shows, with_span, without_span}
use Rattle.numa_ranges.specs.Runs.{AreApart, AreMaximal, in_pages, page_at}
use Rattle.numa_ranges.specs.declared.run.Run.{Run}
use Rattle.numa_objects.specs.Changes.{bound_policy, with_policy}
use Rattle.numa_objects.specs.Counting.{bound_run}

-- where there is none, and where there is one
for-none : (place : ℕ) (x : ℕ × PolicyRecord) → None ≡ Some x → x.0 ≡ place
for-none place x is = absurd (let odd : false ≡ true = ap is_some is in cc)

abbrev place_or : Option (ℕ × PolicyRecord) → ℕ
place_or None = 0
place_or (Some at) = at.0

for-one : (at : ℕ × PolicyRecord) (place : ℕ) → at.0 ≡ place → (x : ℕ × PolicyRecord)
    → Some at ≡ Some x → x.0 ≡ place
for-one at place same x is = sym (ap place_or is) ∙ same

-- the lowest place of a span that has one
low-of : (first pages place : ℕ) → in_pages first pages place ≡ true → first ≤ place
low-of first pages place inside = leb-true first place
    (and_parts (nat_le first place) (nat_lt place (first + pages)) inside).0

module _ (first pages : ℕ) (at : ℕ → Option (ℕ × PolicyRecord)) where
  gone : (place : ℕ) → in_pages first pages place ≡ true → without_span first pages at place ≡ None
  gone place inside = rw inside refl

  kept : (place : ℕ) → in_pages first pages place ≡ false
      → without_span first pages at place ≡ at place
  kept place outside = rw outside refl

  -- what the second call leaves at a place
  abbrev made : Option PolicyRecord → ℕ → Option (ℕ × PolicyRecord)
  made policy place = with_policy first pages policy (without_span first pages at) place

  pub made-policy : (policy : Option PolicyRecord) (place : ℕ)
      → option_map (λ p. p.1) (made policy place)
      ≡ bound_policy first pages policy (λ other. option_map (λ p. p.1) (at other)) place
  made-policy None place =
      elim (cases_Bool (in_pages first pages place)) [
        | inl inside ↦ rw inside refl
        | inr outside ↦ rw outside refl
      ]
  made-policy (Some r) place =
      elim (cases_Bool (in_pages first pages place)) [
        | inl inside ↦ rw inside refl
        | inr outside ↦ rw outside refl
      ]

  pub made-place : (policy : Option PolicyRecord) (place : ℕ)
      → ForSome (at place) (λ p. p.0 ≡ place) → ForSome (made policy place) (λ p. p.0 ≡ place)
  made-place None place is =
      elim (cases_Bool (in_pages first pages place)) [
        | inl inside ↦ rw inside (for-none place)
        | inr outside ↦ rw outside is
      ]
  made-place (Some r) place is =
      elim (cases_Bool (in_pages first pages place)) [
        | inl inside ↦
            rw inside
            (for-one (first + (place - first), r) place
            (omega (arith, low-of first pages place inside)))
        | inr outside ↦ rw outside is
      ]

-- a map that came to say so
pub put-policy : (first pages : ℕ) (policy : Option PolicyRecord)
    (at mid new : ℕ → Option (ℕ × PolicyRecord))
    → ((place : ℕ) → mid place ≡ without_span first pages at place)
    → ((place : ℕ) → new place ≡ with_policy first pages policy mid place) → (place : ℕ)
    → option_map (λ p. p.1) (new place)
    ≡ bound_policy first pages policy (λ other. option_map (λ p. p.1) (at other)) place
put-policy first pages policy at mid new cut put place =
    let whole : mid ≡ without_span first pages at = λ i p. cut p i in
    ap (option_map (λ (p : ℕ × PolicyRecord). p.1))
    (put place ∙ ap (λ (m : ℕ → Option (ℕ × PolicyRecord)). with_policy first pages policy m place)
    whole) ∙ made-policy first pages at policy place

pub put-place : (first pages : ℕ) (policy : Option PolicyRecord)
    (at mid new : ℕ → Option (ℕ × PolicyRecord))
    → ((place : ℕ) → mid place ≡ without_span first pages at place)
    → ((place : ℕ) → new place ≡ with_policy first pages policy mid place)
    → ((place : ℕ) → ForSome (at place) (λ p. p.0 ≡ place)) → (place : ℕ)
    → ForSome (new place) (λ p. p.0 ≡ place)
put-place first pages policy at mid new cut put places place =
    let whole : mid ≡ without_span first pages at = λ i p. cut p i in
    subst (λ (o : Option (ℕ × PolicyRecord)). ForSome o (λ p. p.0 ≡ place))
    (sym (put place ∙ ap (λ (m : ℕ → Option (ℕ × PolicyRecord)). with_policy first pages policy m
    place) whole)) (made-place first pages at policy place (places place))

-- ---- an object that is made

pub first-policy : (pages : ℕ) (policy : Option PolicyRecord) (place : ℕ)
    → option_map (λ p. p.1) (with_policy 0 pages policy (λ other. None) place)
    ≡ bound_policy 0 pages policy (λ other. None) place
first-policy pages None place =
    elim (cases_Bool (in_pages 0 pages place)) [
      | inl inside ↦ rw inside refl
      | inr outside ↦ rw outside refl
    ]
first-policy pages (Some r) place =
    elim (cases_Bool (in_pages 0 pages place)) [
      | inl inside ↦ rw inside refl
      | inr outside ↦ rw outside refl
    ]

pub first-place : (pages : ℕ) (policy : Option PolicyRecord) (place : ℕ)
    → ForSome (with_policy 0 pages policy (λ other. None) place) (λ p. p.0 ≡ place)
first-place pages None place = for-none place
first-place pages (Some r) place =
    elim (cases_Bool (in_pages 0 pages place)) [
      | inl inside ↦ rw inside (for-one (0 + (place - 0), r) place (omega arith))
      | inr outside ↦ rw outside (for-none place)
    ]

-- it has one range, if its places have a policy, since no other ranges say the same
pub first-ranges : (pages : ℕ) (policy : Option PolicyRecord) (runs : List (Run PolicyRecord))
    → 0 < pages → pages ≤ 2 ^ 35
    → ((others : List (Run PolicyRecord)) → AreApart 0 others → AreMaximal others
    → Shows others (page_at runs) → others ≡ runs)
    → Shows runs (with_policy 0 pages policy (λ other. None))
    → length runs ≡ (if is_some policy then 1 else 0)
first-ranges pages None runs some within alone shows =
    sym (ap length (alone [] (omega arith) tt (λ page. sym (shows page))))
first-ranges pages (Some r) runs some within alone shows =
    sym (ap length (alone (bound_run 0 pages (Some r))
    (omega arith, some, omega (arith, within), omega (arith, within)) (tt, tt)
    (λ page. sym (shows page))))
