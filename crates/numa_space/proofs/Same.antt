-- Two records that the test says are one are equal.
use Rattle.std.proofs.Common.{◌≡◌, ℕ, Bool, true, false, eqb, ◌&&◌, Option, Some, None, refl, sym, ap, ◌∙◌}
use Rattle.std.proofs.Common.{inl, inr}
use Rattle.std.proofs.lemmas.Bool.{cases_Bool, and_parts, and_from, eqb-true, eq-eqb}
use Rattle.std.proofs.lemmas.Bool.{false_from_ne_true, both_ways}
use Rattle.numa_mode.specs.Policy.{PolicyRecord, Specification, mode_numbered}
use Rattle.numa_mode.specs.declared.modes.Mode.{Mode}
use Rattle.numa_mode.specs.declared.modes.Mode.TheVariants.{Default, Preferred, Bind, Interleave}
use Rattle.numa_mode.specs.declared.modes.Mode.TheVariants.{Local, PreferredMany}
use Rattle.numa_mode.specs.declared.modes.Mode.TheVariants.{WeightedInterleave}
use Rattle.numa_mode.specs.declared.modes.NodeFlag.{NodeFlag}
use Rattle.numa_mode.specs.declared.modes.NodeFlag.TheVariants.{Plain, Static, Relative}
use Rattle.numa_space.specs.Same.{mode_number, same_flag, same_home, same_specification}
use Rattle.numa_space.specs.Same.{same_record, same_scope}

mode_numbered-number : (mode : Mode) → mode_numbered (mode_number mode) ≡ Some mode
mode_numbered-number Default = refl
mode_numbered-number Preferred = refl
mode_numbered-number Bind = refl
mode_numbered-number Interleave = refl
mode_numbered-number Local = refl
mode_numbered-number PreferredMany = refl
mode_numbered-number WeightedInterleave = refl

mode-exact : (a b : Mode) → eqb (mode_number a) (mode_number b) ≡ true → a ≡ b
mode-exact a b h =
    let one : Some a ≡ Some b = sym (mode_numbered-number a)
    ∙ ap mode_numbered (eqb-true (mode_number a) (mode_number b) h) ∙ mode_numbered-number b in
    cc

flag-exact : (a b : NodeFlag) → same_flag a b ≡ true → a ≡ b
flag-exact Plain Plain h = refl
flag-exact Plain Static h = absurd (cc)
flag-exact Plain Relative h = absurd (cc)
flag-exact Static Plain h = absurd (cc)
flag-exact Static Static h = refl
flag-exact Static Relative h = absurd (cc)
flag-exact Relative Plain h = absurd (cc)
flag-exact Relative Static h = absurd (cc)
flag-exact Relative Relative h = refl

flag-refl : (a : NodeFlag) → same_flag a a ≡ true
flag-refl Plain = refl
flag-refl Static = refl
flag-refl Relative = refl

home-exact : (a b : Option ℕ) → same_home a b ≡ true → a ≡ b
home-exact None None h = refl
home-exact None (Some b) h = absurd (cc)
home-exact (Some a) None h = absurd (cc)
home-exact (Some a) (Some b) h = ap (λ n. Some n) (eqb-true a b h)

home-refl : (a : Option ℕ) → same_home a a ≡ true
home-refl None = refl
home-refl (Some a) = eq-eqb a a refl

scope-exact : (a b : Bool) → same_scope a b ≡ true → a ≡ b
scope-exact true true h = refl
scope-exact true false h = absurd (cc)
scope-exact false true h = absurd (cc)
scope-exact false false h = refl

scope-refl : (a : Bool) → same_scope a a ≡ true
scope-refl true = refl
scope-refl false = refl

specification-exact : (a b : Specification) → same_specification a b ≡ true → a ≡ b
specification-exact a b h =
    let first = and_parts (eqb (mode_number a.mode) (mode_number b.mode))
    (same_flag a.flag b.flag && eqb a.mask b.mask) h in
    let rest = and_parts (same_flag a.flag b.flag) (eqb a.mask b.mask) first.1 in
    λ i. record {
      mode = mode-exact a.mode b.mode first.0 i;
      flag =
          flag-exact a.flag b.flag rest.0 i;
      mask = eqb-true a.mask b.mask rest.1 i;
    }

specification-refl : (a : Specification) → same_specification a a ≡ true
specification-refl a = and_from _ _ (eq-eqb (mode_number a.mode) (mode_number a.mode) refl)
    (and_from _ _ (flag-refl a.flag) (eq-eqb a.mask a.mask refl))

pub same_record-exact : (a b : Option PolicyRecord) → same_record a b ≡ true → a ≡ b
same_record-exact None None h = refl
same_record-exact None (Some b) h = absurd (cc)
same_record-exact (Some a) None h = absurd (cc)
same_record-exact (Some a) (Some b) h =
    let first = and_parts (same_specification a.spec b.spec)
    (eqb a.effective b.effective && (same_home a.home b.home
    && same_scope a.of_object b.of_object)) h in
    let rest = and_parts (eqb a.effective b.effective) (same_home a.home b.home
    && same_scope a.of_object b.of_object) first.1 in
    let last = and_parts (same_home a.home b.home) (same_scope a.of_object b.of_object) rest.1 in
    λ i.
    Some (record {
      spec = specification-exact a.spec b.spec first.0 i;
      effective =
          eqb-true a.effective b.effective rest.0 i;
      home = home-exact a.home b.home last.0 i;
      of_object = scope-exact a.of_object b.of_object last.1 i;
    })

pub same_record-refl : (a : Option PolicyRecord) → same_record a a ≡ true
same_record-refl None = refl
same_record-refl (Some a) = and_from _ _ (specification-refl a.spec)
    (and_from _ _ (eq-eqb a.effective a.effective refl)
    (and_from _ _ (home-refl a.home) (scope-refl a.of_object)))

-- any two tests that are true of equal values alone count the same ranges
module _ {T : Type 0} (f g : T → T → Bool) (f-exact : (a b : T) → f a b ≡ true → a ≡ b)
    (f-refl : (a : T) → f a a ≡ true) (g-exact : (a b : T) → g a b ≡ true → a ≡ b)
    (g-refl : (a : T) → g a a ≡ true) where
  pub tests-agree : (a b : T) → f a b ≡ g a b
  tests-agree a b =
      elim (cases_Bool (f a b)) [
        | inl t ↦ t ∙ sym (ap (g a) (sym (f-exact a b t)) ∙ g-refl a)
        | inr n ↦ n
            ∙ sym
            (false_from_ne_true (g a b)
            (λ t. both_ways (f a b) n (ap (f a) (sym (g-exact a b t)) ∙ f-refl a)))
      ]
