-- Objects with one more, or with another in a slot: what is kept of them.
use Rattle.std.proofs.Common.{◌≡◌, ℕ, zero, suc, ◌+◌, ◌-◌, ◌<◌, ◌≤◌, ◌^◌, Bool, true, false, List}
use Rattle.std.proofs.Common.{[], ◌∷◌, ◌++◌, length, eqb, refl, sym, ap, ◌∙◌, arith, inl, inr}
use Rattle.std.specs.Prelude.{slice_set, All, if◌then◌else◌}
use Rattle.std.proofs.lemmas.Bool.{cases_Bool, ne_eqb}
use Rattle.std.proofs.lemmas.List.{length-append, length-set}
use Rattle.std.proofs.lemmas.List.Elements.{All-append, All-cons, All-nil, All-set}
use Rattle.numa_objects.specs.Objects.{AreObjects, IsObject, ObjectData, ranges_beside, ranges_in}

-- ---- how many ranges there are

pub beside-few : (slot : ℕ) (items : List ObjectData) → ranges_beside slot items ≤ ranges_in items
beside-few slot [] = omega arith
beside-few slot (object ∷ items) =
    elim (cases_Bool (eqb slot 0)) [
      | inl first ↦ rw first (omega arith)
      | inr later ↦ rw later (omega (arith, beside-few (slot - 1) items))
    ]

ranges-added : (items : List ObjectData) (object : ObjectData)
    → ranges_in (items ++ object ∷ []) ≡ ranges_in items + length object.policies
ranges-added [] object = omega arith
ranges-added (first ∷ items) object = omega (arith, ranges-added items object)

ranges-set : (items : List ObjectData) (slot : ℕ) (object : ObjectData) → slot < length items
    → ranges_in (slice_set items slot object)
    ≡ ranges_beside slot items + length object.policies
ranges-set [] slot object low = absurd (omega (arith, low))
ranges-set (first ∷ items) zero object low = omega arith
ranges-set (first ∷ items) (suc slot) object low =
    let later : eqb (suc slot) 0 ≡ false = ne_eqb (suc slot) 0 (λ e. omega (arith, e)) in
    let less : suc slot - 1 ≡ slot = omega arith in
    let rest : ranges_in (slice_set items slot object)
    ≡ ranges_beside slot items + length object.policies =
    ranges-set items slot object (omega (arith, low)) in
    rw (later, less) (omega (arith, rest))

-- one more, where there is room for one
pub added-few : (ranges : ℕ) (given : Bool) (more : ℕ) → more ≡ (if given then 1 else 0)
    → ranges ≤ 65536 → (given ≡ true → ranges < 65536) → ranges + more ≤ 65536
added-few ranges true more is few room = omega (arith, is, room refl)
added-few ranges false more is few room = omega (arith, is, few)

-- ---- what is kept

pub objects-added : (items : List ObjectData) (object : ObjectData) → AreObjects items
    → IsObject object → length items < 1024 → ranges_in items + length object.policies ≤ 65536
    → AreObjects (items ++ object ∷ [])
objects-added items object are is room few = record {
  each = All-append IsObject items (object ∷ []) are.each
      (All-cons IsObject object [] is (All-nil IsObject));
  few = omega (arith, length-append items (object ∷ []), room);
  few_ranges = omega (arith, ranges-added items object, few);
}

pub objects-set : (items : List ObjectData) (slot : ℕ) (object : ObjectData) → AreObjects items
    → IsObject object → slot < length items
    → ranges_beside slot items + length object.policies ≤ 65536
    → AreObjects (slice_set items slot object)
objects-set items slot object are is low few = record {
  each = All-set IsObject items slot object is are.each;
  few = omega (arith, length-set items slot object, are.few);
  few_ranges = omega (arith, ranges-set items slot object low, few);
}
