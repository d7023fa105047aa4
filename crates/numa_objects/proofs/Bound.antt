-- Objects of which a span of places gets another policy.
use Rattle.std.proofs.Common.{◌≡◌, ℕ, zero, suc, ◌+◌, ◌-◌, ◌*◌, ◌/◌, ◌%◌, ◌^◌, ◌<◌, ◌≤◌, true, false}
use Rattle.std.proofs.Common.{Option, Some, None, List, [], ◌∷◌, length, map, eqb, refl, sym, ap}
use Rattle.std.proofs.Common.{◌∙◌, get_or, subst, arith, inl, inr}
use Rattle.std.specs.Prelude.{slice_get, slice_set, if◌then◌else◌, option_and_then, All}
use Rattle.std.proofs.lemmas.Bool.{cases_Bool, cases_lt, eq-eqb, eqb-true, le-leb}
use Rattle.std.proofs.lemmas.Bool.{le-ltb, lt-leb, lt-ltb}
use Rattle.numa_mode.specs.Policy.{PolicyRecord}
use Rattle.numa_ranges.specs.Runs.{in_pages}
use Rattle.numa_ranges.proofs.Apart.{in_pages-true, in_pages-below, in_pages-above}
use Rattle.numa_objects.specs.Changes.{AreBound, bind_cause, bound_policy, identity, ranges_after}
use Rattle.numa_objects.specs.Changes.{when}
use Rattle.numa_objects.specs.Objects.{ObjectData, policy_in_turn, policy_of, ranges_beside}
use Rattle.numa_objects.specs.Objects.{ranges_by, shared_policy}
use Rattle.numa_objects.specs.Spots.{is_shared, slot_of, turn_of}
use Rattle.numa_objects.specs.declared.fault.ObjectFault.TheVariants.{TooManyRanges}

-- ---- indexes

pub shared-from : (index : ℕ) → 2 ^ 37 ≤ index → is_shared index ≡ true
unfolding is_shared
shared-from index high = le-leb (2 ^ 37) index high

pub shared-below : (index : ℕ) → index < 2 ^ 37 → is_shared index ≡ false
unfolding is_shared
shared-below index low = lt-leb (2 ^ 37) index low

pub shared-end : (index : ℕ) → is_shared index ≡ true → 2 ^ 37 ≤ index
shared-end index is =
    elim (cases_lt index (2 ^ 37)) [
      | inl low ↦ absurd (let odd : true ≡ false = sym is ∙ shared-below index low in cc)
      | inr high ↦ high
    ]

-- an index is that of its slot and turn
pub index-whole : (index : ℕ) → 2 ^ 37 ≤ index
    → index ≡ 2 ^ 37 + slot_of index * 2 ^ 36 + turn_of index
unfolding slot_of turn_of
index-whole index high = omega (arith, high)

pub turn-few : (index : ℕ) → turn_of index < 2 ^ 36
unfolding turn_of
turn-few index = omega arith

-- so many further in the slot
pub slot-later : (index q : ℕ) → 2 ^ 37 ≤ index → turn_of index + q < 2 ^ 36
    → slot_of (index + q) ≡ slot_of index
unfolding slot_of turn_of
slot-later index q high low = omega (arith, high, low)

pub turn-later : (index q : ℕ) → 2 ^ 37 ≤ index → turn_of index + q < 2 ^ 36
    → turn_of (index + q) ≡ turn_of index + q
unfolding slot_of turn_of
turn-later index q high low = omega (arith, high, low)

-- ---- a list with another element

module _ {X : Type 0} where
  pub get-set : (xs : List X) (i : ℕ) (x : X) → i < length xs → slice_get (slice_set xs i x) i
      ≡ Some x
  get-set [] i x low = absurd (omega arith)
  get-set (y ∷ xs) zero x low = refl
  get-set (y ∷ xs) (suc i) x low = get-set xs i x (omega arith)

  pub get-other : (xs : List X) (i j : ℕ) (x : X) → (i ≡ j → ⊥)
      → slice_get (slice_set xs i x) j ≡ slice_get xs j
  get-other [] i j x apart = refl
  get-other (y ∷ xs) zero zero x apart = absurd (apart refl)
  get-other (y ∷ xs) zero (suc j) x apart = refl
  get-other (y ∷ xs) (suc i) zero x apart = refl
  get-other (y ∷ xs) (suc i) (suc j) x apart = get-other xs i j x (λ same. apart (ap suc same))

  pub there-low : (xs : List X) (i : ℕ) (x : X) → slice_get xs i ≡ Some x → i < length xs
  there-low [] i x there = absurd (cc)
  there-low (y ∷ xs) zero x there = omega arith
  there-low (y ∷ xs) (suc i) x there = omega (arith, there-low xs i x there)

  pub map-set : {Y : Type 0} (f : X → Y) (xs : List X) (i : ℕ) (x y : X) → slice_get xs i ≡ Some y
      → f x ≡ f y → map f (slice_set xs i x) ≡ map f xs
  map-set f [] i x y there same = refl
  map-set f (z ∷ xs) zero x y there same =
      let is : Some z ≡ Some y = there in
      let here : z ≡ y = cc in
      ap (λ v. v ∷ map f xs) (same ∙ ap f (sym here))
  map-set f (z ∷ xs) (suc i) x y there same = ap (λ l. f z ∷ l) (map-set f xs i x y there same)

-- ---- the policies

module _ (old : List ObjectData) (index pages slot : ℕ) (policy : Option PolicyRecord)
    (object changed : ObjectData) (some : 0 < pages) (shared : 2 ^ 37 ≤ index)
    (is : slot ≡ slot_of index) (there : slice_get old slot ≡ Some object)
    (from : object.inode ≤ turn_of index)
    (to : turn_of index - object.inode + pages ≤ 2 ^ 35) (inode : object.inode < 2 ^ 35)
    (same : identity changed ≡ identity object)
    (policies : (place : ℕ) → policy_of changed place
    ≡ bound_policy (turn_of index - object.inode) pages policy (policy_of object) place)
  where
    new : List ObjectData
    new = slice_set old slot changed

    same-inode : changed.inode ≡ object.inode
    same-inode = ap (λ (p : ℕ × ℕ). p.1) same

    -- in the slot
    in-slot : (other : ℕ) → 2 ^ 37 ≤ other → slot_of other ≡ slot_of index
        → policy_in_turn changed (turn_of other)
        ≡ (if in_pages index pages other then policy else policy_in_turn object (turn_of other))
    in-slot other high here =
        let a = index-whole index shared in
        let b = index-whole other high in
        let scaled : slot_of other * 2 ^ 36 ≡ slot_of index * 2 ^ 36 = ap (λ n. n * 2 ^ 36) here in
        elim (cases_lt (turn_of other) object.inode) [
          | inl low ↦
              let below : other < index = omega (arith, a, b, scaled, low, from) in
              rw (
                same-inode,
                lt-ltb (turn_of other) object.inode low,
                in_pages-below index pages other below,
              ) refl
          | inr place ↦
              let span : in_pages (turn_of index - object.inode) pages
              (turn_of other - object.inode) ≡ in_pages index pages other =
              elim (cases_lt other index) [
                | inl before ↦
                    in_pages-below (turn_of index - object.inode) pages
                    (turn_of other - object.inode) (omega (arith, a, b, scaled, before, place))
                    ∙ sym (in_pages-below index pages other before)
                | inr after ↦ elim (cases_lt other (index + pages)) [
                  | inl inside ↦
                      in_pages-true (turn_of index - object.inode) pages
                      (turn_of other - object.inode) (omega (arith, a, b, scaled, after, from))
                      (omega (arith, a, b, scaled, inside, from, place))
                      ∙ sym (in_pages-true index pages other after inside)
                  | inr past ↦
                      in_pages-above (turn_of index - object.inode) pages
                      (turn_of other - object.inode) (omega (arith, a, b, scaled, past, from, place))
                      ∙ sym (in_pages-above index pages other past)
                ]
              ] in
              rw (same-inode, le-ltb (turn_of other) object.inode place)
              (policies (turn_of other - object.inode)
              ∙ ap (λ b. if b then policy else policy_of object (turn_of other - object.inode)) span)
        ]

    -- in another slot no index is of the span
    out-of-slot : (other : ℕ) → 2 ^ 37 ≤ other → (slot_of index ≡ slot_of other → ⊥)
        → in_pages index pages other ≡ false
    out-of-slot other high apart =
        let a = index-whole index shared in
        let b = index-whole other high in
        let c = turn-few index in
        let d = turn-few other in
        elim (cases_lt other index) [
          | inl before ↦ in_pages-below index pages other before
          | inr after ↦ elim (cases_lt other (index + pages)) [
            | inr past ↦ in_pages-above index pages other past
            | inl inside ↦
                let far : other ≡ index + (other - index) = omega (arith, after) in
                let within : turn_of index + (other - index) < 2 ^ 36 =
                omega (arith, inside, from, to, inode) in
                absurd (apart (sym (ap slot_of far ∙ slot-later index (other - index) shared within)))
          ]
        ]

    slots : (other : ℕ) → 2 ^ 37 ≤ other → shared_policy new other
        ≡ (if in_pages index pages other then policy else shared_policy old other)
    unfolding new
    slots other high =
        elim (cases_Bool (eqb (slot_of other) (slot_of index))) [
          | inl t ↦
              let here : slot_of other ≡ slot_of index = eqb-true (slot_of other) (slot_of index) t in
              let at : slice_get (slice_set old slot changed) (slot_of other) ≡ Some changed =
              ap (slice_get (slice_set old slot changed)) (here ∙ sym is)
              ∙ get-set old slot changed (there-low old slot object there) in
              let was : slice_get old (slot_of other) ≡ Some object =
              ap (slice_get old) (here ∙ sym is) ∙ there in
              rw (shared-from other high, at, was) (in-slot other high here)
          | inr f ↦
              let apart : (slot_of index ≡ slot_of other → ⊥) = λ same.
              let t : eqb (slot_of other) (slot_of index) ≡ true =
              eq-eqb (slot_of other) (slot_of index) (sym same) in cc in
              let beside : slice_get (slice_set old slot changed) (slot_of other)
              ≡ slice_get old (slot_of other) =
              get-other old slot (slot_of other) changed (λ same. apart (sym is ∙ same)) in
              rw (shared-from other high, beside, out-of-slot other high apart) refl
        ]

    pub are-bound : AreBound old index pages policy (slice_set old slot changed)
    unfolding new
    are-bound = record {
      identities = map-set identity old slot changed object there same;
      policies = λ other. elim (cases_lt other (2 ^ 37)) [
        | inl low ↦
            rw (
              shared-below other low,
              in_pages-below index pages other (omega (arith, low, shared)),
            ) refl
        | inr high ↦ slots other high
      ];
    }

-- ---- a call

-- an element that is read is the one that stands there
index-there : (items : List ObjectData) (slot : ℕ) (read object : ObjectData)
    → read ≡ get_or items slot read → slice_get items slot ≡ Some object → read ≡ object
index-there [] slot read object is there = absurd cc
index-there (x ∷ items) zero read object is there =
    let same : x ≡ object = cc in is ∙ same
index-there (x ∷ items) (suc slot) read object is there =
    index-there items slot read object is there

module _ (old items : List ObjectData) (index pages slot turn inode : ℕ)
    (policy : Option PolicyRecord) (object read asked : ObjectData) (whole : items ≡ old)
    (is_slot : slot ≡ slot_of index) (there : slice_get old (slot_of index) ≡ Some object)
    (item : read ≡ get_or items slot read) (is_asked : asked ≡ read)
    (is_turn : turn ≡ turn_of index) (is_inode : inode ≡ asked.inode) where
  in-items : slice_get items slot ≡ Some object
  in-items = (λ i. slice_get (whole i) (is_slot i)) ∙ there

  pub found : asked ≡ object
  found = is_asked ∙ index-there items slot read object item in-items

  pub slot-low : slot < length items
  slot-low = there-low items slot object in-items

  pub place-is : turn - inode ≡ turn_of index - object.inode
  place-is = λ i. is_turn i - (is_inode ∙ ap (λ (o : ObjectData). o.inode) found) i

  -- a piece of the object has one policy
  pub piece-same : (count : ℕ) (value : Option PolicyRecord) → 2 ^ 37 ≤ index
      → object.inode ≤ turn_of index → turn_of index - object.inode + pages ≤ 2 ^ 35
      → inode < 2 ^ 35 → count ≤ pages
      → ((q : ℕ) → q < count → policy_of asked (turn - inode + q) ≡ value)
      → (q : ℕ) → q < count → shared_policy old (index + q) ≡ value
  piece-same count value shared from to low few same q less =
      let number : inode ≡ object.inode = is_inode ∙ ap (λ (o : ObjectData). o.inode) found in
      let within : turn_of index + q < 2 ^ 36 = omega (arith, from, to, number, low, few, less) in
      let later : turn_of (index + q) ≡ turn_of index + q = turn-later index q shared within in
      let at : slice_get old (slot_of (index + q)) ≡ Some object =
      ap (slice_get old) (slot-later index q shared within) ∙ there in
      let place : turn_of (index + q) - object.inode ≡ turn_of index - object.inode + q =
      omega (arith, later, from) in
      rw (
        shared-from (index + q) (omega (arith, shared)),
        at,
        le-ltb (turn_of (index + q)) object.inode (omega (arith, later, from)),
      ) (ap (policy_of object) place ∙ sym (λ i. policy_of (found i) (place-is i + q))
      ∙ same q less)

  module _ (beside after : ℕ) (is_beside : beside ≡ ranges_beside slot items)
      (is_after : after ≡ ranges_by (bound_policy (turn - inode) pages policy (policy_of asked)))
    where
      total : ranges_after old (slot_of index) object (turn_of index - object.inode) pages policy
          ≡ beside + after
      total =
          let a : ranges_beside (slot_of index) old ≡ beside =
          sym (is_beside ∙ (λ i. ranges_beside (is_slot i) (whole i))) in
          let b : ranges_by (bound_policy (turn_of index - object.inode) pages policy
          (policy_of object)) ≡ after =
          sym (is_after ∙ (λ i. ranges_by (bound_policy (place-is i) pages policy
          (policy_of (found i))))) in
          λ i. a i + b i

      pub cause-none : beside + after ≤ 65536 → bind_cause old index pages policy ≡ None
      cause-none few =
          rw there (ap (λ b. when b TooManyRanges) (le-ltb 65536 (ranges_after old (slot_of index)
          object (turn_of index - object.inode) pages policy) (omega (arith, total, few))))

      pub cause-some : 65536 < beside + after
          → bind_cause old index pages policy ≡ Some TooManyRanges
      cause-some many =
          rw there (ap (λ b. when b TooManyRanges) (lt-ltb 65536 (ranges_after old (slot_of index)
          object (turn_of index - object.inode) pages policy) (omega (arith, total, many))))

  module _ (changed : ObjectData) (same : identity changed ≡ identity asked)
      (policies : (place : ℕ) → policy_of changed place
      ≡ bound_policy (turn - inode) pages policy (policy_of asked) place) where
    pub changed-ranges : ranges_by (policy_of changed)
        ≡ ranges_by (bound_policy (turn - inode) pages policy (policy_of asked))
    changed-ranges =
        let all : policy_of changed ≡ bound_policy (turn - inode) pages policy (policy_of asked) =
        λ i place. policies place i in
        ap ranges_by all

    pub call-bound : 0 < pages → 2 ^ 37 ≤ index → object.inode ≤ turn_of index
        → turn_of index - object.inode + pages ≤ 2 ^ 35 → inode < 2 ^ 35
        → AreBound old index pages policy (slice_set items slot changed)
    call-bound some shared from to low =
        let number : inode ≡ object.inode = is_inode ∙ ap (λ (o : ObjectData). o.inode) found in
        subst (λ (l : List ObjectData). AreBound old index pages policy (slice_set l slot changed))
        (sym whole)
        (are-bound old index pages slot policy object changed some shared is_slot
        (ap (slice_get old) is_slot ∙ there) from to (omega (arith, number, low))
        (same ∙ ap identity found) (λ place. policies place
        ∙ (λ i. bound_policy (place-is i) pages policy (policy_of (found i)) place)))
