-- Reading a list: what an item is.
use Rattle.std.proofs.Common.{◌≡◌, ℕ, zero, suc, ◌+◌, ◌-◌, ◌*◌, ◌^◌, ◌<◌, ◌≤◌, ◌==◌, Bool, true}
use Rattle.std.proofs.Common.{false, ◌&&◌, ◌||◌, cond, leb, List, [], ◌∷◌, ◌++◌, length, take, drop}
use Rattle.std.proofs.Common.{get_or, slice_get, position, Option, Some, None, Result, Ok, Err}
use Rattle.std.proofs.Common.{refl, sym, ap, ◌∙◌, arith}
use Rattle.std.specs.Char.{is_digit, digit_value}
use Rattle.std.specs.List.{list_all, fold, flat_map, range_with_len}
use Rattle.std.specs.Str.Parse.{digits_value}
use Rattle.std.proofs.lemmas.List.Folds.{list_all_at, list_all_more}
use Rattle.std.proofs.lemmas.List.Sums.{fold-append}
use Rattle.std.proofs.lemmas.Bool.Decides.{nat_tests}
use Rattle.std.proofs.lemmas.Bool.{ltb-true, lt-ltb, le-ltb, le-leb, lt-leb}
use Rattle.numa_mask.specs.declared.list.ListFault.{ListFault}
use Rattle.numa_mask.specs.declared.list.ListFault.TheVariants.{Empty, BackRange, NodeTooHigh}
use Rattle.numa_mask.specs.NodeSet.{with_node}
use Rattle.numa_mask.specs.Lists.{digit_of, numeral_of, both_of, ends_at, ends_of, ends_or_fault}
use Rattle.numa_mask.specs.Lists.{item_of, nodes_between, nodes_in, faults_of, unless}

-- ---- numerals

none_in : (a b c : Bool) (n : ℕ) → c ≡ false → cond (a && b && c) (Some n) None
    ≡ (let none : Option ℕ = None in none)
none_in true true c n h = rw h refl
none_in true false c n h = refl
none_in false b c n h = refl

-- a byte that is no digit
pub no_digit : (digits : List ℕ) (i : ℕ) → i < length digits → is_digit (get_or digits i 0) 10
    ≡ false → numeral_of digits ≡ None
unfolding numeral_of
no_digit digits i lt h = none_in (leb 1 (length digits)) (leb (length digits) 4) _ _
    (list_all_at (λ c. is_digit c 10) digits i 0 lt h)

pub no_length : (digits : List ℕ) → (leb 1 (length digits) && leb (length digits) 4) ≡ false
    → numeral_of digits ≡ None
unfolding numeral_of
no_length digits h = rw h refl

pub all_digits : (digits : List ℕ) → 0 < length digits → length digits ≤ 4
    → list_all (λ c. is_digit c 10) digits ≡ true
    → numeral_of digits ≡ Some (digits_value 10 digits)
unfolding numeral_of
all_digits digits some few h =
    let one : leb 1 (length digits) ≡ true = grind (arith, nat_tests) in
    let four : leb (length digits) 4 ≡ true = grind (arith, nat_tests) in
    rw (one, four, h) refl

pub more_digits : (digits : List ℕ) (i : ℕ) → i < length digits
    → list_all (λ c. is_digit c 10) (take i digits) ≡ true → is_digit (get_or digits i 0) 10 ≡ true
    → list_all (λ c. is_digit c 10) (take (i + 1) digits) ≡ true
more_digits digits i lt h d = rw (list_all_more (λ c. is_digit c 10) digits i 0 lt, h, d) refl

if_none : (b : Bool) (d : ℕ) → cond b (Some d) None ≡ None → b ≡ false
if_none true d h = cc
if_none false d h = refl

if_some : (b : Bool) (d n : ℕ) → cond b (Some d) None ≡ Some n → (b ≡ true) × (n ≡ d)
if_some true d n h = (refl, let e : n ≡ d = cc in e)
if_some false d n h = cc

pub digit-none : (c : ℕ) → digit_of c ≡ None → is_digit c 10 ≡ false
unfolding digit_of
digit-none c h = if_none (is_digit c 10) (digit_value c) h

pub digit-some : (c d : ℕ) → digit_of c ≡ Some d → (is_digit c 10 ≡ true) × (d ≡ digit_value c)
unfolding digit_of
digit-some c d h = if_some (is_digit c 10) (digit_value c) d h

-- a digit is below 10
pub digit-below : (c d : ℕ) → digit_of c ≡ Some d → d < 10
digit-below c d h = let found : (is_digit c 10 ≡ true) × (d ≡ digit_value c) = digit-some c d h in
    omega (arith, ltb-true (digit_value c) 10 found.0, found.1)

-- ---- one item

pub item_none : (item : List ℕ) → length item ≡ 0 → item_of item ≡ Err Empty
unfolding item_of
item_none item h = rw h refl

pub item_some : (item : List ℕ) → (length item == 0) ≡ false
    → item_of item ≡ ends_or_fault (ends_of item)
unfolding item_of
item_some item h = rw h refl

pub ends_dash : (item : List ℕ) (dash : ℕ) → position (λ b. b == 45) item ≡ Some dash
    → ends_of item ≡ both_of (numeral_of (take dash item)) (numeral_of (drop (dash + 1) item))
unfolding ends_of
ends_dash item dash h = ap (ends_at item) h

pub ends_one : (item : List ℕ) → position (λ b. b == 45) item ≡ None
    → ends_of item ≡ both_of (numeral_of item) (numeral_of item)
unfolding ends_of
ends_one item h = ap (ends_at item) h

pub judged_back : (first last : ℕ) → last < first → ends_or_fault (Some (first, last))
    ≡ Err BackRange
judged_back first last h = rw (lt-ltb last first h) refl

pub judged_high : (first last : ℕ) → first ≤ last → 256 ≤ last → ends_or_fault (Some (first, last))
    ≡ Err NodeTooHigh
judged_high first last h high =
    rw (le-ltb last first h) (high_in (leb 256 first) (leb 256 last) (le-leb 256 last high))
  where
    high_in : (a b : Bool) → b ≡ true → cond (a || b) (Err NodeTooHigh) (Ok (first, last))
        ≡ (let fault : Result (ℕ × ℕ) ListFault = Err NodeTooHigh in fault)
    high_in true b h = refl
    high_in false b h = rw h refl

pub judged_fine : (first last : ℕ) → first ≤ last → last < 256 → ends_or_fault (Some (first, last))
    ≡ Ok (first, last)
judged_fine first last h low =
    let a : leb 256 first ≡ false = lt-leb 256 first (omega arith) in
    let b : leb 256 last ≡ false = lt-leb 256 last low in
    rw (le-ltb last first h, a, b) refl

-- ---- the items that are left

-- what a list comes to where its items so far gave a set
abbrev pub list_from : ℕ → List (List ℕ) → Result ℕ ListFault
list_from set items = unless (slice_get (faults_of items) 0)
    (fold with_node set (flat_map (λ item. nodes_in (item_of item)) items))

pub list_fault : (set : ℕ) (item : List ℕ) (items : List (List ℕ)) (fault : ListFault)
    → item_of item ≡ Err fault → list_from set (item ∷ items) ≡ Err fault
list_fault set item items fault h = rw h refl

pub list_more : (set : ℕ) (item : List ℕ) (items : List (List ℕ)) (first last : ℕ)
    → item_of item ≡ Ok (first, last) → list_from set (item ∷ items)
    ≡ list_from (fold with_node set (nodes_between first last)) items
list_more set item items first last h =
    rw h
    (ap (unless (slice_get (faults_of items) 0))
    (fold-append with_node set (nodes_between first last)
    (flat_map (λ x. nodes_in (item_of x)) items)))

-- ---- for the code

pub none_empty : (digits : List ℕ) → (length digits == 0) ≡ true → numeral_of digits ≡ None
none_empty digits h =
    let no : leb 1 (length digits) ≡ false = grind (arith, nat_tests) in
    no_length digits (rw no refl)

pub none_long : (digits : List ℕ) → 4 < length digits → numeral_of digits ≡ None
none_long digits h =
    let no : leb (length digits) 4 ≡ false = lt-leb (length digits) 4 h in
    no_length digits (rw no (and_no (leb 1 (length digits))))
  where
    and_no : (b : Bool) → (b && false) ≡ false
    and_no true = refl
    and_no false = refl

pub ends_found : (item : List ℕ) (dash : ℕ) (first last : Option ℕ)
    → Some dash ≡ position (λ b. b == 45) item → first ≡ numeral_of (take dash item)
    → last ≡ numeral_of (drop (dash + 1) item) → both_of first last ≡ ends_of item
ends_found item dash first last h f l = ap (λ o. both_of o last) f
    ∙ ap (both_of (numeral_of (take dash item))) l ∙ sym (ends_dash item dash (sym h))

pub ends_alone : (item : List ℕ) (number : Option ℕ) → None ≡ position (λ b. b == 45) item
    → number ≡ numeral_of item → both_of number number ≡ ends_of item
ends_alone item number h n = ap (λ o. both_of o number) n ∙ ap (both_of (numeral_of item)) n
    ∙ sym (ends_one item (sym h))

-- one more digit fits
pub digits_fit : (value digit i : ℕ) → value < 10 ^ i → i < 4 → digit < 10
    → value * 10 + digit < 10 ^ (i + 1)
digits_fit value digit zero h l d = omega arith
digits_fit value digit (suc zero) h l d = omega arith
digits_fit value digit (suc (suc zero)) h l d = omega arith
digits_fit value digit (suc (suc (suc zero))) h l d = omega arith
digits_fit value digit (suc (suc (suc (suc i)))) h l d = absurd (omega arith)

pub digits_small : (value i : ℕ) → value < 10 ^ i → i ≤ 4 → value < 100000
digits_small value zero h l = omega arith
digits_small value (suc zero) h l = omega arith
digits_small value (suc (suc zero)) h l = omega arith
digits_small value (suc (suc (suc zero))) h l = omega arith
digits_small value (suc (suc (suc (suc zero)))) h l = omega arith
digits_small value (suc (suc (suc (suc (suc i))))) h l = absurd (omega arith)

range_push : (a n : ℕ) → range_with_len a (n + 1) ≡ range_with_len a n ++ (a + n) ∷ []
range_push a zero = ap (λ x. x ∷ []) (omega arith)
range_push a (suc n) =
    let e : a + 1 + n ≡ a + suc n = omega arith in
    let longer : suc n + 1 ≡ suc (n + 1) = omega arith in
    ap (range_with_len a) longer
    ∙ ap (λ xs. a ∷ xs) (range_push (a + 1) n ∙ ap (λ x. range_with_len (a + 1) n ++ x ∷ []) e)

-- one more node of a range
pub between_more : (old set more first number node : ℕ) → first ≤ number
    → set ≡ fold with_node old (range_with_len first (number - first)) → node ≡ number
    → more ≡ with_node set node
    → more ≡ fold with_node old (range_with_len first (number + 1 - first))
between_more old set more first number node h is same e =
    let long : number + 1 - first ≡ (number - first) + 1 = omega arith in
    let at : first + (number - first) ≡ number = omega arith in
    let pushed : range_with_len first (number + 1 - first) ≡ range_with_len first (number - first)
    ++ number ∷ [] = ap (range_with_len first) long ∙ range_push first (number - first)
    ∙ ap (λ x. range_with_len first (number - first) ++ x ∷ []) at in
    e ∙ ap (with_node set) same ∙ ap (λ s. with_node s number) is
    ∙ sym (fold-append with_node old (range_with_len first (number - first)) (number ∷ []))
    ∙ ap (fold with_node old) (sym pushed)
