-- Frames in a row: two frames never have one place.
use Rattle.std.proofs.Common.{zero, suc, ◌≡◌, ◌≢◌, ℕ, ◌+◌, ◌*◌, ◌/◌, ◌<◌, ◌≤◌, ◌==◌, ◌&&◌, ◌||◌}
use Rattle.std.proofs.Common.{◌⊎◌, inl, inr, Bool, true, false, Option, Some, None, is_some, List}
use Rattle.std.proofs.Common.{[], ◌∷◌, ◌++◌, length, refl, sym, ap, subst, ◌∙◌, arith, nat_lt}
use Rattle.std.proofs.Common.{nat_le, slice_index, get_or, if◌then◌else◌, ◌^◌, ◌%◌}
use Rattle.std.specs.Int.{bit_at}
use Rattle.std.specs.Int.Bits.{bit_or}
use Rattle.std.specs.Int.Width.{w64}
use Rattle.std.proofs.Math.ListN.{set}
use Rattle.std.proofs.lemmas.Bool.{eq-eqb, ltb-true}
use Rattle.std.proofs.lemmas.Bool.Decides.{eqb_tells, nat_tests}
use Rattle.std.proofs.lemmas.List.{get_or-set_same, get_or-set_other}
use Rattle.std.proofs.lemmas.Nat.Bits.{bit_at_set_same, bit_at_set_other}
use Rattle.numa_core.specs.Standing.{frames_before, place_in, is_met, owner_at, met_at}

pub not_lt : (a b : ℕ) → b ≤ a → nat_lt a b ≡ false
not_lt a b h = grind (arith, nat_tests)

pub is_lt : (a b : ℕ) → a < b → nat_lt a b ≡ true
is_lt a b h = grind (arith, nat_tests)

pub not_le : (a b : ℕ) → b < a → nat_le a b ≡ false
not_le a b h = grind (arith, nat_tests)

pub is_le : (a b : ℕ) → a ≤ b → nat_le a b ≡ true
is_le a b h = grind (arith, nat_tests)

pub not_eq : (a b : ℕ) → a ≢ b → (a == b) ≡ false
not_eq a b h = grind (arith, nat_tests)

pub index_within : (xs : List ℕ) (n k : ℕ) → k < slice_index xs n → n < length xs
index_within [] n k h = absurd (omega arith)
index_within (x ∷ xs) zero k h = omega arith
index_within (x ∷ xs) (suc n) k h = let ih : n < length xs = index_within xs n k h in omega arith

-- the frames of a node stand before those of each later node
pub before-mono : (frames : List ℕ) (n m : ℕ) → n < m → frames_before frames n + slice_index frames
    n ≤ frames_before frames m
before-mono frames n zero low = absurd (omega arith)
before-mono frames n (suc m) low = go (eqb_tells n m) (λ lower. before-mono frames n m lower)
  where
    go : ((n == m ≡ true) × (n ≡ m)) ⊎ ((n == m ≡ false) × (n ≢ m))
        → (n < m → frames_before frames n + slice_index frames n ≤ frames_before frames m)
        → frames_before frames n + slice_index frames n ≤ frames_before frames m + slice_index
        frames m
    go (inl e) before =
        subst (λ i. frames_before frames i + slice_index frames i ≤ frames_before frames m
        + slice_index frames m) (sym e.1) (omega arith)
    go (inr e) before = let ne : n ≢ m = e.1 in let ih : frames_before frames n + slice_index frames
        n ≤ frames_before frames m = before (omega arith) in omega arith

pub place-is : (frames : List ℕ) (n k : ℕ) → k < slice_index frames n
    → place_in frames n k ≡ Some (frames_before frames n + k)
place-is frames n k low = rw (is_lt k (slice_index frames n) low) refl

-- ---- building the table

at_end : (xs : List ℕ) (x : ℕ) → slice_index (xs ++ x ∷ []) (length xs) ≡ x
at_end [] x = refl
at_end (y ∷ ys) x = at_end ys x

before_end : (xs : List ℕ) (x n : ℕ) → n < length xs → slice_index (xs ++ x ∷ []) n
    ≡ slice_index xs n
before_end [] x n low = absurd (omega arith)
before_end (y ∷ ys) x zero low = refl
before_end (y ∷ ys) x (suc n) low = before_end ys x n (omega arith)

pub sums-more : (frames before : List ℕ) (total node : ℕ) → length before ≡ node
    → ((n : ℕ) → n < node → slice_index before n ≡ frames_before frames n)
    → total ≡ frames_before frames node → (n : ℕ) → n < node + 1
    → slice_index (before ++ total ∷ []) n ≡ frames_before frames n
sums-more frames before total node len sums is n low = go (eqb_tells n node)
  where
    go : ((n == node ≡ true) × (n ≡ node)) ⊎ ((n == node ≡ false) × (n ≢ node))
        → slice_index (before ++ total ∷ []) n ≡ frames_before frames n
    go (inl e) = ap (slice_index (before ++ total ∷ [])) (e.1 ∙ sym len) ∙ at_end before total ∙ is
        ∙ ap (frames_before frames) (sym e.1)
    go (inr e) = let ne : n ≢ node = e.1 in before_end before total n (omega arith)
        ∙ sums n (omega arith)

pub before-next : (frames : List ℕ) (n : ℕ) → frames_before frames (n + 1) ≡ frames_before frames n
    + slice_index frames n
before-next frames n = let next : n + 1 ≡ suc n = omega arith in ap (frames_before frames) next

pub all-few : (frames : List ℕ) → ((n : ℕ) → n < length frames → slice_index frames n ≤ 4096)
    → (n : ℕ) → slice_index frames n ≤ 4096
all-few [] few n = omega arith
all-few (x ∷ xs) few zero = few 0 (omega arith)
all-few (x ∷ xs) few (suc n) = all-few xs (λ i low. few (suc i) (omega arith)) n

-- ---- places

pub place-some : (frames : List ℕ) (n k p : ℕ) → place_in frames n k ≡ Some p
    → (k < slice_index frames n) × (p ≡ frames_before frames n + k)
place-some frames n k p e = go (nat_lt k (slice_index frames n)) refl e
  where
    go : (b : Bool) → nat_lt k (slice_index frames n) ≡ b
        → (if b then Some (frames_before frames n + k) else None) ≡ Some p
        → (k < slice_index frames n) × (p ≡ frames_before frames n + k)
    go true low e = (ltb-true k (slice_index frames n) low, cc)
    go false high e = absurd (let odd : false ≡ true = ap is_some e in cc)

pub place-not : (frames : List ℕ) (n k : ℕ) → place_in frames n k ≡ None
    → nat_lt k (slice_index frames n) ≡ false
place-not frames n k e = go (nat_lt k (slice_index frames n)) refl e
  where
    go : (b : Bool) → nat_lt k (slice_index frames n) ≡ b
        → (if b then Some (frames_before frames n + k) else None) ≡ None
        → nat_lt k (slice_index frames n) ≡ false
    go true low e = absurd (let odd : true ≡ false = ap is_some e in cc)
    go false high e = high

-- the place is this one
abbrev pub is_at : Option ℕ → ℕ → Bool
is_at None place = false
is_at (Some p) place = p == place

-- no other frame stands at the place of a frame
pub same_place : (frames : List ℕ) (m j n k : ℕ) → j < slice_index frames m
    → is_at (place_in frames n k) (frames_before frames m + j) ≡ ((n == m) && (k == j))
same_place frames m j n k here = go (nat_lt k (slice_index frames n)) refl (eqb_tells n m)
    (eqb_tells k j)
  where
    go : (b : Bool) → nat_lt k (slice_index frames n) ≡ b → ((n == m ≡ true) × (n ≡ m))
        ⊎ ((n == m ≡ false) × (n ≢ m)) → ((k == j ≡ true) × (k ≡ j)) ⊎ ((k == j ≡ false) × (k ≢ j))
        → is_at (if b then Some (frames_before frames n + k) else None) (frames_before frames m + j)
        ≡ ((n == m) && (k == j))
    go true low (inl e) (inl f) =
        rw (e.0, f.0) (eq-eqb (frames_before frames n + k) (frames_before frames m + j)
        (rw (e.1, f.1) refl))
    go true low (inl e) (inr f) =
        rw (e.0, f.0) (not_eq (frames_before frames n + k) (frames_before frames m + j)
        (λ same. f.1 (let before : frames_before frames n ≡ frames_before frames m =
        ap (frames_before frames) e.1 in omega arith)))
    go true low (inr e) either =
        rw e.0 (not_eq (frames_before frames n + k) (frames_before frames m + j)
        (λ same.
        apart (let fits : k < slice_index frames n = ltb-true k (slice_index frames n) low in fits)
        e.1 same))
      where
        apart : k < slice_index frames n → n ≢ m → frames_before frames n + k ≡ frames_before frames
            m + j → ⊥
        apart fits ne same =
            elim (order n m ne) [
              | inl below ↦ (let all = before-mono frames n m below in omega arith)
              | inr above ↦
                  (let all = before-mono frames m n above in omega arith)
            ]
          where
            order : (n m : ℕ) → n ≢ m → (n < m) ⊎ (m < n)
            order zero zero ne = absurd (ne refl)
            order zero (suc m) ne = inl (omega arith)
            order (suc n) zero ne = inr (omega arith)
            order (suc n) (suc m) ne = elim (order n m (λ e. ne (ap suc e)))
                [ inl h ↦ inl (omega arith) | inr h ↦ inr (omega arith) ]
    go false high (inl e) (inl f) =
        absurd (let odd : false ≡ true = sym high
        ∙ is_lt k (slice_index frames n)
        (subst (λ i. k < slice_index frames i) (sym e.1)
        (subst (λ i. i < slice_index frames m) (sym f.1) here)) in cc)
    go false high (inl e) (inr f) = rw (e.0, f.0) refl
    go false high (inr e) either = rw e.0 refl

-- a frame becomes met
pub met-more : (frames old new : List ℕ) (m j : ℕ) → j < slice_index frames m
    → ((p : ℕ) → is_met new (Some p) ≡ ((p == frames_before frames m + j) || is_met old (Some p)))
    → (n k : ℕ) → met_at frames new n k ≡ (((n == m) && (k == j)) || met_at frames old n k)
met-more frames old new m j here each n k =
    go (place_in frames n k) (same_place frames m j n k here)
  where
    go : (o : Option ℕ) → is_at o (frames_before frames m + j) ≡ ((n == m) && (k == j))
        → is_met new o ≡ (((n == m) && (k == j)) || is_met old o)
    go None is = rw (sym is) refl
    go (Some p) is = each p ∙ ap (λ b. b || is_met old (Some p)) is

-- ---- words of bits

pub any_default : {X : Type 0} (xs : List X) (i : ℕ) (d e : X) → i < length xs
    → get_or xs i d ≡ get_or xs i e
any_default [] i d e low = absurd (omega arith)
any_default (x ∷ xs) zero d e low = refl
any_default (x ∷ xs) (suc i) d e low = any_default xs i d e (omega arith)

bit_written : (words : List ℕ) (place word p : ℕ) → place / 64 < length words
    → word ≡ bit_or (get_or words (place / 64) 0) (1 * 2 ^ (place % 64) % 2 ^ 64)
    → is_met (set words (place / 64) word) (Some p) ≡ ((p == place) || is_met words (Some p))
bit_written words place word p within is =
    go (eqb_tells (p / 64) (place / 64)) (eqb_tells (p % 64) (place % 64)) (eqb_tells p place)
  where
    go : ((p / 64 == place / 64 ≡ true) × (p / 64 ≡ place / 64))
        ⊎ ((p / 64 == place / 64 ≡ false) × (p / 64 ≢ place / 64))
        → ((p % 64 == place % 64 ≡ true) × (p % 64 ≡ place % 64))
        ⊎ ((p % 64 == place % 64 ≡ false) × (p % 64 ≢ place % 64))
        → ((p == place ≡ true) × (p ≡ place)) ⊎ ((p == place ≡ false) × (p ≢ place))
        → is_met (set words (place / 64) word) (Some p) ≡ ((p == place) || is_met words (Some p))
    go (inr e) f (inl g) = absurd (e.1 (ap (λ i. i / 64) g.1))
    go (inr e) f (inr g) =
        rw g.0
        (ap (λ w. bit_at w (p % 64) == 1) (get_or-set_other words (place / 64) (p / 64) word 0 e.1))
    go (inl e) (inr f) (inl g) = absurd (f.1 (ap (λ i. i % 64) g.1))
    go (inl e) (inr f) (inr g) = rw g.0
        (ap (λ w. bit_at w (p % 64) == 1) (ap (λ i. get_or (set words (place / 64) word) i 0) e.1
        ∙ get_or-set_same words (place / 64) word 0 within ∙ is)
        ∙ ap (λ b. b == 1)
        (bit_at_set_other w64 (get_or words (place / 64) 0) (place % 64) (omega arith) (p % 64) f.1)
        ∙ ap (λ i. bit_at (get_or words i 0) (p % 64) == 1) (sym e.1))
    go (inl e) (inl f) (inl g) = rw g.0
        (ap (λ w. bit_at w (p % 64) == 1) (ap (λ i. get_or (set words (place / 64) word) i 0) e.1
        ∙ get_or-set_same words (place / 64) word 0 within ∙ is)
        ∙ ap (λ i. bit_at (bit_or (get_or words (place / 64) 0) (1 * 2 ^ (place % 64) % 2 ^ 64)) i
        == 1) f.1
        ∙ ap (λ b. b == 1)
        (bit_at_set_same w64 (get_or words (place / 64) 0) (place % 64) (omega arith)))
    go (inl e) (inl f) (inr g) =
        absurd (let ne : p ≢ place = g.1 in let high : p / 64 ≡ place / 64 = e.1 in
        let low : p % 64 ≡ place % 64 = f.1 in omega arith)

pub bit_set : (words : List ℕ) (place old p : ℕ) → place / 64 < length words
    → old ≡ get_or words (place / 64) old
    → is_met (set words (place / 64) (bit_or old (1 * 2 ^ (place % 64) % 2 ^ 64))) (Some p)
    ≡ ((p == place) || is_met words (Some p))
bit_set words place old p within was = with_word (bit_or old (1 * 2 ^ (place % 64) % 2 ^ 64))
    (ap (λ w. bit_or w (1 * 2 ^ (place % 64) % 2 ^ 64))
    (was ∙ any_default words (place / 64) old 0 within))
  where
    with_word : (word : ℕ) → word ≡ bit_or (get_or words (place / 64) 0)
        (1 * 2 ^ (place % 64) % 2 ^ 64) → is_met (set words (place / 64) word) (Some p)
        ≡ ((p == place) || is_met words (Some p))
    with_word word is = bit_written words place word p within is

-- ---- the frames of a word of a node

-- each owned frame of a stretch becomes met
abbrev pub MeetsOwned : ℕ → ℕ → List (Option ℕ) → List ℕ → List ℕ → Type 0
MeetsOwned start end owners old new = (p : ℕ)
    → is_met new (Some p)
    ≡ (((nat_le start p && nat_lt p end) && is_some (owner_at owners (Some p)))
    || is_met old (Some p))

pub stretch-none : (start : ℕ) (owners : List (Option ℕ)) (words : List ℕ)
    → MeetsOwned start start owners words words
stretch-none start owners words p = go (nat_le start p && nat_lt p start) none
  where
    none : (nat_le start p && nat_lt p start) ≡ false
    none = grind (arith, nat_tests)

    go : (b : Bool) → b ≡ false
        → is_met words (Some p)
        ≡ ((b && is_some (owner_at owners (Some p))) || is_met words (Some p))
    go b e = rw e refl

-- one place more
pub stretch-more : (start place : ℕ) (owners : List (Option ℕ)) (first old new : List ℕ)
    (owned : Bool) → start ≤ place → owned ≡ is_some (owner_at owners (Some place))
    → MeetsOwned start place owners first old
    → ((p : ℕ) → is_met new (Some p) ≡ (((p == place) && owned) || is_met old (Some p)))
    → MeetsOwned start (place + 1) owners first new
stretch-more start place owners first old new owned low is so_far each p = each p
    ∙ ap (λ b. ((p == place) && owned) || b) (so_far p) ∙ go (eqb_tells p place)
  where
    same_lt : p ≢ place → nat_lt p place ≡ nat_lt p (place + 1)
    same_lt ne = grind (arith, nat_tests)

    go : ((p == place ≡ true) × (p ≡ place)) ⊎ ((p == place ≡ false) × (p ≢ place))
        → (((p == place) && owned)
        || (((nat_le start p && nat_lt p place) && is_some (owner_at owners (Some p)))
        || is_met first (Some p)))
        ≡ (((nat_le start p && nat_lt p (place + 1)) && is_some (owner_at owners (Some p)))
        || is_met first (Some p))
    go (inl e) = let at : p ≡ place = e.1 in
        rw (
          e.0,
          not_lt p place (omega arith),
          is_le start p (omega arith),
          is_lt p (place + 1) (omega arith),
        )
        (ap (λ b. b || is_met first (Some p))
        (is ∙ ap (λ i. is_some (owner_at owners (Some i))) (sym at)))
    go (inr e) =
        rw e.0
        (ap (λ b. ((nat_le start p && b) && is_some (owner_at owners (Some p)))
        || is_met first (Some p)) (same_lt e.1))

-- an element of a table of owners
pub owner_read : (owners : List (Option ℕ)) (place : ℕ) (x : Option ℕ) → place < length owners
    → x ≡ get_or owners place x → owner_at owners (Some place) ≡ x
owner_read [] place x low e = absurd (omega arith)
owner_read (y ∷ ys) zero x low e = sym e
owner_read (y ∷ ys) (suc place) x low e = owner_read ys place x (omega arith) e

-- the stretch that has the frames of a word of a node
pub word-stretch : (frames : List ℕ) (m word stop n k : ℕ) → stop ≤ slice_index frames m
    → stop ≤ 64 * word + 64 → (stop < 64 * word + 64 → stop ≡ slice_index frames m)
    → k < slice_index frames n
    → (nat_le (frames_before frames m + 64 * word) (frames_before frames n + k)
    && nat_lt (frames_before frames n + k) (frames_before frames m + stop))
    ≡ ((n == m) && (k / 64 == word))
word-stretch frames m word stop n k inside few short fits =
    go (eqb_tells n m) (eqb_tells (k / 64) word)
  where
    goal : Bool → Type 0
    goal b = (nat_le (frames_before frames m + 64 * word) (frames_before frames n + k)
        && nat_lt (frames_before frames n + k) (frames_before frames m + stop)) ≡ b

    both : (a b : Bool) → a ≡ true → b ≡ true → (a && b) ≡ true
    both true true e f = refl
    both true false e f = f
    both false b e f = e

    first_not : (a b : Bool) → a ≡ false → (a && b) ≡ false
    first_not false b e = refl
    first_not true b e = absurd (cc)

    second_not : (a b : Bool) → b ≡ false → (a && b) ≡ false
    second_not true b e = e
    second_not false b e = refl

    order : (n m : ℕ) → n ≢ m → (n < m) ⊎ (m < n)
    order zero zero ne = absurd (ne refl)
    order zero (suc m) ne = inl (omega arith)
    order (suc n) zero ne = inr (omega arith)
    order (suc n) (suc m) ne = elim (order n m (λ e. ne (ap suc e))) [
      | inl h ↦ inl (omega arith)
      | inr h ↦ inr (omega arith)
    ]

    or_not : (k word : ℕ) → k / 64 ≢ word → (k < 64 * word) ⊎ (64 * word + 64 ≤ k)
    or_not k word ne = elim (order (k / 64) word ne) [
      | inl h ↦ inl (omega arith)
      | inr h ↦ inr (omega arith)
    ]

    at_node : frames_before frames n ≡ frames_before frames m
        → slice_index frames n ≡ slice_index frames m → ((k / 64 == word ≡ true) × (k / 64 ≡ word))
        ⊎ ((k / 64 == word ≡ false) × (k / 64 ≢ word)) → goal (k / 64 == word)
    at_node same count (inl f) =
        subst goal (sym f.0) (let at : k / 64 ≡ word = f.1 in
        both _ _ (is_le (frames_before frames m + 64 * word) (frames_before frames n + k)
        (omega arith)) (is_lt (frames_before frames n + k) (frames_before frames m + stop)
        (last at)))
      where
        last : k / 64 ≡ word → frames_before frames n + k < frames_before frames m + stop
        last at = pick (eqb_tells stop (64 * word + 64))
          where
            pick : ((stop == 64 * word + 64 ≡ true) × (stop ≡ 64 * word + 64))
                ⊎ ((stop == 64 * word + 64 ≡ false) × (stop ≢ 64 * word + 64))
                → frames_before frames n + k < frames_before frames m + stop
            pick (inl e) = let is : stop ≡ 64 * word + 64 = e.1 in omega arith
            pick (inr e) = let ne : stop ≢ 64 * word + 64 = e.1 in
                let end : stop ≡ slice_index frames m = short (omega arith) in omega arith
    at_node same count (inr f) = subst goal (sym f.0) (elim (or_not k word f.1) [
      | inl low ↦
          first_not _ _ (not_le (frames_before frames m + 64 * word) (frames_before frames n + k)
          (omega arith))
      | inr high ↦
          second_not _ _ (not_lt (frames_before frames n + k) (frames_before frames m + stop)
          (omega arith))
    ])

    go : ((n == m ≡ true) × (n ≡ m)) ⊎ ((n == m ≡ false) × (n ≢ m))
        → ((k / 64 == word ≡ true) × (k / 64 ≡ word)) ⊎ ((k / 64 == word ≡ false) × (k / 64 ≢ word))
        → goal ((n == m) && (k / 64 == word))
    go (inl e) f = rw e.0 (at_node (ap (frames_before frames) e.1) (ap (slice_index frames) e.1) f)
    go (inr e) f = rw e.0 (elim (order n m e.1) [
      | inl low ↦
          first_not _ _ (let all = before-mono frames n m low in
          not_le (frames_before frames m + 64 * word) (frames_before frames n + k) (omega arith))
      | inr high ↦ second_not _ _ (let all = before-mono frames m n high in
          not_lt (frames_before frames n + k) (frames_before frames m + stop) (omega arith))
    ])

-- what a Look at the word meets
pub met-word : (frames : List ℕ) (owners : List (Option ℕ)) (old new : List ℕ) (m word stop : ℕ)
    → stop ≤ slice_index frames m → stop ≤ 64 * word + 64
    → (stop < 64 * word + 64 → stop ≡ slice_index frames m)
    → MeetsOwned (frames_before frames m + 64 * word) (frames_before frames m + stop) owners old new
    → (n k : ℕ)
    → met_at frames new n k
    ≡ (((n == m) && ((k / 64 == word) && is_some (owner_at owners (place_in frames n k))))
    || met_at frames old n k)
met-word frames owners old new m word stop inside few short each n k =
    go (nat_lt k (slice_index frames n)) refl
  where
    regroup : (a b c d : Bool) → ((a && b) && c || d) ≡ ((a && (b && c)) || d)
    regroup true b c d = refl
    regroup false b c d = refl

    none : (a b : Bool) → ((a && (b && false)) || false) ≡ false
    none true true = refl
    none true false = refl
    none false b = refl

    go : (b : Bool) → nat_lt k (slice_index frames n) ≡ b
        → is_met new (if b then Some (frames_before frames n + k) else None)
        ≡ (((n == m)
        && ((k / 64 == word)
        && is_some (owner_at owners (if b then Some (frames_before frames n + k) else None))))
        || is_met old (if b then Some (frames_before frames n + k) else None))
    go true low = each (frames_before frames n + k)
        ∙ ap (λ b. (b && is_some (owner_at owners (Some (frames_before frames n + k))))
        || is_met old (Some (frames_before frames n + k)))
        (word-stretch frames m word stop n k inside few short
        (ltb-true k (slice_index frames n) low))
        ∙ regroup (n == m) (k / 64 == word)
        (is_some (owner_at owners (Some (frames_before frames n + k))))
        (is_met old (Some (frames_before frames n + k)))
    go false high = sym (none (n == m) (k / 64 == word))
