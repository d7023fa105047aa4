-- Rules whose rows were joined, one behind another.
use Rattle.std.proofs.Common.{◌≡◌, ℕ, zero, suc, ◌+◌, ◌-◌, ◌*◌, ◌<◌, ◌≤◌, List, [], ◌∷◌, ◌++◌}
use Rattle.std.proofs.Common.{length, take, drop, flat_map, get_or, sym, ap, ◌∙◌, arith}
use Rattle.std.proofs.Common.{length-append, drop-drop, take_at, drop_at, take_all}
use Rattle.std.proofs.Common.{mul-le-mul_right}
use Rattle.std.specs.List.{range_with_len}
use Rattle.std.proofs.lemmas.List.FromFn.{length-range_with_len, get_or-range_with_len}
use Rattle.numa_plan.specs.Rows.{Key, Faulting, Fixed, row_at, row_of, HasRow, HasRows}

-- ---- lists of one length, one behind another

module _ {X : Type 0} (f : X → List ℕ) (width : ℕ) where
  length-joined : (xs : List X)
      → ((k : ℕ) (d : X) → k < length xs → length (f (get_or xs k d)) ≡ width)
      → length (flat_map f xs) ≡ length xs * width
  length-joined [] even = omega arith
  length-joined (x ∷ xs) even =
      omega (
        arith,
        length-append (f x) (flat_map f xs),
        even 0 x (omega arith),
        length-joined xs (λ k d lt. even (suc k) d (omega arith)),
      )

  part-joined : (xs : List X)
      → ((k : ℕ) (d : X) → k < length xs → length (f (get_or xs k d)) ≡ width) → (k : ℕ) (d : X)
      → k < length xs → take width (drop (k * width) (flat_map f xs)) ≡ f (get_or xs k d)
  part-joined [] even k d lt = absurd (omega arith)
  part-joined (x ∷ xs) even zero d lt =
      let none : 0 * width ≡ 0 = omega arith in
      ap (λ i. take width (drop i (f x ++ flat_map f xs))) none
      ∙ take_at (f x) (flat_map f xs) width (even 0 x (omega arith))
  part-joined (x ∷ xs) even (suc k) d lt =
      let step : suc k * width ≡ width + k * width = omega arith in
      ap (λ i. take width (drop i (f x ++ flat_map f xs))) step
      ∙ ap (take width) (sym (drop-drop (k * width) width (f x ++ flat_map f xs))
      ∙ ap (drop (k * width)) (drop_at (f x) (flat_map f xs) width (even 0 x (omega arith))))
      ∙ part-joined xs (λ k d lt. even (suc k) d (omega arith)) k d (omega arith)

-- ---- the rows of a list of things

-- a row, by its number
pub row_at-joined : {X : Type 0} (f : X → List ℕ) (width : ℕ) (xs : List X) (key : Key)
    (rows : List ℕ) → rows ≡ flat_map f xs
    → ((k : ℕ) (d : X) → k < length xs → length (f (get_or xs k d)) ≡ width)
    → (k : ℕ) (d : X) → k < length xs → row_at (record { key = key; width = width; rows = rows }) k
    ≡ f (get_or xs k d)
row_at-joined f width xs key rows is even k d lt =
    let size : k * width + width - k * width ≡ width = omega arith in
    ap (λ n. take n (drop (k * width) rows)) size
    ∙ ap (λ all. take width (drop (k * width) all)) is
    ∙ part-joined f width xs even k d lt

-- each of them is there
pub has_row-joined : {X : Type 0} (f : X → List ℕ) (width : ℕ) (xs : List X) (key : Key)
    (rows : List ℕ) → rows ≡ flat_map f xs
    → ((k : ℕ) (d : X) → k < length xs → length (f (get_or xs k d)) ≡ width)
    → 0 < width → width ≤ 256 → (k : ℕ) → k < length xs
    → HasRow (record { key = key; width = width; rows = rows }) k
has_row-joined f width xs key rows is even some few k lt =
    let all : length rows ≡ length xs * width = ap length is ∙ length-joined f width xs even in
    let next : suc k * width ≤ length xs * width = mul-le-mul_right width lt in
    record { some = some; few = few; there = omega (arith, all, next) }

-- ---- the rows of the numbers below a count

-- a function of one length
even-range : (f : ℕ → List ℕ) (width count : ℕ) → ((k : ℕ) → k < count → length (f k) ≡ width)
    → (k d : ℕ) → k < length (range_with_len 0 count)
    → length (f (get_or (range_with_len 0 count) k d)) ≡ width
even-range f width count even k d lt =
    let short : k < count = omega (arith, length-range_with_len 0 count) in
    let number : get_or (range_with_len 0 count) k d ≡ k = get_or-range_with_len 0 count k d short
    ∙ (let e : 0 + k ≡ k = omega arith in e) in
    ap (λ n. length (f n)) number ∙ even k short

module _ (f : ℕ → List ℕ) (width count : ℕ) (rows : List ℕ)
    (is : rows ≡ flat_map f (range_with_len 0 count)) (even : (k : ℕ) → k < count
    → length (f k) ≡ width) where
  row_below : (key : Key) (k : ℕ) → k < count
      → row_at (record { key = key; width = width; rows = rows }) k ≡ f k
  row_below key k lt =
      row_at-joined f width (range_with_len 0 count) key rows is (even-range f width count even) k 0
      (omega (arith, length-range_with_len 0 count))
      ∙ ap f (get_or-range_with_len 0 count k 0 lt ∙ (let e : 0 + k ≡ k = omega arith in e))

  there_below : (key : Key) → 0 < width → width ≤ 256 → (k : ℕ) → k < count
      → HasRow (record { key = key; width = width; rows = rows }) k
  there_below key some few k lt = has_row-joined f width (range_with_len 0 count) key rows is
      (even-range f width count even) some few k (omega (arith, length-range_with_len 0 count))

-- ---- a row for each node, and a single one

-- a row for each faulting node
pub has_rows-faulting : (f : ℕ → List ℕ) (width nodes : ℕ) (rows : List ℕ)
    → rows ≡ flat_map f (range_with_len 0 nodes) → ((k : ℕ) → k < nodes → length (f k) ≡ width)
    → 0 < width → width ≤ 256
    → HasRows nodes (record { key = Faulting; width = width; rows = rows })
has_rows-faulting f width nodes rows is even some few cpu index lt =
    there_below f width nodes rows is even Faulting some few cpu lt

pub row_of-faulting : (f : ℕ → List ℕ) (width nodes : ℕ) (rows : List ℕ)
    → rows ≡ flat_map f (range_with_len 0 nodes) → ((k : ℕ) → k < nodes → length (f k) ≡ width)
    → (cpu index : ℕ) → cpu < nodes → row_of (record { key = Faulting; width = width; rows = rows })
    cpu index ≡ f cpu
row_of-faulting f width nodes rows is even cpu index lt =
    row_below f width nodes rows is even Faulting cpu lt

-- one row
pub has_rows-fixed : (nodes : ℕ) (row : List ℕ) → 0 < length row → length row ≤ 256
    → HasRows nodes (record { key = Fixed; width = length row; rows = row })
has_rows-fixed nodes row some few cpu index lt =
    record { some = some; few = few; there = omega arith }

pub row_of-fixed : (row : List ℕ) (cpu index : ℕ)
    → row_of (record { key = Fixed; width = length row; rows = row }) cpu index ≡ row
row_of-fixed row cpu index =
    let start : 0 * length row ≡ 0 = omega arith in
    let size : 0 + length row - 0 ≡ length row = omega arith in
    ap (λ n. take (n + length row - n) (drop n row)) start ∙ ap (λ n. take n row) size
    ∙ take_all (length row) row (omega arith)
