-- Lists of nodes that are a digit, or two around a dash.
use Rattle.std.specs.Prelude.{◌≡◌, ◌==◌, ◌&&◌, ◌+◌, ◌-◌, ◌*◌, ◌/◌, ◌%◌, ◌<◌, ◌≤◌, ◌^◌, ℕ, suc}
use Rattle.std.specs.Prelude.{Bool, true, false, [], ◌∷◌, Result, Ok, Err, refl, bit_and}
use Rattle.std.proofs.Common.{◌∙◌, ap, sym, arith, inl, inr, zero}
use Rattle.std.proofs.lemmas.Bool.{cases_lt}
use Rattle.std.proofs.lemmas.Bool.Decides.{nat_tests}
use Rattle.numa_mask.specs.Lists.{digit_of, ends_of, item_of, list_of, numeral_of}
use Rattle.numa_mask.specs.Words.{number_of}
use Rattle.numa_mask.specs.declared.list.ListFault.{ListFault}

both_true : (a b : Bool) → (a && b) ≡ true → (a ≡ true) × (b ≡ true)
both_true true b e = (refl, e)
both_true false b e = cc

-- a test of each number below a bound
all_below : ℕ → (ℕ → Bool) → Bool
all_below zero p = true
all_below (suc n) p = p n && all_below n p

one_below : (n : ℕ) (p : ℕ → Bool) (k : ℕ) → all_below n p ≡ true → k < n → p k ≡ true
unfolding all_below
one_below zero p k all lt = absurd (omega (arith, lt))
one_below (suc n) p k all lt =
    let each = both_true (p n) (all_below n p) all in
    elim (cases_lt k n) [
      | inl less ↦ one_below n p k each.1 less
      | inr more ↦ (let same : n ≡ k = omega (arith, lt, more) in ap p (sym same) ∙ each.0)
    ]

-- the list is read as this set
abbrev reads_as : Result ℕ ListFault → ℕ → Bool
reads_as (Ok set) wanted = set == wanted
reads_as (Err fault) wanted = false

reads : (answer : Result ℕ ListFault) (wanted : ℕ) → reads_as answer wanted ≡ true
    → answer ≡ Ok wanted
reads (Ok set) wanted is =
    let tested : (set == wanted) ≡ true = is in
    let same : set ≡ wanted = grind (arith, nat_tests, tested) in
    ap (λ (s : ℕ). Ok s) same
reads (Err fault) wanted is = cc

-- the nodes from one to another
abbrev pub few : ℕ → ℕ → ℕ
few first last = number_of (bit_and ((2 ^ 64 - 1) / 2 ^ (63 - last))
    ((2 ^ 64 - 1) * 2 ^ first % 2 ^ 64) ∷ 0 ∷ 0 ∷ 0 ∷ [])

-- the nodes between two digits, and that of one
spans : ℕ → ℕ → Bool
spans last first = reads_as (list_of ((48 + first) ∷ 45 ∷ (48 + last) ∷ [])) (few first last)

digits : ℕ → Bool
digits node = reads_as (list_of ((48 + node) ∷ [])) (few node node)

rows : ℕ → Bool
rows last = all_below (suc last) (spans last)

all_rows : all_below 10 rows ≡ true
unfolding all_below rows spans item_of ends_of numeral_of digit_of number_of
all_rows = refl

all_digits : all_below 10 digits ≡ true
unfolding all_below digits item_of ends_of numeral_of digit_of number_of
all_digits = refl

span_row : (last : ℕ) → last < 10 → all_below (suc last) (spans last) ≡ true
unfolding rows
span_row last below = one_below 10 rows last all_rows below

span_reads : (first last : ℕ) → spans last first ≡ true
    → list_of ((48 + first) ∷ 45 ∷ (48 + last) ∷ []) ≡ Ok (few first last)
unfolding spans
span_reads first last is =
    reads (list_of ((48 + first) ∷ 45 ∷ (48 + last) ∷ [])) (few first last) is

digit_reads : (node : ℕ) → digits node ≡ true → list_of ((48 + node) ∷ []) ≡ Ok (few node node)
unfolding digits
digit_reads node is = reads (list_of ((48 + node) ∷ [])) (few node node) is

span_at : (m n : ℕ) → m ≤ n → n < 10
    → list_of ((48 + m) ∷ 45 ∷ (48 + n) ∷ []) ≡ Ok (few m n)
span_at m n rises below =
    span_reads m n (one_below (suc n) (spans n) m (span_row n below) (omega (arith, rises)))

digit_at : (n : ℕ) → n < 10 → list_of ((48 + n) ∷ []) ≡ Ok (few n n)
digit_at n below = digit_reads n (one_below 10 digits n all_digits below)

-- lists of such digits are read as the nodes between them
pub span_listed : (first last : ℕ) → 48 ≤ first → first ≤ last → last ≤ 57
    → list_of (first ∷ 45 ∷ last ∷ []) ≡ Ok (few (first - 48) (last - 48))
span_listed first last low rises high =
    let a : 48 + (first - 48) ≡ first = omega (arith, low) in
    let b : 48 + (last - 48) ≡ last = omega (arith, low, rises) in
    (λ i. list_of (sym a i ∷ 45 ∷ sym b i ∷ []))
    ∙ span_at (first - 48) (last - 48) (omega (arith, low, rises)) (omega (arith, high, low, rises))

pub digit_listed : (node : ℕ) → 48 ≤ node → node ≤ 57
    → list_of (node ∷ []) ≡ Ok (few (node - 48) (node - 48))
digit_listed node low high =
    let a : 48 + (node - 48) ≡ node = omega (arith, low) in
    (λ i. list_of (sym a i ∷ [])) ∙ digit_at (node - 48) (omega (arith, high, low))
