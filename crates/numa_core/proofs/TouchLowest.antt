-- The lowest number that passes a test, the first place in a list, and how many frames are still
-- unmet.
use Rattle.std.proofs.Common.{zero, suc, ◌≡◌, ℕ, ◌+◌, ◌<◌, ◌≤◌, ◌||◌, inl, inr, Bool, true, false}
use Rattle.std.proofs.Common.{Option, Some, None, List, [], ◌∷◌, sum, refl, sym, ap, ◌∙◌, arith}
use Rattle.std.proofs.Common.{if◌then◌else◌, slice_index}
use Rattle.std.proofs.lemmas.Bool.Decides.{eqb_tells}
use Rattle.std.proofs.lemmas.List.Sums.{sum_by-cons}
use Rattle.numa_core.specs.World.{any_below, first_place, one_further}
use Rattle.numa_core.specs.Touching.{lowest_below}
use Rattle.numa_core.proofs.Placing.{any_below-none}

-- ---- the lowest number

-- it is below the count, passes, and none below it does
pub record IsLowest (test : ℕ → Bool) (count k : ℕ) : Type 0 where
  pub low : k < count
  pub passes : test k ≡ true
  pub first : (j : ℕ) → j < k → test j ≡ false

pub lowest-none : (test : ℕ → Bool) (count : ℕ) → ((k : ℕ) → k < count → test k ≡ false)
    → lowest_below test count ≡ None
lowest-none test zero h = refl
lowest-none test (suc n) h = rw (lowest-none test n (λ k low. h k (omega arith)), h n (omega arith))
    refl

pub lowest-some : (test : ℕ → Bool) (count k : ℕ) → IsLowest test count k
    → lowest_below test count ≡ Some k
lowest-some test zero k h = absurd (let low : k < 0 = h.low in omega arith)
lowest-some test (suc n) k h = elim (eqb_tells k n) [
  | inl e ↦ let here : test n ≡ true = sym (ap test e.1) ∙ h.passes in
      rw (lowest-none test n (λ j low. h.first j (let same : k ≡ n = e.1 in omega arith)), here)
      (ap Some (sym e.1))
  | inr e ↦ let low : k < suc n = h.low in
      rw (lowest-some test n k (record { low = omega arith; passes = h.passes; first = h.first }))
      refl
]

pub lowest-is : (test : ℕ → Bool) (count : ℕ) → any_below test count ≡ true
    → (k : ℕ) × IsLowest test count k
lowest-is test zero h = absurd (cc)
lowest-is test (suc n) h = go (any_below test n) refl (lowest-is test n) h
  where
    go : (b : Bool) → any_below test n ≡ b → (any_below test n ≡ true → (k : ℕ) × IsLowest test n k)
        → (test n || b) ≡ true → (k : ℕ) × IsLowest test (suc n) k
    go true is ih h = let below = ih is in let low : below.0 < n = below.1.low in
        (below.0, record { low = omega arith; passes = below.1.passes; first = below.1.first })
    go false is ih h = (
      n,
      record {
        low = omega arith;
        passes = last (test n) h;
        first =
            λ j low. any_below-none test n j is low;
      },
    )
      where
        last : (b : Bool) → (b || false) ≡ true → b ≡ true
        last true h = refl
        last false h = absurd (cc)

-- ---- the first place

-- the test holds there
pub first_place-there : (test : ℕ → Bool) (ns : List ℕ) (rank : ℕ) → first_place test ns ≡ Some rank
    → test (slice_index ns rank) ≡ true
first_place-there test [] rank e = absurd (cc)
first_place-there test (n ∷ ns) rank e =
    go (test n) refl e (λ before is. first_place-there test ns before is)
  where
    later : (o : Option ℕ) → one_further o ≡ Some rank
        → ((before : ℕ) → o ≡ Some before → test (slice_index ns before) ≡ true)
        → test (slice_index (n ∷ ns) rank) ≡ true
    later None e there = absurd (cc)
    later (Some before) e there = let plus : before + 1 ≡ rank = cc in let up : suc before ≡ rank =
        omega arith in rw (sym up) (there before refl)

    go : (b : Bool) → test n ≡ b → (if b then Some 0 else one_further (first_place test ns))
        ≡ Some rank
        → ((before : ℕ) → first_place test ns ≡ Some before → test (slice_index ns before) ≡ true)
        → test (slice_index (n ∷ ns) rank) ≡ true
    go true is e there = let here : 0 ≡ rank = cc in rw (sym here) is
    go false is e there = later (first_place test ns) e there

-- ---- unmet frames

-- how many frames of a node are unmet
abbrev pub unmet_on : (ℕ → Bool) → ℕ → ℕ
unmet_on met zero = 0
unmet_on met (suc n) = (if met n then 0 else 1) + unmet_on met n

-- how many frames of all nodes, which have these many each
abbrev pub unmet : (ℕ → ℕ → Bool) → List ℕ → ℕ
unmet met [] = 0
unmet met (frames ∷ rest) = unmet_on (met 0) frames + unmet (λ n. met (suc n)) rest

-- what was met stays met
abbrev pub Grows : (ℕ → Bool) → (ℕ → Bool) → Type 0
Grows old new = (k : ℕ) → old k ≡ true → new k ≡ true

unmet_on-falls : (old new : ℕ → Bool) (count : ℕ) → Grows old new
    → unmet_on new count ≤ unmet_on old count
unmet_on-falls old new zero grows = omega arith
unmet_on-falls old new (suc n) grows = go (old n) (new n) (grows n) (unmet_on-falls old new n grows)
  where
    go : (a b : Bool) → (a ≡ true → b ≡ true) → unmet_on new n ≤ unmet_on old n
        → (if b then 0 else 1) + unmet_on new n ≤ (if a then 0 else 1) + unmet_on old n
    go true true h le = omega arith
    go true false h le = absurd (let e : false ≡ true = h refl in cc)
    go false true h le = omega arith
    go false false h le = omega arith

unmet_on-less : (old new : ℕ → Bool) (count k : ℕ) → Grows old new → k < count → old k ≡ false
    → new k ≡ true → unmet_on new count < unmet_on old count
unmet_on-less old new zero k grows low was is = absurd (omega arith)
unmet_on-less old new (suc n) k grows low was is = elim (eqb_tells k n) [
  | inl e ↦ let less : unmet_on new n ≤ unmet_on old n = unmet_on-falls old new n grows in
      rw (sym (ap old e.1) ∙ was, sym (ap new e.1) ∙ is) (omega arith)
  | inr e ↦ go (old n) (new n) (grows n) (unmet_on-less old new n k grows (omega arith) was is)
]
  where
    go : (a b : Bool) → (a ≡ true → b ≡ true) → unmet_on new n < unmet_on old n
        → (if b then 0 else 1) + unmet_on new n < (if a then 0 else 1) + unmet_on old n
    go true true h le = omega arith
    go true false h le = absurd (let e : false ≡ true = h refl in cc)
    go false true h le = omega arith
    go false false h le = omega arith

unmet-falls : (old new : ℕ → ℕ → Bool) (frames : List ℕ) → ((n : ℕ) → Grows (old n) (new n))
    → unmet new frames ≤ unmet old frames
unmet-falls old new [] grows = omega arith
unmet-falls old new (f ∷ rest) grows =
    let here : unmet_on (new 0) f ≤ unmet_on (old 0) f =
    unmet_on-falls (old 0) (new 0) f (grows 0) in
    let behind : unmet (λ n. new (suc n)) rest ≤ unmet (λ n. old (suc n)) rest =
    unmet-falls (λ n. old (suc n)) (λ n. new (suc n)) rest (λ n. grows (suc n)) in
    omega arith

-- one frame more is met
pub unmet-less : (old new : ℕ → ℕ → Bool) (frames : List ℕ) (n k : ℕ)
    → ((n : ℕ) → Grows (old n) (new n)) → k < slice_index frames n → old n k ≡ false
    → new n k ≡ true → unmet new frames < unmet old frames
unmet-less old new [] n k grows low was is = absurd (omega arith)
unmet-less old new (f ∷ rest) zero k grows low was is =
    let here : unmet_on (new 0) f < unmet_on (old 0) f = unmet_on-less (old 0) (new 0) f k (grows 0)
    low was is in
    let behind : unmet (λ n. new (suc n)) rest ≤ unmet (λ n. old (suc n)) rest =
    unmet-falls (λ n. old (suc n)) (λ n. new (suc n)) rest (λ n. grows (suc n)) in
    omega arith
unmet-less old new (f ∷ rest) (suc n) k grows low was is =
    let here : unmet_on (new 0) f ≤ unmet_on (old 0) f =
    unmet_on-falls (old 0) (new 0) f (grows 0) in
    let behind : unmet (λ n. new (suc n)) rest < unmet (λ n. old (suc n)) rest =
    unmet-less (λ n. old (suc n)) (λ n. new (suc n)) rest n k (λ n. grows (suc n)) low was is in
    omega arith

unmet_on-all : (count : ℕ) → unmet_on (λ k. false) count ≡ count
unmet_on-all zero = refl
unmet_on-all (suc n) = let below : unmet_on (λ k. false) n ≡ n = unmet_on-all n in omega arith

-- at first all are unmet
pub unmet-all : (frames : List ℕ) → unmet (λ n k. false) frames ≡ sum frames
unmet-all [] = refl
unmet-all (f ∷ rest) =
    let here : unmet_on (λ k. false) f ≡ f = unmet_on-all f in
    let behind : unmet (λ n k. false) rest ≡ sum rest = unmet-all rest in
    let whole : sum (f ∷ rest) ≡ f + sum rest = sum_by-cons (λ x. x) f rest in
    omega arith
