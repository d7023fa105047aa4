-- Places dealt out in turn.
use Rattle.std.proofs.Common.{◌≡◌, ℕ, zero, suc, ◌+◌, ◌*◌, ◌/◌, ◌-◌, ◌<◌, ◌≤◌, List, [], ◌∷◌, ◌++◌}
use Rattle.std.proofs.Common.{length, drop, get_or, refl, sym, ap, ◌∙◌, arith}
use Rattle.std.proofs.Math.Nat.{add-mul, lt-div-mul-add, lt_of_mul-lt-mul_right, suc-mul}
use Rattle.std.proofs.Math.Seq.{drop-cons}
use Rattle.std.proofs.lemmas.List.{drop-drop}
use Rattle.std.specs.Prelude.{slice_get}
use native.Mathlib.Decide.{ℕ_discrete, dec_lt}
use Rattle.numa_fault.specs.Crew.{column}
use Rattle.numa_fault.specs.Turns.{share, wait}

pub column-drop : {X : Type 0} (count w : ℕ) (xs : List X)
    → column count w xs ≡ column count 0 (drop w xs)
column-drop count zero [] = refl
column-drop count (suc w) [] = refl
column-drop count zero (x ∷ xs) = refl
column-drop count (suc w) (x ∷ xs) = column-drop count w xs

pub column-at : {X : Type 0} (count w j : ℕ) (xs : List X) → 0 < count
    → slice_get (column count w xs) j ≡ slice_get xs (w + j * count)
column-at count zero j [] some_turn = refl
column-at count (suc w) j [] some_turn = refl
column-at count zero zero (x ∷ xs) some_turn = let here : 0 ≡ 0 + 0 * count = omega arith in
    ap (slice_get (x ∷ xs)) here
column-at count zero (suc j) (x ∷ xs) some_turn =
    let one_more : suc j * count ≡ j * count + count = suc-mul j count in
    let there : suc (count - 1 + j * count) ≡ 0 + suc j * count = omega arith in
    column-at count (count - 1) j xs some_turn ∙ ap (slice_get (x ∷ xs)) there
column-at count (suc w) j (x ∷ xs) some_turn =
    let there : suc (w + j * count) ≡ suc w + j * count = omega arith in
    column-at count w j xs some_turn ∙ ap (slice_get (x ∷ xs)) there

pub column-next : {X : Type 0} (count i : ℕ) (xs : List X) (d : X) → 0 < count → i < length xs
    → column count 0 (drop i xs) ≡ get_or xs i d ∷ column count 0 (drop (i + count) xs)
column-next count i xs d some_turn inside =
    let next : suc i + (count - 1) ≡ i + count = omega arith in
    ap (column count 0) (drop-cons xs i d inside)
    ∙ ap (λ l. get_or xs i d ∷ l) (column-drop count (count - 1) (drop (suc i) xs)
    ∙ ap (column count 0) (drop-drop (count - 1) (suc i) xs ∙ ap (λ n. drop n xs) next))

pub length-column : {X : Type 0} (count w : ℕ) (xs : List X) → length (column count w xs)
    ≡ share count w (length xs)
length-column count w [] = none w
  where
    none : (w : ℕ) → 0 ≡ share count w 0
    none zero = refl
    none (suc w) = refl
length-column count zero (x ∷ xs) = ap suc (length-column count (count - 1) xs)
length-column count (suc w) (x ∷ xs) = length-column count w xs

-- the places of w's turns are apart by the count, so there are few of them
share-low : (count w n : ℕ) → share count w n * count ≤ n + count - 1 - w
share-low count zero zero = omega arith
share-low count (suc w) zero = omega arith
share-low count zero (suc n) =
    let r = share-low count (count - 1) n in
    let one_more : suc (share count (count - 1) n) * count ≡ share count (count - 1) n * count
    + count = suc-mul (share count (count - 1) n) count in
    omega arith
share-low count (suc w) (suc n) = let r = share-low count w n in omega arith

pub share-few : (count w n : ℕ) → 0 < count → share count w n ≤ n / count + 1
share-few count w n some_turn =
    let low = share-low count w n in
    let high = lt-div-mul-add {a = n} {b = count} some_turn in
    let two_more : (n / count + 2) * count ≡ n / count * count + 2 * count =
    add-mul (n / count) 2 count in
    let less : share count w n * count < (n / count + 2) * count = omega arith in
    let few = lt_of_mul-lt-mul_right count less in
    omega arith

pub wait-again : (count w n : ℕ) → wait count w n ≡ 0 → wait count w (suc n) ≡ count - 1
wait-again count zero zero h = refl
wait-again count (suc w) zero h = absurd (omega arith)
wait-again count zero (suc n) h = wait-again count (count - 1) n h
wait-again count (suc w) (suc n) h = wait-again count w n h

pub wait-less : (count w n v : ℕ) → wait count w n ≡ suc v → wait count w (suc n) ≡ v
wait-less count zero zero v h = absurd (omega arith)
wait-less count (suc w) zero v h = let r : w ≡ v = omega (arith, h) in r
wait-less count zero (suc n) v h = wait-less count (count - 1) n v h
wait-less count (suc w) (suc n) v h = wait-less count w n v h

pub share-more : (count w n m : ℕ) → wait count w n ≡ 0 → n < m → share count w n < share count w m
share-more count w n zero h l = absurd (omega arith)
share-more count zero zero (suc m) h l = omega arith
share-more count (suc w) zero (suc m) h l = absurd (omega arith)
share-more count zero (suc n) (suc m) h l = let r =
    share-more count (count - 1) n m h (omega arith) in omega arith
share-more count (suc w) (suc n) (suc m) h l = share-more count w n m h (omega arith)

pub column-here : {X : Type 0} (count w : ℕ) (xs : List X) (x : X) → wait count w (length xs) ≡ 0
    → column count w (xs ++ x ∷ []) ≡ column count w xs ++ x ∷ []
column-here count zero [] x h = refl
column-here count (suc w) [] x h = absurd (omega arith)
column-here count zero (y ∷ ys) x h = ap (λ l. y ∷ l) (column-here count (count - 1) ys x h)
column-here count (suc w) (y ∷ ys) x h = column-here count w ys x h

pub column-else : {X : Type 0} (count w : ℕ) (xs : List X) (x : X) → 0 < wait count w (length xs)
    → column count w (xs ++ x ∷ []) ≡ column count w xs
column-else count zero [] x h = absurd (omega arith)
column-else count (suc w) [] x h = refl
column-else count zero (y ∷ ys) x h = ap (λ l. y ∷ l) (column-else count (count - 1) ys x h)
column-else count (suc w) (y ∷ ys) x h = column-else count w ys x h

wait-then : (count w n : ℕ) → wait count w n ≡ 0 → wait count w (n + 1) ≡ count - 1
wait-then count w n h = let one : suc n ≡ n + 1 = omega arith in ap (wait count w) (sym one)
    ∙ wait-again count w n h

wait-down : (count w n v : ℕ) → wait count w n ≡ v + 1 → wait count w (n + 1) ≡ v
wait-down count w n v h = let one : suc n ≡ n + 1 = omega arith in
    let next : wait count w n ≡ suc v = omega (arith, h) in ap (wait count w) (sym one)
    ∙ wait-less count w n v next

-- whose turn it is after n places, and how long each of the others waits
abbrev pub Ahead : ℕ → ℕ → ℕ → Type 0
Ahead count turn n = (w : ℕ) → w < count → turn ≤ w → wait count w n + turn ≡ w

abbrev pub Behind : ℕ → ℕ → ℕ → Type 0
Behind count turn n = (w : ℕ) → w < turn → wait count w n + turn ≡ w + count

module _ (count turn n : ℕ) (inside : turn < count) (ahead : Ahead count turn n)
    (behind : Behind count turn n) where
  pub here : wait count turn n ≡ 0
  here = let h = ahead turn inside (omega arith) in omega arith

  pub elsewhere : (w : ℕ) → w < count → (w ≡ turn → ⊥) → 0 < wait count w n
  elsewhere w l d = by (dec_lt w turn)
    where
      by : Dec (w < turn) → 0 < wait count w n
      by (yes below) = let h = behind w below in omega arith
      by (no above) = at (ℕ_discrete w turn)
        where
          at : Dec (w ≡ turn) → 0 < wait count w n
          at (yes e) = absurd (d e)
          at (no apart) = let h = ahead w l (omega (arith, above)) in let more : turn < w =
              omega (arith, above, apart) in omega arith

  -- the first worker is next
  pub ahead-round : turn + 1 ≡ count → Ahead count 0 (n + 1)
  ahead-round last w l h = by (ℕ_discrete w turn)
    where
      by : Dec (w ≡ turn) → wait count w (n + 1) + 0 ≡ w
      by (yes e) = let z = wait-then count w n (ap (λ i. wait count i n) e ∙ here) in omega arith
      by (no d) = let low : w < turn = omega (arith, d) in let b = behind w low in let z =
          wait-down count w n w (omega arith) in omega arith

  -- the next worker is next
  pub ahead-on : Ahead count (turn + 1) (n + 1)
  ahead-on w l h = let a = ahead w l (omega arith) in let z =
      wait-down count w n (w - (turn + 1)) (omega arith) in omega arith

  pub behind-on : Behind count (turn + 1) (n + 1)
  behind-on w l = by (ℕ_discrete w turn)
    where
      by : Dec (w ≡ turn) → wait count w (n + 1) + (turn + 1) ≡ w + count
      by (yes e) = let z = wait-then count w n (ap (λ i. wait count i n) e ∙ here) in omega arith
      by (no d) = let low : w < turn = omega (arith, d) in let b = behind w low in let z =
          wait-down count w n (w + count - turn - 1) (omega arith) in omega arith

-- all places fall to one alone
pub column-whole : {X : Type 0} (xs : List X) → column 1 0 xs ≡ xs
column-whole [] = refl
column-whole (x ∷ xs) = ap (λ l. x ∷ l) (column-whole xs)

pub share-whole : (n : ℕ) → share 1 0 n ≡ n
share-whole zero = refl
share-whole (suc n) = ap suc (share-whole n)
