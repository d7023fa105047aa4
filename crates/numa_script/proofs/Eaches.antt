-- Lists whose every item has a value.
use Rattle.std.specs.Prelude.{◌≡◌, ℕ, ◌&&◌, Bool, true, false, List, [], ◌∷◌, ◌++◌, Option, Some}
use Rattle.std.specs.Prelude.{None, map, is_some, unwrap_or, refl}
use Rattle.std.specs.List.{list_all, flat_map, range_with_len}
use Rattle.std.proofs.lemmas.List.FromFn.{map-range_with_len_more}
use Rattle.std.proofs.lemmas.List.{append-nil}
use Rattle.std.proofs.lemmas.Grind.{flat_map-append}
use Rattle.std.proofs.Common.{◌+◌, ap, sym, ◌∙◌, arith}
use Rattle.std.proofs.lemmas.List.Folds.{list_all-append}
use Rattle.numa_script.specs.Parts.{items_of, rows_of}
use Rattle.numa_script.specs.Machines.{entries_of, frames_for}
use Rattle.numa_script.specs.Present.{with_two, each_of}

both_true : (a b : Bool) → (a && b) ≡ true → (a ≡ true) × (b ≡ true)
both_true true b h = (refl, h)
both_true false b h = cc

is_some_value : (o : Option ℕ) → is_some o ≡ true → o ≡ Some (unwrap_or o 0)
is_some_value None h = cc
is_some_value (Some x) h = refl

-- where each item has a value, those are what is given
pub each_known : (f : List ℕ → Option ℕ) (xs : List (List ℕ)) → list_all (λ x. is_some (f x)) xs
    ≡ true → each_of f xs ≡ Some (map (λ x. unwrap_or (f x) 0) xs)
each_known f [] h = refl
each_known f (x ∷ xs) h =
    let parts = both_true (is_some (f x)) (list_all (λ x. is_some (f x)) xs) h in
    rw (is_some_value (f x) parts.0, each_known f xs parts.1) refl

missing_first : (o : Option ℕ) (ys : Option (List ℕ)) (b : Bool) → (is_some o && b) ≡ false
    → (b ≡ false → ys ≡ None) → with_two (λ y ys. y ∷ ys) o ys ≡ None
missing_first None ys b h rest = refl
missing_first (Some x) ys b h rest = rw (rest h) refl

-- where an item has no value, nothing is given
pub each_missing : (f : List ℕ → Option ℕ) (xs : List (List ℕ)) → list_all (λ x. is_some (f x)) xs
    ≡ false → each_of f xs ≡ None
each_missing f [] h = cc
each_missing f (x ∷ xs) h = missing_first (f x) (each_of f xs) (list_all (λ x. is_some (f x)) xs) h
    (each_missing f xs)

-- a test of each element of each list
pub list_all-flat_map : {X Y : Type 0} (p : Y → Bool) (f : X → List Y) (xs : List X)
    → list_all p (flat_map f xs) ≡ list_all (λ x. list_all p (f x)) xs
list_all-flat_map p f [] = refl
list_all-flat_map p f (x ∷ xs) = list_all-append p (f x) (flat_map f xs)
    ∙ ap (λ b. list_all p (f x) && b) (list_all-flat_map p f xs)

-- the entries of a table
pub table_known : (f : List ℕ → Option ℕ) (word : List ℕ)
    → list_all (λ row. list_all (λ x. is_some (f x)) (items_of row)) (rows_of word) ≡ true →
    each_of f (entries_of word) ≡ Some (map (λ x. unwrap_or (f x) 0) (entries_of word))
table_known f word h =
    each_known f (entries_of word) (list_all-flat_map (λ x. is_some (f x)) items_of (rows_of word)
    ∙ h)

pub table_missing : (f : List ℕ → Option ℕ) (word : List ℕ)
    → list_all (λ row. list_all (λ x. is_some (f x)) (items_of row)) (rows_of word) ≡ false →
    each_of f (entries_of word) ≡ None
table_missing f word h =
    each_missing f (entries_of word) (list_all-flat_map (λ x. is_some (f x)) items_of (rows_of word)
    ∙ h)

-- one more row, or one more entry of a row
pub row_more : (f : ℕ → ℕ) (n : ℕ) → map f (range_with_len 0 (n + 1)) ≡ map f (range_with_len 0 n)
    ++ f n ∷ []
row_more f n = map-range_with_len_more f 0 n n (omega arith)

range_more : (n : ℕ) → range_with_len 0 (n + 1) ≡ range_with_len 0 n ++ n ∷ []
range_more n = sym (map_id (range_with_len 0 (n + 1))) ∙ row_more (λ x. x) n
    ∙ ap (λ l. l ++ n ∷ []) (map_id (range_with_len 0 n))
  where
    map_id : (xs : List ℕ) → map (λ x. x) xs ≡ xs
    map_id [] = refl
    map_id (x ∷ xs) = ap (λ l. x ∷ l) (map_id xs)

pub table_more : (f : ℕ → List ℕ) (n : ℕ) → flat_map f (range_with_len 0 (n + 1))
    ≡ flat_map f (range_with_len 0 n) ++ f n
table_more f n = ap (flat_map f) (range_more n) ∙ flat_map-append f (range_with_len 0 n) (n ∷ [])
    ∙ ap (λ l. flat_map f (range_with_len 0 n) ++ l) (append-nil (f n))

-- more than one number are those of the nodes in turn
pub frames_of_more : (g : List ℕ → ℕ) (nodes memory : ℕ) (xs : List (List ℕ))
    → ((x : List ℕ) → xs ≡ x ∷ [] → ⊥) → frames_for nodes memory (map g xs) ≡ map g xs
frames_of_more g nodes memory [] h = refl
frames_of_more g nodes memory (x ∷ []) h = absurd (h x refl)
frames_of_more g nodes memory (x ∷ y ∷ zs) h = refl
