-- Lists with one element written.
use Rattle.std.proofs.Common.{zero, suc, ◌≡◌, ℕ, ◌<◌, ◌==◌, List, [], ◌∷◌, length, Some}
use Rattle.std.proofs.Common.{refl, sym, ap, subst, ◌∙◌, arith, if◌then◌else◌}
use Rattle.std.proofs.Common.{slice_get, set, get_or}
use Rattle.std.proofs.lemmas.Bool.{ne_eqb}
use Rattle.std.proofs.lemmas.Bool.Decides.{nat_tests}
use Rattle.std.proofs.lemmas.List.{set-get_or}
use Rattle.std.proofs.lemmas.Option.{get_or_from_slice_get, slice_get_read}

suc_eqb : (a b : ℕ) → (a == b) ≡ (suc a == suc b)
suc_eqb a b = grind (arith, nat_tests)

pub slice_get-set : {X : Type 0} (xs : List X) (w : ℕ) (x : X) (v : ℕ) → w < length xs
    → slice_get (set xs w x) v ≡ (if w == v then Some x else slice_get xs v)
slice_get-set [] w x v low = absurd (omega arith)
slice_get-set (y ∷ xs) zero x zero low = refl
slice_get-set (y ∷ xs) zero x (suc v) low = rw (ne_eqb 0 (suc v) (omega arith)) refl
slice_get-set (y ∷ xs) (suc w) x zero low = rw (ne_eqb (suc w) 0 (omega arith)) refl
slice_get-set (y ∷ xs) (suc w) x (suc v) low = slice_get-set xs w x v (omega arith)
    ∙ ap (λ b. if b then Some x else slice_get xs v) (suc_eqb w v)

-- the element that was read at a place
pub there_at : {X : Type 0} (xs : List X) (w : ℕ) (x : X) → w < length xs → x ≡ get_or xs w x
    → slice_get xs w ≡ Some x
there_at xs w x low is = slice_get_read xs (length xs) w x refl low is

-- the element is written back
pub set_back : {X : Type 0} (xs : List X) (w : ℕ) (x : X) → slice_get xs w ≡ Some x
    → set xs w x ≡ xs
set_back xs w x at =
    ap (set xs w) (sym (get_or_from_slice_get xs w x x at)) ∙ set-get_or xs w x

-- what holds of each element, with one written
pub each-set : {X : Type 0} (P : X → Type 0) (xs : List X) (w : ℕ) (x : X) → P x
    → ((v : ℕ) (y : X) → slice_get xs v ≡ Some y → P y) → (v : ℕ) (y : X)
    → slice_get (set xs w x) v ≡ Some y → P y
each-set P [] w x p each v y e = each v y e
each-set P (z ∷ xs) zero x p each zero y e = let same : x ≡ y = cc in subst P same p
each-set P (z ∷ xs) zero x p each (suc v) y e = each (suc v) y e
each-set P (z ∷ xs) (suc w) x p each zero y e = each 0 y e
each-set P (z ∷ xs) (suc w) x p each (suc v) y e = each-set P xs w x p (λ u. each (suc u)) v y e
