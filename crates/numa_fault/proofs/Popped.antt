-- What holds of each element of a list from which the last one was taken, and of that one.
use Rattle.std.specs.Prelude.{◌≡◌, ◌++◌, ◌+◌, List, [], ◌∷◌, Option, Some, length, option_to_list}
use Rattle.std.specs.List.{All}
use Rattle.std.proofs.Common.{◌∙◌, ap, subst, arith, length-append}
use Rattle.std.proofs.Math.ListN.{get_or-append}
use Rattle.std.proofs.Math.Seq.{get_or-append_seam}

all_but_last : {X : Type 0} (P : X → Type 0) (xs : List X) (x : X)
    → All P (xs ++ x ∷ []) → All P xs × P x
all_but_last P xs x all = (
  (λ i d lt. subst P (get_or-append xs (x ∷ []) d i lt)
      (all i d (let long = length-append xs (x ∷ []) in omega (arith, lt, long)))),
  subst P (get_or-append_seam xs x [] x)
      (all (length xs) x (let long = length-append xs (x ∷ []) in omega (arith, long))),
)

pub popped : {X : Type 0} (P : X → Type 0) (old new : List X) (o : Option X) (x : X)
    → old ≡ new ++ option_to_list o → o ≡ Some x → All P old → All P new × P x
popped P old new o x is some all =
    all_but_last P new x (subst (λ o. All P (new ++ option_to_list o)) some (subst (All P) is all))

-- the list had one element more than there are left
pub one_fewer : {X : Type 0} (old new : List X) (o : Option X) (x : X)
    → old ≡ new ++ option_to_list o → o ≡ Some x → length old ≡ length new + 1
one_fewer old new o x is some =
    ap length (is ∙ ap (λ o. new ++ option_to_list o) some) ∙ length-append new (x ∷ [])
