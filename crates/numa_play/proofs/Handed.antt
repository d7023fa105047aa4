-- What is stated to a session before the first line `do` of a trace.
use Rattle.std.proofs.Common.{◌≡◌, ◌∙◌, ℕ, List, arith, length, length-take, min}
use Rattle.std.proofs.Common.{sym, take, take-take, take_all}

-- the first of some, up to a limit, or to the end
pub take-few : {A : Type 0} (xs : List A) (few most : ℕ) → few ≡ min (length xs) most
    → take few xs ≡ take most xs
take-few xs few most is =
    sym (take-take few most xs (omega (arith, is)))
    ∙ take_all few (take most xs) (omega (arith, is, length-take most xs))
