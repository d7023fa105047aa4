-- Each row gets what a function makes of it.
use Rattle.std.proofs.Common.{◌≡◌, ℕ, ◌+◌, ◌<◌, ◌≤◌, List, ◌++◌, length, take, drop, map}
use Rattle.std.proofs.Common.{set, get_or, ap, ◌∙◌, append-nil, ◌∷◌, arith}
use Rattle.std.proofs.lemmas.List.{take_all, drop_all, drop_more, get_or_at, length-take, length-map}
use Rattle.std.proofs.lemmas.List.Edits.{map_over_more}

-- one more element gets its change
pub change-more : {X : Type 0} (change : X → X) (whole now : List X) (i : ℕ) (x made : X)
    → i < length whole → now ≡ map change (take i whole) ++ drop i whole → x ≡ get_or now i x
    → made ≡ change x → set now i made ≡ map change (take (i + 1) whole) ++ drop (i + 1) whole
change-more change whole now i x made within is read so = ap (λ y. set now i y) so
    ∙ map_over_more change whole now i x within is read

pub change-all : {X : Type 0} (change : X → X) (whole now : List X) (i : ℕ) → length whole ≤ i
    → now ≡ map change (take i whole) ++ drop i whole → now ≡ map change whole
change-all change whole now i all is =
    is ∙ (ap (λ l. map change (take i whole) ++ l) (drop_all i whole all)
    ∙ (append-nil (map change (take i whole)) ∙ ap (map change) (take_all i whole all)))

-- an element that has no change yet
pub unmoved : {X : Type 0} (change : X → X) (whole now : List X) (i : ℕ) (d : X) → i < length whole
    → now ≡ map change (take i whole) ++ drop i whole → get_or now i d ≡ get_or whole i d
unmoved change whole now i d within is =
    let front = map change (take i whole) in
    let long : length front ≡ i = length-map (take i whole) change
    ∙ omega (arith, length-take i whole) in
    ap (λ l. get_or l i d) (is ∙ ap (λ l. front ++ l) (drop_more whole i d within))
    ∙ get_or_at front (get_or whole i d) (drop (i + 1) whole) d i long
