-- What is read of a list of processes, at a place.
use Rattle.std.proofs.Common.{◌≡◌, ◌∷◌, ℕ, List, [], Option, None, Some, Bor, ap, length}
use Rattle.std.proofs.Common.{refl, subst}
use Rattle.std.proofs.lemmas.Option.{slice_get_past, slice_get_read}
use Rattle.std.specs.Slice.{IsItemAt}
use Rattle.numa_moves.specs.Sums.{moves_at, moves_or}
use Rattle.numa_moves.specs.declared.holding.HoldingMoves.{HoldingMoves}

pub read-none : (told : List HoldingMoves) (place : ℕ) (found : Option (Bor HoldingMoves))
    → IsItemAt told place found → found ≡ None → moves_at told place ≡ []
read-none told place found item is =
    let so = subst (λ (o : Option (Bor HoldingMoves)). IsItemAt told place o) is item in
    ap moves_or (slice_get_past told place so.3)

pub read-some : (told : List HoldingMoves) (place : ℕ) (found : Option (Bor HoldingMoves))
    (one : Bor HoldingMoves) → IsItemAt told place found → found ≡ Some one
    → moves_at told place ≡ one.now.moves.items ∷ []
read-some told place found one item is =
    let so = subst (λ (o : Option (Bor HoldingMoves)). IsItemAt told place o) is item in
    ap moves_or (slice_get_read told (length told) place one.now refl so.3.0 so.1)
