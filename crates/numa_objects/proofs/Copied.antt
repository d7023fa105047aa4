-- Objects that are shared one after the other.
use Rattle.std.proofs.Common.{◌≡◌, ℕ, ◌+◌, ◌<◌, List, [], ◌∷◌, ◌++◌, length, take, get_or, sym}
use Rattle.std.proofs.Common.{ap, ◌∙◌}
use Rattle.std.proofs.lemmas.List.{take_more}
use Rattle.numa_objects.specs.Objects.{ObjectData}

pub copied-more : (olds made more : List ObjectData) (object copy : ObjectData) (i : ℕ)
    → i < length olds → object ≡ get_or olds i object → copy ≡ object → made ≡ take i olds
    → more ≡ made ++ copy ∷ [] → more ≡ take (i + 1) olds
copied-more olds made more object copy i within is same so added =
    added ∙ (ap (λ (p : ObjectData). made ++ p ∷ []) (same ∙ is)
    ∙ (ap (λ (ps : List ObjectData). ps ++ get_or olds i object ∷ []) so
    ∙ sym (take_more olds i object within)))
