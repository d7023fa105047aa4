-- One more entry of a list that is made in order.
use Rattle.std.proofs.Common.{◌≡◌, ℕ, ◌+◌, ◌*◌, ◌<◌, List, [], ◌∷◌, ◌++◌, length, take, get_or, sym}
use Rattle.std.proofs.Common.{ap, ◌∙◌}
use Rattle.std.proofs.lemmas.List.{take_more, map_more}
use Rattle.std.specs.Prelude.{slice_index}
use Rattle.numa_plan.specs.Rules.{first_nodes}
use Rattle.numa_plan.specs.declared.slots.Slot.{Slot}

-- a slot is copied
pub copied-more : (slots made more : List Slot) (slot copy : Slot) (i : ℕ) → i < length slots
    → slot ≡ get_or slots i slot → copy ≡ slot → made ≡ take i slots → more ≡ made ++ copy ∷ []
    → more ≡ take (i + 1) slots
copied-more slots made more slot copy i within is same so added =
    added ∙ (ap (λ (s : Slot). made ++ s ∷ []) (same ∙ is)
    ∙ (ap (λ (l : List Slot). l ++ get_or slots i slot ∷ []) so
    ∙ sym (take_more slots i slot within)))

-- the first node of a row stands in a cycle
pub first-more : (rows : List ℕ) (width : ℕ) (cycle made more : List ℕ) (first i : ℕ)
    → i < length cycle → first ≡ slice_index rows (get_or cycle i 0 * width)
    → made ≡ first_nodes rows width (take i cycle) → more ≡ made ++ first ∷ []
    → more ≡ first_nodes rows width (take (i + 1) cycle)
first-more rows width cycle made more first i within at so added =
    added ∙ (ap (λ (l : List ℕ). l ++ first ∷ []) so
    ∙ (ap (λ (n : ℕ). first_nodes rows width (take i cycle) ++ n ∷ []) at
    ∙ sym (map_more (λ (n : ℕ). slice_index rows (n * width)) cycle i 0 within)))
