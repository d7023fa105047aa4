-- Processes that are copied one after the other.
use Rattle.std.proofs.Common.{◌≡◌, ℕ, ◌+◌, ◌<◌, List, [], ◌∷◌, ◌++◌, length, take, get_or, sym}
use Rattle.std.proofs.Common.{ap, ◌∙◌}
use Rattle.std.proofs.lemmas.List.{take_more}
use Rattle.numa_host.specs.declared.process.Process.{Process}

pub copied-more : (olds made more : List Process) (process copy : Process) (i : ℕ)
    → i < length olds → process ≡ get_or olds i process → copy ≡ process → made ≡ take i olds
    → more ≡ made ++ copy ∷ [] → more ≡ take (i + 1) olds
copied-more olds made more process copy i within is same so added =
    added ∙ (ap (λ (p : Process). made ++ p ∷ []) (same ∙ is)
    ∙ (ap (λ (ps : List Process). ps ++ get_or olds i process ∷ []) so
    ∙ sym (take_more olds i process within)))
