-- A trace in the order of its accesses, one access longer.
use Rattle.std.proofs.Common.{◌≡◌, ℕ, ◌+◌, ◌<◌, ◌∷◌, ◌∙◌, List, [], ap, get_or, length, reverse, take}
use Rattle.std.proofs.lemmas.List.{reverse-append, take_more}
use Rattle.numa_traces.specs.declared.access.Access.{Access}

pub next-reversed : (trace : List Access) (k : ℕ) (d : Access) → k < length trace
    → reverse (take (k + 1) trace) ≡ get_or trace k d ∷ reverse (take k trace)
next-reversed trace k d lt = ap (λ (l : List Access). reverse l) (take_more trace k d lt)
    ∙ reverse-append (take k trace) (get_or trace k d ∷ [])
