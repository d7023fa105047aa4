-- What a writer has that began empty and was told one text.
use Rattle.std.proofs.Common.{◌≡◌, ℕ, ◌++◌, Bool, true, false, Option, Some, List, [], refl, sym}
use Rattle.std.proofs.Common.{ap, subst, ◌∙◌}
use Rattle.std.proofs.lemmas.List.{append-nil}
use Rattle.numa_lines.specs.Written.{IsSaid}

begun : (failed : Bool) (held : List ℕ) → failed ≡ false → held ≡ []
    → IsSaid (Some []) (Some []) failed held []
begun true held well empty = cc
begun false held well empty = ([], refl, sym empty)

ended : (bytes : List ℕ) (failed : Bool) (held text : List ℕ) → failed ≡ false → held ≡ []
    → IsSaid (Some []) (Some bytes) failed held text → bytes ≡ text
ended bytes true held text well empty is = cc
ended bytes false held text well empty is = is.1
    ∙ (sym (append-nil is.0) ∙ (ap (λ rest. is.0 ++ rest) (sym empty) ∙ sym is.2))

pub text-written : (first bytes : List ℕ) (failed failed-then : Bool) (held held-then text : List ℕ)
    → first ≡ [] → failed ≡ false → held ≡ [] → failed-then ≡ false → held-then ≡ []
    → ((start : Option (List ℕ)) (said : List ℕ) → IsSaid start (Some first) failed held said
    → IsSaid start (Some bytes) failed-then held-then (said ++ text)) → bytes ≡ text
text-written first bytes failed failed-then held held-then text none well empty well-then empty-then
    says =
    ended bytes failed-then held-then text well-then empty-then
    (says (Some []) [] (subst (λ l. IsSaid (Some []) (Some l) failed held []) (sym none)
    (begun failed held well empty)))
