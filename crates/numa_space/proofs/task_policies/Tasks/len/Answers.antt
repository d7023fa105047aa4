use Rattle.std.proofs.Common.{◌≢◌, ℕ, List, AllPairs, sym, subst, ◌∙◌, arith}
use Rattle.std.proofs.Math.ListN.{get_or-map}
use Rattle.std.proofs.lemmas.Bool.Decides.{Decides-eqb}
use Rattle.std.proofs.lemmas.List.{length-map}
use Rattle.std.proofs.lemmas.Map.Made.{AllPairs-from_IsDistinct}
use Rattle.std.specs.Map.{keys_of}
use Rattle.numa_mode.specs.Policy.{PolicyRecord}
use Rattle.numa_space.specs.Shared.{with_records}
use Rattle.numa_space.proofs.Shared.{keys-with}
use Rattle.numa_space.proofs.task_policies.Tasks.len.Goals as goal

keys_apart : (es : List (ℕ × PolicyRecord)) → AllPairs (λ x y. x ≢ y) (keys_of es)
    → AllPairs (λ earlier later. earlier.0 ≢ later.0) es
keys_apart es apart i j d before within same =
    let key : (ℕ × PolicyRecord) → ℕ = λ e. e.0 in
    apart i j d.0 before (omega (arith, length-map es key)) (get_or-map key es i d ∙ same
    ∙ sym (get_or-map key es j d))

pub returns-clause-each_once : goal.returns-clause-each_once
returns-clause-each_once c =
    let apart : AllPairs (λ x y. x ≢ y) (keys_of c.self.inside.numbers.entries) =
    AllPairs-from_IsDistinct Decides-eqb (keys_of c.self.inside.numbers.entries)
    c.len.ensures.unique in
    let kept = with_records c.self.inside.records c.self.inside.numbers.entries in
    let P : List (ℕ × PolicyRecord) → Type 0 = λ es. AllPairs (λ earlier later. earlier.0 ≢ later.0)
    es in
    let Q : List ℕ → Type 0 = λ keys. AllPairs (λ x y. x ≢ y) keys in
    subst P c.self.view_is (keys_apart kept
    (subst Q (sym (keys-with c.self.inside.records c.self.inside.numbers.entries)) apart))
