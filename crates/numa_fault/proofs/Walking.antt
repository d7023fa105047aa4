-- Walks of the nodes of a list, one after the other.
use Rattle.std.proofs.Common.{◌≡◌, ℕ, ◌<◌, List, [], ◌∷◌, ◌++◌, length, drop, sym, subst, ◌∙◌, ap}
use Rattle.std.proofs.Common.{inr, refl}
use Rattle.std.proofs.Math.Seq.{drop-cons}
use Rattle.std.specs.Prelude.{Option, None, slice_index}
use Rattle.numa_machine.specs.declared.frame.Frame.{Frame}
use Rattle.numa_pool.specs.declared.view.Entry.{Entry}
use Rattle.numa_pool.specs.Walk.{IsWalk, LoadsOnce, WalksInOrder}

-- a list of nodes by its first one
pub behind : (frames nodes rest : List ℕ) (n : ℕ) → 0 < length nodes → n ≡ slice_index nodes 0
    → rest ≡ drop 1 nodes → (first later : List Entry) (found : Option Frame)
    → IsWalk frames (n ∷ []) None first → LoadsOnce first → WalksInOrder frames rest found later
    → WalksInOrder frames nodes found (later ++ first)
behind frames nodes rest n some_node is_first is_rest first later found walk once h =
    let whole : n ∷ rest ≡ nodes = ap (λ m. m ∷ rest) is_first ∙ ap (λ ns. slice_index nodes 0 ∷ ns)
    is_rest ∙ sym (drop-cons nodes 0 0 some_node) in
    subst (λ (ns : List ℕ). WalksInOrder frames ns found (later ++ first)) whole
    (inr (first, later, refl, walk, once, h))
