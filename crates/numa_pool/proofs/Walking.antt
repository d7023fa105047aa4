-- Walks of the nodes of a list, one after the other.
use Rattle.std.proofs.Common.{◌≡◌, ℕ, suc, ◌+◌, ◌<◌, List, [], ◌∷◌, ◌++◌, length, drop, sym, subst}
use Rattle.std.proofs.Common.{inl, inr, refl, append_assoc, arith}
use Rattle.std.proofs.Math.Seq.{drop-cons}
use Rattle.std.specs.Prelude.{Option, Some, None, slice_index}
use Rattle.numa_machine.specs.declared.frame.Frame.{Frame}
use Rattle.numa_pool.specs.declared.view.Entry.{Entry}
use Rattle.numa_pool.specs.Walk.{IsWalk, LoadsOnce, WalksInOrder}

-- walks of the nodes from a place on make these steps walks of all nodes
abbrev pub Goes : List ℕ → List ℕ → ℕ → List Entry → Type 0
Goes frames nodes rank es = (found : Option Frame) (later : List Entry)
    → WalksInOrder frames (drop rank nodes) found later
    → WalksInOrder frames nodes found (later ++ es)

module _ (frames nodes : List ℕ) (rank : ℕ) (inside : rank < length nodes) (es : List Entry)
    (goes : Goes frames nodes rank es) (fs : List Entry) (once : LoadsOnce fs) where
  pub passes : IsWalk frames (slice_index nodes rank ∷ []) None fs
      → Goes frames nodes (rank + 1) (fs ++ es)
  passes walk found later h =
      subst (WalksInOrder frames nodes found) (append_assoc later fs es)
      (goes found (later ++ fs) (subst (λ (ns : List ℕ). WalksInOrder frames ns found (later ++ fs))
      (sym (drop-cons nodes rank 0 inside))
      (inr (
        fs,
        later,
        refl,
        walk,
        once,
        subst (λ n. WalksInOrder frames (drop n nodes) found later) next h,
      ))))
    where
      next : rank + 1 ≡ suc rank
      next = omega arith

  pub wins : (f : Frame) → IsWalk frames (slice_index nodes rank ∷ []) (Some f) fs
      → WalksInOrder frames nodes (Some f) (fs ++ es)
  wins f walk =
      goes (Some f) fs
      (subst (λ (ns : List ℕ). WalksInOrder frames ns (Some f) fs)
      (sym (drop-cons nodes rank 0 inside)) (inl (refl, walk, once)))
