-- Nodes of pages, written page by page.
use Rattle.std.proofs.Common.{◌≡◌, ℕ, ◌+◌, ◌<◌, List, length, get_or, set, sym, subst, arith}
use Rattle.std.proofs.Common.{inl, inr}
use Rattle.std.proofs.lemmas.Bool.{cases_lt}
use Rattle.std.proofs.lemmas.List.{get_or-set_same, get_or-set_other}
use Rattle.numa_placed.specs.declared.spot.Spot.{Spot}
use Rattle.numaplan_handles.specs.Pages.{IsNodeOr}

-- one page more
pub noded_more : (spots : ℕ → Spot) (mark place : ℕ) (numbers nodes : List ℕ) (node : ℕ)
    → place < length nodes
    → ((k : ℕ) → k < place → IsNodeOr mark spots (get_or numbers k 0) (get_or nodes k 0))
    → IsNodeOr mark spots (get_or numbers place 0) node → (k : ℕ) → k < place + 1
    → IsNodeOr mark spots (get_or numbers k 0) (get_or (set nodes place node) k 0)
noded_more spots mark place numbers nodes node within before here k lt =
    elim (cases_lt k place) [
      | inl early ↦
          subst (λ (n : ℕ). IsNodeOr mark spots (get_or numbers k 0) n)
          (sym (get_or-set_other nodes place k node 0 (λ e. absurd (omega arith))))
          (before k early)
      | inr late ↦
          let is : k ≡ place = omega arith in
          subst (λ (at : ℕ).
          IsNodeOr mark spots (get_or numbers at 0) (get_or (set nodes place node) at 0))
          (sym is)
          (subst (λ (n : ℕ). IsNodeOr mark spots (get_or numbers place 0) n)
          (sym (get_or-set_same nodes place node 0 within)) here)
    ]
