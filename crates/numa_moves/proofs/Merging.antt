-- Counts by node, a node further: of those that are cleared, and of two sums that are one then.
use Rattle.std.proofs.Common.{◌≢◌, ◌∙◌, ℕ, ◌+◌, ◌<◌, ◌≤◌, ap, arith, inl, inr}
use Rattle.std.proofs.Common.{slice_index, subst, sym}
use Rattle.std.proofs.lemmas.Bool.{cases_eq}
use Rattle.std.specs.Prelude.{◌==◌, if◌then◌else◌}
use Rattle.numa_host_pages.specs.Summed.{both_pages}
use Rattle.numa_moves.specs.Sums.{HasNoneAt, MergesAt, StaysAt}
use Rattle.numa_moves.specs.declared.sums.MoveSum.{MoveSum}

-- the nodes so far are cleared
pub none-next : (old new : MoveSum) (k node : ℕ) → HasNoneAt k new
    → (node ≢ k → StaysAt old node new) → (node < k → HasNoneAt node old) → node < k + 1
    → HasNoneAt node new
none-next old new k node here apart so low =
    elim (cases_eq node k) [
      | inl same ↦ subst (λ (n : ℕ). HasNoneAt n new) (sym same) here
      | inr other ↦
          let stays = apart other in
          let none = so (omega (arith, low, other)) in
          record {
            gone = stays.gone ∙ none.gone;
            stays = stays.stays ∙ none.stays;
            lacking = stays.lacking ∙ none.lacking;
          }
    ]

-- ---- two sums

merges-then : (old other mid new : MoveSum) (node : ℕ) → MergesAt old other node mid
    → StaysAt mid node new → MergesAt old other node new
merges-then old other mid new node one stays = record {
  gone = stays.gone ∙ one.gone;
  to = stays.to ∙ one.to;
  stays = stays.stays ∙ one.stays;
  lacking = stays.lacking ∙ one.lacking;
}

then-merges : (old other mid new : MoveSum) (node : ℕ) → StaysAt old node mid
    → MergesAt mid other node new → MergesAt old other node new
then-merges old other mid new node stays one = record {
  gone = one.gone
      ∙ ap (λ (p : ℕ). both_pages p (slice_index other.gone node)) stays.gone;
  to = one.to
      ∙ ap (λ (t : ℕ). if slice_index other.gone node == 0 then t else slice_index other.to node)
      stays.to;
  stays = one.stays
      ∙ ap (λ (p : ℕ). both_pages p (slice_index other.stays node)) stays.stays;
  lacking = one.lacking
      ∙ ap (λ (p : ℕ). both_pages p (slice_index other.lacking node)) stays.lacking;
}

pub stays-then : (old mid new : MoveSum) (node : ℕ) → StaysAt old node mid → StaysAt mid node new
    → StaysAt old node new
stays-then old mid new node one other = record {
  gone = other.gone ∙ one.gone;
  to = other.to ∙ one.to;
  stays = other.stays ∙ one.stays;
  lacking = other.lacking ∙ one.lacking;
}

-- a node further
pub merged-next : (old other mid new : MoveSum) (k node : ℕ) → MergesAt mid other k new
    → (node ≢ k → StaysAt mid node new) → (k ≤ node → StaysAt old node mid)
    → (node < k → MergesAt old other node mid) → node < k + 1 → MergesAt old other node new
merged-next old other mid new k node step apart ahead so low =
    elim (cases_eq node k) [
      | inl same ↦
          then-merges old other mid new node (ahead (omega (arith, same)))
          (subst (λ (n : ℕ). MergesAt mid other n new) (sym same) step)
      | inr other_node ↦
          merges-then old other mid new node (so (omega (arith, low, other_node)))
          (apart other_node)
    ]
