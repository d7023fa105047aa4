-- Pages of one cycle that lie on one node, and runs of pages that lie alike.
use Rattle.std.proofs.Common.{◌≡◌, ℕ, ◌+◌, ◌-◌, ◌<◌, ◌≤◌, ◌%◌, List, arith, sym, ap, ◌∙◌}
use Rattle.std.proofs.Common.{slice_index}
use Rattle.std.proofs.Math.Nat.{add-mod-mod, mod-lt}
use Rattle.numa_placed.specs.Turns.{turn_node}
use Rattle.numa_placed.specs.declared.turn.Turn.{Turn}

module _ (nodes : List ℕ) (turn : Turn) (some : 0 < turn.count) (page : ℕ) where
  -- a page has the node of one of the first `count` pages
  pub wraps : (p : ℕ) → page ≤ p
      → turn_node nodes turn p ≡ turn_node nodes turn (page + (p - page) % turn.count)
  wraps p low =
      let whole : page + (p - page) ≡ p = omega (arith, low) in
      ap (λ (n : ℕ). slice_index nodes (turn.from + n % turn.count)) (sym whole)
      ∙ ap (λ (n : ℕ). slice_index nodes (turn.from + n))
      (sym (add-mod-mod page (p - page) turn.count))

  -- where all of a cycle lie on a node, all pages do
  pub all-alike : (node : ℕ) → ((p : ℕ) → page ≤ p → p < page + turn.count
      → turn_node nodes turn p ≡ node) → (p : ℕ) → page ≤ p → turn_node nodes turn p ≡ node
  all-alike node first p low =
      let small = mod-lt (p - page) some in
      wraps p low ∙ first (page + (p - page) % turn.count) (omega arith) (omega (arith, small))

-- two cycles of one length are alike everywhere, where they are for a period
pub both-alike : (nodes others : List ℕ) (turn other : Turn) → 0 < turn.count
    → turn.count ≡ other.count → (page : ℕ) → ((p : ℕ) → page ≤ p → p < page + turn.count
    → turn_node nodes turn p ≡ turn_node others other p) → (p : ℕ) → page ≤ p
    → turn_node nodes turn p ≡ turn_node others other p
both-alike nodes others turn other some same page first p low =
    let small = mod-lt (p - page) some in
    let more : 0 < other.count = omega (arith, some, same) in
    wraps nodes turn some page p low
    ∙ first (page + (p - page) % turn.count) (omega arith) (omega (arith, small))
    ∙ ap (λ (n : ℕ). turn_node others other (page + (p - page) % n)) same
    ∙ sym (wraps others other more page p low)
