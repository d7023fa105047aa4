-- What the code does is so many turns.
use Rattle.std.proofs.Common.{◌≡◌, ℕ, ◌+◌, ◌-◌, ◌<◌, ◌≤◌, List, length, map, min, sym, ap}
use Rattle.std.proofs.Common.{◌∙◌}
use Rattle.std.proofs.Common.{arith}
use Rattle.std.specs.Prelude.{slice_index, sum}
use Rattle.numa_pools.specs.declared.shares.Shares.{Shares}
use Rattle.numa_pools.specs.Turns.{Turns, after_turns, around, in_turn, less, mark_after, on, ring}
use Rattle.numa_pools.specs.Turns.{turns_of}
use Rattle.numa_pools.specs.Rounds.{Round, round, turns_within}
use Rattle.numa_pools.proofs.Ringing.{AreMany, IsOutside, ended, last-round-is, mark-moves}
use Rattle.numa_pools.proofs.Ringing.{turns-are, turns-none}
use Rattle.numa_pools.proofs.Turning.{below}

-- the room that is left and the mark are those that so many turns give
pub record AreTaken (nodes mark times : ℕ) (old room : List ℕ) (next : ℕ) : Type 0 where
  pub left : room ≡ (after_turns times (turns_of old (ring nodes mark))).room
  pub after : next ≡ mark_after times mark (after_turns times (turns_of old (ring nodes mark))).ring

pub taken-none : (nodes mark times : ℕ) (room : List ℕ) → times ≡ 0
    → AreTaken nodes mark times room room mark
taken-none nodes mark times room none = record {
  left = ap (λ (n : ℕ). (after_turns n (turns_of room (ring nodes mark))).room) (sym none);
  after = ap (λ (n : ℕ). mark_after n mark (after_turns n (turns_of room (ring nodes mark))).ring)
      (sym none);
}

pub taken-empty : (nodes mark times first : ℕ) (room : List ℕ) → 0 < times → sum room ≡ 0
    → first ≡ slice_index (ring nodes mark) 0 → AreTaken nodes mark times room room first
taken-empty nodes mark times first room some nothing head =
    let same : after_turns times (turns_of room (ring nodes mark)) ≡ turns_of room (ring nodes mark)
    = turns-none nodes mark times room nothing in
    record {
      left = sym (ap (λ (t : Turns). t.room) same);
      after = head ∙ ap (λ (t : Turns). slice_index t.ring 0) (sym same)
          ∙ sym (mark-moves times mark (after_turns times (turns_of room (ring nodes mark))).ring
          some);
    }

pub taken-many : (nodes mark times cut rounds taken first : ℕ) (room lower new : List ℕ) (next : ℕ)
    → mark < 256 → length room ≡ 256 → IsOutside nodes room → 0 < times → 0 < sum room
    → cut ≡ min times (sum room) → turns_within rounds room < cut
    → cut ≤ turns_within (rounds + 1) room → taken ≡ turns_within rounds room
    → lower ≡ map (λ x. x - rounds) room → first ≡ slice_index (ring nodes mark) 0
    → new ≡ (round nodes (around mark) first (cut - taken) lower).room
    → next ≡ (round nodes (around mark) first (cut - taken) lower).next
    → AreTaken nodes mark times room new next
taken-many nodes mark times cut rounds taken first room lower new next m long outside some full is
    few enough those lowered head new_is next_is =
    let left : ℕ = cut - taken in
    let many : AreMany nodes mark times left rounds room =
    turns-are nodes mark times rounds left room m long outside (omega (arith, is, few, those))
    (omega (arith, few, those)) (omega (arith, is, enough)) in
    let whole : round nodes (around mark) first left lower
    ≡ ended (after_turns times (turns_of room (ring nodes mark))) =
    ap (round nodes (around mark) first left) lowered
    ∙ last-round-is nodes mark first left (below rounds room) m head many.few
    ∙ ap ended (sym many.turns) in
    record {
      left = new_is ∙ ap (λ (r : Round). r.room) whole;
      after = next_is ∙ ap (λ (r : Round). r.next) whole
          ∙ sym (mark-moves times mark (after_turns times (turns_of room (ring nodes mark))).ring
          some);
    }

-- and then what each node took is what nodes take in turn
pub in-turn-is : (times nodes mark : ℕ) (room left taken : List ℕ) (next : ℕ)
    → AreTaken nodes mark times (on nodes room) left next → taken ≡ less (on nodes room) left
    → (let s : Shares = record { taken = taken; mark = next } in s) ≡ in_turn times nodes mark room
unfolding in_turn
in-turn-is times nodes mark room left taken next those is =
    let turns : Turns = after_turns times (turns_of (on nodes room) (ring nodes mark)) in
    let same : taken ≡ less (on nodes room) turns.room =
    is ∙ ap (less (on nodes room)) those.left in
    let f : List ℕ → ℕ → Shares = λ t n. record { taken = t; mark = n } in
    ap (λ (t : List ℕ). f t next) same ∙ ap (f (less (on nodes room) turns.room)) those.after
