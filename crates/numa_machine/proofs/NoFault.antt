-- What a description without fault tells.
use Rattle.std.proofs.Common.{◌≡◌, ◌≢◌, ℕ, ◌*◌, ◌<◌, ◌≤◌, Bool, true, false, not, ◌||◌, ◌&&◌, cond}
use Rattle.std.proofs.Common.{eqb, ltb, leb, List, length, Option, Some, None, All, sum}
use Rattle.std.proofs.Common.{slice_index, get_or, refl, arith, inl, inr}
use Rattle.std.specs.List.{list_any}
use Rattle.std.proofs.lemmas.Bool.{cases_lt, both_ways, or_parts, and_cases, not-false, eqb-true}
use Rattle.std.proofs.lemmas.Bool.{eqb-false, ne_eqb, ltb-false, leb-false}
use Rattle.std.proofs.lemmas.List.{get_or_past}
use Rattle.std.proofs.lemmas.List.Elements.{Contains-get_or}
use Rattle.numa_mask.specs.NodeSet.{has, members}
use Rattle.numa_machine.specs.Faults.{some_node, has_bad_count, has_bad_memory, has_bad_distance}
use Rattle.numa_machine.specs.Faults.{is_bad_distance, are_bad_frames, has_bad_frames}
use Rattle.numa_machine.specs.Faults.{machine_fault}
use Rattle.numa_machine.specs.Machine.{table_entry}
use Rattle.numa_machine.proofs.Rising.{IsIn-from_Contains}
use Rattle.numa_machine.proofs.Nodes.{none_of_the_nodes, none_of_the_list}

-- a choice that gives nothing did not pass its test
chose_none : {A : Type 0} (test : Bool) (x : A) (rest : Option A) → cond test (Some x) rest ≡ None
    → (test ≡ false) × (rest ≡ None)
chose_none true x rest e = cc
chose_none false x rest e = (refl, e)

module _ (nodes memory : ℕ) (distances frames : List ℕ)
    (no_fault : machine_fault nodes memory distances frames ≡ None) where
  passed : (has_bad_count nodes distances frames ≡ false) × (has_bad_memory nodes memory ≡ false)
      × (has_bad_distance nodes distances ≡ false) × (has_bad_frames nodes memory frames ≡ false)
  unfolding machine_fault
  passed =
      let count = chose_none _ _ _ no_fault in
      let mem = chose_none _ _ _ count.1 in
      let far = chose_none _ _ _ mem.1 in
      (count.0, mem.0, far.0, (chose_none _ _ _ far.1).0)

  count_passed : (eqb nodes 0 ≡ false) × (ltb 256 nodes ≡ false)
      × (eqb (length distances) (nodes * nodes) ≡ true) × (eqb (length frames) nodes ≡ true)
  count_passed =
      let last =
      or_parts (eqb nodes 0 || ltb 256 nodes || not (eqb (length distances) (nodes * nodes)))
      (not (eqb (length frames) nodes)) passed.0 in
      let third = or_parts (eqb nodes 0 || ltb 256 nodes)
      (not (eqb (length distances) (nodes * nodes))) last.0 in
      let first = or_parts (eqb nodes 0) (ltb 256 nodes) third.0 in
      (first.0, first.1, not-false _ third.1, not-false _ last.1)

  pub some_nodes : 1 ≤ nodes
  some_nodes = let nonzero : nodes ≡ 0 → ⊥ = eqb-false nodes 0 count_passed.0 in omega arith

  pub few_nodes : nodes ≤ 256
  few_nodes = ltb-false 256 nodes count_passed.1

  pub frames_size : length frames ≡ nodes
  frames_size = eqb-true (length frames) nodes count_passed.3

  memory_passed : (eqb memory 0 ≡ false)
      × (list_any (λ node. leb nodes node) (members memory) ≡ false)
  unfolding has_bad_memory
  memory_passed = or_parts (eqb memory 0) (list_any (λ node. leb nodes node) (members memory))
      passed.1

  pub some_memory : memory ≢ 0
  some_memory = eqb-false memory 0 memory_passed.0

  pub memory_within : All (λ node. node < nodes) (members memory)
  memory_within = λ k d h.
      leb-false nodes (get_or (members memory) k d)
      (none_of_the_list (λ node. leb nodes node) (members memory) (get_or (members memory) k d)
      memory_passed.1 (IsIn-from_Contains (members memory) _
      (Contains-get_or (members memory) k d h)))

  pub far_apart : (from to : ℕ) → from < nodes → to < nodes → (from ≡ to → ⊥)
      → 10 < table_entry nodes distances from to
  unfolding has_bad_distance
  far_apart from to h k differ =
      let row :
      some_node nodes (λ to. is_bad_distance from to (table_entry nodes distances from to))
      ≡ false =
      none_of_the_nodes nodes
      (λ from.
      some_node nodes (λ to. is_bad_distance from to (table_entry nodes distances from to)))
      from passed.2 h in
      let good : is_bad_distance from to (table_entry nodes distances from to) ≡ false =
      none_of_the_nodes nodes
      (λ to. is_bad_distance from to (table_entry nodes distances from to)) to row k in
      let other : leb (table_entry nodes distances from to) 10 ≡ false =
      rw (ne_eqb from to differ) at good in
      leb-false (table_entry nodes distances from to) 10 other

  good_frames : (node : ℕ) → node < nodes → are_bad_frames memory node (slice_index frames node)
      ≡ false
  unfolding has_bad_frames
  good_frames node h =
      none_of_the_nodes nodes (λ other. are_bad_frames memory other (slice_index frames other)) node
      (or_parts (some_node nodes
      (λ other. are_bad_frames memory other (slice_index frames other)))
      (ltb 65536 (sum frames)) passed.3).0 h

  pub few_frames : (node : ℕ) → slice_index frames node ≤ 4096
  few_frames node =
      elim (cases_lt node nodes) [
        | inl l ↦ ltb-false 4096 (slice_index frames node)
            (or_parts (ltb 4096 (slice_index frames node))
            (not (has memory node) && not (eqb (slice_index frames node) 0)) (good_frames node l)).0
        | inr l ↦ let none : slice_index frames node ≡ 0 =
            get_or_past frames node 0 (omega (arith, frames_size)) in omega (arith, none)
      ]

  pub no_frames_without_memory : (node : ℕ) → has memory node ≡ false → slice_index frames node ≡ 0
  no_frames_without_memory node none =
      elim (cases_lt node nodes) [
        | inl l ↦
            let both =
            (or_parts (ltb 4096 (slice_index frames node))
            (not (has memory node) && not (eqb (slice_index frames node) 0))
            (good_frames node l)).1 in
            elim (and_cases (not (has memory node)) (not (eqb (slice_index frames node) 0)) both) [
              | inl member ↦ absurd (both_ways _ none (not-false _ member))
              | inr zero ↦ eqb-true (slice_index frames node) 0 (not-false _ zero)
            ]
        | inr l ↦ get_or_past frames node 0 (omega (arith, frames_size))
      ]

  pub frames_in_all : sum frames ≤ 65536
  unfolding has_bad_frames
  frames_in_all =
      ltb-false 65536 (sum frames)
      (or_parts (some_node nodes (λ other. are_bad_frames memory other (slice_index frames other)))
      (ltb 65536 (sum frames)) passed.3).1
