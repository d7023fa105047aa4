-- The lists of the modes are the only ones with their words.
use Rattle.std.proofs.Common.{◌≡◌, ◌≢◌, ℕ, zero, suc, ◌<◌, ◌≤◌, ◌&&◌, not, Bool, true, false, List}
use Rattle.std.proofs.Common.{[], ◌∷◌, ◌++◌, length, get_or, filter, Contains, refl, sym, ap, ◌∙◌}
use Rattle.std.proofs.Common.{arith, inl, inr}
use Rattle.std.proofs.lemmas.Bool.{cases_Bool}
use Rattle.std.proofs.lemmas.List.Kept.{AllPairs-filter}
use Rattle.std.specs.Prelude.{slice_index}
use Rattle.numa_mask.specs.NodeSet.{has, both, members, weight_of}
use Rattle.numa_mask.proofs.Sets.{members-increasing}
use Rattle.numa_machine.specs.Machine.{Hardware, fallback_cost, fallback_order, precedes}
use Rattle.numa_machine.specs.Machine.{IsFallbackOrder}
use Rattle.numa_machine.specs.Weights.{interleave_node, IsInterleaveNode, total_weight}
use Rattle.numa_machine.specs.Weights.{weighted_node, IsWeightedNode}
use Rattle.numa_machine.proofs.Blocks.{IsInterleaveNode-interleave_node, interleave_node_is}
use Rattle.numa_machine.proofs.Blocks.{IsWeightedNode-weighted_node, weighted_node_is}
use Rattle.numa_machine.proofs.Nearest.{IsStrictOrder-nearer_by, IsFallbackOrder-fallback_order}
use Rattle.numa_machine.proofs.Rising.{IsIn, Contains-from_IsIn, IsIn-from_Contains}
use Rattle.numa_machine.proofs.Rising.{IsRising-from_AllPairs, same_rising}
use Rattle.numa_machine.proofs.Turns.{weight_of-le-total_weight}
use Rattle.numa_mode.specs.declared.modes.Mode.{Mode}
use Rattle.numa_mode.specs.declared.modes.Mode.TheVariants.{Default, Preferred, Bind, Interleave}
use Rattle.numa_mode.specs.declared.modes.Mode.TheVariants.{Local, PreferredMany}
use Rattle.numa_mode.specs.declared.modes.Mode.TheVariants.{WeightedInterleave}
use Rattle.numa_space.specs.Lists.{Setting, list_by_mode, near, usable}
use Rattle.numa_space.specs.Rows.{IsRow, IsNearRow, IsLowest, IsRowAround, IsModeRow}

-- ---- what a filter keeps

in-filter : (test : ℕ → Bool) (xs : List ℕ) (x : ℕ) → IsIn (filter test xs) x → IsIn xs x
    × (test x ≡ true)
in-filter test [] x i = absurd i
in-filter test (y ∷ ys) x i = either (in-filter test ys x)
  where
    passed : IsIn ys x × (test x ≡ true) → IsIn (y ∷ ys) x × (test x ≡ true)
    passed h = (inr h.0, h.1)

    either : (IsIn (filter test ys) x → IsIn ys x × (test x ≡ true)) → IsIn (y ∷ ys) x
        × (test x ≡ true)
    either rest =
        elim (cases_Bool (test y)) [
          | inl t ↦ elim (rw t at i) [
            | inl same ↦ (inl same, ap test same ∙ t)
            | inr later ↦
                passed (rest later)
          ]
          | inr e ↦ passed (rest (rw e at i))
        ]

filter-in : (test : ℕ → Bool) (xs : List ℕ) (x : ℕ) → IsIn xs x → test x ≡ true
    → IsIn (filter test xs) x
filter-in test [] x i h = absurd i
filter-in test (y ∷ ys) x i h =
    elim (cases_Bool (test y)) [
      | inl t ↦
          elim i [
            | inl same ↦ rw t (inl same)
            | inr later ↦ rw t (inr (filter-in test ys x later h))
          ]
      | inr e ↦ elim i [
        | inl same ↦ let odd : false ≡ true = sym e ∙ ap test (sym same) ∙ h in
            absurd (cc)
        | inr later ↦ rw e (filter-in test ys x later h)
      ]
    ]

-- ---- one row

pub row-is : (machine : Hardware) (from : ℕ) (test : ℕ → Bool)
    → IsRow machine from test (filter test (fallback_order machine from))
row-is machine from test =
    let order : List ℕ = fallback_order machine from in
    let is_order : IsFallbackOrder machine from (fallback_order machine from) =
    IsFallbackOrder-fallback_order machine from in
    record {
      nodes = λ node. (
        λ found. let held = in-filter test (fallback_order machine from) node
            (IsIn-from_Contains _ node found) in
            ((is_order.nodes_with_memory node).0 (Contains-from_IsIn _ node held.0), held.1),
        λ held.
            Contains-from_IsIn _ node
            (filter-in test (fallback_order machine from) node
            (IsIn-from_Contains _ node ((is_order.nodes_with_memory node).1 held.0)) held.1),
      );
      without_repeats = AllPairs-filter (λ a b. a ≢ b) test (fallback_order machine from)
          is_order.without_repeats;
      cheapest_first = AllPairs-filter (λ a b. precedes machine from a b ≡ true) test
          (fallback_order machine from) is_order.cheapest_first;
    }

pub row-only : (machine : Hardware) (from : ℕ) (test : ℕ → Bool) (row : List ℕ)
    → IsRow machine from test row → row ≡ filter test (fallback_order machine from)
row-only machine from test row is =
    let other : IsRow machine from test (filter test (fallback_order machine from)) =
    row-is machine from test in
    same_rising (precedes machine from) (IsStrictOrder-nearer_by (fallback_cost machine from)) row
    (filter test (fallback_order machine from))
    (IsRising-from_AllPairs (precedes machine from) row is.cheapest_first)
    (IsRising-from_AllPairs (precedes machine from) (filter test (fallback_order machine from))
    other.cheapest_first)
    (λ w i.
    IsIn-from_Contains _ w ((other.nodes w).1 ((is.nodes w).0 (Contains-from_IsIn row w i))))
    (λ w i.
    IsIn-from_Contains row w ((is.nodes w).1 ((other.nodes w).0 (Contains-from_IsIn _ w i))))

-- ---- the lowest node of a set

lowest-is : (set : ℕ) → 0 < weight_of set → IsLowest set (slice_index (members set) 0)
lowest-is set some =
    record {
      member = (0, some, member-at some);
      lowest = λ other found. below other found.0 found.1
          found.2;
    }
  where
    member-at : 0 < weight_of set → get_or (members set) 0 (slice_index (members set) 0)
        ≡ slice_index (members set) 0
    member-at some = go (members set)
      where
        go : (xs : List ℕ) → get_or xs 0 (get_or xs 0 0) ≡ get_or xs 0 0
        go [] = refl
        go (x ∷ xs) = refl

    below : (other k : ℕ) → k < length (members set) → get_or (members set) k other ≡ other
        → slice_index (members set) 0 ≤ other
    below other zero low e = first (members set) low e
      where
        first : (xs : List ℕ) → 0 < length xs → get_or xs 0 other ≡ other → slice_index xs 0 ≤ other
        first [] low e = absurd (omega arith)
        first (x ∷ xs) low e = omega (arith, e)
    below other (suc k) low e =
        omega (
          arith,
          members-increasing set 0 (suc k) other (omega arith) low,
          e,
          same (members set) low,
        )
      where
        same : (xs : List ℕ) → suc k < length xs → get_or xs 0 other ≡ slice_index xs 0
        same [] low = absurd (omega arith)
        same (x ∷ xs) low = refl

lowest-only : (set node : ℕ) → IsLowest set node → node ≡ slice_index (members set) 0
lowest-only set node is =
    let other : IsLowest set (slice_index (members set) 0) =
    lowest-is set (some (members set) is.member) in
    omega (arith, is.lowest (slice_index (members set) 0) other.member, other.lowest node is.member)
  where
    some : (xs : List ℕ) → Contains xs node → 0 < length xs
    some xs found = omega (arith, found.1)

-- ---- each mode

near-is : (setting : Setting) (from : ℕ) → IsNearRow setting from (near setting from)
near-is setting from = row-is setting.machine from (has setting.allowed)

near-only : (setting : Setting) (from : ℕ) (row : List ℕ) → IsNearRow setting from row
    → row ≡ near setting from
near-only setting from row is = row-only setting.machine from (has setting.allowed) row is

around-only : (setting : Setting) (P : ℕ → Type 0) (chosen : ℕ) (row : List ℕ)
    → ((node : ℕ) → P node → node ≡ chosen) → IsRowAround setting P row → row ≡ near setting chosen
around-only setting P chosen row only is = near-only setting is.node row is.is_row
    ∙ ap (near setting) (only is.node is.chosen)

pub mode-is : (setting : Setting) (mode : Mode) (set from index : ℕ) → 0 < weight_of set
    → ((node : ℕ) → 0 < setting.weight node)
    → IsModeRow setting mode set from index (list_by_mode setting mode set from index)
mode-is setting Default set from index some weights = near-is setting from
mode-is setting Local set from index some weights = near-is setting from
mode-is setting Preferred set from index some weights =
    record {
      node = slice_index (members set) 0;
      chosen = lowest-is set some;
      is_row =
          near-is setting (slice_index (members set) 0);
    }
mode-is setting Bind set from index some weights =
    row-is setting.machine from (has (usable setting.allowed set))
mode-is setting PreferredMany set from index some weights = record {
  first = filter (has (both set setting.allowed)) (fallback_order setting.machine from);
  others = filter (λ node. has setting.allowed node && not (has (both set setting.allowed) node))
      (fallback_order setting.machine from);
  whole = refl;
  is_first = row-is setting.machine from (has (both set setting.allowed));
  is_others =
      row-is setting.machine from (λ node. has setting.allowed node
      && not (has (both set setting.allowed) node));
}
mode-is setting Interleave set from index some weights =
    record {
      node = interleave_node set index;
      chosen = IsInterleaveNode-interleave_node set index
          some;
      is_row = near-is setting (interleave_node set index);
    }
mode-is setting WeightedInterleave set from index some weights =
    let turns : 0 < total_weight setting.weight set =
    omega (arith, some, weight_of-le-total_weight setting.weight weights set) in
    record {
      node = weighted_node setting.weight set index;
      chosen =
          IsWeightedNode-weighted_node setting.weight set index turns;
      is_row =
          near-is setting (weighted_node setting.weight set index);
    }

pub mode-only : (setting : Setting) (mode : Mode) (set from index : ℕ) (row : List ℕ)
    → IsModeRow setting mode set from index row → row ≡ list_by_mode setting mode set from index
mode-only setting Default set from index row is = near-only setting from row is
mode-only setting Local set from index row is = near-only setting from row is
mode-only setting Preferred set from index row is =
    around-only setting (IsLowest set) (slice_index (members set) 0) row (lowest-only set) is
mode-only setting Bind set from index row is =
    row-only setting.machine from (has (usable setting.allowed set)) row is
mode-only setting PreferredMany set from index row is =
    is.whole ∙ (λ i. row-only setting.machine from (has (both set setting.allowed)) is.first
    is.is_first i ++ row-only setting.machine from (λ node. has setting.allowed node
    && not (has (both set setting.allowed) node)) is.others is.is_others i)
mode-only setting Interleave set from index row is =
    around-only setting (IsInterleaveNode set index) (interleave_node set index) row
    (interleave_node_is set index) is
mode-only setting WeightedInterleave set from index row is =
    around-only setting (IsWeightedNode setting.weight set index)
    (weighted_node setting.weight set index) row (weighted_node_is setting.weight set index) is
