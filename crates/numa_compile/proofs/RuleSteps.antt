-- Rules that give their rows.
use Rattle.std.proofs.Common.{◌≡◌, ℕ, ◌%◌, ◌<◌, Option, Some, List, All, length, slice_index}
use Rattle.std.proofs.Common.{unwrap_or, subst, sym, ap, ◌∙◌, arith}
use Rattle.std.specs.List.{range_with_len}
use Rattle.numa_mask.specs.NodeSet.{members, weight_of}
use Rattle.numa_machine.specs.Sizes.{turn_at}
use Rattle.numa_machine.specs.Weights.{interleave_node, total_weight, weighted_node}
use Rattle.numa_mode.specs.Policy.{PolicyRecord, Specification}
use Rattle.numa_mode.specs.declared.modes.Mode.{Mode}
use Rattle.numa_space.specs.Lists.{Setting, list_by_mode, list_for, near}
use Rattle.numa_plan.specs.Rows.{RuleData}
use Rattle.numa_compile.specs.Rules.{GivesRows, IsRuleOf, places_from}
use Rattle.numa_compile.proofs.TurnLemmas.{places-length, places-below, places-weighted}
use Rattle.numa_compile.proofs.TurnLemmas.{range-turns, range-below}

-- a rule that is this one
pub gives-is : (nodes : ℕ) (rule other : RuleData) (row : ℕ → ℕ → List ℕ) → rule ≡ other
    → GivesRows nodes other row → GivesRows nodes rule row
gives-is nodes rule other row is gives = subst (λ (r : RuleData). GivesRows nodes r row) (sym is)
    gives

-- rows that are these
pub gives-same : (nodes : ℕ) (rule : RuleData) (row other : ℕ → ℕ → List ℕ)
    → ((cpu index : ℕ) → row cpu index ≡ other cpu index) → GivesRows nodes rule row
    → GivesRows nodes rule other
gives-same nodes rule row other same gives cpu index lt =
    ((gives cpu index lt).0, (gives cpu index lt).1 ∙ same cpu index)

-- the rule of a policy, by what was read of it
pub gives-policy : (setting : Setting) (rule : RuleData) (r : PolicyRecord) (spec : Specification)
    (mode other : Mode) (set : ℕ) (home : Option ℕ) → spec ≡ r.spec → mode ≡ spec.mode
    → mode ≡ other → set ≡ r.effective → home ≡ r.home
    → GivesRows setting.machine.nodes rule
    (λ cpu index. list_by_mode setting other set (unwrap_or home cpu) (turn_at index))
    → IsRuleOf setting rule (Some r)
gives-policy setting rule r spec mode other set home of read is same own =
    let moded : other ≡ r.spec.mode = sym is ∙ read ∙ ap (λ (s : Specification). s.mode) of in
    gives-same setting.machine.nodes rule
    (λ cpu index. list_by_mode setting other set (unwrap_or home cpu) (turn_at index))
    (λ cpu index. list_for setting (Some r) cpu index)
    (λ cpu index. (λ i. list_by_mode setting (moded i) (same i) (unwrap_or (own i) cpu)
    (turn_at index)))

-- equal turns are those of interleave
pub gives-interleave : (setting : Setting) (nodes set : ℕ) (cycle : List ℕ) (rule : RuleData)
    → 0 < weight_of set → cycle ≡ range_with_len 0 (weight_of set)
    → GivesRows nodes rule
    (λ cpu index.
    near setting (slice_index (members set) (slice_index cycle (turn_at index % length cycle))))
    → GivesRows nodes rule (λ cpu index. near setting (interleave_node set (turn_at index)))
gives-interleave setting nodes set cycle rule some is =
    gives-same nodes rule
    (λ cpu index.
    near setting (slice_index (members set) (slice_index cycle (turn_at index % length cycle))))
    (λ cpu index. near setting (interleave_node set (turn_at index)))
    (λ cpu index.
    ap (λ (xs : List ℕ).
    near setting (slice_index (members set) (slice_index xs (turn_at index % length xs)))) is
    ∙ ap (near setting) (range-turns set (turn_at index) some))

-- turns by weight are those of weighted interleave
pub gives-weighted : (setting : Setting) (weight : ℕ → ℕ) (nodes set : ℕ) (cycle : List ℕ)
    (rule : RuleData) → 0 < total_weight weight set → cycle ≡ places_from 0 weight (members set)
    → GivesRows nodes rule
    (λ cpu index.
    near setting (slice_index (members set) (slice_index cycle (turn_at index % length cycle))))
    → GivesRows nodes rule (λ cpu index. near setting (weighted_node weight set (turn_at index)))
gives-weighted setting weight nodes set cycle rule some is =
    gives-same nodes rule
    (λ cpu index.
    near setting (slice_index (members set) (slice_index cycle (turn_at index % length cycle))))
    (λ cpu index. near setting (weighted_node weight set (turn_at index)))
    (λ cpu index.
    ap (λ (xs : List ℕ).
    near setting (slice_index (members set) (slice_index xs (turn_at index % length xs)))) is
    ∙ ap (near setting) (places-weighted weight set (turn_at index) some))

-- the places of a cycle are those of a set
pub interleave-below : (set : ℕ) (cycle : List ℕ) → cycle ≡ range_with_len 0 (weight_of set)
    → All (λ place. place < weight_of set) cycle
interleave-below set cycle is = subst (λ (xs : List ℕ). All (λ place. place < weight_of set) xs)
    (sym is) (range-below (weight_of set))

pub weighted-below : (weight : ℕ → ℕ) (set : ℕ) (cycle : List ℕ)
    → cycle ≡ places_from 0 weight (members set) → All (λ place. place < weight_of set) cycle
weighted-below weight set cycle is =
    let below : All (λ place. place < weight_of set) (places_from 0 weight (members set)) =
    λ k d lt. omega (arith, places-below 0 weight (members set) k d lt) in
    subst (λ (xs : List ℕ). All (λ place. place < weight_of set) xs) (sym is) below

pub weighted-length : (weight : ℕ → ℕ) (set : ℕ) (cycle : List ℕ)
    → cycle ≡ places_from 0 weight (members set) → length cycle ≡ total_weight weight set
unfolding total_weight
weighted-length weight set cycle is = ap (length {A = ℕ}) is ∙ places-length 0 weight (members set)
