-- PREFERRED has at most one node.
use Rattle.std.proofs.Common.{◌≡◌, ℕ, true, eqb, List, [], ◌∷◌, length, map, take, get_or, All, sym}
use Rattle.std.proofs.Common.{ap, ◌∙◌, arith, inl, inr, ◌^◌, ◌<◌, if◌then◌else◌}
use Rattle.std.proofs.lemmas.Bool.{cases_eq}
use Rattle.std.specs.Int.{bit_at}
use Rattle.std.specs.List.{AllByRecursion}
use Rattle.std.proofs.lemmas.Nat.Bits.{bit_at_or, bit_at-zero, bit_at-pow_same, bit_at-pow_other}
use Rattle.std.proofs.lemmas.List.Elements.{recursion_from_All, All-from_recursion}
use Rattle.numa_mask.specs.NodeSet.{has, members, with_node, set_of, node_after, remap_set}
use Rattle.numa_mode.specs.Policy.{Specification, is_preferred, is_preferred_mode, lowest}
use Rattle.numa_mode.specs.Policy.{kept_nodes, given_nodes, effect_when_set, stays, never_empty}
use Rattle.numa_mode.specs.Policy.{effect_by_flag, effect_after}
use Rattle.numa_mode.specs.Within.{IsWithin, IsAtMostOne}
use Rattle.numa_mode.proofs.Subsets.{set_of-within, members-within}
use Rattle.numa_machine.specs.declared.rules.Rules.{Rules}
use Rattle.numa_machine.specs.declared.rules.Rules.TheVariants.{Document, Linux}
use Rattle.numa_mode.specs.declared.modes.NodeFlag.{NodeFlag}
use Rattle.numa_mode.specs.declared.modes.NodeFlag.TheVariants.{Plain, Static, Relative}
use Rattle.numa_mode.specs.declared.modes.Mode.{Mode}
use Rattle.numa_mode.specs.declared.modes.Mode.TheVariants.{Default, Preferred, Bind, Interleave}
use Rattle.numa_mode.specs.declared.modes.Mode.TheVariants.{Local, PreferredMany}
use Rattle.numa_mode.specs.declared.modes.Mode.TheVariants.{WeightedInterleave}

-- the set of one node
one-only : (node other : ℕ) → has (with_node 0 node) other ≡ true → other ≡ node
one-only node other member =
    elim (cases_eq other node) [
      | inl e ↦ e
      | inr ne ↦
          let none : bit_at (with_node 0 node) other ≡ 0 =
          omega (
            arith,
            bit_at_or 0 (2 ^ node) other,
            bit_at-zero other,
            bit_at-pow_other node other ne,
          ) in
          let odd : eqb 0 1 ≡ true = ap (λ b. eqb b 1) (sym none) ∙ member in
          cc
    ]

one-has : (node : ℕ) → has (with_node 0 node) node ≡ true
one-has node =
    let there : bit_at (with_node 0 node) node ≡ 1 =
    omega (arith, bit_at_or 0 (2 ^ node) node, bit_at-zero node, bit_at-pow_same node) in
    ap (λ b. eqb b 1) there

-- a set inside that of one node
within-one : (set node : ℕ) → IsWithin set (with_node 0 node) → IsAtMostOne set
within-one set node inside a b first second = one-only node a (inside a first)
    ∙ sym (one-only node b (inside b second))

pub zero-at_most_one : IsAtMostOne 0
zero-at_most_one a b first second = let odd : has 0 a ≡ true = first in let none : eqb 0 1 ≡ true =
    ap (λ x. eqb x 1) (sym (bit_at-zero a)) ∙ first in cc

first-only : (nodes : List ℕ) → IsAtMostOne (set_of (take 1 nodes))
first-only [] = zero-at_most_one
first-only (node ∷ nodes) = within-one (with_node 0 node) node (λ other member. member)

pub lowest-at_most_one : (set : ℕ) → IsAtMostOne (lowest set)
lowest-at_most_one set = first-only (members set)

-- images of nodes that are all one
images-one : (f : ℕ → ℕ) (node : ℕ) (nodes : List ℕ) → AllByRecursion (λ n. n ≡ node) nodes
    → AllByRecursion (λ n. has (with_node 0 (f node)) n ≡ true) (map f nodes)
images-one f node [] all = tt
images-one f node (n ∷ nodes) all = (
  ap (λ m. has (with_node 0 (f node)) (f m)) all.0 ∙ one-has (f node),
  images-one f node nodes all.1,
)

image-at_most_one : (f : ℕ → ℕ) (nodes : List ℕ)
    → ((a b : ℕ) (i j : ℕ) → i < length nodes → j < length nodes
    → get_or nodes i a ≡ get_or nodes j b) → IsAtMostOne (set_of (map f nodes))
image-at_most_one f [] same = zero-at_most_one
image-at_most_one f (node ∷ nodes) same =
    let P : ℕ → Type 0 = λ n. n ≡ node in
    let all : All P (node ∷ nodes) = λ k d within. same d node k 0 within (omega arith) in
    let images : AllByRecursion (λ n. has (with_node 0 (f node)) n ≡ true) (map f (node ∷ nodes)) =
    images-one f node (node ∷ nodes) (recursion_from_All P (node ∷ nodes) all) in
    within-one (set_of (map f (node ∷ nodes))) (f node)
    (set_of-within (with_node 0 (f node)) (map f (node ∷ nodes))
    (All-from_recursion (λ n. has (with_node 0 (f node)) n ≡ true) (map f (node ∷ nodes))
    images))

pub remap-at_most_one : (set old new : ℕ) → IsAtMostOne set → IsAtMostOne (remap_set set old new)
remap-at_most_one set old new single =
    image-at_most_one (node_after old new) (members set)
    (λ a b i j k l. single (get_or (members set) i a) (get_or (members set) j b)
    (members-within set i a k) (members-within set j b l))

kept-at_most_one : (mode : Mode) (set : ℕ) → is_preferred_mode mode ≡ true
    → IsAtMostOne (kept_nodes mode set)
kept-at_most_one Preferred set h = lowest-at_most_one set
kept-at_most_one Default set h = cc
kept-at_most_one Bind set h = cc
kept-at_most_one Interleave set h = cc
kept-at_most_one Local set h = cc
kept-at_most_one PreferredMany set h = cc
kept-at_most_one WeightedInterleave set h = cc

pub effect_when_set-at_most_one : (spec : Specification) (allowed : ℕ) → is_preferred spec ≡ true
    → IsAtMostOne (effect_when_set spec allowed)
effect_when_set-at_most_one spec allowed h =
    kept-at_most_one spec.mode (given_nodes spec.flag spec.mask allowed) h

by_flag-at_most_one : (flag : NodeFlag) (spec : Specification) (effective old new : ℕ)
    → is_preferred spec ≡ true → IsAtMostOne effective
    → IsAtMostOne (effect_by_flag flag spec effective old new)
by_flag-at_most_one Plain spec effective old new h single =
    remap-at_most_one effective old new single
by_flag-at_most_one Static spec effective old new h single = effect_when_set-at_most_one spec new h
by_flag-at_most_one Relative spec effective old new h single =
    effect_when_set-at_most_one spec new h

-- and keeps at most one
pub effect_after-at_most_one : (rules : Rules) (spec : Specification) (effective old new : ℕ)
    → is_preferred spec ≡ true → IsAtMostOne effective
    → IsAtMostOne (effect_after rules spec effective old new)
effect_after-at_most_one Document spec effective old new h single =
    by_flag-at_most_one spec.flag spec effective old new h single
effect_after-at_most_one Linux spec effective old new h single = go spec.mode h
  where
    go : (mode : Mode) → is_preferred_mode mode ≡ true
        → IsAtMostOne
        (if stays Linux mode then effective else never_empty Linux
        (effect_by_flag spec.flag spec effective old new) new)
    go Preferred h = single
    go Default h = cc
    go Bind h = cc
    go Interleave h = cc
    go Local h = cc
    go PreferredMany h = cc
    go WeightedInterleave h = cc
