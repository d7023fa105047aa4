-- Effective sets are inside the allowed nodes.
use Rattle.std.proofs.Common.{◌≡◌, ◌≢◌, ℕ, ◌^◌, ◌%◌, ◌<◌, ◌≤◌, true, false, eqb, Option, Some, None}
use Rattle.std.proofs.Common.{List, [], ◌∷◌, get_or, fold, map, take, All, refl, sym, ap, ◌∙◌}
use Rattle.std.proofs.Common.{arith, inl, inr, subst, slice_get}
use Rattle.std.proofs.Math.Nat.{mod-lt}
use Rattle.std.proofs.lemmas.Bool.{cases_eq, cases_Bool, both_ways, eq-eqb}
use Rattle.std.proofs.lemmas.Bool.Decides.{nat_tests}
use Rattle.std.specs.Int.{bit_at}
use Rattle.std.specs.List.{filter_map, range_with_len, AllByRecursion, cons_option}
use Rattle.std.proofs.lemmas.Nat.Bits.{bit_at_and, bit_at_or, bit_at-lt, bit_at-zero}
use Rattle.std.proofs.lemmas.Nat.Bits.{bit_at-pow_other}
use Rattle.std.proofs.lemmas.List.Elements.{All-map, All-take, All-from_recursion}
use Rattle.std.proofs.lemmas.List.Elements.{recursion_from_All, filter_passes}
use Rattle.std.proofs.lemmas.Option.{slice_get_within, get_or_from_slice_get}
use Rattle.numa_mask.specs.NodeSet.{has, members, weight_of, nth_member, ordinal_of, with_node}
use Rattle.numa_mask.specs.NodeSet.{set_of, both, fold_set, onto_set, node_after, remap_set}
use Rattle.numa_mode.specs.Policy.{Specification, lowest, kept_nodes, given_nodes, effect_when_set}
use Rattle.numa_mode.specs.Policy.{stays, never_empty, effect_by_flag, effect_after}
use Rattle.numa_mode.specs.declared.modes.Mode.{Mode}
use Rattle.numa_mode.specs.declared.modes.Mode.TheVariants.{Default, Preferred, Bind, Interleave}
use Rattle.numa_mode.specs.declared.modes.Mode.TheVariants.{Local, PreferredMany}
use Rattle.numa_mode.specs.declared.modes.Mode.TheVariants.{WeightedInterleave}
use Rattle.numa_mode.specs.declared.modes.NodeFlag.{NodeFlag}
use Rattle.numa_mode.specs.declared.modes.NodeFlag.TheVariants.{Plain, Static, Relative}
use Rattle.numa_mode.specs.Within.{IsWithin}
use Rattle.numa_machine.specs.declared.rules.Rules.{Rules}
use Rattle.numa_machine.specs.declared.rules.Rules.TheVariants.{Document, Linux}

-- one digit below another that is 0 or 1
digit_within : (a b : ℕ) → a ≤ b → b < 2 → eqb a 1 ≡ true → eqb b 1 ≡ true
digit_within a b below small one = grind (arith, nat_tests)

pub both-within : (set other : ℕ) → IsWithin (both set other) other
both-within set other node member = digit_within (bit_at (both set other) node) (bit_at other node)
    (omega (arith, bit_at_and set other node)) (bit_at-lt other node) member

pub zero-within : (other : ℕ) → IsWithin 0 other
zero-within other node member = let odd : eqb 0 1 ≡ true =
    ap (λ b. eqb b 1) (sym (bit_at-zero node)) ∙ member in cc

-- one more node of the other
pub with_node-within : (set other node : ℕ) → IsWithin set other → has other node ≡ true
    → IsWithin (with_node set node) other
with_node-within set other node rest here n member =
    elim (cases_eq n node) [
      | inl e ↦ ap (has other) e ∙ here
      | inr ne ↦
          let same : bit_at (with_node set node) n ≡ bit_at set n =
          omega (arith, bit_at_or set (2 ^ node) n, bit_at-pow_other node n ne) in
          rest n (ap (λ b. eqb b 1) (sym same) ∙ member)
    ]

fold-within : (other set : ℕ) (nodes : List ℕ) → IsWithin set other
    → AllByRecursion (λ n. has other n ≡ true) nodes → IsWithin (fold with_node set nodes) other
fold-within other set [] rest all = rest
fold-within other set (node ∷ nodes) rest all = fold-within other (with_node set node) nodes
    (with_node-within set other node rest all.0) all.1

-- the set of some nodes of the other
pub set_of-within : (other : ℕ) (nodes : List ℕ) → All (λ n. has other n ≡ true) nodes
    → IsWithin (set_of nodes) other
set_of-within other nodes all = fold-within other 0 nodes (zero-within other)
    (recursion_from_All (λ n. has other n ≡ true) nodes all)

pub members-within : (set : ℕ) → All (λ n. has set n ≡ true) (members set)
unfolding members
members-within set = filter_passes (has set) (range_with_len 0 256)

pub lowest-within : (set : ℕ) → IsWithin (lowest set) set
lowest-within set = set_of-within set (take 1 (members set))
    (All-take (λ n. has set n ≡ true) 1 (members set) (members-within set))

All-slice_get : (P : ℕ → Type 0) (xs : List ℕ) (k x : ℕ) → All P xs → slice_get xs k ≡ Some x → P x
All-slice_get P xs k x all e = subst P (get_or_from_slice_get xs k x x e)
    (all k x (slice_get_within xs k x e))

pub nth_member-has : (set k node : ℕ) → nth_member set k ≡ Some node → has set node ≡ true
nth_member-has set k node e = All-slice_get (λ n. has set n ≡ true) (members set) k node
    (members-within set) e

-- what a function gives that gives only such
one_image : (P : ℕ → Type 0) (image : Option ℕ) (ys : List ℕ) → ((y : ℕ) → image ≡ Some y → P y)
    → AllByRecursion P ys → AllByRecursion P (cons_option image ys)
one_image P None ys h rest = rest
one_image P (Some y) ys h rest = (h y refl, rest)

all_images : (P : ℕ → Type 0) (f : ℕ → Option ℕ) (xs : List ℕ) → ((x y : ℕ) → f x ≡ Some y → P y)
    → AllByRecursion P (filter_map f xs)
all_images P f [] h = tt
all_images P f (x ∷ xs) h = one_image P (f x) (filter_map f xs) (h x) (all_images P f xs h)

pub onto-within : (set other : ℕ) → IsWithin (onto_set set other) other
onto-within set other =
    let P : ℕ → Type 0 = λ n. has other n ≡ true in
    let images : AllByRecursion P (filter_map (nth_member other) (members set)) =
    all_images P (nth_member other) (members set) (nth_member-has other) in
    set_of-within other (filter_map (nth_member other) (members set))
    (All-from_recursion P (filter_map (nth_member other) (members set)) images)

weight_of-zero : weight_of 0 ≡ 0
unfolding members
weight_of-zero = refl

-- a member of the old set moves to a member of the new one
moved-within : (old new node : ℕ) → 0 < weight_of new → has old node ≡ true
    → has new (node_after old new node) ≡ true
moved-within old new node some member =
    let filled : eqb new 0 ≡ false =
    elim (cases_eq new 0) [
      | inl e ↦ absurd (omega (arith, ap weight_of e, weight_of-zero))
      | inr ne ↦ grind (arith, nat_tests)
    ] in
    let place : ordinal_of old node % weight_of new < weight_of new =
    mod-lt (ordinal_of old node) some in
    rw (member, filled) (members-within new (ordinal_of old node % weight_of new) 0 place)

pub remap-within : (set old new : ℕ) → 0 < weight_of new → IsWithin set old
    → IsWithin (remap_set set old new) new
remap-within set old new some inside =
    let P : ℕ → Type 0 = λ n. has new n ≡ true in
    let each : All (λ n. P (node_after old new n)) (members set) = λ k d within.
    moved-within old new (get_or (members set) k d) some
    (inside (get_or (members set) k d) (members-within set k d within)) in
    set_of-within new (map (node_after old new) (members set))
    (All-map P (node_after old new) (members set) each)

kept-within : (mode : Mode) (set : ℕ) → IsWithin (kept_nodes mode set) set
kept-within Default set node member = member
kept-within Preferred set node member = lowest-within set node member
kept-within Bind set node member = member
kept-within Interleave set node member = member
kept-within Local set node member = zero-within set node member
kept-within PreferredMany set node member = member
kept-within WeightedInterleave set node member = member

given_nodes-within : (flag : NodeFlag) (mask allowed : ℕ)
    → IsWithin (given_nodes flag mask allowed) allowed
given_nodes-within Plain mask allowed = both-within mask allowed
given_nodes-within Static mask allowed = both-within mask allowed
given_nodes-within Relative mask allowed = onto-within (fold_set mask (weight_of allowed)) allowed

-- an effective set is inside the allowed nodes
pub effect_when_set-within : (spec : Specification) (allowed : ℕ)
    → IsWithin (effect_when_set spec allowed) allowed
effect_when_set-within spec allowed node member =
    given_nodes-within spec.flag spec.mask allowed node
    (kept-within spec.mode (given_nodes spec.flag spec.mask allowed) node member)

effect_by_flag-within : (flag : NodeFlag) (spec : Specification) (effective old new : ℕ)
    → 0 < weight_of new → IsWithin effective old
    → IsWithin (effect_by_flag flag spec effective old new) new
effect_by_flag-within Plain spec effective old new some inside =
    remap-within effective old new some inside
effect_by_flag-within Static spec effective old new some inside = effect_when_set-within spec new
effect_by_flag-within Relative spec effective old new some inside = effect_when_set-within spec new

-- a set inside the allowed nodes stays inside them where none of them would be left
pub never_empty-within : (rules : Rules) (set allowed : ℕ) → IsWithin set allowed
    → IsWithin (never_empty rules set allowed) allowed
never_empty-within Document set allowed inside = inside
never_empty-within Linux set allowed inside =
    elim (cases_Bool (eqb set 0)) [ inl e ↦ rw e (λ node member. member) | inr e ↦ rw e inside ]

-- and has a node where some are allowed
pub never_empty-some : (set allowed : ℕ) → allowed ≢ 0 → never_empty Linux set allowed ≢ 0
never_empty-some set allowed some =
    elim (cases_Bool (eqb set 0))
    [ inl e ↦ rw e some | inr e ↦ rw e (λ none. both_ways (eqb set 0) e (eq-eqb set 0 none)) ]

-- and stays so, where it follows
pub effect_after-within : (rules : Rules) (spec : Specification) (effective old new : ℕ)
    → 0 < weight_of new → stays rules spec.mode ≡ false → IsWithin effective old
    → IsWithin (effect_after rules spec effective old new) new
effect_after-within rules spec effective old new some follows inside =
    rw follows (never_empty-within rules (effect_by_flag spec.flag spec effective old new) new
    (effect_by_flag-within spec.flag spec effective old new some inside))
