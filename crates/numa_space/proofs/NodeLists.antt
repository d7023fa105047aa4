-- Each list in which memory is looked for has a node, each once, and only allowed ones.
use Rattle.std.proofs.Common.{◌≡◌, ◌≢◌, ℕ, zero, suc, ◌^◌, ◌<◌, Bool, true, false, not, ◌&&◌, eqb}
use Rattle.std.proofs.Common.{List, [], ◌∷◌, ◌++◌, get_or, filter, All, AllPairs, Contains, Option}
use Rattle.std.proofs.Common.{Some, None, IfSome, refl, sym, ap, ◌∙◌, arith, inl, inr}
use Rattle.std.proofs.lemmas.Bool.{cases_Bool, both_ways, and_parts, eq-eqb, not-true, or_cases}
use Rattle.std.proofs.lemmas.List.Elements.{All-append, All-weaker, filter_passes, All-head}
use Rattle.std.proofs.lemmas.List.Elements.{All-tail}
use Rattle.std.proofs.lemmas.List.Kept.{AllPairs-cons, AllPairs-filter}
use Rattle.std.proofs.lemmas.Nat.{and_le_r}
use Rattle.std.specs.Option.{ForSome}
use Rattle.std.specs.Prelude.{option_and_then, unwrap_or, slice_index}
use Rattle.numa_mask.specs.NodeSet.{has, both, members}
use Rattle.numa_mask.proofs.Images.{same_set, has-both, below-has, members-some}
use Rattle.numa_mask.proofs.Sets.{contains-has, members-have}
use Rattle.numa_machine.specs.declared.rules.Rules.{Rules}
use Rattle.numa_machine.specs.declared.rules.Rules.TheVariants.{Document, Linux}
use Rattle.numa_machine.specs.Machine.{Hardware, fallback_order, IsFallbackOrder}
use Rattle.numa_machine.specs.Sizes.{turn_at}
use Rattle.numa_machine.specs.Weights.{interleave_node, weighted_node}
use Rattle.numa_machine.proofs.Rising.{IsIn, IsIn-from_Contains}
use Rattle.numa_machine.proofs.Nearest.{IsFallbackOrder-fallback_order}
use Rattle.numa_mode.specs.Policy.{PolicyRecord, is_live, is_local, is_local_mode, stays}
use Rattle.numa_mode.specs.Within.{IsWithin}
use Rattle.numa_mode.proofs.Subsets.{both-within}
use Rattle.numa_mode.specs.declared.modes.Mode.{Mode}
use Rattle.numa_mode.specs.declared.modes.Mode.TheVariants.{Default, Preferred, Bind, Interleave}
use Rattle.numa_mode.specs.declared.modes.Mode.TheVariants.{Local, PreferredMany}
use Rattle.numa_mode.specs.declared.modes.Mode.TheVariants.{WeightedInterleave}
use Rattle.numa_ranges.specs.Runs.{page_at}
use Rattle.numa_space.specs.Policies.{where_live, policy_that_counts}
use Rattle.numa_space.specs.Lists.{within, list_by_mode, list_for, usable}
use Rattle.numa_space.specs.Standing.{SpaceState, record_of, setting_in, policy_in, list_in}
use Rattle.numa_space.specs.Standing.{IsNodeList, IsInForce, IsSound}

-- ---- one set inside another

pub within-both : (set other : ℕ) → IsWithin set other → both set other ≡ set
within-both set other inside =
    same_set (both set other) set (λ node. has-both set other node
    ∙ kept (has set node) (has other node) (inside node))
  where
    kept : (a b : Bool) → (a ≡ true → b ≡ true) → (a && b) ≡ a
    kept true b h = h refl
    kept false b h = refl

pub within-from_both : (set other : ℕ) → both set other ≡ set → IsWithin set other
within-from_both set other same node member =
    (and_parts (has set node) (has other node) (sym (has-both set other node)
    ∙ ap (λ s. has s node) same ∙ member)).1

-- a set inside a small one is small
pub small-inside : (set other : ℕ) → both set other ≡ set → other < 2 ^ 256 → set < 2 ^ 256
small-inside set other same small = omega (arith, and_le_r set other)

-- ---- lists

-- a filter that passes an element keeps one
filter-some : (p : ℕ → Bool) (xs : List ℕ) (x : ℕ) → IsIn xs x → p x ≡ true → filter p xs ≢ []
filter-some p [] x member passes = absurd member
filter-some p (y ∷ ys) x member passes =
    elim (cases_Bool (p y)) [
      | inl t ↦ rw t (λ odd. cc)
      | inr f ↦ elim member [
        | inl same ↦ absurd (both_ways (p y) f (ap p (sym same) ∙ passes))
        | inr later ↦ rw f (filter-some p ys x later passes)
      ]
    ]

AllPairs-append : (R : ℕ → ℕ → Type 0) (xs ys : List ℕ) → AllPairs R xs → AllPairs R ys
    → All (λ x. All (R x) ys) xs → AllPairs R (xs ++ ys)
AllPairs-append R [] ys first second across = second
AllPairs-append R (x ∷ xs) ys first second across =
    AllPairs-cons R x (xs ++ ys)
    (All-append (R x) xs ys (λ k d l. first zero (suc k) d (omega arith) (omega arith))
    (All-head (λ a. All (R a) ys) x xs across))
    (AllPairs-append R xs ys (λ i j d l h. first (suc i) (suc j) d (omega arith) (omega arith))
    second (All-tail (λ a. All (R a) ys) x xs across))

append-some : (xs ys : List ℕ) → xs ≢ [] → (xs ++ ys) ≢ []
append-some [] ys some = absurd (some refl)
append-some (x ∷ xs) ys some = λ odd. cc

append-some_behind : (xs ys : List ℕ) → ys ≢ [] → (xs ++ ys) ≢ []
append-some_behind [] ys some = some
append-some_behind (x ∷ xs) ys some = λ odd. cc

module _ (machine : Hardware) (allowed : ℕ) (small : machine.memory < 2 ^ 256) (some : allowed ≢ 0)
    (memory : both allowed machine.memory ≡ allowed) where
  -- the nodes of a set of allowed nodes, in the order of their distances
  ordered-nodes : (set from : ℕ) → set ≢ 0 → both set allowed ≡ set
      → IsNodeList allowed (within set (fallback_order machine from))
  ordered-nodes set from filled inside =
      let order : IsFallbackOrder machine from (fallback_order machine from) =
      IsFallbackOrder-fallback_order machine from in
      let below : set < 2 ^ 256 =
      small-inside set allowed inside (small-inside allowed machine.memory memory small) in
      let node : ℕ = get_or (members set) 0 0 in
      let member : has set node ≡ true = members-have set 0 0 (members-some set below filled) in
      let in_memory : has machine.memory node ≡ true = within-from_both allowed machine.memory
      memory node (within-from_both set allowed inside node member) in
      let found : Contains (members machine.memory) node =
      contains-has machine.memory node (below-has set node below member) in_memory in
      record {
        some = filter-some (has set) (fallback_order machine from) node
            (IsIn-from_Contains (fallback_order machine from) node
            ((order.nodes_with_memory node).1 found)) member;
        each_once = AllPairs-filter (λ a b. a ≢ b) (has set) (fallback_order machine from)
            order.without_repeats;
        inside = All-weaker (λ n. has set n ≡ true) (λ n. has allowed n ≡ true)
            (within-from_both set allowed inside) (within set (fallback_order machine from))
            (filter_passes (has set) (fallback_order machine from));
      }

  -- the allowed nodes, the nearest first
  near-nodes : (from : ℕ) → IsNodeList allowed (within allowed (fallback_order machine from))
  near-nodes from =
      ordered-nodes allowed from some (within-both allowed allowed (λ node member. member))

  -- those of a set before the others: each allowed node is among the ones or the others
  preferred-nodes : (set from : ℕ) → both set allowed ≡ set
      → IsNodeList allowed (within set (fallback_order machine from)
      ++ filter (λ node. has allowed node && not (has set node)) (fallback_order machine from))
  preferred-nodes set from inside =
      let order : List ℕ = fallback_order machine from in
      let is_order : IsFallbackOrder machine from (fallback_order machine from) =
      IsFallbackOrder-fallback_order machine from in
      let other : ℕ → Bool = λ node. has allowed node && not (has set node) in
      let passed : All (λ node. other node ≡ true) (filter other order) =
      filter_passes other order in
      let ours : All (λ node. has set node ≡ true) (within set order) =
      filter_passes (has set) order in
      let below : allowed < 2 ^ 256 = small-inside allowed machine.memory memory small in
      let node : ℕ = get_or (members allowed) 0 0 in
      let member : has allowed node ≡ true =
      members-have allowed 0 0 (members-some allowed below some) in
      let in_memory : has machine.memory node ≡ true = within-from_both allowed machine.memory
      memory node member in
      let found : IsIn order node =
      IsIn-from_Contains order node
      ((is_order.nodes_with_memory node).1
      (contains-has machine.memory node (below-has allowed node below member) in_memory)) in
      record {
        some = elim (cases_Bool (has set node)) [
          | inl t ↦ append-some (within set order) (filter other order)
              (filter-some (has set) order node found t)
          | inr f ↦ append-some_behind (within set order) (filter other order)
              (filter-some other order node found (λ i. member i && not (f i)))
        ];
        each_once = AllPairs-append (λ a b. a ≢ b) (within set order) (filter other order)
            (AllPairs-filter (λ a b. a ≢ b) (has set) order is_order.without_repeats)
            (AllPairs-filter (λ a b. a ≢ b) other order is_order.without_repeats)
            (λ k d l j e m same. apart (get_or (within set order) k d)
            (get_or (filter other order) j e) (ours k d l) (passed j e m) same);
        inside = All-append (λ n. has allowed n ≡ true) (within set order) (filter other order)
            (All-weaker (λ n. has set n ≡ true) (λ n. has allowed n ≡ true)
            (within-from_both set allowed inside) (within set order) ours)
            (All-weaker (λ n. other n ≡ true) (λ n. has allowed n ≡ true)
            (λ n t. (and_parts (has allowed n) (not (has set n)) t).0) (filter other order)
            passed);
      }
    where
      apart : (a b : ℕ) → has set a ≡ true → (has allowed b && not (has set b)) ≡ true → a ≡ b → ⊥
      apart a b one two same =
          both_ways (has set b)
          (not-true (has set b) (and_parts (has allowed b) (not (has set b)) two).1)
          (ap (has set) (sym same) ∙ one)

  -- the nodes that BIND keeps to are some, and allowed
  pub usable-some : (set : ℕ) → usable allowed set ≢ 0
  usable-some set =
      elim (cases_Bool (eqb (both set allowed) 0)) [
        | inl t ↦ rw t some
        | inr f ↦ rw f (λ none. both_ways (eqb (both set allowed) 0) f
            (eq-eqb (both set allowed) 0 none))
      ]

  pub usable-inside : (set : ℕ) → both (usable allowed set) allowed ≡ usable allowed set
  usable-inside set =
      elim (cases_Bool (eqb (both set allowed) 0)) [
        | inl t ↦ rw t (within-both allowed allowed (λ node member. member))
        | inr f ↦ rw f (within-both (both set allowed) allowed (both-within set allowed))
      ]

  -- the list of a policy
  mode-nodes : (weight : ℕ → ℕ) (mode : Mode) (set from turn : ℕ) → IsNodeList allowed
      (list_by_mode (record { machine = machine; allowed = allowed; weight = weight }) mode set from
      turn)
  mode-nodes weight Default set from turn = near-nodes from
  mode-nodes weight Preferred set from turn = near-nodes (slice_index (members set) 0)
  mode-nodes weight Bind set from turn =
      ordered-nodes (usable allowed set) from (usable-some set) (usable-inside set)
  mode-nodes weight Interleave set from turn = near-nodes (interleave_node set turn)
  mode-nodes weight Local set from turn = near-nodes from
  mode-nodes weight PreferredMany set from turn =
      preferred-nodes (both set allowed) from
      (within-both (both set allowed) allowed (both-within set allowed))
  mode-nodes weight WeightedInterleave set from turn = near-nodes (weighted_node weight set turn)

  pub policy-nodes : (weight : ℕ → ℕ) (policy : Option PolicyRecord) (cpu index : ℕ)
      → IfSome policy (λ r. IsInForce machine allowed r × (is_live r ≡ true))
      → IsNodeList allowed
      (list_for (record { machine = machine; allowed = allowed; weight = weight }) policy cpu index)
  policy-nodes weight None cpu index h = near-nodes cpu
  policy-nodes weight (Some r) cpu index h =
      mode-nodes weight r.spec.mode r.effective (unwrap_or r.home cpu) (turn_at index)

-- ---- the policy that counts

if_some-from_for : {T : Type 0} (o : Option T) (P : T → Type 0) → ForSome o P → IfSome o P
if_some-from_for None P h = tt
if_some-from_for (Some x) P h = h x refl

where_live-some : (o : Option PolicyRecord) (P : PolicyRecord → Type 0) → IfSome o P
    → IfSome (where_live o) (λ r. P r × (is_live r ≡ true))
where_live-some None P h = tt
where_live-some (Some r) P h =
    elim (cases_Bool (is_live r)) [ inl t ↦ rw t (h, t) | inr f ↦ rw f tt ]

-- it is live, and one of the two
pub resolved-some : (range task : Option PolicyRecord) (P : PolicyRecord → Type 0) → IfSome range P
    → IfSome task P → IfSome (policy_that_counts range task) (λ r. P r × (is_live r ≡ true))
resolved-some None task P h k = where_live-some task P k
resolved-some (Some r) task P h k =
    elim (cases_Bool (is_live r)) [ inl t ↦ rw t (h, t) | inr f ↦ rw f (where_live-some task P k) ]

-- a range's record, from what is seen of a page
range-some : (o : Option (ℕ × Option PolicyRecord)) (P : PolicyRecord → Type 0)
    → ForSome o (λ at. ForSome at.1 P)
    → IfSome (option_and_then (λ (at : ℕ × Option PolicyRecord). at.1) o) P
range-some None P h = tt
range-some (Some at) P h = if_some-from_for at.1 P (h at refl)

-- the policy that counts is in force, and live
pub policy-in_force : (space : SpaceState) (task page : ℕ) → IsSound space
    → IfSome (policy_in space task page) (λ r. IsInForce space.machine space.allowed r
    × (is_live r ≡ true))
policy-in_force space task page sound =
    resolved-some (option_and_then (λ (at : ℕ × Option PolicyRecord). at.1)
    (page_at space.ranges page)) (record_of space.tasks task)
    (IsInForce space.machine space.allowed)
    (range-some (page_at space.ranges page) (IsInForce space.machine space.allowed)
    (sound.pages page))
    (if_some-from_for (record_of space.tasks task) (IsInForce space.machine space.allowed)
    (sound.tasks task))

-- the fallback list of any page, for any task and any faulting node
pub node-list-sound : (space : SpaceState) (task page cpu : ℕ) → IsSound space
    → space.machine.memory < 2 ^ 256 → IsNodeList space.allowed (list_in space task page cpu)
node-list-sound space task page cpu sound small =
    policy-nodes space.machine space.allowed small sound.allowed_some sound.allowed_memory
    (setting_in space).weight (policy_in space task page) cpu _
    (policy-in_force space task page sound)
