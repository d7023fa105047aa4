-- What callers need of images: who is in the set of a list, where the image of a set lies, and that
-- it isn't empty.
use Rattle.std.proofs.Common.{◌≡◌, ℕ, zero, suc, ◌%◌, ◌^◌, ◌<◌, ◌≤◌, max, min, Bool, true, false}
use Rattle.std.proofs.Common.{not, ◌&&◌, ◌||◌, cond, eqb, List, [], ◌∷◌, length, get_or}
use Rattle.std.proofs.Common.{slice_index, map, fold, All, Contains, Option, Some, None, refl, sym}
use Rattle.std.proofs.Common.{ap, ◌∙◌, arith, inl, inr, eq-eqb, ◌++◌, append_assoc, append-nil}
use Rattle.std.proofs.Common.{length-append, subst}
use Rattle.std.proofs.lemmas.Bool.{cases_lt, cases_eq, ne_eqb, eqb-true}
use Rattle.std.proofs.lemmas.Bool.Decides.{nat_tests}
use Rattle.std.specs.Int.{bit_at}
use Rattle.std.specs.List.{filter_map, cons_option, list_any}
use Rattle.std.proofs.lemmas.List.Elements.{All-cons, All-map, All-head, All-tail, All-contains}
use Rattle.std.proofs.lemmas.Nat.Bits.{bit_at-zero, bit_at-lt, bit_at_or, bit_at_and}
use Rattle.std.proofs.lemmas.Nat.Bits.{bit_at-pow_same, bit_at-pow_other, bit_at_above}
use Rattle.std.proofs.lemmas.Nat.Bits.{same_from_bits}
use Rattle.std.proofs.lemmas.Nat.{or_lt, pow_below}
use Rattle.std.proofs.Math.Nat.{mod-le}
use Rattle.std.proofs.lemmas.List.{length-map}
use Rattle.std.proofs.lemmas.List.Folds.{Any-from_list_any, list_any_at}
use Rattle.numa_mask.specs.NodeSet.{has, members, weight_of, nth_member, ordinal_of, with_node}
use Rattle.numa_mask.specs.NodeSet.{set_of, both, fold_set, onto_set, node_after, remap_set}
use Rattle.numa_mask.proofs.Sets.{contains-has, members-have, members-below, members-few}
use Rattle.numa_mask.proofs.Ordinals.{nth-has, nth-within, nth-some}

-- ---- one node at a time

-- a bit from the test for it
bit_from : (a b : ℕ) → a < 2 → b < 2 → eqb a 1 ≡ eqb b 1 → a ≡ b
bit_from a b h l e = grind (arith, nat_tests)

-- sets with the same members are one
pub same_set : (set other : ℕ) → ((node : ℕ) → has set node ≡ has other node) → set ≡ other
same_set set other h =
    same_from_bits set other (λ i. bit_from _ _ (bit_at-lt set i) (bit_at-lt other i) (h i))

pub has-none : (node : ℕ) → has 0 node ≡ false
has-none node = ap (λ b. eqb b 1) (bit_at-zero node)

-- a set of nodes below 256 has no other
pub has-above : (set node : ℕ) → set < 2 ^ 256 → 256 ≤ node → has set node ≡ false
has-above set node h l = ap (λ b. eqb b 1) (bit_at_above set 256 node h l)

pub below-has : (set node : ℕ) → set < 2 ^ 256 → has set node ≡ true → node < 256
below-has set node h t = elim (cases_lt node 256) [
  | inl l ↦ l
  | inr g ↦ let odd : false ≡ true =
      sym (has-above set node h g) ∙ t in cc
]

max_bits : (a b : ℕ) → a < 2 → b < 2 → eqb (max a b) 1 ≡ (eqb a 1 || eqb b 1)
max_bits a b h l = grind (arith, nat_tests)

min_bits : (a b : ℕ) → a < 2 → b < 2 → eqb (min a b) 1 ≡ (eqb a 1 && eqb b 1)
min_bits a b h l = grind (arith, nat_tests)

pub has-both : (set other node : ℕ) → has (both set other) node ≡ (has set node && has other node)
has-both set other node = ap (λ b. eqb b 1) (bit_at_and set other node)
    ∙ min_bits _ _ (bit_at-lt set node) (bit_at-lt other node)

has-one : (one node : ℕ) → has (2 ^ one) node ≡ eqb node one
has-one one node =
    elim (cases_eq node one) [
      | inl e ↦ ap (λ b. eqb b 1) (ap (bit_at (2 ^ one)) e ∙ bit_at-pow_same one)
          ∙ sym (eq-eqb node one e)
      | inr ne ↦ ap (λ b. eqb b 1) (bit_at-pow_other one node ne) ∙ sym (ne_eqb node one ne)
    ]

pub has-with : (set one node : ℕ) → has (with_node set one) node ≡ (has set node || eqb node one)
has-with set one node =
    ap (λ b. eqb b 1) (bit_at_or set (2 ^ one) node) ∙ max_bits _ _ (bit_at-lt set node)
    (bit_at-lt (2 ^ one) node)
    ∙ ap (λ b. has set node || b) (has-one one node)

-- ---- the set of a list

or_assoc : (a b c : Bool) → ((a || b) || c) ≡ (a || (b || c))
or_assoc true b c = refl
or_assoc false b c = refl

has-fold : (set : ℕ) (nodes : List ℕ) (node : ℕ) → has (fold with_node set nodes) node
    ≡ (has set node || list_any (λ m. eqb node m) nodes)
has-fold set [] node = elim (has set node) as (λ b. b ≡ (b || false)) [ true ↦ refl | false ↦ refl ]
has-fold set (m ∷ nodes) node =
    has-fold (with_node set m) nodes node ∙ ap (λ b. b || list_any (λ x. eqb node x) nodes)
    (has-with set m node) ∙ or_assoc (has set node) (eqb node m)
    (list_any (λ x. eqb node x) nodes)

pub has-set_of : (nodes : List ℕ) (node : ℕ) → has (set_of nodes) node ≡ list_any (λ m. eqb node m)
    nodes
has-set_of nodes node = has-fold 0 nodes node ∙ ap (λ b. b || list_any (λ m. eqb node m) nodes)
    (has-none node)

any-contains : (nodes : List ℕ) (node : ℕ) → list_any (λ m. eqb node m) nodes ≡ true
    → Contains nodes node
any-contains nodes node h =
    let at = Any-from_list_any (λ m. eqb node m) nodes h in
    subst (Contains nodes) (sym (eqb-true node at.1 at.4)) (at.0, at.2, at.3)

contains-any : (nodes : List ℕ) (node k : ℕ) → k < length nodes → get_or nodes k node ≡ node
    → list_any (λ m. eqb node m) nodes ≡ true
contains-any nodes node k h e =
    list_any_at (λ m. eqb node m) nodes k node h (eq-eqb node (get_or nodes k node) (sym e))

-- a node is in the set of a list exactly where it is in the list
pub set_of-contains : (nodes : List ℕ) (node : ℕ) → has (set_of nodes) node ≡ true
    → Contains nodes node
set_of-contains nodes node h = any-contains nodes node (sym (has-set_of nodes node) ∙ h)

pub contains-set_of : (nodes : List ℕ) (node : ℕ) → Contains nodes node
    → has (set_of nodes) node ≡ true
contains-set_of nodes node c = has-set_of nodes node ∙ contains-any nodes node c.0 c.1 c.2

fold-below : (set : ℕ) (nodes : List ℕ) → set < 2 ^ 256 → All (λ m. m < 256) nodes
    → fold with_node set nodes < 2 ^ 256
fold-below set [] h a = h
fold-below set (m ∷ nodes) h a =
    fold-below (with_node set m) nodes
    (or_lt 256 set (2 ^ m) h (pow_below m 256 (All-head (λ x. x < 256) m nodes a)))
    (All-tail (λ x. x < 256) m nodes a)

pub set_of-below : (nodes : List ℕ) → All (λ m. m < 256) nodes → set_of nodes < 2 ^ 256
set_of-below nodes a = fold-below 0 nodes (omega arith) a

-- sets that hold one another's members are one
pub same_members : (set other : ℕ) → ((node : ℕ) → has set node ≡ true → has other node ≡ true)
    → ((node : ℕ) → has other node ≡ true → has set node ≡ true) → set ≡ other
same_members set other into from =
    same_set set other (λ node. elim (has set node) as (λ b. has set node ≡ b → b ≡ has other node) [
      | true ↦ λ (t : has set node ≡ true). sym (into node t)
      | false ↦ λ (f : has set node ≡ false). elim (has other node) as (λ b. has other node ≡ b
          → false ≡ b) [
            | true ↦ λ (t : has other node ≡ true). sym f ∙ from node t
            | false ↦ λ (t : has other node ≡ false). refl
          ] refl
    ] refl)

-- a set is that of its members
pub set_of-members : (set : ℕ) → set < 2 ^ 256 → set_of (members set) ≡ set
set_of-members set h = same_members (set_of (members set)) set
    (λ node t. All-contains (λ m. has set m ≡ true) (members set) node (members-have set)
    (set_of-contains (members set) node t))
    (λ node t. contains-set_of (members set) node
    (contains-has set node (below-has set node h t) t))

-- ---- where images lie

all_images : (P : ℕ → Type 0) (f : ℕ → Option ℕ) (ns : List ℕ)
    → ((m image : ℕ) → f m ≡ Some image → P image) → All P (filter_map f ns)
all_images P f [] h = λ k d l. absurd (omega arith)
all_images P f (n ∷ ns) h =
    elim (f n) as (λ o. f n ≡ o → All P (cons_option o (filter_map f ns))) [
      | None ↦ λ (e : f n ≡ None). all_images P f ns h
      | Some image ↦ λ (e : f n ≡ Some image). All-cons P image (filter_map f ns) (h n image e)
          (all_images P f ns h)
    ] refl

pub onto-within : (set other node : ℕ) → has (onto_set set other) node ≡ true
    → has other node ≡ true
onto-within set other node h =
    All-contains (λ m. has other m ≡ true) (filter_map (nth_member other) (members set)) node
    (all_images (λ m. has other m ≡ true) (nth_member other) (members set)
    (λ m image e. nth-has other m image e))
    (set_of-contains (filter_map (nth_member other) (members set)) node h)

pub onto-below : (set other : ℕ) → onto_set set other < 2 ^ 256
onto-below set other = set_of-below (filter_map (nth_member other) (members set))
    (all_images (λ m. m < 256) (nth_member other) (members set)
    (λ m image e. (nth-within other m image e).1))

-- a folded set has only nodes below the size
pub fold-within : (set size node : ℕ) → 1 ≤ size → has (fold_set set size) node ≡ true → node < size
fold-within set size node h t =
    All-contains (λ m. m < size) (map (λ m. m % size) (members set)) node
    (All-map (λ m. m < size) (λ m. m % size) (members set) (λ k d l. omega arith))
    (set_of-contains (map (λ m. m % size) (members set)) node t)

pub fold-small : (set size : ℕ) → 1 ≤ size → fold_set set size < 2 ^ 256
fold-small set size h =
    set_of-below (map (λ m. m % size) (members set))
    (All-map (λ m. m < 256) (λ m. m % size) (members set)
    (λ k d l. let small : get_or (members set) k d < 256 = members-below set k d l in
    let shrinks : get_or (members set) k d % size ≤ get_or (members set) k d =
    mod-le (get_or (members set) k d) size in omega arith))

pub members-some : (set : ℕ) → set < 2 ^ 256 → (set ≡ 0 → ⊥) → 0 < length (members set)
members-some set h some = of (members set) refl
  where
    of : (ns : List ℕ) → members set ≡ ns → 0 < length ns
    of [] e = absurd (some (sym (set_of-members set h) ∙ ap set_of e))
    of (n ∷ ns) e = omega arith

pub weight-some : (set : ℕ) → set < 2 ^ 256 → (set ≡ 0 → ⊥) → 0 < weight_of set
weight-some set h some = members-some set h some

-- where a node moves
pub moved-has : (old new node : ℕ) → new < 2 ^ 256 → (new ≡ 0 → ⊥) → has old node ≡ true
    → has new (node_after old new node) ≡ true
moved-has old new node h some t =
    let test : (has old node && not (eqb new 0)) ≡ true = ap (λ b. b && not (eqb new 0)) t
    ∙ ap not (ne_eqb new 0 some) in
    let at : node_after old new node ≡ slice_index (members new)
    (ordinal_of old node % weight_of new) =
    ap (λ b. cond b (slice_index (members new) (ordinal_of old node % weight_of new)) node)
    test in
    let positive : 0 < weight_of new = weight-some new h some in
    let within : ordinal_of old node % weight_of new < weight_of new = omega arith in
    ap (has new) at ∙ members-have new (ordinal_of old node % weight_of new) 0 within

pub moved-below : (old new node : ℕ) → new < 2 ^ 256 → node < 256 → node_after old new node < 256
moved-below old new node h l =
    elim (has old node && not (eqb new 0)) as (λ b. (has old node && not (eqb new 0)) ≡ b
    → cond b (slice_index (members new) (ordinal_of old node % weight_of new)) node < 256) [
      | true ↦ λ (t : (has old node && not (eqb new 0)) ≡ true).
          let some : new ≡ 0 → ⊥ = λ none. and_not (has old node) new none t in
          let positive : 0 < weight_of new = weight-some new h some in
          members-below new (ordinal_of old node % weight_of new) 0 (omega arith)
      | false ↦ λ (f : (has old node && not (eqb new 0)) ≡ false). l
    ] refl
  where
    and_not : (b : Bool) (n : ℕ) → n ≡ 0 → (b && not (eqb n 0)) ≡ true → ⊥
    and_not true n e t = let odd : false ≡ true = sym (ap not (eq-eqb n 0 e)) ∙ t in cc
    and_not false n e t = cc

-- a set inside old goes into new
pub remap-within : (set old new node : ℕ) → new < 2 ^ 256 → (new ≡ 0 → ⊥)
    → ((m : ℕ) → has set m ≡ true → has old m ≡ true) → has (remap_set set old new) node ≡ true
    → has new node ≡ true
remap-within set old new node h some inside t =
    All-contains (λ m. has new m ≡ true) (map (node_after old new) (members set)) node
    (All-map (λ m. has new m ≡ true) (node_after old new) (members set)
    (λ k d l. moved-has old new (get_or (members set) k d) h some
    (inside (get_or (members set) k d) (members-have set k d l))))
    (set_of-contains (map (node_after old new) (members set)) node t)

pub remap-below : (set old new : ℕ) → new < 2 ^ 256 → remap_set set old new < 2 ^ 256
remap-below set old new h =
    set_of-below (map (node_after old new) (members set))
    (All-map (λ m. m < 256) (node_after old new) (members set)
    (λ k d l. moved-below old new (get_or (members set) k d) h (members-below set k d l)))

-- ---- images that aren't empty

pub set_of-some : (nodes : List ℕ) → 0 < length nodes → set_of nodes ≡ 0 → ⊥
set_of-some [] h none = omega arith
set_of-some (n ∷ ns) h none =
    let t : has (set_of (n ∷ ns)) n ≡ true = contains-set_of (n ∷ ns) n (zero, omega arith, refl) in
    let odd : true ≡ false = sym t ∙ ap (λ s. has s n) none ∙ has-none n in
    cc

pub fold-some : (set size : ℕ) → set < 2 ^ 256 → (set ≡ 0 → ⊥) → fold_set set size ≡ 0 → ⊥
fold-some set size h some = set_of-some (map (λ m. m % size) (members set))
    (omega (arith, length-map (members set) (λ m. m % size), members-some set h some))

pub remap-some : (set old new : ℕ) → set < 2 ^ 256 → (set ≡ 0 → ⊥) → remap_set set old new ≡ 0 → ⊥
remap-some set old new h some = set_of-some (map (node_after old new) (members set))
    (omega (arith, length-map (members set) (node_after old new), members-some set h some))

-- a set that has a node below the other's weight has an image there
pub onto-some : (set other node : ℕ) → node < 256 → has set node ≡ true → node < weight_of other
    → onto_set set other ≡ 0 → ⊥
onto-some set other node l t within = set_of-some (filter_map (nth_member other) (members set))
    (has_image (members set) (contains-has set node l t))
  where
    has_image : (ns : List ℕ) → Contains ns node → 0 < length (filter_map (nth_member other) ns)
    has_image [] c = absurd (omega (arith, c.1))
    has_image (n ∷ ns) (zero, _, e) =
        let some : nth_member other n ≡ Some (slice_index (members other) node) =
        ap (nth_member other) e ∙ nth-some other node within in
        rw some (omega arith)
    has_image (n ∷ ns) (suc k, h, e) =
        let rest : 0 < length (filter_map (nth_member other) ns) =
        has_image ns (k, omega arith, e) in
        elim (nth_member other n) as
        (λ o. 0 < length (cons_option o (filter_map (nth_member other) ns)))
        [ None ↦ rest | Some image ↦ omega arith ]

-- folded by the other's weight, a set that isn't empty has an image in each other that isn't
pub onto-fold-some : (set other : ℕ) → set < 2 ^ 256 → other < 2 ^ 256 → (set ≡ 0 → ⊥)
    → (other ≡ 0 → ⊥) → onto_set (fold_set set (weight_of other)) other ≡ 0 → ⊥
onto-fold-some set other h g some others =
    let positive : 1 ≤ weight_of other = omega (arith, weight-some other g others) in
    let folded : ℕ = fold_set set (weight_of other) in
    let some_node : 0 < length (members folded) =
    members-some folded (fold-small set (weight_of other) positive)
    (fold-some set (weight_of other) h some) in
    let node : ℕ = slice_index (members folded) 0 in
    let member : has folded node ≡ true = members-have folded 0 0 some_node in
    onto-some folded other node (members-below folded 0 0 some_node) member
    (fold-within set (weight_of other) node positive member)

-- ---- a list that is a set's members

pub set_of-empty : (nodes : List ℕ) (set : ℕ) → set_of nodes ≡ set
    → eqb (length nodes) 0 ≡ eqb set 0
set_of-empty [] set e = ap (λ n. eqb n 0) e
set_of-empty (n ∷ ns) set e = ne_eqb (length (n ∷ ns)) 0 (omega arith)
    ∙ sym (ne_eqb set 0 (λ none. set_of-some (n ∷ ns) (omega arith) (e ∙ none)))

-- one more member fits a row of 256
pub row_fits : (set rest next node : ℕ) (row : List ℕ) → members set ≡ row ++ members rest
    → members rest ≡ node ∷ members next → length row < 256
row_fits set rest next node row h e =
    omega (
      arith,
      members-few set,
      ap length (h ∙ ap (λ ns. row ++ ns) e),
      length-append row (node ∷ members next),
    )

pub row_more : (set rest next node number : ℕ) (row more : List ℕ) → members set ≡ row
    ++ members rest → members rest ≡ node ∷ members next → number ≡ node → more ≡ row ++ number ∷ []
    → members set ≡ more ++ members next
row_more set rest next node number row more h e n m = h ∙ ap (λ ns. row ++ ns) e
    ∙ sym (append_assoc row (node ∷ []) (members next)) ∙ ap (λ x. (row ++ x ∷ []) ++ members next)
    (sym n) ∙ ap (λ ns. ns ++ members next) (sym m)

pub row_all : (set rest : ℕ) (row : List ℕ) → members set ≡ row ++ members rest → members rest ≡ []
    → members set ≡ row
row_all set rest row h e = h ∙ ap (λ ns. row ++ ns) e ∙ append-nil row
