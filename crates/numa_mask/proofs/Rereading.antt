-- The text of a set, read again, is that set.
use Rattle.std.proofs.Common.{◌≡◌, ℕ, zero, suc, ◌+◌, ◌-◌, ◌^◌, ◌<◌, ◌≤◌, ◌==◌, Bool, true, false}
use Rattle.std.proofs.Common.{cond, eqb, ltb, List, [], ◌∷◌, ◌++◌, length, take, drop, get_or}
use Rattle.std.proofs.Common.{slice_get, position, map, filter, All, Contains, codes, decimal, Some}
use Rattle.std.proofs.Common.{None, Ok, refl, sym, ap, ◌∙◌, arith, inl, inr, append_assoc}
use Rattle.std.proofs.Common.{length-append, eq-eqb, subst}
use Rattle.std.specs.Char.{is_digit, digit_value}
use Rattle.std.specs.List.{list_all, join_with_byte, flat_map, position_or_len}
use Rattle.std.specs.Str.Parse.{AllDigits, digits_value}
use Rattle.std.proofs.lemmas.Bool.{cases_lt, cases_eq, ne_eqb, lt-ltb, le-ltb}
use Rattle.std.proofs.lemmas.Fmt.{decimal_is_IsNumeral, length-decimal-le}
use Rattle.std.proofs.Math.Seq.{take-append_seam, drop-append-add}
use Rattle.std.proofs.lemmas.List.{length-map}
use Rattle.std.proofs.lemmas.List.Elements.{All-cons, All-head, All-tail, All-append}
use Rattle.std.proofs.lemmas.List.Elements.{All-from_get_or, All-map, Contains-append_left}
use Rattle.std.proofs.lemmas.List.Elements.{Contains-append_right, Contains-append_cases}
use Rattle.std.proofs.lemmas.List.Elements.{All-filter, All-contains}
use Rattle.std.proofs.lemmas.List.Splits.{slice_split_none, slice_split_at}
use Rattle.std.proofs.lemmas.List.Sums.{position_or_len_is}
use Rattle.std.proofs.lemmas.Str.Parse.{digit_at}
use Rattle.std.proofs.lemmas.List.FromFn.{length-range_with_len, get_or-range_with_len}
use Rattle.numa_mask.specs.NodeSet.{has, members, set_of}
use Rattle.numa_mask.specs.Lists.{items_of, numeral_of, ends_of, ends_or_fault, item_of}
use Rattle.numa_mask.specs.Lists.{nodes_between, nodes_in, faults_of, set_of_items, unless, list_of}
use Rattle.numa_mask.specs.Lists.{starts_run, run_end, run_starts, run_text, text_of}
use Rattle.numa_mask.proofs.Sets.{members-have, members-below, contains-has}
use Rattle.numa_mask.proofs.Images.{set_of-contains, contains-set_of, same_members, members-some}
use Rattle.numa_mask.proofs.Images.{below-has}
use Rattle.numa_mask.proofs.Reading.{all_digits, item_some, ends_found, ends_alone, judged_fine}
use Rattle.numa_mask.proofs.Writing.{run_end-within, run_end-has, run_end-stops, run_text-some}

-- ---- the items of a joined text

pub split_joined : (parts : List (List ℕ)) → 0 < length parts
    → All (λ part. All (λ b. (b == 44) ≡ false) part) parts → items_of (join_with_byte 44 parts)
    ≡ parts
split_joined [] some all = absurd (omega arith)
split_joined (part ∷ []) some all =
    slice_split_none (λ b. b == 44) part
    (All-head (λ p. All (λ b. (b == 44) ≡ false) p) part [] all)
split_joined (part ∷ next ∷ parts) some all =
    slice_split_at (λ b. b == 44) part 44 (join_with_byte 44 (next ∷ parts))
    (All-head (λ p. All (λ b. (b == 44) ≡ false) p) part (next ∷ parts) all) refl
    ∙ ap (λ rest. part ∷ rest)
    (split_joined (next ∷ parts) (omega arith)
    (All-tail (λ p. All (λ b. (b == 44) ≡ false) p) part (next ∷ parts) all))

-- ---- numbers

-- the bytes of a number are digits
decimal-digits : (n : ℕ) → n < 256 → All (λ b. 48 ≤ b) (decimal n)
decimal-digits n h = All-from_get_or (λ b. 48 ≤ b) (decimal n) 0
    (λ i l. (digit_at (decimal n) i (decimal_is_IsNumeral n (omega arith)).0.1 l).0)

decimal-other : (n other : ℕ) → n < 256 → other < 48 → All (λ b. (b == other) ≡ false) (decimal n)
decimal-other n other h l = λ k d few. ne_eqb (get_or (decimal n) k d) other
    (omega (arith, decimal-digits n h k d few))

all_digits-list : (ds : List ℕ) → AllDigits 10 ds → list_all (λ c. is_digit c 10) ds ≡ true
all_digits-list [] h = refl
all_digits-list (c ∷ cs) h = rw (lt-ltb (digit_value c) 10 h.0) (all_digits-list cs h.1)

pub numeral-decimal : (n : ℕ) → n < 256 → numeral_of (decimal n) ≡ Some n
numeral-decimal n h =
    let is : (0 < length (decimal n)) × AllDigits 10 (decimal n) =
    (decimal_is_IsNumeral n (omega arith)).0 in
    let value : digits_value 10 (decimal n) ≡ n = (decimal_is_IsNumeral n (omega arith)).1 in
    all_digits (decimal n) is.0
    (omega (arith, length-decimal-le 3 n (omega arith) (omega arith) (omega arith)))
    (all_digits-list (decimal n) is.1) ∙ ap Some value

-- ---- the item of a run

no_place : (xs : List ℕ) (other : ℕ) → All (λ b. (b == other) ≡ false) xs
    → position (λ b. b == other) xs ≡ None
no_place xs other all =
    let none : position_or_len (λ b. b == other) xs ≡ length xs =
    position_or_len_is (λ b. b == other) xs (length xs) 0 (omega arith) (λ k l. all k 0 l)
    (λ l. absurd (omega arith)) in
    let test : ltb (position_or_len (λ b. b == other) xs) (length xs) ≡ false =
    le-ltb (position_or_len (λ b. b == other) xs) (length xs) (omega (arith, none)) in
    rw test refl

place_len : (xs ys : List ℕ) (other : ℕ) → All (λ b. (b == other) ≡ false) xs
    → position_or_len (λ b. b == other) (xs ++ other ∷ ys) ≡ length xs
place_len [] ys other all = rw (eq-eqb other other refl) refl
place_len (x ∷ xs) ys other all = rw (All-head (λ b. (b == other) ≡ false) x xs all)
    (omega (arith, place_len xs ys other (All-tail (λ b. (b == other) ≡ false) x xs all)))

place_behind : (xs ys : List ℕ) (other : ℕ) → All (λ b. (b == other) ≡ false) xs
    → position (λ b. b == other) (xs ++ other ∷ ys) ≡ Some (length xs)
place_behind xs ys other all =
    let at : position_or_len (λ b. b == other) (xs ++ other ∷ ys) ≡ length xs =
    place_len xs ys other all in
    let test : ltb (position_or_len (λ b. b == other) (xs ++ other ∷ ys))
    (length (xs ++ other ∷ ys)) ≡ true =
    lt-ltb (position_or_len (λ b. b == other) (xs ++ other ∷ ys)) (length (xs ++ other ∷ ys))
    (omega (arith, at, length-append xs (other ∷ ys))) in
    rw test (ap Some at)

ends-one : (node : ℕ) → node < 256 → ends_of (decimal node) ≡ Some (node, node)
ends-one node h =
    sym (ends_alone (decimal node) (Some node)
    (sym (no_place (decimal node) 45 (decimal-other node 45 h (omega arith))))
    (sym (numeral-decimal node h)))

ends-two : (first last : ℕ) → first < 256 → last < 256
    → ends_of (decimal first ++ 45 ∷ decimal last) ≡ Some (first, last)
ends-two first last h l =
    let item : List ℕ = decimal first ++ 45 ∷ decimal last in
    let before : take (length (decimal first)) item ≡ decimal first =
    take-append_seam (decimal first) (45 ∷ decimal last) in
    let behind : drop (length (decimal first) + 1) item ≡ decimal last =
    drop-append-add (decimal first) (45 ∷ decimal last) 1 in
    sym (ends_found item (length (decimal first)) (Some first) (Some last)
    (sym (place_behind (decimal first) (decimal last) 45
    (decimal-other first 45 h (omega arith))))
    (sym (ap numeral_of before ∙ numeral-decimal first h))
    (sym (ap numeral_of behind ∙ numeral-decimal last l)))

ends-run : (first last : ℕ) → first ≤ last → last < 256 → ends_of (run_text first last)
    ≡ Some (first, last)
ends-run first last h l =
    elim (cases_eq first last) [
      | inl e ↦
          rw (eq-eqb first last e) (ends-one first (omega arith) ∙ ap (λ n. Some (first, n)) e)
      | inr ne ↦
          rw (ne_eqb first last ne)
          (ap ends_of (append_assoc (decimal first) (45 ∷ []) (decimal last))
          ∙ ends-two first last (omega arith) l)
    ]

pub item-run : (first last : ℕ) → first ≤ last → last < 256 → item_of (run_text first last)
    ≡ Ok (first, last)
item-run first last h l =
    let some : (length (run_text first last) == 0) ≡ false = ne_eqb (length (run_text first last)) 0
    (omega (arith, run_text-some first last (omega arith))) in
    item_some (run_text first last) some ∙ ap ends_or_fault (ends-run first last h l)
    ∙ judged_fine first last h l

-- no comma stands in it
run-no_comma : (first last : ℕ) → first < 256 → last < 256
    → All (λ b. (b == 44) ≡ false) (run_text first last)
run-no_comma first last h l =
    elim (first == last) as
    (λ b. All (λ x. (x == 44) ≡ false)
    (cond b (decimal first) (decimal first ++ codes "-" ++ decimal last))) [
      | true ↦ decimal-other first 44 h (omega arith)
      | false ↦
          All-append (λ x. (x == 44) ≡ false) (decimal first ++ codes "-") (decimal last)
          (All-append (λ x. (x == 44) ≡ false) (decimal first) (codes "-")
          (decimal-other first 44 h (omega arith))
          (All-cons (λ x. (x == 44) ≡ false) 45 [] refl (λ k d m. absurd (omega arith))))
          (decimal-other last 44 l (omega arith))
    ]

-- ---- the items of all runs

item-start : (set first : ℕ) → first < 256 → item_of (run_text first (run_end set first))
    ≡ Ok (first, run_end set first)
item-start set first h = item-run first (run_end set first) (omega arith)
    (run_end-within set first h)

no_faults : (set : ℕ) (firsts : List ℕ) → All (λ n. n < 256) firsts
    → faults_of (map (λ first. run_text first (run_end set first)) firsts) ≡ []
no_faults set [] all = refl
no_faults set (first ∷ firsts) all =
    rw (item-start set first (All-head (λ n. n < 256) first firsts all))
    (no_faults set firsts (All-tail (λ n. n < 256) first firsts all))

nodes-runs : (set : ℕ) (firsts : List ℕ) → All (λ n. n < 256) firsts
    → flat_map (λ item. nodes_in (item_of item))
    (map (λ first. run_text first (run_end set first)) firsts)
    ≡ flat_map (λ first. nodes_between first (run_end set first)) firsts
nodes-runs set [] all = refl
nodes-runs set (first ∷ firsts) all =
    rw (item-start set first (All-head (λ n. n < 256) first firsts all))
    (ap (λ ns. nodes_between first (run_end set first) ++ ns)
    (nodes-runs set firsts (All-tail (λ n. n < 256) first firsts all)))

-- ---- the nodes of all runs are the members

between-contains : (first last node : ℕ) → first ≤ node → node ≤ last
    → Contains (nodes_between first last) node
between-contains first last node h l = (
  node - first,
  omega (arith, length-range_with_len first (last + 1 - first)),
  get_or-range_with_len first (last + 1 - first) (node - first) node (omega arith) ∙ omega arith,
)

contains-between : (first last node : ℕ) → Contains (nodes_between first last) node → (first ≤ node)
    × (node ≤ last)
contains-between first last node c =
    let few : c.0 < last + 1 - first =
    omega (arith, c.1, length-range_with_len first (last + 1 - first)) in
    let at : first + c.0 ≡ node = sym (get_or-range_with_len first (last + 1 - first) c.0 node few)
    ∙ c.2 in
    (omega arith, omega arith)

flat-contains : (f : ℕ → List ℕ) (xs : List ℕ) (x node : ℕ) → Contains xs x → Contains (f x) node
    → Contains (flat_map f xs) node
flat-contains f [] x node c d = absurd (omega (arith, c.1))
flat-contains f (y ∷ xs) x node (zero, _, e) d = Contains-append_left (f y) (flat_map f xs) node
    (let P : ℕ → Type 0 = λ z. Contains (f z) node in subst P (sym e) d)
flat-contains f (y ∷ xs) x node (suc k, h, e) d = Contains-append_right (f y) (flat_map f xs) node
    (flat-contains f xs x node (k, omega arith, e) d)

contains-flat : (f : ℕ → List ℕ) (xs : List ℕ) (node : ℕ) → Contains (flat_map f xs) node
    → (x : ℕ) × Contains xs x × Contains (f x) node
contains-flat f [] node c = absurd (omega (arith, c.1))
contains-flat f (y ∷ xs) node c =
    elim (Contains-append_cases (f y) (flat_map f xs) node c) [
      | inl here ↦ (y, (zero, omega arith, refl), here)
      | inr there ↦ let rest : (x : ℕ) × Contains xs x × Contains (f x) node =
          contains-flat f xs node there in
          (rest.0, (suc rest.1.0, omega (arith, rest.1.1), rest.1.2), rest.2)
    ]

kept-contains : (p : ℕ → Bool) (xs : List ℕ) (x : ℕ) → Contains xs x → p x ≡ true
    → Contains (filter p xs) x
kept-contains p [] x c t = absurd (omega (arith, c.1))
kept-contains p (y ∷ xs) x (zero, _, e) t = let passes : p y ≡ true = ap p e ∙ t in
    rw passes (zero, omega arith, e)
kept-contains p (y ∷ xs) x (suc k, h, e) t =
    let rest : Contains (filter p xs) x = kept-contains p xs x (k, omega arith, e) t in
    elim (p y) as (λ b. Contains (cond b (y ∷ filter p xs) (filter p xs)) x) [
      | true ↦ (suc rest.0, omega (arith, rest.1), rest.2)
      | false ↦ rest
    ]

-- each member is in the run that starts at it or before it
start-of : (set node : ℕ) → has set node ≡ true → node < 256 → (first : ℕ) × (first ≤ node)
    × (has set first ≡ true) × (starts_run set first ≡ true) × (node ≤ run_end set first)
start-of set zero t l = (zero, omega arith, t, refl, omega arith)
start-of set (suc node) t l =
    let before : suc node - 1 ≡ node = omega arith in
    elim (has set node) as (λ b. has set node ≡ b → (first : ℕ) × (first ≤ suc node)
    × (has set first ≡ true) × (starts_run set first ≡ true) × (suc node ≤ run_end set first)) [
      | false ↦ λ (f : has set node ≡ false).
          let new : has set (suc node - 1) ≡ false = ap (has set) before ∙ f in
          let some : eqb (suc node) 0 ≡ false = ne_eqb (suc node) 0 (omega arith) in
          (suc node, omega arith, t, rw (some, new) refl, omega arith)
      | true ↦ λ (m : has set node ≡ true).
          let rest : (first : ℕ) × (first ≤ node) × (has set first ≡ true)
          × (starts_run set first ≡ true) × (node ≤ run_end set first) =
          start-of set node m (omega arith) in (
            rest.0,
            omega (arith, rest.1),
            rest.2,
            rest.3,
            elim (cases_lt node (run_end set rest.0)) [
              | inl further ↦ omega arith
              | inr here ↦
                  let stop : run_end set rest.0 ≡ node = omega (arith, rest.4) in
                  let odd : true ≡ false = sym t ∙ ap (has set) (omega (arith, stop))
                  ∙ run_end-stops set rest.0 (omega arith) in
                  absurd (let none : ⊥ = cc in none)
            ],
          )
    ] refl

starts-have : (set : ℕ) → All (λ m. has set m ≡ true) (run_starts set)
starts-have set = All-filter (starts_run set) (λ m. has set m ≡ true) (members set)
    (members-have set)

starts-below : (set : ℕ) → All (λ m. m < 256) (run_starts set)
starts-below set = All-filter (starts_run set) (λ m. m < 256) (members set) (members-below set)

starts-contain : (set node : ℕ) → has set node ≡ true → node < 256 → (first : ℕ)
    × Contains (run_starts set) first × (first ≤ node) × (node ≤ run_end set first)
starts-contain set node t l =
    let start : (first : ℕ) × (first ≤ node) × (has set first ≡ true)
    × (starts_run set first ≡ true) × (node ≤ run_end set first) = start-of set node t l in (
      start.0,
      kept-contains (starts_run set) (members set) start.0
          (contains-has set start.0 (omega (arith, start.1)) start.2) start.3,
      start.1,
      start.4,
    )

pub set_of-runs : (set : ℕ) → set < 2 ^ 256
    → set_of (flat_map (λ first. nodes_between first (run_end set first)) (run_starts set)) ≡ set
set_of-runs set h = same_members (set_of nodes) set
    (λ node t.
    let found : (first : ℕ) × Contains (run_starts set) first
    × Contains (nodes_between first (run_end set first)) node =
    contains-flat (λ first. nodes_between first (run_end set first)) (run_starts set) node
    (set_of-contains nodes node t) in
    let ends : (found.0 ≤ node) × (node ≤ run_end set found.0) =
    contains-between found.0 (run_end set found.0) node found.2 in
    let start : has set found.0 ≡ true = All-contains (λ m. has set m ≡ true) (run_starts set)
    found.0 (starts-have set) found.1 in
    elim (cases_lt found.0 node) [
      | inl behind ↦ run_end-has set found.0 node behind ends.1
      | inr here ↦ let same : node ≡ found.0 = omega (arith, ends.0) in ap (has set) same ∙ start
    ])
    (λ node t.
    let run : (first : ℕ) × Contains (run_starts set) first × (first ≤ node)
    × (node ≤ run_end set first) = starts-contain set node t (below-has set node h t) in
    contains-set_of nodes node (flat-contains (λ first. nodes_between first (run_end set first))
    (run_starts set) run.0 node run.1
    (between-contains run.0 (run_end set run.0) node run.2 run.3)))
  where
    nodes : List ℕ
    nodes = flat_map (λ first. nodes_between first (run_end set first)) (run_starts set)

-- ---- the whole text

run_starts-some : (set : ℕ) → set < 2 ^ 256 → (set ≡ 0 → ⊥) → 0 < length (run_starts set)
run_starts-some set h some =
    let many : 0 < length (members set) = members-some set h some in
    let member : has set (get_or (members set) 0 0) ≡ true = members-have set 0 0 many in
    let run : (first : ℕ) × Contains (run_starts set) first × (first ≤ get_or (members set) 0 0)
    × (get_or (members set) 0 0 ≤ run_end set first) =
    starts-contain set (get_or (members set) 0 0) member (members-below set 0 0 many) in
    omega (arith, run.1.1)

pub text_of-items : (set : ℕ) → set < 2 ^ 256 → (set ≡ 0 → ⊥)
    → items_of (text_of set) ≡ map (λ first. run_text first (run_end set first)) (run_starts set)
text_of-items set h some =
    split_joined (map (λ first. run_text first (run_end set first)) (run_starts set))
    (omega (
      arith,
      length-map (run_starts set) (λ first. run_text first (run_end set first)),
      run_starts-some set h some,
    ))
    (All-map (λ part. All (λ b. (b == 44) ≡ false) part)
    (λ first. run_text first (run_end set first)) (run_starts set)
    (λ k d l. let small : get_or (run_starts set) k d < 256 = starts-below set k d l in
    run-no_comma (get_or (run_starts set) k d) (run_end set (get_or (run_starts set) k d)) small
    (run_end-within set (get_or (run_starts set) k d) small)))

-- reading the text of a set that isn't empty gives that set back
pub list_of-text_of : (set : ℕ) → set < 2 ^ 256 → (set ≡ 0 → ⊥) → list_of (text_of set) ≡ Ok set
list_of-text_of set h some =
    let parts : List (List ℕ) = map (λ first. run_text first (run_end set first))
    (run_starts set) in
    ap (λ items. unless (slice_get (faults_of items) 0) (set_of_items items))
    (text_of-items set h some)
    ∙ ap (λ faults. unless (slice_get faults 0) (set_of_items parts))
    (no_faults set (run_starts set) (starts-below set))
    ∙ ap (λ nodes. Ok (set_of nodes)) (nodes-runs set (run_starts set) (starts-below set))
    ∙ ap Ok (set_of-runs set h)
