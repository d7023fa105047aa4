-- Counts over a cycle, round by round.
use Rattle.std.proofs.Common.{◌≡◌, ◌≢◌, ℕ, zero, suc, ◌+◌, ◌-◌, ◌*◌, ◌%◌, ◌/◌, ◌<◌, ◌≤◌, Bool, true}
use Rattle.std.proofs.Common.{false, cond, eqb, List, [], ◌∷◌, ◌++◌, length, get_or, set, take}
use Rattle.std.proofs.Common.{drop, inl, inr, refl, sym, ap, ◌∙◌, arith, add-zero, mul-suc}
use Rattle.std.proofs.Common.{length-drop}
use Rattle.std.specs.Prelude.{slice_range}
use Rattle.std.proofs.Math.Nat.{mul-add-mod_self_left, add-mod_left, mod-eq_of_lt, mul-le-mul_left}
use Rattle.std.proofs.Math.Nat.{div-add-mod}
use Rattle.std.proofs.lemmas.Bool.{eq-eqb}
use Rattle.std.proofs.lemmas.Bool.Decides.{eqb_tells}
use Rattle.std.proofs.lemmas.List.{get_or-take, get_or-drop, length-take, get_or-set_same}
use Rattle.std.proofs.lemmas.List.{get_or-set_other}
use Rattle.std.proofs.lemmas.List.Sums.{count_by-le-length, sum_by-cons, sum_by_push}
use Rattle.numa_lanes.specs.Spans.{node_count}
use Rattle.numa_ranges.specs.Counts.{count_pages}
use Rattle.numa_ranges.proofs.Counted.{count-split}

-- ---- one place more

pub count-push : (node : ℕ) (nodes : List ℕ) (x : ℕ) → node_count node (nodes ++ x ∷ [])
    ≡ node_count node nodes + cond (eqb x node) 1 0
count-push node nodes x = sum_by_push (λ x. cond {A = ℕ} (eqb x node) 1 0) nodes x

count-cons : (node : ℕ) (nodes : List ℕ) (x : ℕ) → node_count node (x ∷ nodes) ≡ cond (eqb x node) 1
    0 + node_count node nodes
count-cons node nodes x = sum_by-cons (λ x. cond {A = ℕ} (eqb x node) 1 0) x nodes

-- so many pages more for one node
pub places_next : (counts nodes : List ℕ) (hit pages : ℕ) (base : ℕ → ℕ) → hit < length counts
    → ((node : ℕ) → node < 256 → get_or counts node 0 ≡ base node + pages * node_count node nodes)
    → (node : ℕ) → node < 256 → get_or (set counts hit (get_or counts hit 0 + pages)) node 0
    ≡ base node + pages * node_count node (nodes ++ hit ∷ [])
places_next counts nodes hit pages base within before node small =
    elim (eqb_tells hit node) [
      | inl is ↦
          let more : node_count node (nodes ++ hit ∷ []) ≡ node_count node nodes + 1 =
          count-push node nodes hit ∙ ap (λ (b : Bool). node_count node nodes + cond b 1 0)
          is.0 in
          let at : get_or (set counts hit (get_or counts hit 0 + pages)) node 0 ≡ get_or counts node
          0 + pages = ap (λ (n : ℕ). get_or (set counts hit (get_or counts hit 0 + pages)) n 0)
          (sym is.1) ∙ get_or-set_same counts hit (get_or counts hit 0 + pages) 0 within
          ∙ ap (λ (n : ℕ). get_or counts n 0 + pages) is.1 in
          at ∙ rw more (omega (arith, before node small))
      | inr not ↦
          let same : node_count node (nodes ++ hit ∷ []) ≡ node_count node nodes =
          count-push node nodes hit ∙ ap (λ (b : Bool). node_count node nodes + cond b 1 0)
          not.0 ∙ add-zero _ in
          let ne : node ≢ hit = λ e. not.1 (sym e) in
          get_or-set_other counts hit node (get_or counts hit 0 + pages) 0 ne ∙ before node small
          ∙ ap (λ (n : ℕ). base node + pages * n) (sym same)
    ]

-- a node counts once more behind a place that has it
pub places_left : (nodes : List ℕ) (i node : ℕ) → i < length nodes → get_or nodes i 0 ≡ node
    → node_count node (take i nodes) + 1 ≤ node_count node nodes
places_left [] i node l is = absurd (omega arith)
places_left (x ∷ nodes) zero node l is =
    let one : cond {A = ℕ} (eqb x node) 1 0 ≡ 1 = ap (λ (b : Bool). cond {A = ℕ} b 1 0)
    (eq-eqb x node is) in
    omega (arith, count-cons node nodes x, one)
places_left (x ∷ nodes) (suc i) node l is =
    omega (
      arith,
      count-cons node nodes x,
      count-cons node (take i nodes) x,
      places_left nodes i node (omega arith) is,
    )

pub places_room : (pages some all had old top : ℕ) → some + 1 ≤ all → had ≡ old + pages * some
    → old + pages * all < top → had + pages < top
places_room pages some all had old top le is room =
    omega (arith, mul-le-mul_left pages le, mul-suc pages some)

-- ---- windows of a test

-- two windows whose tests agree place by place
pub shift : (p q : ℕ → Bool) (a b n : ℕ) → ((k : ℕ) → k < n → p (a + k) ≡ q (b + k))
    → count_pages p a n ≡ count_pages q b n
unfolding count_pages
shift p q a b zero h = refl
shift p q a b (suc n) h =
    let here : p a ≡ q b = sym (ap p (add-zero a)) ∙ h 0 (omega arith) ∙ ap q (add-zero b) in
    let rest : count_pages p (a + 1) n ≡ count_pages q (b + 1) n =
    shift p q (a + 1) (b + 1) n (λ k lt.
    let left : a + 1 + k ≡ a + suc k = omega arith in
    let right : b + suc k ≡ b + 1 + k = omega arith in
    ap p left ∙ h (suc k) (omega arith) ∙ ap q right) in
    λ i. cond {A = ℕ} (here i) 1 0 + rest i

pub count-empty : (p : ℕ → Bool) (a : ℕ) → count_pages p a 0 ≡ 0
unfolding count_pages
count-empty p a = refl

pub count-most : (p : ℕ → Bool) (a n : ℕ) → count_pages p a n ≤ n
unfolding count_pages
count-most p a zero = omega arith
count-most p a (suc n) =
    elim (p a) as (λ (b : Bool). cond {A = ℕ} b 1 0 + count_pages p (a + 1) n ≤ suc n)
    [ true ↦ omega (arith, count-most p (a + 1) n) | false ↦ omega (arith, count-most p (a + 1) n) ]

-- a window of one round counts the same wherever it begins
round : (p : ℕ → Bool) (n s : ℕ) → ((k : ℕ) → p (n + k) ≡ p k)
    → count_pages p s n ≡ count_pages p 0 n
round p n s again =
    let one : count_pages p 0 (s + n) ≡ count_pages p 0 s + count_pages p (0 + s) n =
    count-split p 0 s n (s + n) refl in
    let two : count_pages p 0 (s + n) ≡ count_pages p 0 n + count_pages p (0 + n) s =
    count-split p 0 n s (s + n) (omega arith) in
    let turn : count_pages p (0 + n) s ≡ count_pages p 0 s = shift p p (0 + n) 0 s (λ k lt.
    let left : 0 + n + k ≡ n + k = omega arith in
    let right : k ≡ 0 + k = omega arith in
    ap p left ∙ again k ∙ ap p right) in
    let place : 0 + s ≡ s = omega arith in
    let moved : count_pages p (0 + s) n ≡ count_pages p s n =
    ap (λ (a : ℕ). count_pages p a n) place in
    omega (arith, one, two, turn, moved)

-- whole rounds by multiplication
pub rounds : (p : ℕ → Bool) (n q s : ℕ) → ((k : ℕ) → p (n + k) ≡ p k)
    → count_pages p s (n * q) ≡ q * count_pages p 0 n
rounds p n zero s again =
    let e : n * 0 ≡ 0 = omega arith in
    omega (arith, ap (count_pages p s) e, count-empty p s)
rounds p n (suc q) s again =
    let e : n + n * q ≡ n * suc q = rw (mul-suc n q) (omega arith) in
    let split : count_pages p s (n * suc q) ≡ count_pages p s n + count_pages p (s + n) (n * q) =
    count-split p s n (n * q) (n * suc q) e in
    let rest : count_pages p (s + n) (n * q) ≡ q * count_pages p 0 n = rounds p n q (s + n) again in
    let more : suc q * count_pages p 0 n ≡ q * count_pages p 0 n + count_pages p 0 n =
    omega arith in
    omega (arith, split, rest, round p n s again, more)

-- ---- the nodes of a cycle

module _ (cycle : List ℕ) (node : ℕ) where
  -- whether the entry whose turn it is is the node
  abbrev pub turn_is : ℕ → Bool
  turn_is turn = eqb (get_or cycle (turn % length cycle) 0) node

  pub again : (k : ℕ) → turn_is (length cycle + k) ≡ turn_is k
  again k = ap (λ (m : ℕ). eqb (get_or cycle m 0) node) (add-mod_left (length cycle) k)

  -- a span whose pages take turns
  pub count-span : (span : List ℕ) (a : ℕ)
      → ((k : ℕ) → k < length span → get_or span k 0 ≡ get_or cycle ((a + k) % length cycle) 0)
      → count_pages turn_is a (length span) ≡ node_count node span
  unfolding count_pages
  count-span [] a same = refl
  count-span (x ∷ span) a same =
      let here : turn_is a ≡ eqb x node =
      ap (λ (m : ℕ). eqb m node)
      (sym (same 0 (omega arith) ∙ ap (λ (m : ℕ). get_or cycle (m % length cycle) 0)
      (add-zero a))) in
      let rest : count_pages turn_is (a + 1) (length span) ≡ node_count node span =
      count-span span (a + 1) (λ k lt.
      let place : a + suc k ≡ a + 1 + k = omega arith in
      same (suc k) (omega arith) ∙ ap (λ (m : ℕ). get_or cycle (m % length cycle) 0) place) in
      (λ i. cond {A = ℕ} (here i) 1 0 + rest i) ∙ sym (count-cons node span x)

  -- a part of the cycle
  count-part : (part : List ℕ) (a : ℕ)
      → ((k : ℕ) → k < length part → get_or cycle (a + k) 0 ≡ get_or part k 0)
      → a + length part ≤ length cycle → count_pages turn_is a (length part) ≡ node_count node part
  count-part part a same within = count-span part a (λ k lt.
      let inside : a + k < length cycle = omega arith in
      sym (same k lt) ∙ ap (λ (m : ℕ). get_or cycle m 0) (sym (mod-eq_of_lt inside)))

  pub count-cycle : count_pages turn_is 0 (length cycle) ≡ node_count node cycle
  count-cycle = count-part cycle 0 (λ k lt. let e : 0 + k ≡ k = omega arith in
      ap (λ (m : ℕ). get_or cycle m 0) e) (omega arith)

  -- a window inside the cycle
  pub count-window : (a m : ℕ) → a + m ≤ length cycle
      → count_pages turn_is a m ≡ node_count node (slice_range cycle a (a + m))
  count-window a m within =
      let size : a + m - a ≡ m = omega arith in
      let long : length (slice_range cycle a (a + m)) ≡ m =
      simp (length-take, length-drop) (omega arith) in
      ap (count_pages turn_is a) (sym long)
      ∙ count-part (slice_range cycle a (a + m)) a
      (λ k lt. sym (get_or-take (a + m - a) (drop a cycle) k 0 (omega (arith, long))
      ∙ get_or-drop a cycle k 0)) (omega (arith, long))

  -- a window that goes on behind the end of the cycle
  pub count-around : (a m begun : ℕ) → a < length cycle → begun + (length cycle - a) ≡ m
      → begun ≤ length cycle
      → count_pages turn_is a m ≡ node_count node (drop a cycle) + node_count node
      (take begun cycle)
  count-around a m begun within is few =
      let split : count_pages turn_is a m ≡ count_pages turn_is a (length cycle - a) + count_pages
      turn_is (a + (length cycle - a)) begun = count-split turn_is a (length cycle - a) begun m
      (omega arith) in
      let long : length (drop a cycle) ≡ length cycle - a = length-drop a cycle in
      let one : count_pages turn_is a (length (drop a cycle)) ≡ node_count node (drop a cycle) =
      count-part (drop a cycle) a (λ k lt. sym (get_or-drop a cycle k 0))
      (omega (arith, long)) in
      let one' : count_pages turn_is a (length (drop a cycle)) ≡ count_pages turn_is a
      (length cycle - a) = ap (count_pages turn_is a) long in
      let short : length (take begun cycle) ≡ begun = simp length-take (omega arith) in
      let two : count_pages turn_is 0 (length (take begun cycle)) ≡ node_count node
      (take begun cycle) =
      count-part (take begun cycle) 0 (λ k lt. let e : 0 + k ≡ k = omega arith in
      ap (λ (j : ℕ). get_or cycle j 0) e
      ∙ sym (get_or-take begun cycle k 0 (omega (arith, short)))) (omega (arith, short)) in
      let two' : count_pages turn_is 0 (length (take begun cycle)) ≡ count_pages turn_is 0 begun =
      ap (count_pages turn_is 0) short in
      let place : a + (length cycle - a) ≡ length cycle = omega arith in
      let round_on : count_pages turn_is (a + (length cycle - a)) begun ≡ count_pages turn_is 0
      begun = shift turn_is turn_is (a + (length cycle - a)) 0 begun (λ k lt.
      let left : a + (length cycle - a) + k ≡ length cycle + k = omega arith in
      let right : k ≡ 0 + k = omega arith in
      ap turn_is left ∙ again k ∙ ap turn_is right) in
      omega (arith, split, one, one', two, two', round_on)

  -- any number of turns: whole rounds by multiplication, and the rest
  pub count-turns : (index pages : ℕ) → 0 < length cycle
      → count_pages turn_is index pages ≡ pages / length cycle * node_count node cycle + count_pages
      turn_is (index % length cycle) (pages % length cycle)
  count-turns index pages some =
      let n : ℕ = length cycle in
      let split : count_pages turn_is index pages ≡ count_pages turn_is index (n * (pages / n))
      + count_pages turn_is (index + n * (pages / n)) (pages % n) =
      count-split turn_is index (n * (pages / n)) (pages % n) pages (div-add-mod pages n) in
      let whole : count_pages turn_is index (n * (pages / n)) ≡ pages / n * count_pages turn_is 0
      n = rounds turn_is n (pages / n) index again in
      let one : pages / n * count_pages turn_is 0 n ≡ pages / n * node_count node cycle =
      ap (λ (m : ℕ). pages / n * m) count-cycle in
      let rest : count_pages turn_is (index + n * (pages / n)) (pages % n) ≡ count_pages turn_is
      (index % n) (pages % n) = shift turn_is turn_is (index + n * (pages / n)) (index % n)
      (pages % n) (λ k lt.
      let left : index + n * (pages / n) + k ≡ n * (pages / n) + (index + k) = omega arith in
      let right : index + k ≡ n * (index / n) + (index % n + k) =
      omega (arith, div-add-mod index n) in
      ap (λ (m : ℕ). eqb (get_or cycle m 0) node)
      (ap (λ (m : ℕ). m % n) left ∙ mul-add-mod_self_left n (pages / n) (index + k)
      ∙ ap (λ (m : ℕ). m % n) right ∙ mul-add-mod_self_left n (index / n) (index % n + k))) in
      omega (arith, split, whole, one, rest)

  -- whole rounds fit where all turns do
  pub rounds_fit : (pages old top : ℕ) → 0 < length cycle → old + pages < top
      → old + pages / length cycle * node_count node cycle + pages % length cycle < top
  rounds_fit pages old top some room =
      let few : node_count node cycle ≤ length cycle = count_by-le-length (λ (x : ℕ). eqb x node)
      cycle in
      omega (arith, div-add-mod pages (length cycle), mul-le-mul_left (pages / length cycle) few)
