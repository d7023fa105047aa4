-- Pages of both sizes in turn: each index has the node of its turn.
use Rattle.std.proofs.Common.{◌≡◌, ℕ, zero, suc, ◌+◌, ◌-◌, ◌*◌, ◌%◌, ◌/◌, ◌^◌, ◌<◌, ◌≤◌, Bool, true}
use Rattle.std.proofs.Common.{false, cond, eqb, List, length, get_or, set, inl, inr, refl, sym, ap}
use Rattle.std.proofs.Common.{◌∙◌, arith, add-zero}
use Rattle.std.proofs.Math.Nat.{mul-le-mul_left, mul_assoc, mul_comm, mul_right_comm}
use Rattle.std.proofs.lemmas.Bool.Decides.{eqb_tells}
use Rattle.std.proofs.lemmas.List.{get_or-set_same, get_or-set_other}
use Rattle.std.proofs.lemmas.List.Sums.{count_by-le-length}
use Rattle.numa_lanes.specs.Spans.{node_count}
use Rattle.numa_machine.specs.Sizes.{is_part, shared_turn, turn_at}
use Rattle.numa_machine.proofs.Sizes.{part-end, shared-later, turn-huge, turn-shared}
use Rattle.numa_machine.proofs.Sizes.{turn-small}
use Rattle.numa_ranges.specs.Counts.{count_pages}
use Rattle.numa_ranges.proofs.Counted.{count-split}
use Rattle.numa_plan.proofs.CountLemmas.{again, count-cycle, count-empty, rounds, shift, turn_is}

-- ---- pages that are alike

count-alike : (test : ℕ → Bool) (a n : ℕ) (b : Bool) → ((q : ℕ) → q < n → test (a + q) ≡ b)
    → count_pages test a n ≡ cond b n 0
unfolding count_pages
count-alike test a zero true h = refl
count-alike test a zero false h = refl
count-alike test a (suc n) b h =
    let here : test a ≡ b = sym (ap test (add-zero a)) ∙ h 0 (omega arith) in
    let rest : count_pages test (a + 1) n ≡ cond b n 0 =
    count-alike test (a + 1) n b (λ q lt.
    let place : a + 1 + q ≡ a + suc q = omega arith in
    ap test place ∙ h (suc q) (omega (arith, lt))) in
    rw (here, rest) (one-more b n)
  where
    one-more : (b : Bool) (n : ℕ) → cond {A = ℕ} b 1 0 + cond b n 0 ≡ cond b (suc n) 0
    one-more true n = omega arith
    one-more false n = refl

-- so many pages more on one node
pub count-hit : (test : ℕ → Bool) (hit a n : ℕ) (counts : List ℕ) (node : ℕ) → hit < length counts
    → ((q : ℕ) → q < n → test (a + q) ≡ eqb hit node)
    → get_or (set counts hit (get_or counts hit 0 + n)) node 0
    ≡ get_or counts node 0 + count_pages test a n
count-hit test hit a n counts node within h =
    let all : count_pages test a n ≡ cond (eqb hit node) n 0 = count-alike test a n _ h in
    elim (eqb_tells hit node) [
      | inl is ↦
          let some : count_pages test a n ≡ n = all ∙ ap (λ (b : Bool). cond b n 0) is.0 in
          ap (λ (k : ℕ). get_or (set counts hit (get_or counts hit 0 + n)) k 0) (sym is.1)
          ∙ get_or-set_same counts hit (get_or counts hit 0 + n) 0 within
          ∙ ap (λ (k : ℕ). get_or counts k 0 + n) is.1
          ∙ ap (λ (k : ℕ). get_or counts node 0 + k) (sym some)
      | inr not ↦
          let none : count_pages test a n ≡ 0 = all ∙ ap (λ (b : Bool). cond b n 0) not.0 in
          get_or-set_other counts hit node (get_or counts hit 0 + n) 0 (λ e. not.1 (sym e))
          ∙ sym (ap (λ (k : ℕ). get_or counts node 0 + k) none ∙ add-zero _)
    ]

-- ---- parts of pages

products : (len times : ℕ) → 512 * len * times ≡ times * len * 512
products len times = omega (arith, mul_assoc 512 len times, mul_comm times len)

-- the page of a part
part-page : (a q : ℕ) → q < 512 → (512 * a + q) / 512 ≡ a
part-page a q lt = omega (arith, lt)

count-first : (test : ℕ → Bool) (a n : ℕ)
    → count_pages test a (suc n) ≡ cond {A = ℕ} (test a) 1 0 + count_pages test (a + 1) n
unfolding count_pages
count-first test a n = refl

-- pages of 2 MiB are counted by their parts
count-parts : (test : ℕ → Bool) (a m : ℕ)
    → count_pages (λ place. test (place / 512)) (512 * a) (512 * m) ≡ 512 * count_pages test a m
count-parts test a zero =
    let none : 0 ≡ 512 * count_pages test a 0 = omega (arith, count-empty test a) in
    count-empty (λ place. test (place / 512)) (512 * a) ∙ none
count-parts test a (suc m) =
    let one : count_pages (λ place. test (place / 512)) (512 * a) 512 ≡ cond (test a) 512 0 =
    count-alike (λ place. test (place / 512)) (512 * a) 512 (test a) (λ q lt.
    ap test (part-page a q lt)) in
    let next : 512 * a + 512 ≡ 512 * (a + 1) = omega arith in
    let rest : count_pages (λ place. test (place / 512)) (512 * a + 512) (512 * m)
    ≡ 512 * count_pages test (a + 1) m =
    ap (λ (k : ℕ). count_pages (λ place. test (place / 512)) k (512 * m)) next
    ∙ count-parts test (a + 1) m in
    let whole : 512 + 512 * m ≡ 512 * suc m = omega arith in
    let split : count_pages (λ place. test (place / 512)) (512 * a) (512 * suc m)
    ≡ count_pages (λ place. test (place / 512)) (512 * a) 512
    + count_pages (λ place. test (place / 512)) (512 * a + 512) (512 * m) =
    count-split (λ place. test (place / 512)) (512 * a) 512 (512 * m) (512 * suc m) whole in
    split ∙ (λ i. one i + rest i) ∙ all (test a) (count_pages test (a + 1) m)
    ∙ ap (λ (k : ℕ). 512 * k) (sym (count-first test a m))
  where
    all : (b : Bool) (n : ℕ) → cond {A = ℕ} b 512 0 + 512 * n ≡ 512 * (cond {A = ℕ} b 1 0 + n)
    all true n = omega arith
    all false n = omega arith

module _ (cycle : List ℕ) (node : ℕ) where
  -- whether the entry of an index's turn is the node
  abbrev pub part_is : ℕ → Bool
  part_is index = turn_is cycle node (turn_at index)

  -- pages of 4 KiB have their indexes as turns
  pub count-small : (index pages : ℕ) → index + pages ≤ 2 ^ 36
      → count_pages part_is index pages ≡ count_pages (turn_is cycle node) index pages
  count-small index pages low =
      shift part_is (turn_is cycle node) index index pages (λ k lt.
      ap (turn_is cycle node) (turn-small (index + k) (omega (arith, low, lt))))

  -- the turns of a shared object's pages go on by one from the first
  pub count-shared : (index pages : ℕ) → 2 ^ 37 ≤ index → shared_turn index + pages ≤ 2 ^ 36
      → count_pages part_is index pages
      ≡ count_pages (turn_is cycle node) (shared_turn index) pages
  count-shared index pages high low =
      shift part_is (turn_is cycle node) index (shared_turn index) pages (λ k lt.
      ap (turn_is cycle node) (shared-later index k high (omega (arith, low, lt))
      ∙ ap (λ (n : ℕ). n + k) (turn-shared index high)))

  -- the same test of the place behind the first of the parts
  abbrev place_is : ℕ → Bool
  place_is place = turn_is cycle node (place / 512)

  place-shift : (index pages : ℕ) → 2 ^ 36 ≤ index → index + pages ≤ 2 ^ 37
      → count_pages part_is index pages ≡ count_pages place_is (index - 2 ^ 36) pages
  place-shift index pages high low =
      shift part_is place_is index (index - 2 ^ 36) pages (λ k lt.
      let place : index + k - 2 ^ 36 ≡ index - 2 ^ 36 + k = omega (arith, high) in
      ap (turn_is cycle node)
      (turn-huge (index + k) (omega (arith, high)) (omega (arith, low, lt))
      ∙ ap (λ (n : ℕ). n / 512) place))

  place-again : (k : ℕ) → place_is (512 * length cycle + k) ≡ place_is k
  place-again k =
      let later : (512 * length cycle + k) / 512 ≡ length cycle + k / 512 = omega arith in
      ap (turn_is cycle node) later ∙ again cycle node (k / 512)

  -- whole rounds by multiplication, and the rest
  pub count-rounds : (index pages times : ℕ) → is_part index ≡ true → index + pages ≤ 2 ^ 37
      → times * length cycle * 512 ≤ pages
      → count_pages part_is index pages ≡ times * 512 * node_count node cycle
      + count_pages part_is (index + times * length cycle * 512)
      (pages - times * length cycle * 512)
  count-rounds index pages times part last within =
      let n : ℕ = 512 * length cycle in
      let high : 2 ^ 36 ≤ index = part-end index part in
      let done : n * times ≡ times * length cycle * 512 = products (length cycle) times in
      let split : count_pages part_is index pages ≡ count_pages part_is index (n * times)
      + count_pages part_is (index + n * times) (pages - n * times) =
      count-split part_is index (n * times) (pages - n * times) pages
      (omega (arith, done, within)) in
      let whole : count_pages place_is (index - 2 ^ 36) (n * times)
      ≡ times * count_pages place_is 0 n =
      rounds place_is n times (index - 2 ^ 36) place-again in
      let one : count_pages place_is 0 n ≡ 512 * node_count node cycle =
      count-parts (turn_is cycle node) 0 (length cycle)
      ∙ ap (λ (k : ℕ). 512 * k) (count-cycle cycle node) in
      let all : times * count_pages place_is 0 n ≡ times * 512 * node_count node cycle =
      ap (λ (k : ℕ). times * k) one ∙ sym (mul_assoc times 512 (node_count node cycle)) in
      split
      ∙ (λ i. (place-shift index (n * times) high (omega (arith, done, within, last)) ∙ whole ∙ all) i
      + count_pages part_is (index + done i) (pages - done i))

  -- whole rounds fit where all pages do
  pub rounds_room : (pages times old top : ℕ) → times * length cycle * 512 ≤ pages
      → old + pages < top
      → old + times * 512 * node_count node cycle + (pages - times * length cycle * 512) < top
  rounds_room pages times old top within room =
      let few : node_count node cycle ≤ length cycle = count_by-le-length (λ (x : ℕ). eqb x node)
      cycle in
      omega (
        arith,
        within,
        room,
        mul-le-mul_left (times * 512) few,
        mul_right_comm times 512 (length cycle),
      )

  -- the pages that are on a node, one page more
  pub parts-more : (index done count : ℕ)
      → count_pages part_is index (done + count) ≡ count_pages part_is index done
      + count_pages part_is (index + done) count
  parts-more index done count = count-split part_is index done count (done + count) refl

-- what goes by indexes goes by turns, as far as pages have 4 KiB
pub cycled-small : (cycle out : List ℕ) (index : ℕ) → index + length out < 2 ^ 36
    → ((k : ℕ) → k < length out → get_or out k 0 ≡ get_or cycle ((index + k) % length cycle) 0)
    → (k : ℕ) → k < length out → get_or out k 0 ≡ get_or cycle (turn_at (index + k) % length cycle)
    0
cycled-small cycle out index low cycled k lt =
    cycled k lt
    ∙ ap (λ (n : ℕ). get_or cycle (n % length cycle) 0)
    (sym (turn-small (index + k) (omega (arith, low, lt))))

pub cycled-shared : (cycle out : List ℕ) (index start : ℕ) → 2 ^ 37 ≤ index
    → start ≡ shared_turn index → shared_turn index + length out ≤ 2 ^ 36
    → ((k : ℕ) → k < length out → get_or out k 0 ≡ get_or cycle ((start + k) % length cycle) 0)
    → (k : ℕ) → k < length out → get_or out k 0 ≡ get_or cycle (turn_at (index + k) % length cycle)
    0
cycled-shared cycle out index start high is low cycled k lt =
    let turn : start + k ≡ turn_at (index + k) =
    ap (λ (n : ℕ). n + k) (is ∙ sym (turn-shared index high))
    ∙ sym (shared-later index k high (omega (arith, low, lt))) in
    cycled k lt ∙ ap (λ (n : ℕ). get_or cycle (n % length cycle) 0) turn
