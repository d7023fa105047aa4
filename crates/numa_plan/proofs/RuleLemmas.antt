-- First nodes of a rule's rows.
use Rattle.std.proofs.Common.{◌≡◌, ◌≢◌, ℕ, zero, suc, ◌+◌, ◌-◌, ◌*◌, ◌%◌, ◌<◌, Bool, true, eqb}
use Rattle.std.proofs.Common.{List, length, get_or, set, take, drop, map, inl, inr, refl, sym, ap}
use Rattle.std.proofs.Common.{subst, ◌∙◌, arith, add-zero}
use Rattle.std.proofs.Math.Nat.{mod-lt}
use Rattle.std.proofs.lemmas.Bool.Decides.{eqb_tells}
use Rattle.std.proofs.lemmas.List.{get_or-map, length-map, get_or-take, get_or-drop}
use Rattle.std.proofs.lemmas.List.{get_or-set_same, get_or-set_other}
use Rattle.numa_machine.specs.Sizes.{turn_at}
use Rattle.numa_ranges.specs.Counts.{count_pages}
use Rattle.numa_ranges.proofs.Counted.{count-none}
use Rattle.numa_plan.specs.Rules.{first_nodes}
use Rattle.numa_plan.specs.Rows.{RuleData, InTurns, HasRow, row_number, first_of}
use Rattle.numa_plan.proofs.CountLemmas.{shift}
use Rattle.numa_plan.proofs.PartLemmas.{part_is}

-- the first node of a row that is there
first-there : (rows : List ℕ) (start width : ℕ) → 0 < width
    → get_or (take (start + width - start) (drop start rows)) 0 0 ≡ get_or rows start 0
first-there rows start width some =
    let size : 0 < start + width - start = omega arith in
    get_or-take (start + width - start) (drop start rows) 0 0 size ∙ get_or-drop start rows 0 0
    ∙ ap (λ (m : ℕ). get_or rows m 0) (add-zero start)

-- the first node of the row whose turn it is
first-turn : (width : ℕ) (rows cycle : List ℕ) (cpu k : ℕ) → 0 < length cycle
    → HasRow (record { key = InTurns cycle; width = width; rows = rows })
    (row_number (record { key = InTurns cycle; width = width; rows = rows }) cpu k)
    → first_of (record { key = InTurns cycle; width = width; rows = rows }) cpu k
    ≡ get_or (map (λ number. get_or rows (number * width) 0) cycle) (turn_at k % length cycle) 0
first-turn width rows cycle cpu k some has =
    first-there rows (get_or cycle (turn_at k % length cycle) 0 * width) width has.some
    ∙ sym (get_or-map (λ number. get_or rows (number * width) 0) cycle (turn_at k % length cycle) 0
    0
    (mod-lt (turn_at k) some))

-- the same by the first nodes that are kept in the order of the cycle
pub first-kept : (rule : RuleData) (width : ℕ) (rows cycle firsts : List ℕ) (cpu k : ℕ)
    → rule ≡ record { key = InTurns cycle; width = width; rows = rows } → 0 < length cycle
    → firsts ≡ first_nodes rows width cycle → HasRow rule (row_number rule cpu k)
    → first_of rule cpu k ≡ get_or firsts (turn_at k % length firsts) 0
first-kept rule width rows cycle firsts cpu k is some kept has =
    let size : length cycle ≡ length firsts =
    sym (ap length kept ∙ length-map cycle (λ number. get_or rows (number * width) 0)) in
    ap (λ (r : RuleData). first_of r cpu k) is
    ∙ first-turn width rows cycle cpu k some
    (subst (λ (r : RuleData). HasRow r (row_number r cpu k)) is has)
    ∙ ap (λ (nodes : List ℕ). get_or nodes (turn_at k % length cycle) 0) (sym kept)
    ∙ ap (λ (n : ℕ). get_or firsts (turn_at k % n) 0) size

-- the pages of a rule in turns, counted over the first nodes of its rows
pub count-in_turns : (rule : RuleData) (width : ℕ) (rows cycle firsts : List ℕ)
    (cpu node index pages : ℕ) → rule ≡ record { key = InTurns cycle; width = width; rows = rows }
    → 0 < length cycle → firsts ≡ first_nodes rows width cycle
    → ((k : ℕ) → HasRow rule (row_number rule cpu k))
    → count_pages (λ k. eqb (first_of rule cpu k) node) index pages
    ≡ count_pages (part_is firsts node) index pages
count-in_turns rule width rows cycle firsts cpu node index pages is some kept has =
    shift (λ k. eqb (first_of rule cpu k) node) (part_is firsts node) index index pages (λ k lt.
    ap (λ (m : ℕ). eqb m node)
    (first-kept rule width rows cycle firsts cpu (index + k) is some kept (has (index + k))))

count-all : (test : ℕ → Bool) (a n : ℕ) → ((k : ℕ) → test k ≡ true) → count_pages test a n ≡ n
unfolding count_pages
count-all test a zero h = refl
count-all test a (suc n) h = rw (h a) (omega (arith, count-all test (a + 1) n h))

-- so many pages more for the only first node
pub count-same : (rule : RuleData) (cpu hit index pages : ℕ) (counts : List ℕ)
    → ((k : ℕ) → first_of rule cpu k ≡ hit) → hit < length counts
    → (node : ℕ) → get_or (set counts hit (get_or counts hit 0 + pages)) node 0 ≡ get_or counts node
    0 + count_pages (λ k. eqb (first_of rule cpu k) node) index pages
count-same rule cpu hit index pages counts same within node =
    elim (eqb_tells hit node) [
      | inl is ↦
          let all : count_pages (λ k. eqb (first_of rule cpu k) node) index pages ≡ pages =
          count-all (λ k. eqb (first_of rule cpu k) node) index pages
          (λ k. ap (λ (m : ℕ). eqb m node) (same k) ∙ is.0) in
          ap (λ (n : ℕ). get_or (set counts hit (get_or counts hit 0 + pages)) n 0) (sym is.1)
          ∙ get_or-set_same counts hit (get_or counts hit 0 + pages) 0 within
          ∙ ap (λ (n : ℕ). get_or counts n 0 + pages) is.1
          ∙ ap (λ (n : ℕ). get_or counts node 0 + n) (sym all)
      | inr not ↦
          let none : count_pages (λ k. eqb (first_of rule cpu k) node) index pages ≡ 0 =
          count-none (λ k. eqb (first_of rule cpu k) node) index pages
          (λ k low high. ap (λ (m : ℕ). eqb m node) (same k) ∙ not.0) in
          let ne : node ≢ hit = λ e. not.1 (sym e) in
          get_or-set_other counts hit node (get_or counts hit 0 + pages) 0 ne
          ∙ sym (ap (λ (n : ℕ). get_or counts node 0 + n) none ∙ add-zero _)
    ]
