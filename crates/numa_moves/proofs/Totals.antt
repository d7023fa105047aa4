-- Sums of pages, entry by entry.
use Rattle.std.proofs.Common.{◌≡◌, ◌<◌, ◌≤◌, ◌+◌, ◌*◌, ℕ, List, ap, sym, subst, ◌∙◌, arith}
use Rattle.std.proofs.Common.{get_or, inl, inr, length, replicate, set, slice_index}
use Rattle.std.proofs.lemmas.Bool.{cases_eq, eq-eqb, ne_eqb}
use Rattle.std.proofs.lemmas.List.{get_or-set_other, get_or-set_same, length-replicate}
use Rattle.std.proofs.lemmas.Simd.{get_or-replicate}
use Rattle.std.specs.Prelude.{◌==◌, if◌then◌else◌}
use Rattle.numa_host_pages.specs.Summed.{both_pages}
use Rattle.numa_moves.specs.Sums.{added_at}

-- a table without pages
pub all-none : (items : List ℕ) (entries : ℕ) → items ≡ replicate entries 0
    → (length items ≡ entries) × ((place : ℕ) → place < entries → slice_index items place ≡ 0)
all-none items entries is = (
  ap (λ (l : List ℕ). length l) is ∙ length-replicate entries 0,
  λ place inside. ap (λ (l : List ℕ). slice_index l place) is
      ∙ get_or-replicate {A = ℕ} entries place 0 0 inside,
)

-- an entry of a table of 256 by 256 was raised
pub entry-raised : (items : List ℕ) (from to pages node other : ℕ) → from < 256 → to < 256
    → node < 256 → other < 256 → length items ≡ 65536
    → slice_index (set items (from * 256 + to) (both_pages (slice_index items (from * 256 + to))
    pages)) (node * 256 + other)
    ≡ (if from == node then added_at to pages (λ (o : ℕ). slice_index items (node * 256 + o)) other
    else slice_index items (node * 256 + other))
entry-raised items from to pages node other f t n o long =
    let sum : ℕ = both_pages (slice_index items (from * 256 + to)) pages in
    elim (cases_eq from node) [
      | inl row ↦ rw (eq-eqb from node row) (elim (cases_eq to other) [
        | inl column ↦ rw (eq-eqb to other column) (
            let same : node * 256 + other ≡ from * 256 + to = omega (arith, row, column) in
            ap (λ (k : ℕ). get_or (set items (from * 256 + to) sum) k 0) same
            ∙ get_or-set_same items (from * 256 + to) sum 0 (omega (arith, f, t, long))
            ∙ ap (λ (k : ℕ). both_pages (slice_index items k) pages) (sym same))
        | inr apart ↦ rw (ne_eqb to other apart)
            (get_or-set_other items (from * 256 + to) (node * 256 + other) sum 0
            (λ same. apart (omega (arith, same, row))))
      ])
      | inr apart ↦ rw (ne_eqb from node apart)
          (get_or-set_other items (from * 256 + to) (node * 256 + other) sum 0
          (λ same. apart (omega (arith, same, t, o))))
    ]

-- ---- counts by node to which those of a process are added, a node further

-- they are added of each node so far
pub counts-next : (nexts firsts befores olds counts : List ℕ) (place node : ℕ)
    → slice_index nexts node ≡ added_at place (slice_index counts place) (slice_index firsts) node
    → firsts ≡ befores
    → (place ≤ node → slice_index befores node ≡ slice_index olds node)
    → (node < place → slice_index befores node
    ≡ both_pages (slice_index olds node) (slice_index counts node))
    → node < place + 1
    → slice_index nexts node ≡ both_pages (slice_index olds node) (slice_index counts node)
counts-next nexts firsts befores olds counts place node step same ahead done low =
    let step-2 : slice_index nexts node
    ≡ added_at place (slice_index counts place) (slice_index befores) node =
    subst (λ (l : List ℕ). slice_index nexts node
    ≡ added_at place (slice_index counts place) (slice_index l) node) same step in
    elim (cases_eq place node) [
      | inl is ↦
          let here : slice_index nexts node
          ≡ both_pages (slice_index befores node) (slice_index counts place) =
          rw (eq-eqb place node is) at step-2 in
          here
          ∙ ap (λ (k : ℕ). both_pages k (slice_index counts place)) (ahead (omega (arith, is)))
          ∙ ap (λ (k : ℕ). both_pages (slice_index olds node) (slice_index counts k)) is
      | inr apart ↦
          let here : slice_index nexts node ≡ slice_index befores node =
          rw (ne_eqb place node apart) at step-2 in
          here ∙ done (omega (arith, low, apart))
    ]

-- the nodes ahead are as they were
pub counts-ahead : (nexts firsts befores : List ℕ) (pages place node : ℕ)
    → slice_index nexts node ≡ added_at place pages (slice_index firsts) node
    → firsts ≡ befores → place + 1 ≤ node
    → slice_index nexts node ≡ slice_index befores node
counts-ahead nexts firsts befores pages place node step same far =
    let here : slice_index nexts node ≡ slice_index firsts node =
    rw (ne_eqb place node (λ is. omega (arith, is, far))) at step in
    here ∙ ap (λ (l : List ℕ). slice_index l node) same

-- ---- all processes: the pages from each node to each, a node further

-- they are added of each node so far
pub flow-next : (now before olds : ℕ → ℕ → ℕ) (tos gones : List ℕ) (place from to : ℕ)
    → now from to ≡ (if place == from then added_at (slice_index tos place)
    (slice_index gones place) (before from) to else before from to)
    → (place ≤ from → before from to ≡ olds from to)
    → (from < place → before from to
    ≡ added_at (slice_index tos from) (slice_index gones from) (olds from) to)
    → from < place + 1
    → now from to ≡ added_at (slice_index tos from) (slice_index gones from) (olds from) to
flow-next now before olds tos gones place from to step ahead done low =
    elim (cases_eq place from) [
      | inl same ↦
          let here : now from to ≡ added_at (slice_index tos place) (slice_index gones place)
          (before from) to = rw (eq-eqb place from same) at step in
          here
          ∙ ap (λ (pages : ℕ). if slice_index tos place == to
          then both_pages pages (slice_index gones place) else pages)
          (ahead (omega (arith, same)))
          ∙ ap (λ (k : ℕ). added_at (slice_index tos k) (slice_index gones k) (olds from) to) same
      | inr apart ↦
          let here : now from to ≡ before from to = rw (ne_eqb place from apart) at step in
          here ∙ done (omega (arith, low, apart))
    ]

-- the nodes ahead are as they were
pub flow-ahead : (now before : ℕ → ℕ → ℕ) (pages : ℕ) (place from to : ℕ)
    → now from to ≡ (if place == from then pages else before from to) → place + 1 ≤ from
    → now from to ≡ before from to
flow-ahead now before pages place from to step far =
    rw (ne_eqb place from (λ same. omega (arith, same, far))) at step
