-- The pages of a stretch whose lists repeat: each has the list of a page of the first period.
use Rattle.std.proofs.Common.{◌≡◌, ℕ, zero, suc, ◌+◌, ◌-◌, ◌*◌, ◌<◌, ◌≤◌, ◌%◌, Option, Some, List}
use Rattle.std.proofs.Common.{[], ◌∷◌, ◌++◌, length, slice_index, true, subst, sym, ap, ◌∙◌, arith}
use Rattle.std.proofs.Common.{inl, inr}
use Rattle.std.specs.Prelude.{◌/◌, is_some}
use Rattle.std.specs.Option.{option_map_or}
use Rattle.std.specs.Prelude.{option_and_then}
use Rattle.std.proofs.Math.Nat.{add-mod-mod, mod-add-div', mod-add-mod, mod-eq_of_lt, mod-lt}
use Rattle.std.proofs.Math.ListN.{get_or-append}
use Rattle.std.proofs.Math.Seq.{get_or-append_seam}
use Rattle.std.proofs.lemmas.Bool.{cases_lt}
use Rattle.std.proofs.lemmas.List.{length-append}
use Rattle.std.proofs.lemmas.Nat.{mod-mul-add}
use Rattle.numa_mode.specs.Policy.{PolicyRecord}
use Rattle.numa_ranges.specs.Runs.{end_of, page_at}
use Rattle.numa_ranges.specs.declared.run.Run.{Run}
use Rattle.numa_space.specs.Lists.{list_for}
use Rattle.numa_space.specs.Policies.{policy_that_counts}
use Rattle.numa_space.specs.Standing.{SpaceState, place_refusal_in, policy_in, record_of}
use Rattle.numa_space.specs.Standing.{setting_in}
use Rattle.numa_placed.specs.Binds.{list_unless, nodes_in}
use Rattle.numa_placed.specs.Periods.{IsPeriod, Repeats, page_with}

-- ---- lists

-- the list of a page of which a space says this
nodes_by : SpaceState → ℕ → ℕ → Option (ℕ × Option PolicyRecord) → List ℕ
nodes_by space task cpu at = list_unless (place_refusal_in space.machine.nodes (is_some at) cpu)
    (list_for (setting_in space)
    (policy_that_counts (option_and_then (λ p. p.1) at) (record_of space.tasks task)) cpu
    (option_map_or (λ p. p.0) at 0))

-- the lists of pages of one range repeat after the period of the policy that counts there
pub nodes-repeat : (space : SpaceState) (task cpu first pages index period : ℕ)
    (value : Option PolicyRecord)
    → ((page : ℕ) → first ≤ page → page < first + pages
    → page_at space.ranges page ≡ Some (index + (page - first), value))
    → IsPeriod (setting_in space) (policy_that_counts value (record_of space.tasks task)) index
    pages
    period
    → Repeats (nodes_in space task cpu) first pages period
unfolding nodes_by
nodes-repeat space task cpu first pages index period value held periodic page low high =
    let counts = policy_that_counts value (record_of space.tasks task) in
    let later : index + (page + period - first) ≡ index + (page - first) + period =
    omega (arith, low) in
    ap (nodes_by space task cpu) (held (page + period) (omega (arith, low)) high)
    ∙ ap (λ (n : ℕ). nodes_by space task cpu (Some (n, value))) later
    ∙ ap (λ (l : List ℕ). list_unless (place_refusal_in space.machine.nodes true cpu) l)
    (periodic cpu (page - first) (omega (arith, low, high)))
    ∙ sym (ap (nodes_by space task cpu) (held page low (omega (arith, high))))

-- so do those of some pages of a range
pub part-repeats : (space : SpaceState) (task cpu page n period : ℕ)
    (range : Run (Option PolicyRecord)) (policy : Option PolicyRecord) → range.first ≤ page
    → ((p : ℕ) → range.first ≤ p → p < end_of range
    → page_at space.ranges p ≡ Some (range.index + (p - range.first), range.value))
    → page + n ≤ end_of range → page < end_of range → policy ≡ policy_in space task page
    → IsPeriod (setting_in space) policy (range.index + (page - range.first)) n period
    → Repeats (nodes_in space task cpu) page n period
part-repeats space task cpu page n period range policy low held within inside is periodic =
    let counts : policy ≡ policy_that_counts range.value (record_of space.tasks task) = is
    ∙ ap (λ (o : Option (ℕ × Option PolicyRecord)). policy_that_counts
    (option_and_then (λ p. p.1) o) (record_of space.tasks task)) (held page low inside) in
    nodes-repeat space task cpu page n (range.index + (page - range.first)) period range.value
    (λ p from to. held p (omega (arith, low, from)) (omega (arith, within, to))
    ∙ ap (λ (k : ℕ). Some (k, range.value)) (shifted p from))
    (subst (λ (r : Option PolicyRecord). IsPeriod (setting_in space) r
    (range.index + (page - range.first)) n period) counts periodic)
  where
    shifted : (p : ℕ) → page ≤ p → range.index + (p - range.first)
        ≡ range.index + (page - range.first) + (p - page)
    shifted p from = omega (arith, low, from)

-- the page so many periods on has the same list
pub periods-on : (nodes : ℕ → List ℕ) (first pages period page j : ℕ)
    → Repeats nodes first pages period → first ≤ page → page + j * period < first + pages
    → nodes (page + j * period) ≡ nodes page
periods-on nodes first pages period page zero repeats low high =
    let none : page + 0 * period ≡ page = omega arith in
    ap nodes none
periods-on nodes first pages period page (suc j) repeats low high =
    let more : suc j * period ≡ j * period + period = suc-times j period in
    let place : page + suc j * period ≡ page + j * period + period = omega (arith, more) in
    ap nodes place ∙ repeats (page + j * period) (omega (arith, low)) (omega (arith, more, high))
    ∙ periods-on nodes first pages period page j repeats low (omega (arith, more, high))
  where
    suc-times : (a b : ℕ) → suc a * b ≡ a * b + b
    suc-times a b = omega arith

-- ---- the pages of a cycle

-- the page of the first period that has the place of another
pub same-place : (count page other : ℕ) → 0 < count → page ≤ other
    → page_with count page (other % count) ≡ page + (other - page) % count
same-place count page other some low =
    let d = other - page in
    let r = page % count in
    let e = d % count in
    let small : r < count = mod-lt page some in
    let small' : e < count = mod-lt d some in
    let whole : page + d ≡ other = omega (arith, low) in
    let place : other % count ≡ (r + e) % count =
    ap (λ (n : ℕ). n % count) (sym whole) ∙ sym (mod-add-mod page count d)
    ∙ sym (add-mod-mod r d count) in
    elim (cases_lt (r + e) count) [
      | inl l ↦
          let at : other % count ≡ r + e = place ∙ mod-eq_of_lt l in
          let turn : other % count + count - r ≡ 1 * count + e = omega (arith, at, small) in
          ap (λ (n : ℕ). page + n)
          (ap (λ (n : ℕ). n % count) turn ∙ mod-mul-add 1 count e small')
      | inr g ↦
          let over : r + e ≡ 1 * count + (r + e - count) = omega (arith, g) in
          let at : other % count ≡ r + e - count = place
          ∙ ap (λ (n : ℕ). n % count) over
          ∙ mod-mul-add 1 count (r + e - count) (omega (arith, small, small')) in
          let turn : other % count + count - r ≡ e = omega (arith, at, g, small) in
          ap (λ (n : ℕ). page + n) (ap (λ (n : ℕ). n % count) turn ∙ mod-eq_of_lt small')
    ]

-- each page has the list of the page of the first period that has its place
pub same-list : (nodes : ℕ → List ℕ) (first pages count page : ℕ) → 0 < count
    → Repeats nodes first pages count → first ≤ page → page < first + pages
    → nodes page ≡ nodes (page_with count first (page % count))
same-list nodes first pages count page some repeats low high =
    let d = page - first in
    let parts : d % count + d / count * count ≡ d = mod-add-div' d count in
    let at : first + d % count + d / count * count ≡ page = omega (arith, parts, low) in
    ap nodes (sym at)
    ∙ periods-on nodes first pages count (first + d % count) (d / count) repeats (omega arith)
    (omega (arith, at, high))
    ∙ ap nodes (sym (same-place count first page some low))

-- ---- a node more

module _ (items new : List ℕ) (node : ℕ) (is : new ≡ items ++ (node ∷ [])) where
  pub pushed-before : (place : ℕ) → place < length items
      → slice_index new place ≡ slice_index items place
  pushed-before place lt = ap (λ (l : List ℕ). slice_index l place) is
      ∙ get_or-append items (node ∷ []) 0 place lt

  pub pushed-at : slice_index new (length items) ≡ node
  pushed-at = ap (λ (l : List ℕ). slice_index l (length items)) is
      ∙ get_or-append_seam items node [] 0

  pub pushed-size : length new ≡ length items + 1
  pushed-size = ap (λ (l : List ℕ). length l) is ∙ length-append items (node ∷ [])
