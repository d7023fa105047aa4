use Rattle.std.proofs.Common.{◌≡◌, ◌≢◌, ℕ, zero, suc, ◌+◌, ◌-◌, ◌<◌, ◌≤◌, ◌^◌, ◌⊎◌, Bool, true}
use Rattle.std.proofs.Common.{false, Option, Some, None, List, [], ◌∷◌, get_or, refl, sym, ap, ◌∙◌}
use Rattle.std.proofs.Common.{subst, arith, inl, inr}
use Rattle.std.specs.Prelude.{◌==◌, ◌&&◌, is_some, slice_index, if◌then◌else◌}
use Rattle.std.proofs.lemmas.Bool.{cases_Bool, cases_eq, eq-eqb, eqb-true, ne_eqb}
use Rattle.numa_placed.specs.Binds.{bound_spots, first_with_room, is_absent, room_before, room_sent}
use Rattle.numa_placed.specs.Binds.{sent_spot}
use Rattle.numa_placed.specs.Shifts.{endless, less_room}
use Rattle.numa_placed.specs.Spots.{is_on, node_of}
use Rattle.numa_placed.specs.declared.spot.Spot.{Spot}
use Rattle.numa_placed.specs.declared.spot.Spot.TheVariants.{Nowhere, Stated}
use Rattle.numa_ranges.specs.Counts.{count_pages}
use Rattle.numa_ranges.specs.Runs.{in_pages}
use Rattle.numa_ranges.proofs.Apart.{in_pages-true}
use Rattle.numa_reports.specs.Filled.{first_free, free_behind, one_less}
use Rattle.numa_reports.specs.Lying.{absent_nodes, touched}
use Rattle.numa_reports.proofs.Repeating.{hit, less-at}
use Rattle.numa_reports.proofs.Taking.{free-split, free-start, free-step}
use Rattle.numa_reports.proofs.laws.free_pages_are_rooms.Goals as goal

-- a node has as much room as free pages, or endless room and free pages for all that are to come
abbrev Alike : ℕ → ℕ → ℕ → Type 0
Alike page free room =
    (room ≡ free) ⊎ ((room ≡ endless) × (endless ≤ free + page))

abbrev AreAlike : ℕ → List ℕ → (ℕ → ℕ) → Type 0
AreAlike page free room = (node : ℕ) → Alike page (get_or free node 0) (room node)

none-left : (page free room : ℕ) → page ≤ 2 ^ 35 → Alike page free room
    → (free == 0) ≡ (room == 0)
none-left page free room few (inl same) = rw same refl
none-left page free room few (inr more) =
    let some : (free == 0) ≡ false =
    ne_eqb free 0 (λ e. absurd (omega (arith, e, more.1, few))) in
    let here : (room == 0) ≡ false =
    ne_eqb room 0 (λ e. absurd (omega (arith, e, more.0))) in
    some ∙ sym here

-- so a page finds the same node
same-node : (page : ℕ) (free : List ℕ) (room : ℕ → ℕ) → page ≤ 2 ^ 35 → AreAlike page free room
    → (list : List ℕ) → first_free free list ≡ first_with_room room list
same-node page free room few are [] = refl
same-node page free room few are (node ∷ nodes) =
    let is = none-left page (get_or free node 0) (room node) few (are node) in
    let rest = same-node page free room few are nodes in
    rw (is, rest) refl

-- ---- one page more

later : (page free room : ℕ) → Alike page free room → Alike (page + 1) free room
later page free room (inl same) = inl same
later page free room (inr more) = inr (more.0, omega (arith, more.1))

one-gone : (page free room : ℕ) → page < 2 ^ 35 → Alike page free room
    → Alike (page + 1) (free - 1) (less_room room 1)
one-gone page free room few (inl same) = elim (cases_Bool (room == endless)) [
  | inl full ↦
      let all : room ≡ endless = eqb-true room endless full in
      rw full (inr (all, omega (arith, same, all)))
  | inr some ↦ rw some (inl (omega (arith, same)))
]
one-gone page free room few (inr more) =
    let full : (room == endless) ≡ true = eq-eqb room endless more.0 in
    rw full (inr (more.0, omega (arith, more.1, few)))

took-alike : (page : ℕ) (free : List ℕ) (room : ℕ → ℕ) (took : Option ℕ) → page < 2 ^ 35
    → AreAlike page free room
    → AreAlike (page + 1) (one_less free took) (room_sent room took Nowhere)
took-alike page free room None few are node =
    later page (get_or free node 0) (room node) (are node)
took-alike page free room (Some to) few are node = elim (cases_eq node to) [
  | inl same ↦
      let here : (node == to) ≡ true = eq-eqb node to same in
      let found : hit (Some to) node ≡ 1 =
      ap (λ (b : Bool). if b then 1 else 0) (eq-eqb to node (sym same)) in
      let less : get_or (one_less free (Some to)) node 0 ≡ get_or free node 0 - 1 =
      less-at free (Some to) node ∙ ap (λ (k : ℕ). get_or free node 0 - k) found in
      rw (here, less) (one-gone page (get_or free node 0) (room node) few (are node))
  | inr other ↦
      let here : (node == to) ≡ false = ne_eqb node to other in
      let found : hit (Some to) node ≡ 0 =
      ap (λ (b : Bool). if b then 1 else 0) (ne_eqb to node (λ e. other (sym e))) in
      let same : get_or (one_less free (Some to)) node 0 ≡ get_or free node 0 =
      omega (arith, less-at free (Some to) node, found) in
      rw (here, same) (later page (get_or free node 0) (room node) (are node))
]

-- what is free, and the rooms, behind a page that lies here
abbrev free_past : List ℕ → Spot → List ℕ → List ℕ
free_past free spot list =
    one_less free (first_free free (if is_some (node_of spot) then [] else list))

abbrev room_past : ℕ → (ℕ → ℕ) → Spot → List ℕ → ℕ → ℕ
room_past page room spot list = if in_pages 0 (2 ^ 35) page && is_absent [] page spot
    then room_sent room (first_with_room room list) spot else room

step-alike : (page : ℕ) (free : List ℕ) (room : ℕ → ℕ) (spot : Spot) (list : List ℕ)
    → page < 2 ^ 35 → AreAlike page free room
    → AreAlike (page + 1) (free_past free spot list) (room_past page room spot list)
step-alike page free room Nowhere list few are =
    let within = in_pages-true 0 (2 ^ 35) page (omega arith) few in
    let same = same-node page free room (omega (arith, few)) are list in
    rw (within, same)
    (took-alike page free room (first_with_room room list) few are)
step-alike page free room (Stated node) list few are =
    let within = in_pages-true 0 (2 ^ 35) page (omega arith) few in
    rw within (λ other. later page (get_or free other 0) (room other) (are other))

-- ---- all pages

module _ (nodes : ℕ → List ℕ) (spots : ℕ → Spot) (free : List ℕ) where
  gone : ℕ → List ℕ
  gone page = free_behind (absent_nodes spots nodes) free 0 page

  rooms : ℕ → ℕ → ℕ
  rooms page = room_before (touched nodes) spots (slice_index free) page

  gone-next : (page : ℕ) → gone (suc page)
      ≡ free_past (gone page) (spots page) (nodes page)
  unfolding gone
  gone-next page =
      let cut = free-split (absent_nodes spots nodes) free 0 page 1 (suc page) (omega arith) in
      let so_far : List ℕ = free_behind (absent_nodes spots nodes) free 0 page in
      let one = free-step (absent_nodes spots nodes) so_far (0 + page) 0 in
      let none = free-start (absent_nodes spots nodes)
      (one_less so_far (first_free so_far (absent_nodes spots nodes (0 + page))))
      (0 + page + 1) in
      let here : 0 + page ≡ page = omega arith in
      cut ∙ one ∙ none ∙ ap (λ (p : ℕ). one_less so_far (first_free so_far
      (absent_nodes spots nodes p))) here

  rooms-next : (page : ℕ) → rooms (suc page)
      ≡ room_past page (rooms page) (spots page) (nodes page)
  unfolding rooms room_before
  rooms-next page = refl

  alike : (page : ℕ) → page ≤ 2 ^ 35 → AreAlike page (gone page) (rooms page)
  unfolding gone rooms room_before free_behind
  alike zero few = λ node. inl refl
  alike (suc page) few =
      let before = alike page (omega (arith, few)) in
      let step = step-alike page (gone page) (rooms page) (spots page) (nodes page)
      (omega (arith, few)) before in
      let there : page + 1 ≡ suc page = omega arith in
      subst (λ (p : ℕ). AreAlike p (gone (suc page)) (rooms (suc page))) there
      (subst (λ (f : List ℕ). AreAlike (page + 1) f (rooms (suc page))) (sym (gone-next page))
      (subst (λ (r : ℕ → ℕ). AreAlike (page + 1)
      (free_past (gone page) (spots page) (nodes page)) r) (sym (rooms-next page)) step))

pub returns-clause-nodes : goal.returns-clause-nodes
unfolding gone rooms
returns-clause-nodes c nodes spots free page few =
    same-node page (gone nodes spots free page) (rooms nodes spots free page) few
    (alike nodes spots free page few) (nodes page)

-- a page takes no room of a node, or some
less-at-most : (room : ℕ) → less_room room 1 ≤ room
less-at-most room = elim (cases_Bool (room == endless)) [
  | inl full ↦ rw full (omega arith)
  | inr some ↦ rw some (omega arith)
]

sent-at-most : (room : ℕ → ℕ) (took : Option ℕ) (node : ℕ)
    → room_sent room took Nowhere node ≤ room node
sent-at-most room None node = omega arith
sent-at-most room (Some to) node = elim (cases_Bool (node == to)) [
  | inl here ↦ rw here (less-at-most (room node))
  | inr other ↦ rw other (omega arith)
]

past-at-most : (page : ℕ) (room : ℕ → ℕ) (spot : Spot) (list : List ℕ) (node : ℕ)
    → page < 2 ^ 35 → room_past page room spot list node ≤ room node
past-at-most page room Nowhere list node few =
    rw (in_pages-true 0 (2 ^ 35) page (omega arith) few)
    (sent-at-most room (first_with_room room list) node)
past-at-most page room (Stated at) list node few =
    rw (in_pages-true 0 (2 ^ 35) page (omega arith) few) (omega arith)

module _ (nodes : ℕ → List ℕ) (spots : ℕ → Spot) (free : List ℕ) (node : ℕ) where
  at-most : (page : ℕ) → page ≤ 2 ^ 35 → rooms nodes spots free page node ≤ slice_index free node
  unfolding rooms room_before
  at-most zero few = omega arith
  at-most (suc page) few =
      let before = at-most page (omega (arith, few)) in
      let one = past-at-most page (rooms nodes spots free page) (spots page) (nodes page) node
      (omega (arith, few)) in
      omega (arith, before, one)

pub returns-clause-left : goal.returns-clause-left
unfolding gone rooms
returns-clause-left c nodes spots free node some = elim (alike nodes spots free (2 ^ 35)
    (omega arith) node) [
      | inl same ↦ sym same
      | inr more ↦ absurd (omega (arith, some, more.0, at-most nodes spots free node (2 ^ 35) (omega arith)))
    ]

-- ---- how many pages of a span lie on a node

-- a page that goes takes a free page of its node
took-some : (free list : List ℕ) (node : ℕ) → hit (first_free free list) node ≤ get_or free node 0
took-some free [] node = omega arith
took-some free (one ∷ list) node = elim (cases_Bool (get_or free one 0 == 0)) [
  | inl none ↦ rw none (took-some free list node)
  | inr some ↦ rw some (elim (cases_eq one node) [
    | inl same ↦
        let once : hit (Some one) node ≡ 1 =
        ap (λ (b : Bool). if b then 1 else 0) (eq-eqb one node same) in
        let left : get_or free one 0 ≢ 0 =
        λ none. absurd (let odd : true ≡ false = sym (eq-eqb (get_or free one 0) 0 none) ∙ some in
        cc) in
        let same-left : get_or free one 0 ≡ get_or free node 0 =
        ap (λ (n : ℕ). get_or free n 0) same in
        omega (arith, once, left, same-left)
    | inr other ↦
        let never : hit (Some one) node ≡ 0 =
        ap (λ (b : Bool). if b then 1 else 0) (ne_eqb one node other) in
        omega (arith, never)
  ])
]

-- whether a page that was nowhere lies on a node once it went
on-hit : (took : Option ℕ) (node : ℕ)
    → (if is_on node (sent_spot took Nowhere) then 1 else 0) ≡ hit took node
on-hit None node = refl
on-hit (Some to) node = refl

-- where a page lies once it went, by the room that it finds
abbrev spot_past : ℕ → (ℕ → ℕ) → Spot → List ℕ → Spot
spot_past page room spot list = if in_pages 0 (2 ^ 35) page && is_absent [] page spot
    then sent_spot (first_with_room room list) spot else spot

page-counted : (page : ℕ) (free : List ℕ) (room : ℕ → ℕ) (spot : Spot) (list : List ℕ) (node : ℕ)
    → page < 2 ^ 35 → AreAlike page free room
    → (if is_on node (spot_past page room spot list) then 1 else 0)
    + get_or (free_past free spot list) node 0
    ≡ (if is_on node spot then 1 else 0) + get_or free node 0
page-counted page free room Nowhere list node few are =
    let within = in_pages-true 0 (2 ^ 35) page (omega arith) few in
    let same = same-node page free room (omega (arith, few)) are list in
    let on = on-hit (first_free free list) node in
    let less = less-at free (first_free free list) node in
    let some = took-some free list node in
    rw (within, sym same) (omega (arith, on, less, some))
page-counted page free room (Stated at) list node few are =
    rw (in_pages-true 0 (2 ^ 35) page (omega arith) few) refl

-- no page makes a node have more free ones
past-few : (free : List ℕ) (spot : Spot) (list : List ℕ) (node : ℕ)
    → get_or (free_past free spot list) node 0 ≤ get_or free node 0
past-few free spot list node =
    omega (arith, less-at free (first_free free (if is_some (node_of spot) then [] else list)) node)

module _ (nodes : ℕ → List ℕ) (spots : ℕ → Spot) (free : List ℕ) (node : ℕ) where
  left : ℕ → ℕ
  left page = get_or (gone nodes spots free page) node 0

  lands : ℕ → Bool
  lands page = is_on node (bound_spots (touched nodes) spots (slice_index free) page)

  lay : ℕ → Bool
  lay page = is_on node (spots page)

  counted-page : (page : ℕ) → page < 2 ^ 35
      → (if lands page then 1 else 0) + left (suc page) ≡ (if lay page then 1 else 0) + left page
  unfolding lands lay left rooms
  counted-page page few =
      subst (λ (f : List ℕ). (if lands page then 1 else 0) + get_or f node 0
      ≡ (if lay page then 1 else 0) + left page) (sym (gone-next nodes spots free page))
      (page-counted page (gone nodes spots free page) (rooms nodes spots free page) (spots page)
      (nodes page) node few (alike nodes spots free page (omega (arith, few))))

  few-left : (page : ℕ) → left (suc page) ≤ left page
  unfolding left
  few-left page = subst (λ (f : List ℕ). get_or f node 0 ≤ left page)
      (sym (gone-next nodes spots free page))
      (past-few (gone nodes spots free page) (spots page) (nodes page) node)

  fewer-left : (first pages : ℕ) → left (first + pages) ≤ left first
  fewer-left first zero =
      let none : first + zero ≡ first = omega arith in
      omega (arith, ap left none)
  fewer-left first (suc pages) =
      let next : first + suc pages ≡ suc (first + pages) = omega arith in
      omega (arith, ap left next, few-left (first + pages), fewer-left first pages)

  counted : (first pages : ℕ) → first + pages ≤ 2 ^ 35
      → count_pages lands first pages + left (first + pages)
      ≡ count_pages lay first pages + left first
  unfolding count_pages
  counted first zero few =
      let none : first + zero ≡ first = omega arith in
      omega (arith, ap left none)
  counted first (suc pages) few =
      let next : first + suc pages ≡ first + 1 + pages = omega arith in
      let rest = counted (first + 1) pages (omega (arith, few)) in
      let here = counted-page first (omega (arith, few)) in
      let one : suc first ≡ first + 1 = omega arith in
      omega (arith, rest, here, ap left next, ap left one)

pub returns-clause-counts : goal.returns-clause-counts
unfolding gone lands lay left
returns-clause-counts c nodes spots free node first pages few =
    omega (
      arith,
      counted nodes spots free node first pages few,
      fewer-left nodes spots free node first pages,
    )
