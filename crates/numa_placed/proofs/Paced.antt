-- Rooms of nodes beside the pages that come to them.
use Rattle.std.proofs.Common.{◌≡◌, ℕ, zero, suc, ◌+◌, ◌<◌, ◌≤◌, ◌==◌, Bool, true, false}
use Rattle.std.proofs.Common.{Option, Some, None, List, [], ◌∷◌, refl, sym, ap, ◌∙◌, subst, arith}
use Rattle.std.proofs.Common.{inl, inr, slice_get, nat_lt}
use Rattle.std.specs.Prelude.{IfSome, if◌then◌else◌}
use Rattle.std.proofs.lemmas.Bool.{cases_Bool, cases_eq, eq-eqb, eqb-true, ltb-false, ne_eqb}
use Rattle.numa_ranges.specs.Counts.{count_pages}
use Rattle.numa_placed.specs.Binds.{Asked, bound_spots, first_with_room, goals, room_before}
use Rattle.numa_placed.specs.Binds.{room_sent, sent_spot, strays}
use Rattle.numa_placed.specs.Shifts.{endless, is_stated, less_room, more_room, room_between}
use Rattle.numa_placed.specs.Spots.{pages_if}
use Rattle.numa_placed.specs.declared.spot.Spot.{Spot}
use Rattle.numa_placed.specs.declared.spot.Spot.TheVariants.{Nowhere, Stated}
use Rattle.numa_placed.proofs.Binding.{before-next, before-none}
use Rattle.numa_placed.proofs.Shared.{count-le, count-more}

-- ---- rooms that don't fill

after-endless : (room : ℕ → ℕ) → ((n : ℕ) → room n ≡ endless) → (goal : Option ℕ) (spot : Spot)
    (node : ℕ) → room_sent room goal spot node ≡ endless
after-endless room are None spot node = are node
after-endless room are (Some to) Nowhere node = elim (cases_Bool (node == to)) [
  | inl t ↦ rw (t, are node) refl
  | inr e ↦ rw e (are node)
]
after-endless room are (Some to) (Stated from) node = elim (cases_Bool (from == to)) [
  | inl t ↦ rw t (are node)
  | inr e ↦ rw e (elim (cases_Bool (node == to)) [
    | inl t ↦ rw (t, are node) refl
    | inr f ↦ rw f (elim (cases_Bool (node == from)) [
      | inl t ↦ rw (t, are node) refl
      | inr g ↦ rw g (are node)
    ])
  ])
]

all-endless : (asked : Asked) (spots : ℕ → Spot) (page node : ℕ)
    → room_before asked spots (λ n. endless) page node ≡ endless
unfolding room_before
all-endless asked spots zero node = refl
all-endless asked spots (suc page) node =
    let before = all-endless asked spots page in
    elim (cases_Bool (strays asked page (spots page))) [
      | inl t ↦ rw t (after-endless (room_before asked spots (λ n. endless) page) before
          (goals asked spots (λ n. endless) page) (spots page) node)
      | inr e ↦ rw e (before node)
    ]

first-endless : (room : ℕ → ℕ) → ((n : ℕ) → room n ≡ endless) → (nodes : List ℕ)
    → first_with_room room nodes ≡ slice_get nodes 0
first-endless room are [] = refl
first-endless room are (node ∷ nodes) = rw (are node) refl

-- where no node fills, each page goes to the first node of its list
pub goals-endless : (asked : Asked) (spots : ℕ → Spot) (page : ℕ)
    → goals asked spots (λ node. endless) page ≡ slice_get (asked.nodes page) 0
goals-endless asked spots page =
    first-endless (room_before asked spots (λ n. endless) page) (all-endless asked spots page)
    (asked.nodes page)

-- ---- between two moments

-- what pages take of a room that they find, and give back
pub room-kept : (room before after : ℕ) → room + before < endless
    → nat_lt (room + before) after ≡ false → room_between room before after + after ≡ room + before
room-kept room before after few fits =
    let le : after ≤ room + before = ltb-false (room + before) after fits in
    let some : (room == endless) ≡ false = ne_eqb room endless (λ e. omega arith) in
    rw some (omega arith)

-- ---- one page

positive : (n : ℕ) → (n == 0) ≡ false → 0 < n
positive zero none = absurd (cc)
positive (suc n) some = omega arith

first-room : (room : ℕ → ℕ) (nodes : List ℕ)
    → IfSome (first_with_room room nodes) (λ node. 0 < room node)
first-room room [] = tt
first-room room (node ∷ nodes) = elim (cases_Bool (room node == 0)) [
  | inl t ↦ rw t (first-room room nodes)
  | inr e ↦ rw e (positive (room node) e)
]

less-one : (room : ℕ) → room < endless → 0 < room → less_room room 1 + 1 ≡ room
less-one room few some =
    let finite : (room == endless) ≡ false = ne_eqb room endless (λ e. omega arith) in
    rw finite (omega arith)

more-one : (room : ℕ) → room < endless → more_room room 1 ≡ room + 1
more-one room few = omega arith

one-if : (test : Bool) → test ≡ true → pages_if test 1 ≡ 1
one-if test t = rw t refl

none-if : (test : Bool) → test ≡ false → pages_if test 1 ≡ 0
none-if test e = rw e refl

module _ (room : ℕ → ℕ) (node : ℕ) (few : room node < endless) where
  -- a page that takes a node's room lies there then
  came : (to : ℕ) → 0 < room to → (if node == to then less_room (room node) 1 else room node)
      + pages_if (to == node) 1 ≡ room node
  came to some = elim (cases_eq node to) [
    | inl is ↦
        let here : 0 < room node = subst (λ (n : ℕ). 0 < room n) (sym is) some in
        rw (eq-eqb node to is, eq-eqb to node (sym is)) (less-one (room node) few here)
    | inr other ↦ rw (
      ne_eqb node to other,
      ne_eqb to node (λ e. other (sym e)),
    ) (omega arith)
  ]

  went : (from to : ℕ) → (from == to) ≡ false → 0 < room to
      → (if node == to then less_room (room node) 1
      else if node == from then more_room (room node) 1 else room node)
      + pages_if (to == node) 1 ≡ room node + pages_if (from == node) 1
  went from to apart some = elim (cases_eq node to) [
    | inl is ↦
        let here : 0 < room node = subst (λ (n : ℕ). 0 < room n) (sym is) some in
        let off : (from == node) ≡ false = subst (λ (n : ℕ). (from == n) ≡ false) (sym is) apart in
        let one = less-one (room node) few here in
        rw (eq-eqb node to is, eq-eqb to node (sym is), off) (omega (arith, one))
    | inr other ↦
        let gone : (to == node) ≡ false = ne_eqb to node (λ e. other (sym e)) in
        rw (ne_eqb node to other, gone) (elim (cases_eq node from) [
          | inl is ↦ rw (eq-eqb node from is, eq-eqb from node (sym is))
              (omega (arith, more-one (room node) few))
          | inr off ↦ rw (ne_eqb node from off, ne_eqb from node (λ e. off (sym e))) refl
        ])
  ]

  sent-paced : (goal : Option ℕ) → IfSome goal (λ to. 0 < room to) → (spot : Spot)
      → room_sent room goal spot node + pages_if (is_stated node (sent_spot goal spot)) 1
      ≡ room node + pages_if (is_stated node spot) 1
  sent-paced None some spot = refl
  sent-paced (Some to) some Nowhere = came to some ∙ omega arith
  sent-paced (Some to) some (Stated from) = elim (cases_Bool (from == to)) [
    | inl t ↦ rw t (ap (λ (n : ℕ). room node + pages_if (n == node) 1)
        (sym (eqb-true from to t)))
    | inr e ↦ rw e (went from to e some)
  ]

  page-paced : (sent : Bool) (goal : Option ℕ) → IfSome goal (λ to. 0 < room to) → (spot : Spot)
      → (if sent then room_sent room goal spot else room) node
      + pages_if (is_stated node (if sent then sent_spot goal spot else spot)) 1
      ≡ room node + pages_if (is_stated node spot) 1
  page-paced true goal some spot = sent-paced goal some spot
  page-paced false goal some spot = refl

-- ---- page by page

module _ (asked : Asked) (spots : ℕ → Spot) (room : ℕ → ℕ) (node : ℕ) where
  abbrev pub was : ℕ → Bool
  was page = is_stated node (spots page)

  abbrev pub is : ℕ → Bool
  is page = is_stated node (bound_spots asked spots room page)

  abbrev pub Paced : ℕ → Type 0
  Paced n = room_before asked spots room n node + count_pages is 0 n
      ≡ room node + count_pages was 0 n

  paced-next : (n : ℕ) → room node + n < endless → Paced n → Paced (n + 1)
  paced-next n few paced =
      let rooms = room_before asked spots room n in
      let goal = first_with_room rooms (asked.nodes n) in
      let spot = spots n in
      let less : rooms node < endless = omega (arith, paced, count-le was 0 n) in
      let here : room_before asked spots room (n + 1) node
      ≡ (if strays asked n spot then room_sent rooms goal spot else rooms) node =
      ap (λ (r : ℕ → ℕ). r node) (before-next asked spots room n) in
      let one : (if strays asked n spot then room_sent rooms goal spot else rooms) node
      + pages_if (is n) 1 ≡ rooms node + pages_if (was n) 1 =
      page-paced rooms node less (strays asked n spot) goal (first-room rooms (asked.nodes n))
      spot in
      let more = count-more is 0 n n (omega arith) in
      let more' = count-more was 0 n n (omega arith) in
      omega (arith, paced, here, one, more, more')

  -- the room and the pages of a node stay as many together
  pub paced-to : (n : ℕ) → room node + n < endless → Paced n
  unfolding count_pages
  paced-to zero few = ap (λ (r : ℕ → ℕ). r node + 0) (before-none asked spots room)
  paced-to (suc n) few =
      let next : n + 1 ≡ suc n = omega arith in
      subst Paced next (paced-next n (omega arith) (paced-to n (omega arith)))
