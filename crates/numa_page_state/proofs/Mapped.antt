-- Where pages lie after first touches; and pages without a frame lie only where they are mapped.
use Rattle.std.proofs.Common.{◌≡◌, ℕ, Bool, true, false, Option, Some, None, refl, ap}
use Rattle.std.proofs.Common.{◌∙◌, inl, inr, is_some, arith}
use Rattle.std.specs.Prelude.{if◌then◌else◌, ◌&&◌, not, nat_le, nat_lt, Ok}
use Rattle.std.proofs.lemmas.Bool.{cases_Bool, both_ways}
use Rattle.numa_mask.specs.NodeSet.{has}
use Rattle.numa_maps.specs.Residents.{Kept, placed_at}
use Rattle.numa_ranges.specs.Maps.{any_page}
use Rattle.numa_ranges.specs.Runs.{in_pages}
use Rattle.numa_ranges.proofs.Laws.{inside}
use Rattle.numa_ranges.proofs.Pages.{any_page-true}
use Rattle.numa_space.specs.History.{page_of, page_count}
use Rattle.numa_placed.specs.Astray.{is_astray}
use Rattle.numa_placed.specs.Binds.{Asked, bound_by, first_with_room, is_absent, room_before}
use Rattle.numa_placed.specs.Binds.{sent_spot, strays}
use Rattle.numa_placed.specs.Moves.{moved_node, moved_spot}
use Rattle.numa_placed.specs.Refusals.{first_of, lacks_node, move_cause, populate_cause, span_cause}
use Rattle.numa_placed.specs.Refusals.{spot_cause}
use Rattle.numa_placed.specs.Shifts.{first_of as first_move, shift_of, shifted_spot, stated_below}
use Rattle.numa_placed.specs.Spots.{forgotten_spot, is_placed, stated_beside, stated_spot}
use Rattle.numa_placed.specs.Spots.{stated_spots}
use Rattle.numa_requests.specs.declared.page_refusal.MoveRefusal.{MoveRefusal}
use Rattle.numa_requests.specs.declared.page_refusal.MoveRefusal.TheVariants as move
use Rattle.numa_requests.specs.declared.page_refusal.PlacedRefusal.{PlacedRefusal}
use Rattle.numa_requests.specs.declared.page_refusal.PlacedRefusal.TheVariants as cause
use Rattle.numa_requests.specs.declared.placement.Placement.{Placement}
use Rattle.numa_placed.specs.declared.spot.Spot.{Spot}
use Rattle.numa_placed.specs.declared.spot.Spot.TheVariants.{Nowhere, Stated}
use Rattle.numa_page_state.specs.Lying.{AreMapped, Ground, IsMapped, Lying, Process, motion}
use Rattle.numa_page_state.specs.Lying.{with_held, with_motion, with_spots}
use Rattle.numa_page_state.specs.Outcomes.{Done, Lack, at_cause, at_outcome, at_spots, done_with}
use Rattle.numa_page_state.specs.Outcomes.{follow_unless, followed_where, forgotten}
use Rattle.numa_page_state.specs.Outcomes.{held_cause, held_move_unless, lack_in, move_cause_by}
use Rattle.numa_page_state.specs.Outcomes.{move_outcome, move_unless, move_where, moved_outcome}
use Rattle.numa_page_state.specs.Outcomes.{rooms_of, shift_of as shift_told, unless_refused}
use Rattle.numa_page_state.specs.Sending.{asked_of, goals_in, sent_spots}
use Rattle.numa_page_state.specs.Touching.{populate_outcome, touch_cause, touched_by, with_touched}
use Rattle.numa_page_state.specs.declared.sending.Rebinding.{Rebinding}
use Rattle.numa_page_state.specs.declared.sending.Toucher.{Toucher}

-- ---- tests

second : (a b : Bool) → (a && b) ≡ true → b ≡ true
second true b t = t
second false b t = absurd (both_ways false refl t)

first-of-two : (a b : Bool) → (a && b) ≡ true → a ≡ true
first-of-two true b t = refl
first-of-two false b t = absurd (both_ways false refl t)

and-none : (a b : Bool) → b ≡ false → (a && b) ≡ false
and-none true b e = e
and-none false b e = refl

-- ---- first touches

-- what is so of a page where it is done is so where it is refused, if it is so before
outcome-spot : {A : Type 0} (first : Option PlacedRefusal) (at : Lying)
    (done : Done A PlacedRefusal) (page : ℕ) → done.1.spots page ≡ at.spots page
    → (unless_refused first at done).1.spots page ≡ at.spots page
outcome-spot None at done page same = same
outcome-spot (Some why) at done page same = refl

stays-out : (asked : Asked) (goal : Option ℕ) (page : ℕ) (spot : Spot)
    → asked.wants page spot ≡ false
    → (if strays asked page spot then sent_spot goal spot else spot) ≡ spot
stays-out asked goal page spot none =
    ap (λ (b : Bool). if b then sent_spot goal spot else spot)
    (and-none (in_pages asked.first asked.pages page) (asked.wants page spot) none)

stays-full : (asked : Asked) (goal : Option ℕ) (page : ℕ) (spot : Spot) → goal ≡ None
    → (if strays asked page spot then sent_spot goal spot else spot) ≡ spot
stays-full asked goal page spot none =
    ap (λ (g : Option ℕ). if strays asked page spot then sent_spot g spot else spot) none
    ∙ same (strays asked page spot) spot where
      same : (b : Bool) (spot : Spot) → (if b then spot else spot) ≡ spot
      same true spot = refl
      same false spot = refl

there : (kept : Kept) (page : ℕ) (spot : Spot) → is_placed spot ≡ true
    → is_absent kept page spot ≡ false
there kept page Nowhere t = absurd (both_ways false refl t)
there kept page (Stated node) t = refl

in-frame : (kept : Kept) (page : ℕ) (spot : Spot) → is_some (placed_at kept page) ≡ true
    → is_absent kept page spot ≡ false
in-frame kept page Nowhere t = ap not t
in-frame kept page (Stated node) t = refl

goes-there : (kept : Kept) (first pages page node : ℕ) (goal : Option ℕ) (spot : Spot)
    → in_pages first pages page ≡ true → spot ≡ Nowhere → placed_at kept page ≡ None
    → goal ≡ Some node
    → (if in_pages first pages page && is_absent kept page spot then sent_spot goal spot else spot)
    ≡ Stated node
goes-there kept first pages page node goal spot within is none goes =
    ap (λ (s : Spot). if in_pages first pages page && is_absent kept page s then sent_spot goal s
    else s) is
    ∙ ap (λ (b : Bool). if b && is_absent kept page Nowhere then sent_spot goal Nowhere
    else Nowhere) within
    ∙ ap (λ (p : Option Placement). if not (is_some p) then sent_spot goal Nowhere else Nowhere)
    none
    ∙ ap (λ (g : Option ℕ). sent_spot g Nowhere) goes

module _ (basis : Ground) (start bytes task cpu page : ℕ) (at : Lying) where
  abbrev goal : Option ℕ
  goal = first_with_room (room_before (touched_by basis start bytes task cpu) at.spots
      (rooms_of at.room) page) (basis.lists task cpu page)

  abbrev touched : Done (Unit {0}) PlacedRefusal
  touched = (Ok tt, with_touched (touched_by basis start bytes task cpu) at)

  pub touches-placed : (lack : Lack) (node : ℕ)
      → touch_cause lack basis start bytes task cpu at ≡ None
      → in_pages (page_of start) (page_count bytes) page ≡ true → at.spots page ≡ Nowhere
      → placed_at basis.kept page ≡ None → goal ≡ Some node
      → (populate_outcome lack basis start bytes task cpu at).1.spots page ≡ Stated node
  touches-placed lack node free within is none goes =
      ap (λ (c : Option PlacedRefusal). (unless_refused c at touched).1.spots page) free
      ∙ goes-there basis.kept (page_of start) (page_count bytes) page node goal (at.spots page)
      within is none goes

  pub touches-exhausted : (lack : Lack) → goal ≡ None
      → (populate_outcome lack basis start bytes task cpu at).1.spots page ≡ at.spots page
  touches-exhausted lack none =
      outcome-spot (touch_cause lack basis start bytes task cpu at) at touched page
      (stays-full (touched_by basis start bytes task cpu) goal page (at.spots page) none)

  pub touches-there : (lack : Lack) → is_placed (at.spots page) ≡ true
      → (populate_outcome lack basis start bytes task cpu at).1.spots page ≡ at.spots page
  touches-there lack t =
      outcome-spot (touch_cause lack basis start bytes task cpu at) at touched page
      (stays-out (touched_by basis start bytes task cpu) goal page (at.spots page)
      (there basis.kept page (at.spots page) t))

  pub touches-framed : (lack : Lack) → is_some (placed_at basis.kept page) ≡ true
      → (populate_outcome lack basis start bytes task cpu at).1.spots page ≡ at.spots page
  touches-framed lack t =
      outcome-spot (touch_cause lack basis start bytes task cpu at) at touched page
      (stays-out (touched_by basis start bytes task cpu) goal page (at.spots page)
      (in-frame basis.kept page (at.spots page) t))

-- ---- mapped pages

if-mapped : (b mapped : Bool) (one other : Spot) → (b ≡ true → IsMapped mapped one)
    → IsMapped mapped other → IsMapped mapped (if b then one else other)
if-mapped true mapped one other there here = there refl
if-mapped false mapped one other there here = here

stated-mapped : (mapped : Bool) (node : ℕ) (spot : Spot) → mapped ≡ true → IsMapped mapped spot
    → IsMapped mapped (stated_spot node spot)
stated-mapped mapped node spot t is = t

forgotten-mapped : (mapped : Bool) (spot : Spot) → IsMapped mapped spot
    → IsMapped mapped (forgotten_spot spot)
forgotten-mapped mapped spot is = tt

sent-mapped : (mapped : Bool) (goal : Option ℕ) (spot : Spot) → mapped ≡ true
    → IsMapped mapped spot → IsMapped mapped (sent_spot goal spot)
sent-mapped mapped None spot t is = is
sent-mapped mapped (Some node) spot t is = stated-mapped mapped node spot t is

outcome-mapped : {A : Type 0} (mapped : ℕ → Bool) (first : Option PlacedRefusal) (at : Lying)
    (done : Done A PlacedRefusal) → AreMapped mapped at.spots
    → (first ≡ None → AreMapped mapped done.1.spots)
    → AreMapped mapped (unless_refused first at done).1.spots
outcome-mapped mapped None at done are later = later refl
outcome-mapped mapped (Some why) at done are later = are

first-none : (one other : Option PlacedRefusal) → first_of one other ≡ None → one ≡ None
first-none None other is = refl
first-none (Some why) other is = is

second-none : (one other : Option PlacedRefusal) → first_of one other ≡ None → other ≡ None
second-none None other is = is
second-none (Some why) other is =
    let odd : true ≡ false = ap is_some is in absurd (both_ways true odd refl)

if-none : {A : Type 0} (b : Bool) (why : A) (other : Option A)
    → (if b then Some why else other) ≡ None → (b ≡ false) × (other ≡ None)
if-none true why other is =
    let odd : true ≡ false = ap is_some is in absurd (both_ways true odd refl)
if-none false why other is = (refl, is)

-- of a span without a hole each page is mapped
mapped-in : (mapped : ℕ → Bool) (first pages page : ℕ)
    → any_page (λ p. not (mapped p)) first pages ≡ false → in_pages first pages page ≡ true
    → mapped page ≡ true
mapped-in mapped first pages page none within = elim (cases_Bool (mapped page)) [
  | inl t ↦ t
  | inr e ↦
      let at = inside first pages page within in
      let hole = any_page-true (λ p. not (mapped p)) first pages page at.0 at.1 (ap not e) in
      absurd (both_ways (any_page (λ p. not (mapped p)) first pages) none hole)
]

-- ---- each change

pub stated-are : (mapped : ℕ → Bool) (kept : Kept) (first pages node : ℕ) (spots : ℕ → Spot)
    → AreMapped mapped spots
    → AreMapped mapped (stated_beside mapped kept first pages node spots)
stated-are mapped kept first pages node spots are page =
    let later = stated_spots mapped first pages node spots page in
    let is : IsMapped (mapped page) later =
    if-mapped (in_pages first pages page && mapped page) (mapped page)
    (stated_spot node (spots page)) (spots page) (λ t. stated-mapped (mapped page) node (spots page)
    (second (in_pages first pages page) (mapped page) t) (are page)) (are page) in
    if-mapped (in_pages first pages page && is_some (placed_at kept page)) (mapped page)
    (forgotten_spot later) later (λ t. forgotten-mapped (mapped page) later is) is

pub at-mapped : (lack : Lack) (basis : Ground) (start bytes node : ℕ) (at : Lying)
    → AreMapped basis.mapped at.spots
    → AreMapped basis.mapped (at_outcome lack basis start bytes node at).1.spots
at-mapped lack basis start bytes node at are =
    outcome-mapped basis.mapped (at_cause lack basis start bytes node at) at
    (done_with (with_spots (at_spots basis start bytes node at.spots) at)) are
    (λ none. stated-are basis.mapped basis.kept (page_of start) (page_count bytes) node at.spots
    are)

-- those that go are mapped
bound-mapped : (mapped : ℕ → Bool) (asked : Asked) (goal : ℕ → Option ℕ) (spots : ℕ → Spot)
    → AreMapped mapped spots
    → ((page : ℕ) → strays asked page (spots page) ≡ true → mapped page ≡ true)
    → AreMapped mapped (bound_by asked goal spots)
bound-mapped mapped asked goal spots are gone page =
    if-mapped (strays asked page (spots page)) (mapped page)
    (sent_spot (goal page) (spots page)) (spots page)
    (λ t. sent-mapped (mapped page) (goal page) (spots page) (gone page t) (are page)) (are page)

pub populate-mapped : (lack : Lack) (basis : Ground) (start bytes task cpu : ℕ) (at : Lying)
    → AreMapped basis.mapped at.spots
    → AreMapped basis.mapped (populate_outcome lack basis start bytes task cpu at).1.spots
populate-mapped lack basis start bytes task cpu at are =
    let asked = touched_by basis start bytes task cpu in
    outcome-mapped basis.mapped (touch_cause lack basis start bytes task cpu at) at
    (done_with (with_touched asked at)) are (λ none.
    let free = second-none (span_cause start bytes) _
    (first-none (populate_cause basis.machine basis.mapped start bytes cpu) _ none) in
    let whole = (if-none _ cause.Unmapped None
    (if-none (nat_le basis.machine.nodes cpu) cause.BadCpu _ free).1).0 in
    bound-mapped basis.mapped asked (goals_in asked at) at.spots are (λ page t.
    mapped-in basis.mapped (page_of start) (page_count bytes) page whole
    (first-of-two (in_pages (page_of start) (page_count bytes) page)
    (is_absent basis.kept page (at.spots page)) t)))

-- a page that moves lies somewhere
first-free : (one other : Option MoveRefusal) → first_move one other ≡ None → one ≡ None
first-free None other is = refl
first-free (Some why) other is = is

lies-mapped : (mapped : Bool) (node : ℕ) (spot : Spot) → spot_cause node spot ≡ None
    → IsMapped mapped spot → mapped ≡ true
lies-mapped mapped node Nowhere free is =
    let odd : true ≡ false = ap is_some free in absurd (both_ways true odd refl)
lies-mapped mapped node (Stated from) free is = is

moved-mapped : (first : Option MoveRefusal) (mapped : ℕ → Bool) (page node : ℕ) (at : Lying)
    → AreMapped mapped at.spots → (first ≡ None → mapped page ≡ true)
    → AreMapped mapped (move_unless first page node at).1.spots
moved-mapped (Some why) mapped page node at are free other = are other
moved-mapped None mapped page node at are free other =
    if-mapped (in_pages page 1 other) (mapped other) (stated_spot node (at.spots other))
    (at.spots other) (λ t.
    let near = inside page 1 other t in
    let same : other ≡ page = omega (arith, near.0, near.1) in
    stated-mapped (mapped other) node (at.spots other) (ap mapped same ∙ free refl) (are other))
    (are other)

held-mapped : (first : Option MoveRefusal) (mapped : ℕ → Bool) (at : Lying)
    → AreMapped mapped at.spots → AreMapped mapped (held_move_unless first at).1.spots
held-mapped (Some why) mapped at are = are
held-mapped None mapped at are = are

where-mapped : (placement : Option Placement) (lack : Lack) (basis : Ground) (page node : ℕ)
    (at : Lying) → AreMapped basis.mapped at.spots
    → AreMapped basis.mapped (move_where placement lack basis page node at).1.spots
where-mapped (Some placement) lack basis page node at are =
    held-mapped (held_cause basis page node placement.node) basis.mapped at are
where-mapped None lack basis page node at are =
    moved-mapped (move_cause_by lack basis page node at) basis.mapped page node at are
    (λ none.
    let free = first-free (move_cause basis.machine basis.allowed node (basis.mapped page)
    (at.spots page)) _ (first-free _ _ none) in
    let known = if-none (lacks_node basis.machine node) move.NoSuchNode _ free in
    let allowed = if-none (not (has basis.allowed node)) move.NodesNotAllowed _ known.1 in
    let there = if-none (not (basis.mapped page)) move.Unmapped _ allowed.1 in
    lies-mapped (basis.mapped page) node (at.spots page) there.1 (are page))

pub move-mapped : (lack : Lack) (basis : Ground) (address node : ℕ) (at : Lying)
    → AreMapped basis.mapped at.spots
    → AreMapped basis.mapped (move_outcome lack basis address node at).1.spots
move-mapped lack basis address node at are =
    where-mapped (placed_at basis.kept (page_of address)) lack basis (page_of address) node at
    are

-- ---- pages that go by their node

gone-mapped : (go : ℕ → ℕ) (mapped : Bool) (spot : Spot) → IsMapped mapped spot
    → IsMapped mapped (moved_spot go spot)
gone-mapped go mapped Nowhere is = tt
gone-mapped go mapped (Stated node) is = is

shifted-mapped : (go gone below : ℕ → ℕ) (mapped : Bool) (spot : Spot) → IsMapped mapped spot
    → IsMapped mapped (shifted_spot go gone below spot)
shifted-mapped go gone below mapped Nowhere is = tt
shifted-mapped go gone below mapped (Stated node) is =
    if-mapped (nat_lt (below node) (gone node)) mapped (Stated (go node)) (Stated node) (λ t. is) is

pub motion-mapped : (mapped : ℕ → Bool) (room : Option (ℕ → ℕ)) (spots : ℕ → Spot) (old new : ℕ)
    → AreMapped mapped spots → AreMapped mapped (motion room spots old new).spots
motion-mapped mapped None spots old new are page =
    gone-mapped (moved_node old new) (mapped page) (spots page) (are page)
motion-mapped mapped (Some room) spots old new are page =
    shifted-mapped (moved_node old new) (shift_of spots old new room).gone
    (stated_below spots page) (mapped page) (spots page) (are page)

pub follow-mapped : (b : Bool) (lack : Lack) (kept : Kept) (mapped : ℕ → Bool) (old new : ℕ)
    (at : Lying) → AreMapped mapped at.spots
    → AreMapped mapped (followed_where b lack old new kept at).spots
follow-mapped false lack kept mapped old new at are = are
follow-mapped true lack kept mapped old new at are =
    followed-mapped (lack_in at.room lack (motion at.room at.spots old new).spots) where
      followed-mapped : (first : Option PlacedRefusal) → AreMapped mapped
          (follow_unless first kept (motion at.room at.spots old new) at).spots
      followed-mapped None = motion-mapped mapped at.room at.spots old new are
      followed-mapped (Some why) = are

pub shift-mapped : (lack : Lack) (kept : Kept) (mapped : ℕ → Bool)
    (first : Option PlacedRefusal) (old new : ℕ) (at : Lying) → AreMapped mapped at.spots
    → AreMapped mapped
    (moved_outcome lack kept (motion at.room at.spots old new) first at).1.spots
shift-mapped lack kept mapped first old new at are =
    let done = motion at.room at.spots old new in
    outcome-mapped mapped (first_of first (lack_in at.room lack done.spots)) at
    (Ok (shift_told (with_held kept done.told)), with_motion kept at done) are
    (λ none. motion-mapped mapped at.room at.spots old new are)

-- ---- mbind .. move

astray-mapped : (mapped : Bool) (list : ℕ) (spot : Spot) → is_astray list spot ≡ true
    → IsMapped mapped spot → mapped ≡ true
astray-mapped mapped list Nowhere t is = absurd (both_ways false refl t)
astray-mapped mapped list (Stated node) t is = is

pub sent-are : (process : Process) (said : Rebinding) (toucher : Toucher) (mapped : ℕ → Bool)
    (at : Lying) → AreMapped mapped at.spots
    → AreMapped mapped (sent_spots (asked_of process said toucher) at)
sent-are process said toucher mapped at are =
    let asked = asked_of process said toucher in
    bound-mapped mapped asked (goals_in asked at) at.spots are (λ page t.
    astray-mapped (mapped page) said.spec.mask (at.spots page)
    (second (in_pages asked.first asked.pages page) (is_astray said.spec.mask (at.spots page)) t)
    (are page))

-- ---- unmap

away-mapped : (within mapped : Bool) (spot : Spot) → IsMapped mapped spot
    → IsMapped (not within && mapped) (if within then forgotten_spot spot else spot)
away-mapped true mapped spot is = tt
away-mapped false mapped spot is = is

pub forgotten-are : (mapped : ℕ → Bool) (start bytes : ℕ) (spots : ℕ → Spot)
    → AreMapped mapped spots → AreMapped (λ page.
    not (in_pages (page_of start) (page_count bytes) page) && mapped page)
    (forgotten start bytes spots)
forgotten-are mapped start bytes spots are page =
    away-mapped (in_pages (page_of start) (page_count bytes) page) (mapped page) (spots page)
    (are page)
