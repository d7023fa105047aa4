-- Pages of 2 MiB that go to other nodes.
use Rattle.std.proofs.Common.{◌≡◌, ◌≢◌, ℕ, ◌*◌, Bool, true, false, Option, Some, None, List, [], ◌∷◌}
use Rattle.std.proofs.Common.{refl, sym, ap, subst, ◌∙◌, inl, inr, is_some}
use Rattle.std.specs.Prelude.{if◌then◌else◌, ◌==◌, IfOk, MatchOption, Result, Ok, Err, not}
use Rattle.std.proofs.lemmas.Bool.{both_ways, cases_Bool, ne_eqb}
use Rattle.numa_mask.specs.NodeSet.{has}
use Rattle.numa_machine.specs.Machine.{Hardware}
use Rattle.numa_machine.specs.declared.no_memory.NoMemory.{NoMemory}
use Rattle.numa_maps.specs.Residents.{Kept}
use Rattle.numa_ranges.specs.Maps.{any_page}
use Rattle.numa_ranges.specs.Runs.{page_at}
use Rattle.numa_requests.specs.declared.command.Command.{Command}
use Rattle.numa_requests.specs.declared.page_refusal.MoveRefusal.{MoveRefusal}
use Rattle.numa_requests.specs.declared.page_refusal.MoveRefusal.TheVariants as move
use Rattle.numa_requests.specs.declared.page_refusal.PlacedRefusal.{PlacedRefusal}
use Rattle.numa_requests.specs.declared.page_refusal.PlacedRefusal.TheVariants as placed
use Rattle.numa_space.specs.History.{page_count, page_of}
use Rattle.numa_space.specs.Pages.{page_in}
use Rattle.numa_space.specs.Refusals.{refusal_of}
use Rattle.numa_space.specs.Standing.{SpaceState, StandsFor, policy_in}
use Rattle.numa_space.proofs.Lists.{policy-same}
use Rattle.numa_mode.specs.Policy.{PolicyRecord}
use Rattle.numa_placed.specs.Astray.{judged_pages}
use Rattle.numa_placed.specs.Refusals.{lacks_node, move_cause}
use Rattle.numa_placed.specs.declared.moved.Moved.{Moved}
use Rattle.numa_placed.specs.declared.spot.Spot.{Spot}
use Rattle.numa_pools.specs.Pools.{moving_one}
use Rattle.numa_huge.specs.Huge.{HugeLying, HugePlaced, huge_at, lack_for, node_of, places_of}
use Rattle.numa_huge.specs.Huge.{too_many, with_span}
use Rattle.numa_huge.specs.Moves.{HugeMemory, HugeTold, following, is_astray, moved_to, named_by}
use Rattle.numa_huge.specs.Moves.{named_in, passing}
use Rattle.numa_huge.specs.Moves.{sent_pages, stayed, told_following, told_moving, walk_from}
use Rattle.numa_huge.specs.Tallies.{HasTold, IsLackFor, IsMemory, IsWalk}
use Rattle.numa_huge.specs.declared.last.Flows.{Flows}
use Rattle.numa_huge.specs.declared.last.HugeLast.{HugeLast}
use Rattle.numa_huge.specs.declared.last.HugeLast.TheVariants as went
use Rattle.numa_huge.specs.declared.pages.HugePages.{HugePages}
use Rattle.numa_huge.specs.declared.spot.HugeSpot.{HugeSpot}
use Rattle.numa_huge.specs.declared.spot.HugeSpot.TheVariants.{Bare, On, Reserved}
use Rattle.numa_page_state.specs.Huge.{HugeMoves, huge_astray, huge_count, huge_first}
use Rattle.numa_page_state.specs.Huge.{huge_followed, huge_move, huge_move_cause, huge_move_lack}
use Rattle.numa_page_state.specs.Huge.{huge_walk, huge_walk_in, move_lack_by, move_unless_lack}
use Rattle.numa_page_state.specs.Huge.{moved_in, named_of, spot_of}
use Rattle.numa_page_state.specs.Lying.{Ground, process_in}
use Rattle.numa_page_state.specs.Outcomes.{Enough, Lack, Starved, is_starved}
use Rattle.numa_page_state.specs.Sending.{command_of, nodes_of}
use Rattle.numa_page_state.specs.Standing.{HasPolicy}
use Rattle.numa_page_state.specs.declared.binding.Binding.{Binding}
use Rattle.numa_page_state.specs.declared.sending.Rebinding.{Rebinding}
use Rattle.numa_page_state.specs.declared.sending.Toucher.{Toucher}
use Rattle.numa_page_state.proofs.Asking.{nodes-same}
use Rattle.numa_page_state.proofs.Faulted.{lack_by, starved-by, starved-why}
use Rattle.numa_page_state.proofs.Judging.{mapped-alike}

-- ---- when allowed nodes change

pub followed-so : (old : HugePages) (places : HugePlaced) (told : Moved) (memory : HugeMemory)
    (from to : ℕ) → IsMemory old memory
    → places_of places ≡ following from to (places_of old.places)
    → HasTold (went.Nodes told) (told_following from to (huge_at old.places.runs))
    → IsMemory (record { places = places; last = went.Nodes told; arrived = old.arrived })
    (huge_followed true from to memory)
followed-so old places told memory from to stands is tells = record {
  pages = is ∙ ap (following from to) stands.pages;
  told = subst (λ (h : HugeLying). HasTold (went.Nodes told) (told_following from to h.spots))
      stands.pages tells;
  arrived = stands.arrived;
}

-- ---- move

abbrev pub moved_fine : Result (Unit {0}) MoveRefusal
moved_fine = Ok tt

module _ (old : HugePages) (memory : HugeMemory) (basis : Ground) (page node : ℕ)
    (stands : IsMemory old memory) where
  abbrev spot : Option HugeSpot
  spot = memory.pages.spots page

  abbrev cause : Option MoveRefusal
  cause = huge_move_cause basis.machine basis.allowed node (node_of spot)

  abbrev lack_at : Lack → Option ℕ → Option PlacedRefusal
  lack_at lack lies = huge_move_lack lack page node lies memory.pages

  abbrev Outcome : Type 0
  Outcome = Result (Unit {0}) MoveRefusal × HugeMemory

  -- something stands against it
  pub move-refused : (why : MoveRefusal) → cause ≡ Some why
      → HugeMoves memory (Err why) old basis page node
  move-refused why is =
      let outcome : huge_move Enough basis page node memory ≡ (Err why, memory) =
      ap (λ (c : Option MoveRefusal). move_unless_lack c
      (move_lack_by (lack_at Enough (node_of spot))) page node memory) is in (
        Enough,
        ap (λ (o : Outcome). o.0) outcome,
        subst (λ (o : Outcome). IsMemory old o.1) (sym outcome) stands,
        λ odd. absurd (cc),
      )

  -- whether it goes to its own node
  abbrev pass_by : ℕ → Bool → HugeLying
  pass_by from same = if same then memory.pages else record {
    pools = moving_one memory.pages.pools from node;
    spots = with_span page 1 (Some (On node)) memory.pages.spots;
  }

  -- it is done, so its runs are few
  move-few : (at : Option HugeSpot) (after : HugeLying)
      → after ≡ moved_to at page node memory.pages → too_many after.spots ≡ false
      → lack_at Enough (node_of at) ≡ None
  move-few None after is few = refl
  move-few (Some Bare) after is few = refl
  move-few (Some Reserved) after is few = refl
  move-few (Some (On from)) after is few = elim (cases_Bool (from == node)) [
    | inl same ↦ rw same refl
    | inr other ↦
        let so : too_many (with_span page 1 (Some (On node)) memory.pages.spots) ≡ false =
        ap (λ (h : HugeLying). too_many h.spots) (sym (is ∙ ap (pass_by from) other)) ∙ few in
        rw (other, so) refl
  ]

  pub move-done : (places : HugePlaced) (told : Moved) → cause ≡ None
      → places_of places
      ≡ moved_to (huge_at old.places.runs page) page node (places_of old.places)
      → HasTold (went.Nodes told) (told_moving (huge_at old.places.runs page) node)
      → too_many (huge_at places.runs) ≡ false
      → HugeMoves memory moved_fine
      (record { places = places; last = went.Nodes told; arrived = old.arrived }) basis page node
  move-done places told free is tells few =
      let so : places_of places ≡ moved_to spot page node memory.pages =
      is ∙ ap (λ (h : HugeLying). moved_to (h.spots page) page node h) stands.pages in
      let outcome : huge_move Enough basis page node memory
      ≡ (moved_fine, moved_in page node memory) =
      (λ i. move_unless_lack (free i)
      (move_lack_by (move-few spot (places_of places) so few i)) page node memory) in (
        Enough,
        ap (λ (o : Outcome). o.0) outcome,
        subst (λ (o : Outcome).
            IsMemory (record { places = places; last = went.Nodes told; arrived = old.arrived })
            o.1) (sym outcome) (record {
              pages = so;
              told = subst (λ (h : HugeLying).
                  HasTold (went.Nodes told) (told_moving (h.spots page) node)) stands.pages tells;
              arrived = stands.arrived;
            }),
        λ odd. absurd (cc),
      )

  -- what may move lies somewhere
  lies-there : (machine : Hardware) (allowed : ℕ) (lies : Option ℕ)
      → huge_move_cause machine allowed node lies ≡ None → (from : ℕ) × (lies ≡ Some from)
  lies-there machine allowed (Some from) free = (from, refl)
  lies-there machine allowed None free = elim (cases_Bool (lacks_node machine node)) [
    | inl t ↦
        let cause : huge_move_cause machine allowed node None ≡ Some move.NoSuchNode = rw t refl in
        let odd : Some move.NoSuchNode ≡ None = sym cause ∙ free in absurd (cc)
    | inr e ↦ elim (cases_Bool (has allowed node)) [
      | inl t ↦
          let cause : huge_move_cause machine allowed node None ≡ Some move.NotPlaced =
          rw (e, t) refl in
          let odd : Some move.NotPlaced ≡ None = sym cause ∙ free in absurd (cc)
      | inr f ↦
          let cause : huge_move_cause machine allowed node None ≡ Some move.NodesNotAllowed =
          rw (e, f) refl in
          let odd : Some move.NodesNotAllowed ≡ None = sym cause ∙ free in absurd (cc)
    ]
  ]

  -- it lacks runs or memory
  lack-at : (lies : Option ℕ) (from : ℕ) (starved : Bool) (why : PlacedRefusal)
      → lies ≡ Some from → lies ≢ Some node
      → lack_for starved (with_span page 1 (Some (On node)) memory.pages.spots) ≡ Some why
      → lack_at (lack_by starved) lies ≡ Some why
  lack-at lies from starved why is other lacks =
      let apart : (from == node) ≡ false =
      ne_eqb from node (λ e. other (is ∙ ap {B = Option ℕ} (λ (n : ℕ). Some n) e)) in
      ap (lack_at (lack_by starved)) is ∙ rw apart
      (ap (λ (b : Bool). lack_for b (with_span page 1 (Some (On node)) memory.pages.spots))
      (starved-by starved) ∙ lacks)

  -- that memory lacked is told
  refusal-starved : (why : PlacedRefusal) (refusal : MoveRefusal) → why ≡ placed.NoMemory
      → move_lack_by (Some why) ≡ Some refusal → refusal ≡ move.NoMemory
  refusal-starved why refusal starved is =
      let said : Some move.NoMemory ≡ Some refusal =
      ap (λ (w : PlacedRefusal). move_lack_by (Some w)) (sym starved) ∙ is in cc

  pub move-lacks : (why : PlacedRefusal) (refusal : MoveRefusal) → cause ≡ None
      → IsLackFor (with_span page 1 (Some (On node)) (huge_at old.places.runs)) why
      → node_of (huge_at old.places.runs page) ≢ Some node
      → move_lack_by (Some why) ≡ Some refusal
      → HugeMoves memory (Err refusal) old basis page node
  move-lacks why refusal free lacks other is =
      let from = lies-there basis.machine basis.allowed (node_of spot) free in
      let apart : node_of spot ≢ Some node = subst (λ (h : HugeLying).
      node_of (h.spots page) ≢ Some node) stands.pages other in
      let so : IsLackFor (with_span page 1 (Some (On node)) memory.pages.spots) why =
      subst (λ (h : HugeLying). IsLackFor (with_span page 1 (Some (On node)) h.spots) why)
      stands.pages lacks in
      let lack = lack_by so.0 in
      let outcome : huge_move lack basis page node memory ≡ (Err refusal, memory) =
      (λ i. move_unless_lack (free i) ((ap move_lack_by
      (lack-at (node_of spot) from.0 so.0 why from.1 apart so.1) ∙ is) i) page node memory) in (
        lack,
        ap (λ (o : Outcome). o.0) outcome,
        subst (λ (o : Outcome). IsMemory old o.1) (sym outcome) stands,
        λ on. ap {B = Result (Unit {0}) MoveRefusal} (λ (w : MoveRefusal). Err w)
            (refusal-starved why refusal (starved-why
            (with_span page 1 (Some (On node)) memory.pages.spots) so.0 why so.1 on) is),
      )

-- ---- mbind

-- a judged page of the span lies astray
pub astray-same : (space : SpaceState) (history : List Command) (kept : Kept) (memory : HugeMemory)
    (said : Binding) (runs : HugePlaced) (first pages judged : ℕ) → places_of runs ≡ memory.pages
    → StandsFor space history
    → judged ≡ judged_pages space.machine.rules (page_at space.ranges) (page_of said.start)
    (page_count said.length)
    → first ≡ huge_first (page_of said.start)
    → pages ≡ huge_count (page_of said.start) judged
    → any_page (λ page. is_astray said.list (huge_at runs.runs page)) first pages
    ≡ huge_astray (process_in space history kept) memory said
astray-same space history kept memory said runs first pages judged is stands by f p =
    let count : judged ≡ judged_pages space.machine.rules (page_in space.machine history)
    (page_of said.start) (page_count said.length) =
    by ∙ (λ i. judged_pages space.machine.rules (mapped-alike space history stands i)
    (page_of said.start) (page_count said.length)) in
    let long : pages ≡ huge_count (page_of said.start) (judged_pages space.machine.rules
    (page_in space.machine history) (page_of said.start) (page_count said.length)) =
    p ∙ ap (huge_count (page_of said.start)) count in
    λ i. any_page (λ page. is_astray said.list ((is i).spots page)) (f i) (long i)

-- the nodes to which a page may go
named-same : (space : SpaceState) (history : List Command) (toucher : Toucher) (page : ℕ)
    → StandsFor space history → named_in space toucher.task toucher.cpu page
    ≡ named_of space.machine history toucher page
named-same space history toucher page stands =
    ap (λ (nodes : List ℕ). named_by (policy_in space toucher.task page) nodes)
    (nodes-same space history toucher page stands)
    ∙ ap (λ (policy : Option PolicyRecord). named_by policy
    (nodes_of space.machine history toucher page))
    (policy-same space history toucher.task page stands)

-- pages of a span go in a space that has the policy
pub walk-same : (space : SpaceState) (said : Rebinding) (toucher : Toucher) (memory : HugeMemory)
    (huge after : HugePlaced) (flows : Flows) (list first pages : ℕ)
    → places_of huge ≡ memory.pages → list ≡ said.spec.mask
    → first ≡ huge_first (page_of said.start)
    → pages ≡ huge_count (page_of said.start) (page_count said.length)
    → IsWalk (sent_pages list (λ page. named_in space toucher.task toucher.cpu (page * 512)) first
    pages (walk_from (places_of huge))) after flows
    → IsWalk (huge_walk_in space said toucher memory) after flows
walk-same space said toucher memory huge after flows list first pages is l f p walk =
    subst (λ (h : HugeLying). IsWalk (sent_pages said.spec.mask
    (λ page. named_in space toucher.task toucher.cpu (page * 512))
    (huge_first (page_of said.start)) (huge_count (page_of said.start) (page_count said.length))
    (walk_from h)) after flows) is
    (subst (λ (n : ℕ). IsWalk (sent_pages said.spec.mask
    (λ page. named_in space toucher.task toucher.cpu (page * 512))
    (huge_first (page_of said.start)) n (walk_from (places_of huge))) after flows) p
    (subst (λ (n : ℕ). IsWalk (sent_pages said.spec.mask
    (λ page. named_in space toucher.task toucher.cpu (page * 512)) n pages
    (walk_from (places_of huge))) after flows) f
    (subst (λ (n : ℕ). IsWalk (sent_pages n
    (λ page. named_in space toucher.task toucher.cpu (page * 512)) first pages
    (walk_from (places_of huge))) after flows) l walk)))

-- which the process has then
pub walk-by : (space : SpaceState) (history : List Command) (kept : Kept) (said : Rebinding)
    (toucher : Toucher) (memory : HugeMemory) (with_it : SpaceState) (after : HugePlaced)
    (flows : Flows) → HasPolicy space history said with_it
    → IsWalk (huge_walk_in with_it said toucher memory) after flows
    → IsWalk (huge_walk (process_in space history kept) said toucher memory) after flows
walk-by space history kept said toucher memory with_it after flows has walk =
    let nodes : (page : ℕ) → named_in with_it toucher.task toucher.cpu page
    ≡ named_of space.machine (command_of said ∷ history) toucher page =
    λ page. named-same with_it (command_of said ∷ history) toucher page has.stands
    ∙ ap (λ (machine : Hardware). named_of machine (command_of said ∷ history) toucher page)
    has.machine in
    subst (λ (lists : ℕ → List ℕ). IsWalk (sent_pages said.spec.mask (λ page. lists (page * 512))
    (huge_first (page_of said.start)) (huge_count (page_of said.start) (page_count said.length))
    (walk_from memory.pages)) after flows) (λ i page. nodes page i) walk

pub walk-if : (space : SpaceState) (said : Rebinding) (toucher : Toucher) (memory : HugeMemory)
    (huge : HugePlaced) (result : Result (HugePlaced × Flows) NoMemory) (list first pages : ℕ)
    → places_of huge ≡ memory.pages → list ≡ said.spec.mask
    → first ≡ huge_first (page_of said.start)
    → pages ≡ huge_count (page_of said.start) (page_count said.length)
    → IfOk result (λ done. IsWalk (sent_pages list
    (λ page. named_in space toucher.task toucher.cpu (page * 512)) first pages
    (walk_from (places_of huge))) done.0 done.1)
    → IfOk result (λ done. IsWalk (huge_walk_in space said toucher memory) done.0 done.1)
walk-if space said toucher memory huge (Ok done) list first pages is l f p walk =
    walk-same space said toucher memory huge done.0 done.1 list first pages is l f p walk
walk-if space said toucher memory huge (Err why) list first pages is l f p walk = tt

-- a policy that nothing refuses is there
pub policy-there : (space : SpaceState) (history : List Command) (said : Rebinding)
    (found : Option SpaceState) → found ≡ None
    → MatchOption found
    (is_some (refusal_of space.machine space.bounds history (command_of said)) ≡ true)
    (λ it. HasPolicy space history said it)
    → refusal_of space.machine space.bounds history (command_of said) ≡ None → ⊥
policy-there space history said found is has free =
    let refused = subst (λ (f : Option SpaceState). MatchOption f
    (is_some (refusal_of space.machine space.bounds history (command_of said)) ≡ true)
    (λ it. HasPolicy space history said it)) is has in
    let odd : true ≡ false = sym refused ∙ ap is_some free in both_ways true odd refl
