-- Seats that come and go.
use Rattle.std.proofs.Common.{Bool, true, false, ◌≡◌, ◌≢◌, ◌⊎◌, ℕ, zero, suc, ◌+◌, ◌*◌, ◌/◌, ◌%◌}
use Rattle.std.proofs.Common.{◌<◌, ◌≤◌, List, [], ◌∷◌, ◌++◌, length, set, length-set, length-append}
use Rattle.std.proofs.Common.{true, false, Option, Some, None, is_some, refl, sym, ap, ◌∙◌, subst}
use Rattle.std.proofs.Common.{inl, inr, arith, eq-eqb, ne_eqb}
use Rattle.std.specs.Prelude.{slice_index, ◌==◌, if◌then◌else◌}
use mathlib.Core.Option.{some, some-injective}
use Rattle.std.specs.Int.{bit_at}
use Rattle.std.proofs.lemmas.Nat.Bits.{bit_at-zero}
use native.Mathlib.Decide.{ℕ_discrete, dec_le}
use lib.ListN.{get_elem?}
use Rattle.atomic_table.proofs.Lists.{set_here, set_else, at_longer, at_snoc}
use Rattle.std.specs.Option.{option_map_or}
use Rattle.numa_core.specs.World.{Setup, World, opening, frame_search_of, last_of, owner_of}
use Rattle.numa_core.specs.World.{frame_search_past, is_frame}
use Rattle.numa_core.specs.Steps.{effect_of, going_on, with_owner, with_worker}
use Rattle.numa_requests.specs.declared.event.Event.{Event}
use Rattle.numa_requests.specs.declared.event.Event.TheVariants.{Accept, Publish, Begin, Seek}
use Rattle.numa_requests.specs.declared.event.Event.TheVariants.{Look, Try, Give}
use Rattle.numa_pool.specs.declared.view.View.{View}
use Rattle.numa_pool.specs.Frames.{times}
use Rattle.numa_pool.specs.Rule.{Counted, holdings}
use Rattle.numa_pool.specs.Steps.{newborn, newcomer, spent, after_split, after_join}
use Rattle.numa_pool.proofs.Totals.{counts_split, counts_join, times_append}
use Rattle.numa_pool.proofs.Totals.{is_frame-same}
use Rattle.numa_refinement.specs.WalkSteps.{world_after_handover, passed_on}
use Rattle.numa_refinement.specs.Moves.{PoolState, IsOpening, Splits, Joins}
use Rattle.numa_refinement.specs.Tie.{OwnsWhatIsHeld, IsTied}
use Rattle.numa_refinement.proofs.Keeping.{owners-stay}
use Rattle.numa_refinement.proofs.Owning.{at_bound, frame_turned}

abbrev Holder : ℕ → ℕ → ℕ → List View → Type 0
Holder n k j views = (u : View) × (get_elem? views j ≡ some u) × (0 < times n k u.held)

-- a seat more, which holds nothing
owners-snoc : (world : World) (views : List View) (v : View) → OwnsWhatIsHeld world views
    → OwnsWhatIsHeld world (views ++ newborn v ∷ [])
owners-snoc world views v owns n k j = (
  (λ o. let h = (owns n k j).0 o in (h.0, at_longer views (newborn v ∷ []) j h.0 h.1, h.2)),
  (λ h. back h (at_snoc views (newborn v) h.0 j h.1)),
)
  where
    back : (h : Holder n k j (views ++ newborn v ∷ [])) → (get_elem? views j ≡ some h.0)
        ⊎ (newborn v ≡ h.0) → world.owner n k ≡ Some j
    back h (inl e) = (owns n k j).1 (h.0, e, h.2)
    back h (inr e) = let pos : 0 < times n k (newborn v).held =
        subst (λ (u : View). 0 < times n k u.held) (sym e) h.2 in absurd (omega arith)

pub split-ties : (s : Setup) (world : World) (old new : PoolState) (id : ℕ) → IsTied s world old
    → length old.views < s.workers → Splits id old new → IsTied s world new
split-ties s world old new id tied room m =
    let counts = counts_split s.machine.frames old.words old.views id m.view m.shown tied.rule in
    let owns = owners-snoc world (set old.views id (after_split m.view)) m.view
    (owners-stay world old.views id m.view (after_split m.view) m.shown refl tied.owners) in
    let count = ap length m.views ∙ length-append (set old.views id (after_split m.view))
    (newborn m.view ∷ []) in
    let same = length-set old.views id (after_split m.view) in
    record {
      few = tied.few;
      rule = subst (λ (p : List ℕ × List View). Counted s.machine.frames p.0 p.1)
          (λ i. (sym m.words i, sym m.views i)) counts;
      owners = subst (OwnsWhatIsHeld world) (sym m.views) owns;
      workers = omega arith;
    }

passed-none : (from to j : ℕ) → passed_on from to None ≡ Some j → ⊥
passed-none from to j e = absurd (cc)

module _ (s : Setup) (world : World) (old new : PoolState) (id other : ℕ)
    (tied : IsTied s world old) (m : Joins id other old new) where
  abbrev both : View
  both = after_join m.first m.second

  abbrev views : List View
  views = set (set old.views id both) other spent

  there : get_elem? (set old.views id both) other ≡ some m.second
  there = set_else old.views id other both m.apart ∙ m.second_shown

  -- the first seat, after
  first_now : get_elem? views id ≡ some both
  first_now = set_else (set old.views id both) other id spent (λ e. m.apart (sym e))
      ∙ set_here old.views id both (at_bound old.views id m.first m.first_shown)

  second_now : get_elem? views other ≡ some spent
  second_now = set_here (set old.views id both) other spent
      (let bound = at_bound old.views other m.second m.second_shown in let same =
      length-set old.views id both in omega arith)

  others : (j : ℕ) → j ≢ id → j ≢ other → get_elem? views j ≡ get_elem? old.views j
  others j d e = set_else (set old.views id both) other j spent e
      ∙ set_else old.views id j both d

  sum : (n k : ℕ) → times n k both.held ≡ times n k m.first.held + times n k m.second.held
  sum n k = times_append n k m.first.held m.second.held

  abbrev Holds_now : ℕ → ℕ → ℕ → Type 0
  Holds_now n k j = Holder n k j views

  -- who holds a frame now, from who owned it
  forth : (n k j : ℕ) (o : Option ℕ) → world.owner n k ≡ o → passed_on other id o ≡ Some j
      → Holds_now n k j
  forth n k j None own e = absurd (passed-none other id j e)
  forth n k j (Some i) own e = by (ℕ_discrete i other) (ℕ_discrete i id)
    where
      held : Holder n k i old.views
      held = (tied.owners n k i).0 own

      by : Dec (i ≡ other) → Dec (i ≡ id) → Holds_now n k j
      by (yes d) f =
          let test : (i == other) ≡ true = eq-eqb i other d in
          let now : id ≡ j = let p : Some id ≡ Some j =
          sym (ap (λ b. if b then Some id else Some i) test) ∙ e in cc in
          let is : held.0 ≡ m.second =
          some-injective held.0 m.second (sym held.1 ∙ ap (get_elem? old.views) d
          ∙ m.second_shown) in
          let pos : 0 < times n k m.second.held = subst (λ (u : View). 0 < times n k u.held) is
          held.2 in
          let all = sum n k in
          subst (Holds_now n k) now (both, first_now, omega arith)
      by (no d) f = stays f
        where
          now : i ≡ j
          now = let test : (i == other) ≡ false = ne_eqb i other d in let p : Some i ≡ Some j =
              sym (ap (λ b. if b then Some id else Some i) test) ∙ e in cc

          stays : Dec (i ≡ id) → Holds_now n k j
          stays (yes f) =
              let is : held.0 ≡ m.first =
              some-injective held.0 m.first (sym held.1 ∙ ap (get_elem? old.views) f
              ∙ m.first_shown) in
              let pos : 0 < times n k m.first.held = subst (λ (u : View). 0 < times n k u.held) is
              held.2 in
              let all = sum n k in
              subst (Holds_now n k) (sym f ∙ now) (both, first_now, omega arith)
          stays (no f) = subst (Holds_now n k) now (held.0, others i f d ∙ held.1, held.2)

  owned-by : (n k i : ℕ) → Holder n k i old.views → world.owner n k ≡ Some i
  owned-by n k i h = (tied.owners n k i).1 h

  -- who owned a frame, from who holds it now
  back : (n k j : ℕ) → Holds_now n k j → Dec (j ≡ other) → Dec (j ≡ id)
      → passed_on other id (world.owner n k) ≡ Some j
  back n k j h (yes d) f =
      let is : h.0 ≡ spent =
      some-injective h.0 spent (sym h.1 ∙ ap (get_elem? views) d ∙ second_now) in
      let pos : 0 < times n k spent.held = subst (λ (u : View). 0 < times n k u.held) is h.2 in
      absurd (omega arith)
  back n k j h (no d) (no f) =
      let own = owned-by n k j (h.0, sym (others j f d) ∙ h.1, h.2) in
      ap (passed_on other id) own ∙ ap (λ b. if b then Some id else Some j) (ne_eqb j other d)
  back n k j h (no d) (yes f) = pick (dec_le 1 (times n k m.first.held))
    where
      is : h.0 ≡ both
      is = some-injective h.0 both (sym h.1 ∙ ap (get_elem? views) f ∙ first_now)

      pos : 0 < times n k both.held
      pos = subst (λ (u : View). 0 < times n k u.held) is h.2

      pick : Dec (1 ≤ times n k m.first.held) → passed_on other id (world.owner n k) ≡ Some j
      pick (yes l) =
          let own = owned-by n k id (m.first, m.first_shown, l) in
          ap (passed_on other id) own ∙ ap (λ b. if b then Some id else Some id)
          (ne_eqb id other (λ e. m.apart (sym e))) ∙ ap Some (sym f)
      pick (no l) =
          let all = sum n k in
          let p = pos in
          let own = owned-by n k other (m.second, m.second_shown, omega arith) in
          ap (passed_on other id) own ∙ ap (λ b. if b then Some id else Some other)
          (eq-eqb other other refl) ∙ ap Some (sym f)

  pub join-ties : IsTied s (world_after_handover world other id) new
  join-ties =
      let counts = counts_join s.machine.frames old.words old.views id m.first m.first_shown other
      m.second there tied.rule in
      let count = ap length m.views ∙ length-set (set old.views id both) other spent
      ∙ length-set old.views id both in
      let room = tied.workers in
      record {
        few = tied.few;
        rule = subst (λ (p : List ℕ × List View). Counted s.machine.frames p.0 p.1)
            (λ i. (sym m.words i, sym m.views i)) counts;
        owners = subst (OwnsWhatIsHeld (world_after_handover world other id)) (sym m.views)
            (λ n k j. (
              (λ o. forth n k j (world.owner n k) refl o),
              (λ h. back n k j h (ℕ_discrete j other) (ℕ_discrete j id)),
            ));
        workers = omega arith;
      }

  -- where the second seat held a frame, the world is tied no more
  pub join-ends : (n k : ℕ) → Holder n k other old.views → IsTied s world new → ⊥
  join-ends n k h after =
      let own = owned-by n k other h in
      let now = (after.owners n k other).0 own in
      let is : now.0 ≡ spent =
      some-injective now.0 spent (sym now.1 ∙ ap (λ vs. get_elem? vs other) m.views
      ∙ second_now) in
      let pos : 0 < times n k spent.held = subst (λ (u : View). 0 < times n k u.held) is now.2 in
      absurd (omega arith)

-- the opening: no frame is held, and no frame is owned
pub opening-ties : (s : Setup) (state : PoolState)
    → ((n : ℕ) → slice_index s.machine.frames n ≤ 4096) → 0 < s.workers
    → IsOpening s.machine.frames state → IsTied s opening state
opening-ties s state few some_worker start =
    let count : length state.views ≡ 1 = ap length start.first in
    record {
      few = few;
      rule = record {
        wide = start.wide;
        exact = λ n k low. ap (λ x. bit_at x (k % 64)) (start.clear (64 * n + k / 64))
            ∙ bit_at-zero (k % 64) ∙ ap (holdings n k) (sym start.first);
        past = λ n k high. ap (holdings n k) start.first;
      };
      owners = subst (OwnsWhatIsHeld opening) (sym start.first)
          (λ n k id. ((λ o. absurd (cc)), (λ h. none n k id h)));
      workers = omega arith;
    }
  where
    none : (n k id : ℕ) → Holder n k id (newcomer ∷ []) → opening.owner n k ≡ Some id
    none n k zero h = let pos : 0 < times n k newcomer.held =
        subst (λ (u : View). 0 < times n k u.held) (sym (some-injective newcomer h.0 h.1)) h.2 in
        absurd (omega arith)
    none n k (suc id) h = absurd (cc)

-- what an event does to the owner of one frame that has one: it stays, or there is none
apart-owner : (o : Option ℕ) (id other : ℕ) → o ≡ Some other → o ≡ Some id → id ≡ other
apart-owner o id other e f = let p : Some id ≡ Some other = sym f ∙ e in cc

-- no event of the core hands a frame from one worker to another
pub no-passing : (s : Setup) (world : World) (version : ℕ) (event : Event) (n k id other : ℕ)
    → world.owner n k ≡ Some other → (effect_of s world version event).owner n k ≡ Some id
    → id ≡ other
no-passing s world version (Accept command) n k id other e f =
    apart-owner (world.owner n k) id other e f
no-passing s world version Publish n k id other e f = apart-owner (world.owner n k) id other e f
no-passing s world version (Begin w request) n k id other e f =
    apart-owner (world.owner n k) id other e f
no-passing s world version (Seek w node) n k id other e f =
    apart-owner (world.owner n k) id other e f
no-passing s world version (Look w word) n k id other e f = apart-owner (world.owner n k) id other e
    f
no-passing s world version (Give w frame) n k id other e f = by (is_frame frame n k) f
  where
    by : (b : Bool) → (if b then None else world.owner n k) ≡ Some id → id ≡ other
    by true h = absurd (cc)
    by false h = apart-owner (world.owner n k) id other e h
no-passing s world version (Try w frame) n k id other e f = by (owner_of world frame) refl f
  where
    taken : owner_of world frame ≡ None → (b : Bool) → is_frame frame n k ≡ b
        → (if b then Some w else world.owner n k) ≡ Some id → id ≡ other
    taken free false t h = apart-owner (world.owner n k) id other e h
    taken free true t h =
        let same = is_frame-same frame n k (sym (frame_turned frame n k) ∙ t) in
        let none : world.owner n k ≡ None = subst (λ (p : ℕ × ℕ). world.owner p.0 p.1 ≡ None)
        (λ i. (same.0 i, same.1 i)) free in
        absurd (cc)

    by : (o : Option ℕ) → owner_of world frame ≡ o
        → (if is_some o then with_worker world w (last_of world w)
        (option_map_or (λ frame_search. going_on s (frame_search_past frame frame_search))
        (frame_search_of world w) None)
        else with_worker (with_owner world frame (Some w)) w (last_of world w) None).owner n k
        ≡ Some id → id ≡ other
    by (Some j) own h = apart-owner (world.owner n k) id other e h
    by None own h = taken own (is_frame frame n k) refl h
