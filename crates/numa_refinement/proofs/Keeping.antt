-- Each step of a seat keeps the world tied to the pools.
use Rattle.std.proofs.Common.{◌≡◌, ◌≢◌, ◌⊎◌, ℕ, ◌<◌, ◌≤◌, nat_le, List, ◌∷◌, length, set}
use Rattle.std.proofs.Common.{length-set, true, false, Option, Some, None, is_some, refl, sym, ap}
use Rattle.std.proofs.Common.{◌∙◌, subst, inl, inr, arith, eq-eqb, ne_eqb}
use Rattle.std.specs.Prelude.{slice_index, ◌==◌, if◌then◌else◌}
use Rattle.std.proofs.lemmas.Nat.Bits.{bit_at-lt}
use mathlib.Core.Option.{some, some-injective}
use native.Mathlib.Decide.{ℕ_discrete}
use lib.ListN.{get_elem?}
use Rattle.atomic_table.proofs.Lists.{at_set, set_here, set_else}
use Rattle.numa_machine.specs.declared.frame.Frame.{Frame}
use Rattle.numa_core.specs.World.{Setup, World, FrameSearch, frame_search_of, owner_of, last_of}
use Rattle.numa_core.specs.World.{current_rank, frame_search_after_look, frame_search_past}
use Rattle.numa_core.specs.Steps.{effect_of, goes_on, going_on, won_by, put, with_owner}
use Rattle.numa_core.specs.Steps.{with_worker}
use Rattle.numa_requests.specs.declared.event.CoreReply.TheVariants.{Given}
use Rattle.numa_requests.specs.declared.event.Event.TheVariants.{Look, Try, Give}
use Rattle.numa_pool.specs.declared.view.Entry.{Entry}
use Rattle.numa_pool.specs.declared.view.Entry.TheVariants.{Load, Won, Lost, Gave}
use Rattle.numa_pool.specs.declared.view.View.{View}
use Rattle.numa_pool.specs.Frames.{bit_in, times}
use Rattle.numa_pool.specs.Rule.{PoolRule, Counted}
use Rattle.numa_pool.specs.Walk.{IsNext}
use Rattle.numa_pool.proofs.Ruling.{means}
use Rattle.numa_refinement.specs.WalkSteps.{IsCoreStep, MayCome, event_of}
use Rattle.numa_refinement.specs.Moves.{PoolState, Loads, Tries, Clears, Makes}
use Rattle.numa_refinement.specs.Tie.{OwnsWhatIsHeld, HasMet, HaveMet, IsTied}
use Rattle.numa_refinement.proofs.Allowed.{no_less, look-answer, look-effect, won-answer}
use Rattle.numa_refinement.proofs.Allowed.{won-effect, lost-answer, lost-effect, give-answer}
use Rattle.numa_refinement.proofs.Current.{may_look-current, may_try-next}
use Rattle.numa_refinement.proofs.Meeting.{owned, looks_alike, misses_alike}
use Rattle.numa_refinement.proofs.Moving.{loaded, tried-is, gave-is, load-keeps, win-keeps}
use Rattle.numa_refinement.proofs.Moving.{loss-keeps, return-keeps}
use Rattle.numa_refinement.proofs.Owning.{at_bound, wins_alike, gives_alike}

-- ---- frame searches

module _ (world : World) (since : ℕ → List Entry) (met : HaveMet world since) (id : ℕ) where
  -- one worker has another frame search, or none
  pub met-put : (last : ℕ) (o : Option FrameSearch) (es : List Entry)
      → ((frame_search : FrameSearch) → o ≡ Some frame_search → HasMet frame_search es)
      → HaveMet (with_worker world id last o) (put since id es)
  met-put last o es its j frame_search e = by (ℕ_discrete id j)
    where
      by : Dec (id ≡ j) → HasMet frame_search (put since id es j)
      by (yes d) =
          let test : (id == j) ≡ true = eq-eqb id j d in
          let now : o ≡ Some frame_search =
          sym (ap
          (λ b.
          (if b then (record { last = last; frame_search = o }) else world.worker
          j).frame_search) test) ∙ e in
          subst (λ b. HasMet frame_search (if b then es else since j)) (sym test)
          (its frame_search now)
      by (no d) =
          let test : (id == j) ≡ false = ne_eqb id j d in
          let now : frame_search_of world j ≡ Some frame_search =
          sym (ap
          (λ b.
          (if b then (record { last = last; frame_search = o }) else world.worker
          j).frame_search) test) ∙ e in
          subst (λ b. HasMet frame_search (if b then es else since j)) (sym test)
          (met j frame_search now)

  -- an idle worker's steps count for nothing
  pub met-idle : frame_search_of world id ≡ None → (es : List Entry)
      → HaveMet world (put since id es)
  met-idle idle es j frame_search e = by (ℕ_discrete id j)
    where
      by : Dec (id ≡ j) → HasMet frame_search (put since id es j)
      by (yes d) = let none : ◌≡◌ {A = Option FrameSearch} None (Some frame_search) = sym idle
          ∙ ap (frame_search_of world) d ∙ e in absurd (cc)
      by (no d) = subst (λ b. HasMet frame_search (if b then es else since j)) (sym (ne_eqb id j d))
          (met j frame_search e)

-- a frame search that goes on is the same
pub goes-on-as : (s : Setup) (frame_search other : FrameSearch) (es : List Entry)
    → HasMet frame_search es → going_on s frame_search ≡ Some other → HasMet other es
goes-on-as s frame_search other es met = go (current_rank s frame_search)
  where
    go : (o : Option ℕ) → (if is_some o then Some frame_search else None) ≡ Some other
        → HasMet other es
    go None e = absurd (cc)
    go (Some rank) e = let same : frame_search ≡ other = cc in subst (λ h. HasMet h es) same met

-- ---- owners

-- a seat that holds what it held
pub owners-stay : (world : World) (views : List View) (id : ℕ) (v w : View)
    → get_elem? views id ≡ some v → w.held ≡ v.held → OwnsWhatIsHeld world views
    → OwnsWhatIsHeld world (set views id w)
owners-stay world views id v w at same owns n k j = (
  (λ o. let old = (owns n k j).0 o in keep old (ℕ_discrete j id)),
  (λ h. back h (at_set views id j w h.0 h.1)),
)
  where
    Held : List View → Type 0
    Held vs = (u : View) × (get_elem? vs j ≡ some u) × (0 < times n k u.held)

    keep : Held views → Dec (j ≡ id) → Held (set views id w)
    keep old (no d) = (old.0, set_else views id j w d ∙ old.1, old.2)
    keep old (yes e) =
        let is : old.0 ≡ v = some-injective old.0 v (sym old.1 ∙ ap (get_elem? views) e ∙ at) in
        let pos : 0 < times n k w.held =
        subst (λ fs. 0 < times n k fs) (ap (λ (u : View). u.held) is ∙ sym same) old.2 in (
          w,
          subst (λ i. get_elem? (set views id w) i ≡ some w) (sym e)
              (set_here views id w (at_bound views id v at)),
          pos,
        )

    back : (h : Held (set views id w)) → ((j ≡ id) × (w ≡ h.0))
        ⊎ ((j ≢ id) × (get_elem? views j ≡ some h.0)) → world.owner n k ≡ Some j
    back h (inr e) = (owns n k j).1 (h.0, e.1, h.2)
    back h (inl e) =
        (owns n k j).1 (
          v,
          ap (get_elem? views) e.0 ∙ at,
          subst (λ fs. 0 < times n k fs) (ap (λ (u : View). u.held) (sym e.1) ∙ same) h.2,
        )

module _ (s : Setup) (world : World) (old new : PoolState) (id : ℕ) (tied : IsTied s world old)
  where
    pub rule-of : PoolRule s.machine.frames old.words old.views
    rule-of = means s.machine.frames old.words old.views tied.few tied.rule

    pub low-of : (f : Frame) → f.number < slice_index s.machine.frames f.node → f.number < 4096
    low-of f inside = let few = tied.few f.node in omega arith

    pub there-of : (v : View) → get_elem? old.views id ≡ some v → nat_le s.workers id ≡ false
    there-of v at = no_less s.workers id (let bound = at_bound old.views id v at in let all =
        tied.workers in omega arith)

    same_count : (w : View) → new.views ≡ set old.views id w → length new.views ≤ s.workers
    same_count w views = let all = tied.workers in let count = ap length views
        ∙ length-set old.views id w in omega arith

    pub free-of : (f : Frame) → f.number < slice_index s.machine.frames f.node
        → bit_in old.words f.node f.number ≡ 0 → owner_of world f ≡ None
    free-of f inside clear = go (owner_of world f) refl
      where
        go : (o : Option ℕ) → owner_of world f ≡ o → o ≡ None
        go None e = refl
        go (Some j) e =
            let test : true ≡ (bit_in old.words f.node f.number == 1) =
            owned s world old.words old.views rule-of tied.owners f.node f.number (Some j) e
            (low-of f inside) in
            let none : (bit_in old.words f.node f.number == 1) ≡ false =
            ne_eqb (bit_in old.words f.node f.number) 1 (λ one. omega arith) in
            absurd (cc)

    pub owner-of : (f : Frame) → f.number < slice_index s.machine.frames f.node
        → bit_in old.words f.node f.number ≢ 0 → (j : ℕ) × (owner_of world f ≡ Some j)
    owner-of f inside taken = go (owner_of world f) refl
      where
        one : bit_in old.words f.node f.number ≡ 1
        one = let below : bit_in old.words f.node f.number < 2 = bit_at-lt _ _ in
            omega (arith, taken)

        go : (o : Option ℕ) → owner_of world f ≡ o → (j : ℕ) × (o ≡ Some j)
        go (Some j) e = (j, refl)
        go None e =
            let test : false ≡ (bit_in old.words f.node f.number == 1) =
            owned s world old.words old.views rule-of tied.owners f.node f.number None e
            (low-of f inside) in
            let is : (bit_in old.words f.node f.number == 1) ≡ true =
            eq-eqb (bit_in old.words f.node f.number) 1 one in
            absurd (cc)

    -- the tie of the new state
    ties : (next : World) (w : View) → new.views ≡ set old.views id w
        → Counted s.machine.frames new.words new.views → OwnsWhatIsHeld next (set old.views id w)
        → IsTied s next new
    ties next w views rule owns = record {
      few = tied.few;
      rule = rule;
      owners = subst (OwnsWhatIsHeld next) (sym views) owns;
      workers = same_count w views;
    }

    pub load-ties : (n w : ℕ) (m : Loads n w id old new) → w < 64
        → (last : ℕ) (o : Option FrameSearch) → IsTied s (with_worker world id last o) new
    load-ties n w m low last o = ties (with_worker world id last o) m.after m.views
        (load-keeps s.machine.frames old new id tied.rule n w m low)
        (owners-stay world old.views id m.before m.after m.shown
        (ap (λ (v : View). v.held) (loaded n w id old new m low)) tied.owners)

    pub loss-ties : (f : Frame) (m : Tries f id old new)
        → f.number < slice_index s.machine.frames f.node → bit_in old.words f.node f.number ≢ 0
        → (last : ℕ) (o : Option FrameSearch) → IsTied s (with_worker world id last o) new
    loss-ties f m inside taken last o =
        let low = low-of f inside in
        let after =
        tried-is f id old new m low false (ne_eqb (bit_in old.words f.node f.number) 0 taken) in
        ties (with_worker world id last o) m.after m.views
        (loss-keeps s.machine.frames old new id tied.rule f low inside m taken)
        (owners-stay world old.views id m.before m.after m.shown (ap (λ (v : View). v.held) after)
        tied.owners)

    pub win-ties : (f : Frame) (m : Tries f id old new)
        → f.number < slice_index s.machine.frames f.node → bit_in old.words f.node f.number ≡ 0
        → (last : ℕ) (o : Option FrameSearch)
        → IsTied s (with_worker (with_owner world f (Some id)) id last o) new
    win-ties f m inside clear last o =
        let low = low-of f inside in
        let after =
        tried-is f id old new m low true (eq-eqb (bit_in old.words f.node f.number) 0 clear) in
        ties (with_worker (with_owner world f (Some id)) id last o) m.after m.views
        (win-keeps s.machine.frames old new id tied.rule f low inside m clear)
        (subst (λ w. OwnsWhatIsHeld (with_owner world f (Some id)) (set old.views id w)) (sym after)
        (wins_alike world old.views id m.before m.shown tied.owners f (free-of f inside clear)))

    pub return-ties : (f : Frame) (m : Clears f id old new)
        → f.number < slice_index s.machine.frames f.node → 0 < times f.node f.number m.before.held
        → IsTied s (with_owner world f None) new
    return-ties f m inside mine =
        let low = low-of f inside in
        ties (with_owner world f None) m.after m.views
        (return-keeps s.machine.frames old new id tied.rule f low inside m mine)
        (subst (λ w. OwnsWhatIsHeld (with_owner world f None) (set old.views id w))
        (sym (gave-is f id old new m low))
        (gives_alike world old.views id m.before m.shown tied.owners s.machine.frames old.words
        rule-of f mine))

-- ---- steps

module _ (s : Setup) (world : World) (id version : ℕ) (frame_search : FrameSearch) (es : List Entry)
    (old new : PoolState) (tied : IsTied s world old)
    (busy : frame_search_of world id ≡ Some frame_search) (met : HasMet frame_search es) where
  pub look-core_step : (n w x : ℕ) → Makes (Load n w x) id old new
      → MayCome s.machine.frames frame_search.nodes es (Load n w x)
      → IsCoreStep s world version (Look id w)
      (goes_on s (frame_search_after_look s world w frame_search))
  look-core_step n w x m next = (
    tt,
    look-answer s world version id (there-of s world old new id tied m.2.before m.2.shown)
        frame_search busy w (may_look-current s frame_search es met n w next.0 next.1),
  )

  pub won-core_step : (f : Frame) → Makes (Won f) id old new
      → IsNext s.machine.frames es frame_search.nodes f
      → IsCoreStep s world version (Try id f) (won_by s frame_search f)
  won-core_step f m next = (
    tt,
    won-answer s world version id (there-of s world old new id tied m.1.before m.1.shown)
        frame_search busy f (may_try-next s frame_search es met f next)
        (free-of s world old new id tied f next.1 m.0),
  )

  pub lost-core_step : (f : Frame) → Makes (Lost f) id old new
      → IsNext s.machine.frames es frame_search.nodes f
      → IsCoreStep s world version (Try id f) (goes_on s (frame_search_past f frame_search))
  lost-core_step f m next =
      let owner = owner-of s world old new id tied f next.1 m.0 in (
        tt,
        lost-answer s world version id (there-of s world old new id tied m.1.before m.1.shown)
            frame_search busy f owner.0 (may_try-next s frame_search es met f next) owner.1,
      )

  pub step-ties : (e : Entry) → Makes e id old new → MayCome s.machine.frames frame_search.nodes es
      e → IsTied s (effect_of s world version (event_of id e)) new
  step-ties (Load n w x) m next =
      subst (λ v. IsTied s v new)
      (sym (look-effect s world version id (there-of s world old new id tied m.2.before m.2.shown)
      frame_search busy w)) (load-ties s world old new id tied n w m.2 m.0 (last_of world id)
      (going_on s (frame_search_after_look s world w frame_search)))
  step-ties (Won f) m next =
      subst (λ v. IsTied s v new)
      (sym (won-effect s world version id
      (there-of s world old new id tied m.1.before m.1.shown) f
      (free-of s world old new id tied f next.1 m.0)))
      (win-ties s world old new id tied f m.1 next.1 m.0 (last_of world id) None)
  step-ties (Lost f) m next =
      let owner = owner-of s world old new id tied f next.1 m.0 in
      subst (λ v. IsTied s v new)
      (sym (lost-effect s world version id
      (there-of s world old new id tied m.1.before m.1.shown) frame_search busy f owner.0
      owner.1))
      (loss-ties s world old new id tied f m.1 next.1 m.0 (last_of world id)
      (going_on s (frame_search_past f frame_search)))
  step-ties (Gave f) m next = absurd next

  -- what the frame search has met after a step
  pub look-meets : (n w x : ℕ) → Makes (Load n w x) id old new
      → MayCome s.machine.frames frame_search.nodes es (Load n w x)
      → HasMet (frame_search_after_look s world w frame_search) (Load n w x ∷ es)
  look-meets n w x m next =
      subst (λ y. HasMet (frame_search_after_look s world w frame_search) (Load n w y ∷ es))
      (sym m.1)
      (looks_alike s world old.words old.views (rule-of s world old new id tied) tied.owners
      frame_search es met n w m.0 next.0)

  pub step-meets : (since : ℕ → List Entry) → HaveMet world since → (e : Entry) → Makes e id old new
      → MayCome s.machine.frames frame_search.nodes es e
      → HaveMet (effect_of s world version (event_of id e)) (put since id (e ∷ es))
  step-meets since all (Load n w x) m next =
      subst (λ v. HaveMet v (put since id (Load n w x ∷ es)))
      (sym (look-effect s world version id
      (there-of s world old new id tied m.2.before m.2.shown) frame_search busy w))
      (met-put world since all id (last_of world id)
      (going_on s (frame_search_after_look s world w frame_search)) (Load n w x ∷ es)
      (λ h e. goes-on-as s (frame_search_after_look s world w frame_search) h (Load n w x ∷ es)
      (look-meets n w x m next) e))
  step-meets since all (Won f) m next =
      subst (λ v. HaveMet v (put since id (Won f ∷ es)))
      (sym (won-effect s world version id
      (there-of s world old new id tied m.1.before m.1.shown) f
      (free-of s world old new id tied f next.1 m.0)))
      (met-put (with_owner world f (Some id)) since all id (last_of world id) None (Won f ∷ es)
      (λ h e. absurd (cc)))
  step-meets since all (Lost f) m next =
      let owner = owner-of s world old new id tied f next.1 m.0 in
      subst (λ v. HaveMet v (put since id (Lost f ∷ es)))
      (sym (lost-effect s world version id
      (there-of s world old new id tied m.1.before m.1.shown) frame_search busy f owner.0
      owner.1))
      (met-put world since all id (last_of world id) (going_on s (frame_search_past f frame_search))
      (Lost f ∷ es) (λ h e. goes-on-as s (frame_search_past f frame_search) h (Lost f ∷ es)
      (misses_alike frame_search es f met) e))
  step-meets since all (Gave f) m next = absurd next

-- a return, by a worker that is idle
module _ (s : Setup) (world : World) (old new : PoolState) (id version : ℕ) (f : Frame)
    (tied : IsTied s world old) (idle : frame_search_of world id ≡ None)
    (m : Makes (Gave f) id old new) where
  mine : 0 < times f.node f.number m.1.before.held
  mine = subst (λ (v : View). 0 < times f.node f.number v.held)
      (some-injective m.0.0 m.1.before (sym m.0.1 ∙ m.1.shown)) m.0.2

  pub give-core_step : IsCoreStep s world version (Give id f) Given
  give-core_step = (
    tt,
    give-answer s world version id (there-of s world old new id tied m.1.before m.1.shown) f
        idle ((tied.owners f.node f.number id).1 m.0),
  )

  pub give-ties : IsTied s (effect_of s world version (Give id f)) new
  give-ties = return-ties s world old new id tied f m.1
      ((rule-of s world old new id tied).held_in_range f.node f.number (id, m.0.0, m.0.1, m.0.2))
      mine
