-- What the core's law says of an interleaving of seats.
use Rattle.std.proofs.Common.{◌≡◌, ℕ, ◌<◌, ◌≤◌, List, ◌∷◌, Option, Some, None, Ok, refl, sym, ap}
use Rattle.std.proofs.Common.{◌∙◌, subst}
use Rattle.std.specs.Prelude.{slice_index}
use Rattle.numa_machine.specs.declared.frame.Frame.{Frame}
use Rattle.numa_requests.specs.declared.placement.Placement.{Placement}
use Rattle.numa_core.specs.World.{Setup, World, FrameSearch, frame_search_of}
use Rattle.numa_core.specs.World.{frame_search_after_look, frame_search_past}
use Rattle.numa_core.specs.Steps.{answer_of, over_by, placement_of, won_by}
use Rattle.numa_core.specs.Executions.{CoreStep, IsRightPlacement, IsExhausted, world_of, worker_of}
use Rattle.numa_core.specs.Executions.{IsRightFrame, IsFull}
use Rattle.numa_requests.specs.declared.event.Event.{Event}
use Rattle.numa_requests.specs.declared.event.Event.TheVariants.{Try}
use Rattle.numa_requests.specs.declared.event.CoreReply.TheVariants.{Exhausted, Full, Found}
use Rattle.numa_requests.specs.declared.event.CoreReply.TheVariants.{Won as Won_page}
use Rattle.std.specs.Option.{option_map_or}
use Rattle.numa_requests.specs.declared.request.Request.{Request}
use Rattle.numa_core.proofs.Placing.{right, found}
use Rattle.numa_core.proofs.Exhausting.{exhausted, full as full_then}
use Rattle.numa_pool.specs.declared.view.Entry.{Entry}
use Rattle.numa_pool.specs.declared.view.Entry.TheVariants.{Load, Won, Lost, Gave}
use Rattle.numa_pool.specs.Walk.{AllFull}
use Rattle.numa_refinement.specs.WalkSteps.{MayCome, event_of}
use Rattle.numa_refinement.specs.Moves.{PoolState}
use Rattle.numa_refinement.specs.Plays.{Done, by_seat, with_event, execution_of, since_of, pools_of}
use Rattle.numa_refinement.specs.Plays.{IsPlay}
use Rattle.numa_refinement.specs.Tie.{HasMet}
use Rattle.numa_refinement.proofs.Current.{still, over}
use Rattle.numa_refinement.proofs.Keeping.{look-core_step, won-core_step, lost-core_step}
use Rattle.numa_refinement.proofs.Keeping.{look-meets}
use Rattle.numa_refinement.proofs.Meeting.{misses_alike}
use Rattle.numa_refinement.proofs.Playing.{Stands, plays}

same-try : (v w : ℕ) (f g : Frame) → ◌≡◌ {A = Event} (Try v f) (Try w g) → (v ≡ w) × (f ≡ g)
same-try v w f g e = (cc, cc)

same-worker : (v w : ℕ) → ◌≡◌ {A = Option ℕ} (Some v) (Some w) → v ≡ w
same-worker v w e = cc

module _ (s : Setup) (few : (n : ℕ) → slice_index s.machine.frames n ≤ 4096)
    (some_worker : 0 < s.workers) (first pools : PoolState) (done : List Done) (id : ℕ) where
  abbrev past : List CoreStep
  past = execution_of s done

  abbrev world : World
  world = world_of s past

  abbrev es : List Entry
  es = since_of s done id

  abbrev old : PoolState
  old = pools_of s first done

  same-frame_search : (a b : FrameSearch) → frame_search_of world id ≡ Some a
      → frame_search_of world id ≡ Some b → a ≡ b
  same-frame_search a b p q = let e : Some a ≡ Some b = sym p ∙ q in cc

  module _ (f : Frame) (h : IsPlay s first (by_seat id (Won f) pools ∷ done))
      (frame_search : FrameSearch) (busy : frame_search_of world id ≡ Some frame_search) where
    before : Stands s past old (since_of s done)
    before = plays s few some_worker first done h.0

    after : Stands s (with_event s 0 (Try id f) past) pools
        (since_of s (by_seat id (Won f) pools ∷ done))
    after = plays s few some_worker first (by_seat id (Won f) pools ∷ done) h

    abbrev try_step : CoreStep
    try_step = record { event = Try id f; version = 0; answer = answer_of s world 0 (Try id f) }

    answered : answer_of s world 0 (Try id f) ≡ Ok (won_by s frame_search f)
    answered = (won-core_step s world id 0 frame_search es old pools before.tied busy
        (before.met id frame_search busy) f h.1.1
        (subst (λ (a : FrameSearch). MayCome s.machine.frames a.nodes es (Won f))
        (same-frame_search h.1.0.0 frame_search h.1.0.1 busy) h.1.0.2)).1

    pub win-right : (request : Request) → frame_search.request ≡ Some request
        → (placement : Placement) × (placement.frame ≡ f) × IsRightPlacement s id placement past
    win-right request page =
        let placement = placement_of s frame_search f request in
        let found = right s past try_step placement after.legal (answered
        ∙ ap (λ (o : Option Request). Ok (option_map_or (λ r. Won_page (placement_of s frame_search
        f r)) o (Found f))) page) in
        let same = same-try id found.0 f f found.1 in
        (placement, refl, subst (λ w. IsRightPlacement s w placement past) (sym same.0) found.2)

    pub find-right : frame_search.request ≡ None → IsRightFrame s id f past
    find-right node =
        let found = found s past try_step f after.legal (answered
        ∙ ap (λ (o : Option Request). Ok (option_map_or (λ r. Won_page (placement_of s frame_search
        f r)) o (Found f))) node) in
        let same = same-try id found.0 f f found.1 in
        subst (λ w. IsRightFrame s w f past) (sym same.0) found.2

  module _ (e : Entry) (frame_search : FrameSearch) (h : IsPlay s first (by_seat id e pools ∷ done))
      (busy : frame_search_of world id ≡ Some frame_search)
      (full : AllFull s.machine.frames (e ∷ es) frame_search.nodes) where
    start : Stands s past old (since_of s done)
    start = plays s few some_worker first done h.0

    end : Stands s (with_event s 0 (event_of id e) past) pools
        (since_of s (by_seat id e pools ∷ done))
    end = plays s few some_worker first (by_seat id e pools ∷ done) h

    met : HasMet frame_search es
    met = start.met id frame_search busy

    abbrev Replies : Type 0
    Replies = (answer_of s world 0 (event_of id e) ≡ Ok (over_by frame_search))
        × (worker_of (event_of id e) ≡ Some id)

    abbrev last_step : CoreStep
    last_step = record {
      event = event_of id e;
      version = 0;
      answer = answer_of s world 0 (event_of id e);
    }

    -- what is over is right for a page, and for a node
    abbrev Over : Type 0
    Over = ((request : Request) → frame_search.request ≡ Some request
        → IsExhausted s id frame_search.version (last_step ∷ past))
        × (frame_search.request ≡ None → IsFull s id (last_step ∷ past))

    over-right : Replies → Over
    over-right r = (
      λ request page.
          let found = exhausted s past last_step frame_search.version end.legal (r.0
          ∙ ap (λ (o : Option Request). Ok (option_map_or (λ r. Exhausted frame_search.version) o
          Full)) page) in
          let same = same-worker id found.0 (sym r.1 ∙ found.1) in
          subst (λ w. IsExhausted s w frame_search.version (last_step ∷ past)) (sym same) found.2,
      λ node.
          let found = full_then s past last_step end.legal (r.0
          ∙ ap (λ (o : Option Request). Ok (option_map_or (λ r. Exhausted frame_search.version) o
          Full)) node) in
          let same = same-worker id found.0 (sym r.1 ∙ found.1) in
          subst (λ w. IsFull s w (last_step ∷ past)) (sym same) found.2,
    )

  pub end-right : (e : Entry) (frame_search : FrameSearch)
      → IsPlay s first (by_seat id e pools ∷ done) → frame_search_of world id ≡ Some frame_search
      → AllFull s.machine.frames (e ∷ es) frame_search.nodes
      → ((request : Request) → frame_search.request ≡ Some request
      → IsExhausted s id frame_search.version (with_event s 0 (event_of id e) past))
      × (frame_search.request ≡ None → IsFull s id (with_event s 0 (event_of id e) past))
  end-right (Load n w x) frame_search h busy full =
      let tied = (start (Load n w x) frame_search h busy full).tied in
      let has = met (Load n w x) frame_search h busy full in
      let next = subst (λ (a : FrameSearch). MayCome s.machine.frames a.nodes es (Load n w x))
      (same-frame_search h.1.0.0 frame_search h.1.0.1 busy) h.1.0.2 in
      let core_step = look-core_step s world id 0 frame_search es old pools tied busy has n w x
      h.1.1 next in
      let meets = look-meets s world id 0 frame_search es old pools tied busy has n w x h.1.1
      next in
      over-right (Load n w x) frame_search h busy full (
        core_step.1 ∙ ap Ok
            (over s (frame_search_after_look s world w frame_search) (Load n w x ∷ es) meets
            full).0,
        refl,
      )
  end-right (Lost f) frame_search h busy full =
      let tied = (start (Lost f) frame_search h busy full).tied in
      let has = met (Lost f) frame_search h busy full in
      let next = subst (λ (a : FrameSearch). MayCome s.machine.frames a.nodes es (Lost f))
      (same-frame_search h.1.0.0 frame_search h.1.0.1 busy) h.1.0.2 in
      let core_step = lost-core_step s world id 0 frame_search es old pools tied busy has f h.1.1
      next in
      over-right (Lost f) frame_search h busy full (
        core_step.1 ∙ ap Ok
            (over s (frame_search_past f frame_search) (Lost f ∷ es)
            (misses_alike frame_search es f has) full).0,
        refl,
      )
  end-right (Won f) frame_search h busy full =
      let has = met (Won f) frame_search h busy full in
      let next = subst (λ (a : FrameSearch). MayCome s.machine.frames a.nodes es (Won f))
      (same-frame_search h.1.0.0 frame_search h.1.0.1 busy) h.1.0.2 in
      let on = still s frame_search es has f.node next.0 in
      let off = over s frame_search (Won f ∷ es) (λ n k. has n k) full in
      let odd : ◌≡◌ {A = Option FrameSearch} (Some frame_search) None = sym on.1 ∙ off.1 in
      absurd (cc)
  end-right (Gave f) frame_search h busy full = let odd : ◌≡◌ {A = Option FrameSearch} None
      (Some frame_search) = sym h.1.0 ∙ busy in absurd (cc)
