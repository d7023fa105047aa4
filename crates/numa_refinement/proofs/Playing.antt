-- An interleaving of seats and workers is an execution of the core.
use Rattle.std.proofs.Common.{◌≡◌, ℕ, ◌<◌, ◌≤◌, List, [], ◌∷◌, Some, is_ok, refl, sym, ap, subst}
use Rattle.std.proofs.Common.{inl}
use Rattle.std.specs.Prelude.{slice_index}
use Rattle.numa_core.specs.World.{Setup, World, FrameSearch, new_frame_search, seeking}
use Rattle.numa_core.specs.World.{frame_search_of}
use Rattle.numa_core.specs.Steps.{answer_of, effect_of, going_on, world_after}
use Rattle.numa_core.specs.Executions.{CoreStep, IsExecution, world_of}
use Rattle.numa_requests.specs.declared.event.Event.{Event}
use Rattle.numa_requests.specs.declared.event.Event.TheVariants.{Accept, Publish, Begin, Seek}
use Rattle.numa_requests.specs.declared.event.Event.TheVariants.{Look, Try, Give}
use Rattle.numa_requests.specs.declared.event.CoreReply.{CoreReply}
use Rattle.numa_requests.specs.declared.event.CoreReply.TheVariants.{Given}
use Rattle.numa_core.specs.Steps.{goes_on, won_by}
use Rattle.numa_core.specs.World.{frame_search_after_look, frame_search_past}
use Rattle.numa_pool.specs.declared.view.Entry.{Entry}
use Rattle.numa_pool.specs.declared.view.Entry.TheVariants.{Load, Won, Lost, Gave}
use Rattle.numa_refinement.specs.WalkSteps.{IsCoreStep, MayCome, event_of}
use Rattle.numa_refinement.specs.Moves.{PoolState, Makes}
use Rattle.numa_refinement.specs.Plays.{since_deed, Deed, makes_step, splits, has_event, Done}
use Rattle.numa_refinement.specs.Plays.{IsApart, since_event, MayStep, Fits, with_event, with_deed}
use Rattle.numa_refinement.specs.Plays.{execution_of, since_of, pools_of, IsPlay, NoneRefused}
use Rattle.numa_refinement.specs.Tie.{IsTied, HaveMet, noted}
use Rattle.numa_refinement.proofs.Handing.{opening-ties, split-ties}
use Rattle.numa_refinement.proofs.Keeping.{met-put, met-idle, goes-on-as, look-core_step}
use Rattle.numa_refinement.proofs.Keeping.{won-core_step, lost-core_step, step-ties, step-meets}
use Rattle.numa_refinement.proofs.Keeping.{give-core_step, give-ties}

module _ (s : Setup) where
  -- an execution that is legal and refuses nothing, and leads to a world that is tied to these
  -- pools
  pub record Stands (past : List CoreStep) (state : PoolState) (since : ℕ → List Entry) :
      Type 0 where
    pub legal : IsExecution s past
    pub granted : NoneRefused past
    pub tied : IsTied s (world_of s past) state
    pub met : HaveMet (world_of s past) since

  -- one step more
  more : (past : List CoreStep) (state new : PoolState) (since later : ℕ → List Entry) (version : ℕ)
      (event : Event) (reply : CoreReply) → Stands past state since
      → IsCoreStep s (world_of s past) version event reply
      → IsTied s (effect_of s (world_of s past) version event) new
      → HaveMet (effect_of s (world_of s past) version event) later
      → Stands (with_event s version event past) new later
  more past state new since later version event reply h m tied met =
      let world = world_of s past in
      let leads : effect_of s world version event ≡ world_after s world version event
      (answer_of s world version event) = ap (world_after s world version event) (sym m.1) in
      record {
        legal = (h.legal, m.0, inl refl);
        granted = (ap is_ok m.1, h.granted);
        tied = subst (λ w. IsTied s w new) leads tied;
        met = subst (λ w. HaveMet w later) leads met;
      }

  -- what an event apart leaves
  pub apart-ties : (world : World) (state : PoolState) (version : ℕ) (event : Event) → IsApart event
      → IsTied s world state → IsTied s (effect_of s world version event) state
  apart-ties world state version (Accept command) h t =
      record { few = t.few; rule = t.rule; owners = t.owners; workers = t.workers }
  apart-ties world state version Publish h t =
      record { few = t.few; rule = t.rule; owners = t.owners; workers = t.workers }
  apart-ties world state version (Begin w request) h t =
      record { few = t.few; rule = t.rule; owners = t.owners; workers = t.workers }
  apart-ties world state version (Seek w node) h t =
      record { few = t.few; rule = t.rule; owners = t.owners; workers = t.workers }
  apart-ties world state version (Look w word) h t = absurd h
  apart-ties world state version (Try w frame) h t = absurd h
  apart-ties world state version (Give w frame) h t = absurd h

  pub apart-meets : (world : World) (since : ℕ → List Entry) (version : ℕ) (event : Event)
      → IsApart event → HaveMet world since
      → HaveMet (effect_of s world version event) (since_event event since)
  apart-meets world since version (Accept command) h met = met
  apart-meets world since version Publish h met = met
  apart-meets world since version (Begin w request) h met =
      met-put world since met w version (going_on s (new_frame_search s world version request)) []
      (λ frame_search e. goes-on-as s (new_frame_search s world version request) frame_search []
      (λ n k. refl) e)
  apart-meets world since version (Seek w node) h met =
      met-put world since met w version (going_on s (seeking version node)) []
      (λ frame_search e. goes-on-as s (seeking version node) frame_search []
      (λ n k. refl) e)
  apart-meets world since version (Look w word) h met = absurd h
  apart-meets world since version (Try w frame) h met = absurd h
  apart-meets world since version (Give w frame) h met = absurd h

  module _ (past : List CoreStep) (old new : PoolState) (since : ℕ → List Entry)
      (h : Stands past old since) where
    abbrev world : World
    world = world_of s past

    -- a step of a walk
    walks : (id : ℕ) (e : Entry) (frame_search : FrameSearch) (reply : CoreReply)
        → frame_search_of world id ≡ Some frame_search → MayCome s.machine.frames frame_search.nodes
        (since id) e → Makes e id old new → IsCoreStep s world 0 (event_of id e) reply
        → Stands (with_event s 0 (event_of id e) past) new (noted since id e)
    walks id e frame_search reply busy next m core_step =
        let met = h.met id frame_search busy in
        more past old new since (noted since id e) 0 (event_of id e) reply h core_step
        (step-ties s world id 0 frame_search (since id) old new h.tied busy met e m next)
        (step-meets s world id 0 frame_search (since id) old new h.tied busy met since h.met e m
        next)

    steps : (id : ℕ) (e : Entry) → MayStep s world since id e → Makes e id old new
        → Stands (with_event s 0 (event_of id e) past) new (noted since id e)
    steps id (Load n w x) may m =
        let met = h.met id may.0 may.1 in
        walks id (Load n w x) may.0 (goes_on s (frame_search_after_look s world w may.0)) may.1
        may.2 m
        (look-core_step s world id 0 may.0 (since id) old new h.tied may.1 met n w x m may.2)
    steps id (Won f) may m =
        let met = h.met id may.0 may.1 in
        walks id (Won f) may.0 (won_by s may.0 f) may.1 may.2 m
        (won-core_step s world id 0 may.0 (since id) old new h.tied may.1 met f m may.2)
    steps id (Lost f) may m =
        let met = h.met id may.0 may.1 in
        walks id (Lost f) may.0 (goes_on s (frame_search_past f may.0)) may.1 may.2 m
        (lost-core_step s world id 0 may.0 (since id) old new h.tied may.1 met f m may.2)
    steps id (Gave f) may m =
        more past old new since (noted since id (Gave f)) 0 (Give id f) Given h
        (give-core_step s world old new id 0 f h.tied may m)
        (give-ties s world old new id 0 f h.tied may m)
        (met-idle world since h.met id may (Gave f ∷ since id))

    deeds : (d : Deed) → Fits s world since d old new
        → Stands (with_deed s d past) new (since_deed d since)
    deeds (makes_step id e) fit = steps id e fit.0 fit.1
    deeds (splits id) fit = record {
      legal = h.legal;
      granted = h.granted;
      tied = split-ties s world old new id h.tied fit.1 fit.0;
      met = h.met;
    }
    deeds (has_event version event) fit =
        more past old new since (since_event event since) version event fit.2.0 h fit.2.1
        (subst (λ state. IsTied s (effect_of s world version event) state) (sym fit.1)
        (apart-ties world old version event fit.0 h.tied))
        (apart-meets world since version event fit.0 h.met)

  module _ (few : (n : ℕ) → slice_index s.machine.frames n ≤ 4096) (some_worker : 0 < s.workers)
      (first : PoolState) where
    pub plays : (done : List Done) → IsPlay s first done
        → Stands (execution_of s done) (pools_of s first done) (since_of s done)
    plays [] fresh = record {
      legal = tt;
      granted = tt;
      tied = opening-ties s first few some_worker fresh;
      met = λ id frame_search e. absurd (cc);
    }
    plays (d ∷ done) h = deeds (execution_of s done) (pools_of s first done) d.pools
        (since_of s done) (plays done h.0) d.deed h.1
