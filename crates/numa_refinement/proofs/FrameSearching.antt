-- A walk, step by step, is a frame search.
use Rattle.std.proofs.Common.{◌≡◌, ℕ, nat_le, List, [], ◌∷◌, Bool, false, Option, Some, None}
use Rattle.std.proofs.Common.{unwrap_or, refl, sym, ap, ◌∙◌, subst, eq-eqb, ne_eqb, arith}
use Rattle.std.proofs.Common.{if◌then◌else◌}
use Rattle.std.specs.Prelude.{slice_get, slice_index, ◌||◌, ◌==◌}
use Rattle.std.specs.Option.{option_map_or}
use Rattle.numa_machine.specs.declared.frame.Frame.{Frame}
use Rattle.numa_requests.specs.declared.request.Request.{Request}
use Rattle.numa_core.specs.World.{Setup, World, FrameSearch, frame_search_of, last_of, list_at}
use Rattle.numa_core.specs.World.{frame_search_after_look, look_finds, frame_search_past, is_frame}
use Rattle.numa_core.specs.World.{fresh, seeking, current_rank}
use Rattle.numa_core.specs.Steps.{effect_of, goes_on, going_on, placement_of, won_by, with_owner}
use Rattle.numa_core.specs.Steps.{with_worker}
use Rattle.numa_requests.specs.declared.event.Event.TheVariants.{Begin, Seek}
use Rattle.numa_requests.specs.declared.event.CoreReply.{CoreReply}
use Rattle.numa_requests.specs.declared.event.CoreReply.TheVariants.{Still, Won as replied_won}
use Rattle.numa_requests.specs.declared.event.CoreReply.TheVariants.{Exhausted, Full}
use Rattle.numa_requests.specs.declared.event.CoreReply.TheVariants.{Found as replied_found}
use Rattle.numa_pool.specs.declared.view.Entry.{Entry}
use Rattle.numa_pool.specs.declared.view.Entry.TheVariants.{Load, Won, Lost, Gave}
use Rattle.numa_pool.specs.Walk.{met, Searches, IsWalk, IsNext}
use Rattle.numa_refinement.specs.FrameSearches.{Turn, steps_of, world_left, TakesTurns}
use Rattle.numa_refinement.specs.FrameSearches.{IsFrameSearch, IsNodeSearch, IsSearch, Tells}
use Rattle.numa_refinement.specs.FrameSearches.{TellsOfPage, TellsOfNode}
use Rattle.numa_refinement.specs.WalkSteps.{IsCoreStep, MayBegin, MaySeek, MayCome, event_of}
use Rattle.numa_refinement.specs.Moves.{PoolState, Makes}
use Rattle.numa_refinement.specs.Tie.{HasMet, IsTied}
use Rattle.numa_refinement.proofs.Allowed.{no_less, look-effect, won-effect, lost-effect}
use Rattle.numa_refinement.proofs.Current.{is-at, still, over}
use Rattle.numa_refinement.proofs.Keeping.{there-of, free-of, owner-of, look-core_step}
use Rattle.numa_refinement.proofs.Keeping.{won-core_step, lost-core_step, look-meets}
use Rattle.numa_refinement.proofs.Meeting.{misses_alike}

-- a worker's own frame search, after it changed
pub own-frame_search : (world : World) (id last : ℕ) (o : Option FrameSearch)
    → frame_search_of (with_worker world id last o) id ≡ o
own-frame_search world id last o =
    ap (λ b.
    (if b then (record { last = last; frame_search = o }) else world.worker id).frame_search)
    (eq-eqb id id refl)

-- a search that begins with a request
module _ (s : Setup) (id version : ℕ) (request : Request) (nodes : List ℕ) (first : World)
    (may : MayBegin s first id version request nodes) where
  pub begun-as : frame_search_of (effect_of s first version (Begin id request)) id
      ≡ going_on s (fresh (Some request) version nodes)
  begun-as =
      own-frame_search first id version
      (going_on s
      (fresh (Some request) version
      (unwrap_or (list_at s.machine first.history version request) [])))
      ∙ ap (λ o. going_on s (fresh (Some request) version (unwrap_or o []))) may.listed

  pub begins : IsCoreStep s first version (Begin id request) (goes_on s
      (fresh (Some request) version nodes))
  begins =
      let there : nat_le s.workers id ≡ false = no_less s.workers id may.there in
      let cpu : nat_le s.machine.nodes request.cpu ≡ false =
      no_less s.machine.nodes request.cpu may.cpu in
      let idle = may.idle in
      let listed = may.listed in
      ((may.published, may.not_older), rw (there, idle, cpu, listed) refl)

-- a search that seeks a frame of a node
module _ (s : Setup) (id version node : ℕ) (first : World)
    (may : MaySeek s first id version node) where
  pub sought-as : frame_search_of (effect_of s first version (Seek id node)) id
      ≡ going_on s (seeking version node)
  sought-as = own-frame_search first id version (going_on s (seeking version node))

  pub seeks : IsCoreStep s first version (Seek id node) (goes_on s (seeking version node))
  seeks =
      let there : nat_le s.workers id ≡ false = no_less s.workers id may.there in
      let idle = may.idle in
      let some_frames = may.some in
      let some : (slice_index s.machine.frames node == 0) ≡ false =
      ne_eqb (slice_index s.machine.frames node) 0 (λ e. absurd (omega (arith, e, some_frames))) in
      ((may.published, may.not_older), rw (there, idle, some) refl)

module _ (s : Setup) (id version : ℕ) (request : Option Request) (nodes : List ℕ) where
  -- the frame search for the request that has met these frames
  abbrev pub searching : (ℕ → ℕ → Bool) → FrameSearch
  searching seen = record { request = request; version = version; nodes = nodes; met = seen }

  -- what holds of the frame search once these steps were made, which led to this world
  abbrev pub Follows : World → List Entry → (ℕ → ℕ → Bool) → Type 0
  Follows world es seen = HasMet (searching seen) es
      × (frame_search_of world id ≡ going_on s (searching seen))

  -- one more step of the search
  abbrev pub Next : World → Entry → List Entry → Type 0
  Next world e es = (seen : ℕ → ℕ → Bool) × Follows (effect_of s world 0 (event_of id e)) (e ∷ es)
      seen × IsCoreStep s world 0 (event_of id e) (goes_on s (searching seen))

  pub goes : (world : World) (before after : PoolState) (e : Entry) (es : List Entry)
      (seen : ℕ → ℕ → Bool) → IsTied s world before → Makes e id before after
      → HasMet (searching seen) es → frame_search_of world id ≡ Some (searching seen)
      → Searches s.machine.frames nodes (e ∷ es) → Next world e es
  goes world before after (Load n w x) es seen tied m met busy h =
      let frame_search = searching seen in
      let there = there-of s world before after id tied m.2.before m.2.shown in
      let next : MayCome s.machine.frames nodes es (Load n w x) = (h.1, h.2) in (
        (λ i k. look_finds s world w frame_search i k || seen i k),
        (
          look-meets s world id 0 frame_search es before after tied busy met n w x m next,
          ap (λ v. frame_search_of v id) (look-effect s world 0 id there frame_search busy w)
              ∙ own-frame_search world id (last_of world id)
              (going_on s (frame_search_after_look s world w frame_search)),
        ),
        look-core_step s world id 0 frame_search es before after tied busy met n w x m next,
      )
  goes world before after (Lost f) es seen tied m met busy h =
      let frame_search = searching seen in
      let there = there-of s world before after id tied m.1.before m.1.shown in
      let owner = owner-of s world before after id tied f h.1.1 m.0 in (
        (λ i k. is_frame f i k || seen i k),
        (
          misses_alike frame_search es f met,
          ap (λ v. frame_search_of v id)
              (lost-effect s world 0 id there frame_search busy f owner.0 owner.1)
              ∙ own-frame_search world id (last_of world id)
              (going_on s (frame_search_past f frame_search)),
        ),
        lost-core_step s world id 0 frame_search es before after tied busy met f m h.1,
      )
  goes world before after (Won f) es seen tied m met busy h = absurd h
  goes world before after (Gave f) es seen tied m met busy h = absurd h

  -- a search that may go on has a current node
  may-go : (e : Entry) (es : List Entry) (seen : ℕ → ℕ → Bool) → HasMet (searching seen) es
      → Searches s.machine.frames nodes (e ∷ es) → (goes_on s (searching seen) ≡ Still)
      × (going_on s (searching seen) ≡ Some (searching seen))
  may-go (Load n w x) es seen met h = still s (searching seen) es met n h.1
  may-go (Lost f) es seen met h = still s (searching seen) es met f.node h.1.0
  may-go (Won f) es seen met h = absurd h
  may-go (Gave f) es seen met h = absurd h

  earlier : (e : Entry) (es : List Entry) → Searches s.machine.frames nodes (e ∷ es)
      → Searches s.machine.frames nodes es
  earlier (Load n w x) es h = h.0
  earlier (Lost f) es h = h.0
  earlier (Won f) es h = absurd h
  earlier (Gave f) es h = absurd h

  module _ (Begins : CoreReply → Type 0) (start : World)
      (begun : frame_search_of start id ≡ going_on s (fresh request version nodes))
      (begins-so : Begins (goes_on s (fresh request version nodes))) where
    abbrev Searched : List Turn → Type 0
    Searched turns = (seen : ℕ → ℕ → Bool) × Follows (world_left s id start turns) (steps_of turns)
        seen × IsSearch s id Begins (goes_on s (searching seen)) turns

    searched : (turns : List Turn) → TakesTurns s id start turns
        → Searches s.machine.frames nodes (steps_of turns) → Searched turns
    searched [] took h = ((λ n k. false), ((λ n k. refl), begun), begins-so)
    searched (t ∷ turns) took h =
        let so_far = searched turns took.0 (earlier t.step (steps_of turns) h) in
        let on = may-go t.step (steps_of turns) so_far.0 so_far.1.0 h in
        let busy = took.3 ∙ so_far.1.1 ∙ on.1 in
        let now = goes t.world t.before t.after t.step (steps_of turns) so_far.0 took.1 took.2
        so_far.1.0 busy h in (
          now.0,
          now.1,
          (now.2, subst (λ r. IsSearch s id Begins r turns) on.0 so_far.2),
        )

    abbrev Ends : Option Frame → List Turn → Type 0
    Ends found turns =
        ((reply : CoreReply) × Tells version request nodes found reply
        × IsSearch s id Begins reply turns)
        × (frame_search_of (world_left s id start turns) id ≡ None)

    -- what a search is answered that wins a frame
    tells : (o : Option Request) (g : Frame) (seen : ℕ → ℕ → Bool)
        → slice_get nodes (unwrap_or (current_rank s (searching seen)) 0) ≡ Some g.node
        → Tells version o nodes (Some g)
        (option_map_or (λ r. replied_won (placement_of s (searching seen) g r)) o
        (replied_found g))
    tells None g seen at = refl
    tells (Some r) g seen at = (
      placement_of s (searching seen) g r,
      refl,
      record {
        version_is = refl;
        task = refl;
        page = refl;
        frame_is = refl;
        node = refl;
        rank = at;
      },
    )

    -- and one that is over
    tells-end : (o : Option Request) (reply : CoreReply)
        → reply ≡ option_map_or (λ r. Exhausted version) o Full → Tells version o nodes None reply
    tells-end None reply is = is
    tells-end (Some r) reply is = is

    -- the last step wins a frame
    wins : (f : Frame) (world : World) (before after : PoolState) (e : Entry) (turns : List Turn)
        → e ≡ Won f → IsTied s world before → Makes e id before after
        → frame_search_of world id ≡ frame_search_of (world_left s id start turns) id
        → TakesTurns s id start turns → Searches s.machine.frames nodes (steps_of turns)
        → IsNext s.machine.frames (steps_of turns) nodes f
        → ((reply : CoreReply) × Tells version request nodes (Some f) reply
        × IsCoreStep s world 0 (event_of id e) reply × IsSearch s id Begins Still turns)
        × (frame_search_of (effect_of s world 0 (event_of id e)) id ≡ None)
    wins f world before after (Won g) turns is tied m same took h next =
        let frames_same : g ≡ f = cc in
        let next_g = subst (λ x. IsNext s.machine.frames (steps_of turns) nodes x) (sym frames_same)
        next in
        let so_far = searched turns took h in
        let frame_search = searching so_far.0 in
        let on = still s frame_search (steps_of turns) so_far.1.0 g.node next_g.0 in
        let busy = same ∙ so_far.1.1 ∙ on.1 in
        let there = there-of s world before after id tied m.1.before m.1.shown in
        let free = free-of s world before after id tied g next_g.1 m.0 in
        let at = is-at s frame_search (steps_of turns) so_far.1.0 g.node next_g.0 in
        let told : (o : Option Request) → Tells version o nodes (Some g)
        (option_map_or (λ r. replied_won (placement_of s frame_search g r)) o (replied_found g)) =
        λ o. tells o g so_far.0
        (ap (λ o. slice_get nodes (unwrap_or o 0)) at.1 ∙ at.2) in (
          (
            won_by s frame_search g,
            subst (λ x. Tells version request nodes (Some x) (won_by s frame_search g)) frames_same
                (told request),
            won-core_step s world id 0 frame_search (steps_of turns) before after tied busy
                so_far.1.0 g m next_g,
            subst (λ r. IsSearch s id Begins r turns) on.0 so_far.2,
          ),
          ap (λ v. frame_search_of v id) (won-effect s world 0 id there g free)
              ∙ own-frame_search (with_owner world g (Some id)) id (last_of world id) None,
        )
    wins f world before after (Load n w x) turns is tied m same took h next = absurd (cc)
    wins f world before after (Lost g) turns is tied m same took h next = absurd (cc)
    wins f world before after (Gave g) turns is tied m same took h next = absurd (cc)

    pub ends-from : (found : Option Frame) (turns : List Turn) → TakesTurns s id start turns
        → IsWalk s.machine.frames nodes found (steps_of turns) → Ends found turns
    ends-from None turns took h =
        let all = searched turns took h.0 in
        let end = over s (searching all.0) (steps_of turns) all.1.0 h.1 in
        ((goes_on s (searching all.0), tells-end request _ end.0, all.2), all.1.1 ∙ end.1)
    ends-from (Some f) [] took h = absurd h
    ends-from (Some f) (t ∷ turns) took h =
        let last = wins f t.world t.before t.after t.step turns h.0 took.1 took.2 took.3 took.0 h.1
        h.2 in
        ((last.0.0, last.0.1, (last.0.2, last.0.3)), last.1)

-- a frame search that begins with a request, to its end
pub ends : (s : Setup) (id version : ℕ) (request : Request) (nodes : List ℕ) (first : World)
    → MayBegin s first id version request nodes
    → (found : Option Frame) (turns : List Turn)
    → TakesTurns s id (effect_of s first version (Begin id request)) turns
    → IsWalk s.machine.frames nodes found (steps_of turns)
    → ((reply : CoreReply) × TellsOfPage version request nodes found reply
    × IsFrameSearch s id first version request reply turns)
    × (frame_search_of (world_left s id (effect_of s first version (Begin id request)) turns) id
    ≡ None)
ends s id version request nodes first may =
    ends-from s id version (Some request) nodes
    (λ reply. IsCoreStep s first version (Begin id request) reply)
    (effect_of s first version (Begin id request))
    (begun-as s id version request nodes first may) (begins s id version request nodes first may)

-- and one that seeks a frame of a node
pub seeks-on : (s : Setup) (id version node : ℕ) (first : World)
    → MaySeek s first id version node → (found : Option Frame) (turns : List Turn)
    → TakesTurns s id (effect_of s first version (Seek id node)) turns
    → IsWalk s.machine.frames (node ∷ []) found (steps_of turns)
    → ((reply : CoreReply) × TellsOfNode found reply
    × IsNodeSearch s id first version node reply turns)
    × (frame_search_of (world_left s id (effect_of s first version (Seek id node)) turns) id
    ≡ None)
seeks-on s id version node first may =
    ends-from s id version None (node ∷ [])
    (λ reply. IsCoreStep s first version (Seek id node) reply)
    (effect_of s first version (Seek id node))
    (sought-as s id version node first may) (seeks s id version node first may)
