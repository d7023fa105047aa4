-- A reply Exhausted or Full: each frame of each listed node was found with an owner.
use Rattle.std.proofs.Common.{◌≡◌, ℕ, ◌<◌, Option, Some, None, Ok, is_some, List, ◌∷◌, refl, sym}
use Rattle.std.proofs.Common.{subst, ap, true, length, arith}
use Rattle.std.proofs.Common.{◌∙◌, not, if◌then◌else◌, slice_index}
use Rattle.std.specs.Option.{option_map_or}
use Rattle.std.proofs.lemmas.Bool.{eq-eqb}
use Rattle.numa_machine.specs.Machine.{frames_of}
use Rattle.numa_requests.specs.declared.event.Event.{Event}
use Rattle.numa_requests.specs.declared.event.Event.TheVariants.{Accept, Publish, Begin, Seek, Look}
use Rattle.numa_requests.specs.declared.event.Event.TheVariants.{Try, Give}
use Rattle.numa_requests.specs.declared.event.CoreReply.{CoreReply}
use Rattle.numa_requests.specs.declared.event.CoreReply.TheVariants.{Still, Exhausted, Won, Full}
use Rattle.numa_requests.specs.declared.event.CoreReply.TheVariants.{Found, Accepted, Published}
use Rattle.numa_requests.specs.declared.event.CoreReply.TheVariants.{Given}
use Rattle.numa_requests.specs.declared.placement.Placement.{Placement}
use Rattle.numa_requests.specs.declared.request.Request.{Request}
use Rattle.numa_machine.specs.declared.frame.Frame.{Frame}
use Rattle.numa_core.specs.World.{Setup, FrameSearch, frame_search_of, owner_of, current_rank}
use Rattle.numa_core.specs.World.{has_unmet, new_frame_search, frame_search_after_look}
use Rattle.numa_core.specs.World.{frame_search_past, seeking}
use Rattle.numa_core.specs.Steps.{refusal_of, reply_of, goes_on, over_by, won_by, placement_of}
use Rattle.numa_core.specs.Steps.{IsAnswer, MayTake}
use Rattle.numa_core.specs.Executions.{CoreStep, world_of, IsExecution, IsExhausted, IsFull}
use Rattle.numa_core.specs.Executions.{worker_of, found_owned}
use Rattle.numa_core.proofs.Answered.{replied}
use Rattle.numa_core.proofs.Versions.{sound}
use Rattle.numa_core.proofs.Tracking.{Tracked, core_step, tracked, tracked-begun, tracked-sought}
use Rattle.numa_core.proofs.Tracking.{tracked-looked, tracked-missed, page-begun, node-sought}
use Rattle.numa_core.proofs.Placing.{any_below-none, first_place-none, not_false-is}

-- a reply that no frame search gives that goes on or wins
abbrev IsEnd : CoreReply → Type 0
IsEnd reply = (reply ≡ Still → ⊥)
    × (((placement : Placement) → reply ≡ Won placement → ⊥)
    × ((frame : Frame) → reply ≡ Found frame → ⊥))

exhausted-end : (version : ℕ) → IsEnd (Exhausted version)
exhausted-end version = (λ e. cc, (λ placement e. cc, λ frame e. cc))

full-end : IsEnd Full
full-end = (λ e. cc, (λ placement e. cc, λ frame e. cc))

-- a frame search that is over
record IsOver (s : Setup) (past : List CoreStep) (w : ℕ) (reply : CoreReply) : Type 0 where
  frame_search : FrameSearch
  search_tracked : Tracked s past w frame_search
  over : current_rank s frame_search ≡ None
  is : reply ≡ over_by frame_search

is_over : (s : Setup) (past : List CoreStep) (w : ℕ) (reply : CoreReply)
    (frame_search : FrameSearch) → IsEnd reply → Tracked s past w frame_search
    → reply ≡ goes_on s frame_search → IsOver s past w reply
is_over s past w reply frame_search end t e = go (current_rank s frame_search) refl e
  where
    go : (o : Option ℕ) → current_rank s frame_search ≡ o
        → reply ≡ (if is_some o then Still else over_by frame_search) → IsOver s past w reply
    go None none e = record {
      frame_search = frame_search;
      search_tracked = t;
      over = none;
      is = e;
    }
    go (Some rank) some e = absurd (end.0 e)

-- each frame of each node in which it looked was found with an owner
all_met : (s : Setup) (past : List CoreStep) (w : ℕ) (reply : CoreReply)
    (o : IsOver s past w reply) (i k : ℕ) → i < length o.frame_search.nodes
    → k < frames_of s.machine (slice_index o.frame_search.nodes i)
    → found_owned s w past (slice_index o.frame_search.nodes i) k ≡ true
all_met s past w reply o i k low few =
    sym (o.search_tracked.met (slice_index o.frame_search.nodes i) k)
    ∙ not_false-is _
    (any_below-none (λ k. not (o.frame_search.met (slice_index o.frame_search.nodes i) k))
    (frames_of s.machine (slice_index o.frame_search.nodes i)) k
    (first_place-none (has_unmet s o.frame_search) o.frame_search.nodes o.over i low) few)

-- what is known of the worker of an event that is answered so
abbrev Ends : Setup → List CoreStep → ℕ → Event → CoreReply → Type 0
Ends s past version event reply = (w : ℕ) × (worker_of event ≡ Some w)
    × IsOver s (core_step event version (Ok reply) ∷ past) w reply

ended-step : (s : Setup) (past : List CoreStep) (version : ℕ) (event : Event) (reply : CoreReply)
    → IsEnd reply → ((n : ℕ) → reply ≡ Accepted n → ⊥) → ((n : ℕ) → reply ≡ Published n → ⊥)
    → (reply ≡ Given → ⊥)
    → IsExecution s past → MayTake (world_of s past) version event
    → refusal_of s (world_of s past) version event ≡ None
    → reply ≡ reply_of s (world_of s past) version event → Ends s past version event reply
ended-step s past version (Accept command) reply end no_a no_p no_g legal may ok e =
    absurd (no_a _ e)
ended-step s past version Publish reply end no_a no_p no_g legal may ok e = absurd (no_p _ e)
ended-step s past version (Begin v request) reply end no_a no_p no_g legal may ok e = (
  v,
  refl,
  is_over s (core_step (Begin v request) version (Ok reply) ∷ past) v reply
      (new_frame_search s (world_of s past) version request) end
      (tracked-begun s past version v v request reply (sound s past legal) may ok
      (eq-eqb v v refl)) e,
)
ended-step s past version (Seek v node) reply end no_a no_p no_g legal may ok e = (
  v,
  refl,
  is_over s (core_step (Seek v node) version (Ok reply) ∷ past) v reply
      (seeking version node) end
      (tracked-sought s past version v v node reply (sound s past legal) may
      (eq-eqb v v refl)) e,
)
ended-step s past version (Look v word) reply end no_a no_p no_g legal may ok e =
    go (frame_search_of (world_of s past) v) refl e
  where
    go : (o : Option FrameSearch) → frame_search_of (world_of s past) v ≡ o
        → reply
        ≡ option_map_or
        (λ frame_search. goes_on s (frame_search_after_look s (world_of s past) word frame_search))
        o Still → Ends s past version (Look v word) reply
    go None is e = absurd (end.0 e)
    go (Some frame_search) is e = (
      v,
      refl,
      is_over s (core_step (Look v word) version (Ok reply) ∷ past) v reply
          (frame_search_after_look s (world_of s past) word frame_search) end
          (tracked-looked s past version v v word reply frame_search (eq-eqb v v refl)
          is (tracked s past legal v frame_search is)) e,
    )
ended-step s past version (Try v frame) reply end no_a no_p no_g legal may ok e =
    go (owner_of (world_of s past) frame) refl (frame_search_of (world_of s past) v) refl e
  where
    no_win : (frame_search : FrameSearch) (o : Option Request)
        → reply ≡ option_map_or (λ r. Won (placement_of s frame_search frame r)) o (Found frame)
        → ⊥
    no_win frame_search None e = end.1.1 frame e
    no_win frame_search (Some r) e = end.1.0 (placement_of s frame_search frame r) e

    go : (owner : Option ℕ) → owner_of (world_of s past) frame ≡ owner → (o : Option FrameSearch)
        → frame_search_of (world_of s past) v ≡ o
        → reply
        ≡ (if is_some owner then option_map_or
        (λ frame_search. goes_on s (frame_search_past frame frame_search)) o Still
        else option_map_or (λ frame_search. won_by s frame_search frame) o Still)
        → Ends s past version (Try v frame) reply
    go (Some u) owned None is e = absurd (end.0 e)
    go (Some u) owned (Some frame_search) is e = (
      v,
      refl,
      is_over s (core_step (Try v frame) version (Ok reply) ∷ past) v reply
          (frame_search_past frame frame_search) end
          (tracked-missed s past version v v u frame reply frame_search owned
          (eq-eqb v v refl) (tracked s past legal v frame_search is)) e,
    )
    go None owned None is e = absurd (end.0 e)
    go None owned (Some frame_search) is e =
        absurd (no_win frame_search frame_search.request e)
ended-step s past version (Give v frame) reply end no_a no_p no_g legal may ok e = absurd (no_g e)

-- what a search for a page is answered that is over
page_over : (version told : ℕ) (o : Option Request)
    → Exhausted told ≡ option_map_or (λ r. Exhausted version) o Full
    → (request : Request) × (o ≡ Some request) × (version ≡ told)
page_over version told None e = absurd (cc)
page_over version told (Some request) e = (request, refl, cc)

node_over : (version : ℕ) (o : Option Request)
    → Full ≡ option_map_or (λ r. Exhausted version) o Full → o ≡ None
node_over version None e = refl
node_over version (Some request) e = absurd (cc)

-- each reply Exhausted is to a worker whose list is exhausted
pub exhausted : (s : Setup) (past : List CoreStep) (m : CoreStep) (version : ℕ)
    → IsExecution s (m ∷ past) → m.answer ≡ Ok (Exhausted version)
    → (w : ℕ) × (worker_of m.event ≡ Some w) × IsExhausted s w version (m ∷ past)
exhausted s past m version legal e =
    let answer = replied s (world_of s past) m.version m.event (Exhausted version)
    (subst (λ a. IsAnswer s (world_of s past) m.version m.event a) e legal.2) in
    let end = ended-step s past m.version m.event (Exhausted version) (exhausted-end version)
    (λ n e. cc) (λ n e. cc) (λ e. cc) legal.0 legal.1 answer.0 answer.1 in
    let now = core_step m.event m.version (Ok (Exhausted version)) ∷ past in
    let o = end.2 in
    let page = page_over o.frame_search.version version o.frame_search.request o.is in
    let last = page-begun s now end.0 o.frame_search page.0 page.1 o.search_tracked in (
      end.0,
      end.1,
      subst (λ a. IsExhausted s end.0 version (core_step m.event m.version a ∷ past)) (sym e)
          record {
            begun = last.begun;
            nodes = o.frame_search.nodes;
            is_last = last.is_last;
            its_version = sym last.version ∙ page.2;
            published = last.published;
            listed = last.listed;
            every = λ i k low few. all_met s now end.0 (Exhausted version) o i k low few;
          },
    )

-- each reply Full is to a worker that found each frame of the node with an owner
pub full : (s : Setup) (past : List CoreStep) (m : CoreStep)
    → IsExecution s (m ∷ past) → m.answer ≡ Ok Full
    → (w : ℕ) × (worker_of m.event ≡ Some w) × IsFull s w (m ∷ past)
full s past m legal e =
    let answer = replied s (world_of s past) m.version m.event Full
    (subst (λ a. IsAnswer s (world_of s past) m.version m.event a) e legal.2) in
    let end = ended-step s past m.version m.event Full full-end
    (λ n e. cc) (λ n e. cc) (λ e. cc) legal.0 legal.1 answer.0 answer.1 in
    let now = core_step m.event m.version (Ok Full) ∷ past in
    let o = end.2 in
    let none = node_over o.frame_search.version o.frame_search.request o.is in
    let last = node-sought s now end.0 o.frame_search none o.search_tracked in
    let long : length o.frame_search.nodes ≡ 1 = ap length last.alone in
    let its : slice_index o.frame_search.nodes 0 ≡ last.node =
    ap (λ (ns : List ℕ). slice_index ns 0) last.alone in (
      end.0,
      end.1,
      subst (λ a. IsFull s end.0 (core_step m.event m.version a ∷ past)) (sym e) record {
        node = last.node;
        sought = last.is_last;
        every = λ k few. subst (λ n. found_owned s end.0 now n k ≡ true) its
            (all_met s now end.0 Full o 0 k (omega arith)
            (subst (λ n. k < frames_of s.machine n) (sym its) few));
      },
    )
