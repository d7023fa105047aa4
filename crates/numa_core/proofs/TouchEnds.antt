-- How a touch ends in a core that stands for a world.
use Rattle.std.proofs.Common.{◌≡◌, ℕ, false, Option, Some, None, Ok, Err, is_some, is_none}
use Rattle.std.proofs.Common.{unwrap_or, List, [], nat_le, refl, sym, ap, subst, ◌∙◌}
use Rattle.numa_requests.specs.declared.request.Request.{Request}
use Rattle.numa_core.specs.declared.state.State.{State}
use Rattle.numa_core.specs.declared.free_frames.FreeFrame.{FreeFrame}
use Rattle.numa_requests.specs.declared.event.CoreReply.TheVariants.{Exhausted, Won}
use Rattle.numa_requests.specs.declared.event.CoreRefusal.{CoreRefusal}
use Rattle.numa_requests.specs.declared.event.CoreRefusal.TheVariants.{NoSuchWorker, Busy, BadCpu}
use Rattle.numa_requests.specs.declared.event.CoreRefusal.TheVariants.{Unmapped}
use Rattle.numa_core.specs.World.{FrameSearch, World, newest_published, frame_search_of, list_at}
use Rattle.numa_core.specs.Steps.{with_owner, put_frame}
use Rattle.numa_core.specs.Standing.{CoreState, CoreStandsFor, setup_of, owner_at, place_in}
use Rattle.numa_core.specs.Kept.{core_state, IsKept}
use Rattle.numa_core.specs.Judging.{IsJudged, IsListed}
use Rattle.numa_core.specs.Touching.{Shows, first_free, free_for, touch_refusal, touch_answer}
use Rattle.numa_core.specs.Touching.{touch_world}
use Rattle.numa_core.proofs.Answered.{four_rows}
use Rattle.numa_core.proofs.TouchJudged.{version-newest}
use Rattle.numa_core.proofs.TouchStands.{stands-idle, stands-owner}

-- the tables of a core show what the world has
pub tables-show : (state : State) (world : World) → IsKept state
    → CoreStandsFor (core_state state) world → Shows (setup_of (core_state state)) state.places
    state.owners.items world
tables-show state world kept stands = record {
  places = kept.places;
  owned =
      λ n k. subst (λ frames. world.owner n k ≡ owner_at state.owners.items (place_in frames n k))
      (sym kept.places) (sym (stands.owners n k));
}

no_frame_search : (o : Option FrameSearch) → is_some o ≡ false → o ≡ None
no_frame_search None e = refl
no_frame_search (Some frame_search) e = absurd (cc)

-- a worker whose Begin isn't refused is idle
idle : (core : CoreState) (world : World) (w : ℕ) (request : Request)
    → touch_refusal (setup_of core) world w request ≡ None → frame_search_of world w ≡ None
idle core world w request e = no_frame_search (frame_search_of world w)
    (four_rows (nat_le (setup_of core).workers w) (is_some (frame_search_of world w))
    (nat_le core.space.machine.nodes request.cpu)
    (is_none (list_at core.space.machine world.history (newest_published world) request))
    NoSuchWorker Busy BadCpu (Unmapped (newest_published world)) e).1

-- the Begin is refused
pub refuses : (core : CoreState) (w : ℕ) (request : Request) (refusal : CoreRefusal) (world : World)
    → CoreStandsFor core world → IsJudged core w request (Some refusal)
    → (Err refusal ≡ touch_answer (setup_of core) world w request)
    × CoreStandsFor core (touch_world (setup_of core) world w request)
refuses core w request refusal world stands judged =
    let is : touch_refusal (setup_of core) world w request ≡ Some refusal = judged world stands in
    (sym (rw is refl), rw is stands)

-- no listed node has a free frame
pub exhausts : (core : CoreState) (w : ℕ) (request : Request) (nodes : List ℕ) (world : World)
    → CoreStandsFor core world → IsJudged core w request None → IsListed core request nodes
    → first_free (setup_of core) world nodes ≡ None
    → (Ok (Exhausted core.plan.version) ≡ touch_answer (setup_of core) world w request)
    × CoreStandsFor core (touch_world (setup_of core) world w request)
exhausts core w request nodes world stands judged listed none =
    let free : free_for (setup_of core) world request ≡ None =
    ap (λ o. first_free (setup_of core) world (unwrap_or o [])) (listed world stands) ∙ none in
    let allowed : touch_refusal (setup_of core) world w request ≡ None = judged world stands in (
      ap (λ v. Ok (Exhausted v)) (version-newest core world stands) ∙ sym (rw (allowed, free) refl),
      rw (allowed, free) (stands-idle core world w (idle core world w request allowed) stands),
    )

-- a free frame is won
pub wins : (core : CoreState) (owners : List (Option ℕ)) (w : ℕ) (request : Request)
    (nodes : List ℕ) (spot : FreeFrame) (world : World) → CoreStandsFor core world
    → IsJudged core w request None → IsListed core request nodes
    → first_free (setup_of core) world nodes ≡ Some spot
    → ((n k : ℕ) → owner_at owners (place_in core.space.machine.frames n k)
    ≡ put_frame (λ n k. owner_at core.owners (place_in core.space.machine.frames n k)) spot.frame
    (Some w) n k)
    → (Ok
    (Won (record {
      version = core.plan.version;
      task = request.task;
      page = request.page;
      node =
          spot.frame.node;
      frame = spot.frame;
      rank = spot.rank;
    })) ≡ touch_answer (setup_of core) world w
    request)
    × CoreStandsFor
    (record { space = core.space; plan = core.plan; workers = core.workers; owners = owners })
    (touch_world (setup_of core) world w request)
wins core owners w request nodes spot world stands judged listed some each =
    let free : free_for (setup_of core) world request ≡ Some spot =
    ap (λ o. first_free (setup_of core) world (unwrap_or o [])) (listed world stands) ∙ some in
    let allowed : touch_refusal (setup_of core) world w request ≡ None = judged world stands in (
      ap (λ v.
          Ok (Won
          (record {
            version = v;
            task = request.task;
            page = request.page;
            node = spot.frame.node;
            frame = spot.frame;
            rank = spot.rank;
          }))) (version-newest core world stands)
          ∙ sym (rw (allowed, free) refl),
      rw (allowed, free)
          (stands-idle (record {
            space = core.space;
            plan = core.plan;
            workers = core.workers;
            owners = owners;
          }) (with_owner world spot.frame (Some w)) w
          (idle core world w request allowed)
          (stands-owner core owners world spot.frame (Some w) each stands)),
    )
