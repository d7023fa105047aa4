-- What a running machine does with commands and the lines of workers.
use Rattle.std.proofs.Common.{◌≡◌, ℕ, true, false, Option, Some, None, Result, Ok, Err}
use Rattle.std.proofs.Common.{is_some, refl, sym, ap, subst, ◌∙◌}
use Rattle.std.specs.Prelude.{is_ok, is_err, if◌then◌else◌}
use Rattle.numa_core.specs.World.{World, newest_published}
use Rattle.numa_core.specs.Steps.{world_after, IsAnswer}
use Rattle.numa_core.specs.Touching.{result_of_touch}
use Rattle.numa_core.specs.Standing.{CoreState, CoreStandsFor, setup_of}
use Rattle.numa_machine.specs.declared.frame.Frame.{Frame}
use Rattle.numa_requests.specs.declared.placement.Placement.{Placement}
use Rattle.numa_requests.specs.declared.request.Request.{Request}
use Rattle.numa_requests.specs.declared.event.Event.{Event}
use Rattle.numa_requests.specs.declared.event.Event.TheVariants.{Give}
use Rattle.numa_requests.specs.declared.event.CoreReply.{CoreReply}
use Rattle.numa_requests.specs.declared.event.CoreReply.TheVariants as done
use Rattle.numa_requests.specs.declared.event.CoreRefusal.{CoreRefusal}
use Rattle.numa_requests.specs.declared.event.CoreRefusal.TheVariants.{NoMemory}
use Rattle.numa_maps.specs.Residents.{Kept, placed_at, with_placement, without_page}
use Rattle.numa_huge.specs.Tallies.{StandsForHuge}
use Rattle.numa_huge.specs.declared.pages.HugePages.{HugePages}
use Rattle.numa_page_state.specs.Outcomes.{Enough, Lack, Starved}
use Rattle.numa_page_state.specs.Standing.{Lies}
use Rattle.numa_page_state.specs.declared.state.PageState.{PageState}
use Rattle.numa_run.specs.States.{State}
use Rattle.numa_run.specs.Standing.{IsCoreIn, RunsAs, Does, state_with}
use Rattle.numa_run.specs.Work.{won_by, event_answer, event_world, event_outcome, not_kept}
use Rattle.numa_run.specs.Work.{kept_outcome, touch_by, touch_outcome, release_by, release_outcome}
use Rattle.numa_script.specs.Replies.{reply_to, win_of}
use Rattle.numa_run.specs.declared.running.Running.{Running}
use Rattle.numa_script.specs.declared.reply.Reply.{Reply}
use Rattle.numa_script.specs.declared.reply.Reply.TheVariants as reply
use Rattle.numa_run.proofs.Histories.{answer-told, give-told}

-- what the core promises of a step, and of a touch
abbrev pub Steps : CoreState → Event → Result CoreReply CoreRefusal → CoreState → Type 0
Steps old event answer new =
    (world : World) → CoreStandsFor old world
    → IsAnswer (setup_of old) world (newest_published world) event answer
    × CoreStandsFor new (world_after (setup_of old) world (newest_published world) event answer)

abbrev pub Touches : CoreState → ℕ → Request → Result CoreReply CoreRefusal → CoreState → Type 0
Touches old w request answer new =
    (world : World) → CoreStandsFor old world
    → (answer ≡ (result_of_touch (setup_of old) world w request).answer)
    × CoreStandsFor new (result_of_touch (setup_of old) world w request).world

-- a state with another world and placed pages
abbrev pub state_at : State → World → Kept → State
state_at state world kept = record state { world = world; resident = kept }

-- pages lie as they did
abbrev pub SamePages : Running → Running → Type 0
SamePages old new = (new.pages ≡ old.pages) × (new.huge ≡ old.huge)

-- a running machine with another core and placed pages
pub moved : (old new : Running) (state : State) (world : World) (kept : Kept) → RunsAs old state
    → setup_of new.core ≡ setup_of old.core → CoreStandsFor new.core world → new.resident ≡ kept
    → SamePages old new → RunsAs new (state_at state world kept)
moved old new state world kept stands same reached resident pages = record {
  core = record {
    bounds = stands.core.bounds ∙ sym (ap (λ s. s.bounds) same);
    machine = stands.core.machine ∙ ap Some (sym (ap (λ s. s.machine) same));
    workers = ap (λ s. s.workers) same ∙ stands.core.workers;
    world = reached;
  };
  resident = resident;
  lies = subst (λ (p : Option PageState). Lies p state.lying) (sym pages.0) stands.lies;
  huge = subst (λ (h : Option HugePages). StandsForHuge h state.huge) (sym pages.1) stands.huge;
}

-- the same core and pages stand for the same state
pub same-core : (old new : Running) (state : State) → new.core ≡ old.core
    → new.resident ≡ old.resident → SamePages old new → RunsAs old state → RunsAs new state
same-core old new state core resident pages stands = record {
  core = subst (λ (c : CoreState). IsCoreIn c state) (sym core) stands.core;
  resident = resident ∙ stands.resident;
  lies = subst (λ (p : Option PageState). Lies p state.lying) (sym pages.0) stands.lies;
  huge = subst (λ (h : Option HugePages). StandsForHuge h state.huge) (sym pages.1) stands.huge;
}

-- ---- one event

pub does-event : (old new : Running) (event : Event) (answer : Result CoreReply CoreRefusal)
    → Steps old.core event answer new.core → setup_of new.core ≡ setup_of old.core
    → new.resident ≡ old.resident → SamePages old new
    → Does old (reply_to answer) new
    (λ lack state. event_outcome lack (setup_of old.core) state.world state.resident event)
does-event old new event answer steps same resident pages =
    λ state stands.
    let s = setup_of old.core in
    let step = steps state.world stands.core.world in
    let right = answer-told s state.world event answer step.0 in
    let after : World = world_after s state.world (newest_published state.world) event answer in
    let there : after ≡ event_world right.0 s state.world event =
    ap (world_after s state.world (newest_published state.world) event) right.1 in (
      right.0,
      ap reply_to right.1,
      subst (λ (w : World).
          RunsAs new (state_at state w state.resident)) there
          (moved old new state after state.resident stands same step.1
          (resident ∙ stands.resident) pages),
    )

-- ---- a Give that a line needs

given : (old new : Running) (lack : Lack) (w : ℕ) (frame : Frame)
    (answer : Result CoreReply CoreRefusal) (kept : Kept)
    → Steps old.core (Give w frame) answer new.core → setup_of new.core ≡ setup_of old.core
    → new.resident ≡ kept → SamePages old new → (state : State) → RunsAs old state
    → RunsAs new
    (state_at state (event_world lack (setup_of old.core) state.world (Give w frame)) kept)
given old new lack w frame answer kept steps same resident pages state stands =
    let s = setup_of old.core in
    let step = steps state.world stands.core.world in
    let after : World = world_after s state.world (newest_published state.world) (Give w frame)
    answer in
    let there : after ≡ event_world lack s state.world (Give w frame) =
    ap (world_after s state.world (newest_published state.world) (Give w frame))
    (give-told lack s state.world w frame answer step.0) in
    subst (λ (world : World).
    RunsAs new (state_at state world kept)) there
    (moved old new state after kept stands same step.1 resident pages)

-- ---- a placement that was won

pub keeps : (old new : Running) (w : ℕ) (placement : Placement) → new.core ≡ old.core
    → placed_at old.resident placement.page ≡ None
    → new.resident ≡ with_placement old.resident placement → SamePages old new
    → Does old (reply.Won (win_of placement)) new
    (λ lack state. kept_outcome lack (setup_of old.core) state.world state.resident w
    placement)
keeps old new w placement core free resident pages =
    λ state stands.
    let none : placed_at state.resident placement.page ≡ None =
    subst (λ (kept : Kept). placed_at kept placement.page ≡ None) stands.resident free in
    let out : kept_outcome Enough (setup_of old.core) state.world state.resident w placement
    ≡ record {
      reply = reply.Won (win_of placement);
      world = state.world;
      resident =
          with_placement state.resident placement;
    } = rw none refl in (
      Enough,
      sym (ap (λ o. o.reply) out),
      subst (λ o. RunsAs new (state_with state o)) (sym out)
          (moved old new state state.world (with_placement state.resident placement) stands
          (ap setup_of core)
          (subst (λ c. CoreStandsFor c state.world) (sym core) stands.core.world)
          (resident ∙ ap (λ kept. with_placement kept placement) stands.resident) pages),
    )

-- the page has a placement already
pub gives-taken : (old new : Running) (w : ℕ) (placement : Placement)
    (answer : Result CoreReply CoreRefusal) → Steps old.core (Give w placement.frame) answer
    new.core → setup_of new.core ≡ setup_of old.core
    → new.resident ≡ old.resident → SamePages old new
    → is_some (placed_at old.resident placement.page) ≡ true
    → Does old (reply.Back placement.frame) new
    (λ lack state. kept_outcome lack (setup_of old.core) state.world state.resident w
    placement)
gives-taken old new w placement answer steps same resident pages taken =
    λ state stands.
    let some : is_some (placed_at state.resident placement.page) ≡ true =
    subst (λ (kept : Kept). is_some (placed_at kept placement.page) ≡ true) stands.resident
    taken in
    let out : kept_outcome Enough (setup_of old.core) state.world state.resident w placement
    ≡ not_kept Enough (setup_of old.core) state.world state.resident w placement
    (reply.Back placement.frame) = rw some refl in (
      Enough,
      sym (ap (λ o. o.reply) out),
      subst (λ o. RunsAs new (state_with state o)) (sym out)
          (given old new Enough w placement.frame answer state.resident steps same
          (resident ∙ stands.resident) pages state stands),
    )

-- there is no memory for it
pub gives-starved : (old new : Running) (w : ℕ) (placement : Placement)
    (answer : Result CoreReply CoreRefusal) → Steps old.core (Give w placement.frame) answer
    new.core → setup_of new.core ≡ setup_of old.core
    → new.resident ≡ old.resident → SamePages old new
    → placed_at old.resident placement.page ≡ None
    → Does old (reply.Refused NoMemory) new
    (λ lack state. kept_outcome lack (setup_of old.core) state.world state.resident w
    placement)
gives-starved old new w placement answer steps same resident pages free =
    λ state stands.
    let none : placed_at state.resident placement.page ≡ None =
    subst (λ (kept : Kept). placed_at kept placement.page ≡ None) stands.resident free in
    let out : kept_outcome Starved (setup_of old.core) state.world state.resident w placement
    ≡ not_kept Starved (setup_of old.core) state.world state.resident w placement
    (reply.Refused NoMemory) = rw none refl in (
      Starved,
      sym (ap (λ o. o.reply) out),
      subst (λ o. RunsAs new (state_with state o)) (sym out)
          (given old new Starved w placement.frame answer state.resident steps same
          (resident ∙ stands.resident) pages state stands),
    )

-- ---- touch

-- an answer that wins no frame
pub none_won : (answer : CoreReply) → ((placement : Placement) → answer ≡ done.Won placement → ⊥)
    → won_by (Ok answer) ≡ None
none_won (done.Won placement) none = absurd (none placement refl)
none_won (done.Accepted version) none = refl
none_won (done.Published version) none = refl
none_won done.Still none = refl
none_won (done.Exhausted version) none = refl
none_won (done.Found frame) none = refl
none_won done.Full none = refl
none_won done.Given none = refl

-- the machine after the core's touch
touched-there : (old mid : Running) (w : ℕ) (request : Request)
    (answer : Result CoreReply CoreRefusal) → Touches old.core w request answer mid.core
    → setup_of mid.core ≡ setup_of old.core → mid.resident ≡ old.resident
    → SamePages old mid → (state : State) → RunsAs old state
    → RunsAs mid
    (state_at state (result_of_touch (setup_of old.core) state.world w request).world
    state.resident)
touched-there old mid w request answer touches same resident pages state stands =
    let s = setup_of old.core in
    let touch = touches state.world stands.core.world in
    moved old mid state (result_of_touch s state.world w request).world state.resident stands same
    touch.1 (resident ∙ stands.resident) pages

pub touches-nothing : (old new : Running) (w : ℕ) (request : Request)
    (answer : Result CoreReply CoreRefusal) → Touches old.core w request answer new.core
    → setup_of new.core ≡ setup_of old.core
    → new.resident ≡ old.resident → SamePages old new → won_by answer ≡ None
    → Does old (reply_to answer) new
    (λ lack state. touch_outcome lack (setup_of old.core) state.world state.resident w
    request)
touches-nothing old new w request answer touches same resident pages lost =
    λ state stands.
    let s = setup_of old.core in
    let t = result_of_touch s state.world w request in
    let touch = touches state.world stands.core.world in
    let none : won_by t.answer ≡ None = ap won_by (sym touch.0) ∙ lost in
    let out : touch_by Enough s None t.answer t.world state.resident w ≡ touch_outcome Enough s
    state.world state.resident w request =
    ap (λ o. touch_by Enough s o t.answer t.world state.resident w) (sym none) in (
      Enough,
      ap reply_to touch.0 ∙ ap (λ o. o.reply) out,
      subst (λ o. RunsAs new (state_with state o)) out
          (touched-there old new w request answer touches same resident pages state stands),
    )

pub touches-won : (old mid new : Running) (w : ℕ) (request : Request)
    (answer : Result CoreReply CoreRefusal) (placement : Placement) (said : Reply)
    → Touches old.core w request answer mid.core → setup_of mid.core ≡ setup_of old.core
    → mid.resident ≡ old.resident → SamePages old mid → won_by answer ≡ Some placement
    → Does mid said new (λ lack state. kept_outcome lack (setup_of mid.core) state.world
    state.resident w placement)
    → Does old said new (λ lack state. touch_outcome lack (setup_of old.core) state.world
    state.resident w request)
touches-won old mid new w request answer placement said touches same resident pages won keep =
    λ state stands.
    let s = setup_of old.core in
    let t = result_of_touch s state.world w request in
    let touch = touches state.world stands.core.world in
    let some : won_by t.answer ≡ Some placement = ap won_by (sym touch.0) ∙ won in
    let kept =
    keep (state_at state t.world state.resident)
    (touched-there old mid w request answer touches same resident pages state stands) in
    let out : kept_outcome kept.0 (setup_of mid.core) t.world state.resident w placement
    ≡ touch_outcome kept.0 s state.world state.resident w request =
    ap (λ r. kept_outcome kept.0 r t.world state.resident w placement) same
    ∙ ap (λ o. touch_by kept.0 s o t.answer t.world state.resident w) (sym some) in (
      kept.0,
      kept.1 ∙ ap (λ o. o.reply) out,
      subst (λ o. RunsAs new (state_with state o)) out kept.2,
    )

-- ---- release

pub releases : (old new : Running) (w page : ℕ) (placement : Placement)
    (answer : Result CoreReply CoreRefusal) → Steps old.core (Give w placement.frame) answer
    new.core → setup_of new.core ≡ setup_of old.core
    → placed_at old.resident page ≡ Some placement
    → new.resident ≡ (if is_ok answer then without_page old.resident page else old.resident)
    → SamePages old new
    → Does old (reply_to answer) new
    (λ lack state. release_outcome lack (setup_of old.core) state.world state.resident w page)
releases old new w page placement answer steps same there resident pages =
    λ state stands.
    let s = setup_of old.core in
    let some : placed_at state.resident page ≡ Some placement =
    subst (λ (kept : Kept). placed_at kept page ≡ Some placement) stands.resident there in
    let step = steps state.world stands.core.world in
    let right : answer ≡ event_answer Enough s state.world (Give w placement.frame) =
    give-told Enough s state.world w placement.frame answer step.0 in
    let kept : Kept = if is_ok (event_answer Enough s state.world (Give w placement.frame))
    then without_page state.resident page else state.resident in
    let is : new.resident ≡ kept =
    resident ∙ (λ i. if is_ok (right i) then without_page (stands.resident i) page
    else stands.resident i) in
    let out : release_by Enough s (Some placement) state.world state.resident w page
    ≡ release_outcome Enough s state.world state.resident w page =
    ap (λ o. release_by Enough s o state.world state.resident w page) (sym some) in (
      Enough,
      ap reply_to right ∙ ap (λ o. o.reply) out,
      subst (λ o. RunsAs new (state_with state o)) out
          (given old new Enough w placement.frame answer kept steps same is pages state stands),
    )

-- the page keeps its placement where the Give is refused, and only there
pub kept-where_refused : (answer : Result CoreReply CoreRefusal) (gone kept : Kept)
    → is_err answer ≡ true → kept ≡ (if is_ok answer then gone else kept)
kept-where_refused (Ok done) gone kept e = cc
kept-where_refused (Err cause) gone kept e = refl

pub gone-where_given : (answer : Result CoreReply CoreRefusal) (gone kept : Kept)
    → is_err answer ≡ false → gone ≡ (if is_ok answer then gone else kept)
gone-where_given (Ok done) gone kept e = refl
gone-where_given (Err cause) gone kept e = cc
