-- What a command makes of a running machine, and of where its pages lie.
use Rattle.std.proofs.Common.{◌≡◌, ℕ, Option, Some, Result}
use Rattle.std.proofs.Common.{sym, ap, subst, ◌∙◌, inl, inr, ◌⊎◌}
use Rattle.std.specs.Prelude.{is_ok, if◌then◌else◌}
use Rattle.numa_machine.specs.Machine.{Hardware}
use Rattle.numa_requests.specs.declared.command.Command.{Command}
use Rattle.numa_requests.specs.declared.refusal.Refusal.{Refusal}
use Rattle.numa_requests.specs.declared.event.Event.TheVariants.{Accept}
use Rattle.numa_requests.specs.declared.event.CoreReply.{CoreReply}
use Rattle.numa_requests.specs.declared.event.CoreRefusal.{CoreRefusal}
use Rattle.numa_requests.specs.declared.page_refusal.PlacedRefusal.TheVariants as cause
use Rattle.numa_core.specs.World.{Setup, World, newest_published}
use Rattle.numa_core.specs.Steps.{IsAnswer, accept_answer, world_after}
use Rattle.numa_core.specs.Standing.{CoreState, CoreStandsFor, setup_of}
use Rattle.numa_huge.specs.Moves.{HugeMemory}
use Rattle.numa_huge.specs.Tallies.{StandsForHuge}
use Rattle.numa_huge.specs.declared.pages.HugePages.{HugePages}
use Rattle.numa_page_state.specs.Lying.{Lying}
use Rattle.numa_page_state.specs.Outcomes.{Enough, Lack}
use Rattle.numa_page_state.specs.Standing.{Lies}
use Rattle.numa_page_state.specs.declared.state.PageState.{PageState}
use Rattle.numa_script.specs.Replies.{reply_to}
use Rattle.numa_script.specs.declared.reply.Reply.{Reply}
use Rattle.numa_run.specs.Answering.{Served, with_reply}
use Rattle.numa_run.specs.Obeying.{accepted_outcome, command_reply, is_accepted, lying_so}
use Rattle.numa_run.specs.Obeying.{with_lying}
use Rattle.numa_run.specs.Standing.{RunsAs, Serves, ServesIn}
use Rattle.numa_run.specs.States.{State, setup_with}
use Rattle.numa_run.specs.Work.{event_answer}
use Rattle.numa_run.specs.declared.running.Running.{Running}
use Rattle.numa_run.proofs.Histories.{answer-told}

-- what the core promises of a command
abbrev pub Accepts : CoreState → Command → Result ℕ Refusal → CoreState → Type 0
Accepts old command version new = (world : World) → CoreStandsFor old world
    → IsAnswer (setup_of old) world (newest_published world) (Accept command)
    (accept_answer version)
    × CoreStandsFor new (world_after (setup_of old) world (newest_published world)
    (Accept command) (accept_answer version))

-- what a line comes to in one state
pub served : (old new : Running) (answer : Reply) (serve : Lack → Hardware → State → Served)
    (state after : State) (lack : Lack)
    → serve lack old.core.space.machine state ≡ with_reply answer after → RunsAs new after
    → ServesIn old answer new serve state
served old new answer serve state after lack is runs = (
  lack,
  ap (λ (s : Served). s.answer) is,
  subst (λ (s : Served). RunsAs new s.state) (sym is) runs,
)

-- a machine that is as it was
pub kept-pages : (running : Running) (state : State) (pages : Option PageState)
    → RunsAs running state → Lies pages state.lying
    → RunsAs (record {
      core = running.core;
      resident = running.resident;
      pages = pages;
      huge = running.huge;
    }) state
kept-pages running state pages stands lies = record {
  core = stands.core;
  resident = stands.resident;
  lies = lies;
  huge = stands.huge;
}

-- the core has 4 workers, and the limits of the state
pub setup-is : (running : Running) (state : State) → RunsAs running state
    → setup_with running.core.space.machine state.bounds ≡ setup_of running.core
setup-is running state stands = λ i. record {
  machine = running.core.space.machine;
  bounds = stands.core.bounds i;
  workers = sym stands.core.workers i;
}

module _ (old : Running) (command : Command) (version : Result ℕ Refusal) (core : CoreState)
    (accepts : Accepts old.core command version core)
    (same : setup_of core ≡ setup_of old.core) (state : State) (stands : RunsAs old state) where
  -- the state after an answer, and what is served with it
  abbrev pub state_by : Setup → Result CoreReply CoreRefusal → State
  state_by s told = record state {
    world = world_after s state.world (newest_published state.world) (Accept command) told;
  }

  abbrev pub shown : Setup → Result CoreReply CoreRefusal → Served
  shown s told = with_reply (reply_to told) (state_by s told)

  -- more that is so where the core accepted the command
  abbrev pub also : (Served → Served) → Setup → Result CoreReply CoreRefusal → Served
  also more s told = if is_ok told then more (shown s told) else shown s told

  abbrev pub laid : Lying → Setup → Result CoreReply CoreRefusal → Served
  laid lying = also (with_lying lying)

  abbrev pub state_then : State
  state_then = state_by (setup_of old.core) (accept_answer version)

  -- it was answered as the definition says, whatever lacked
  abbrev pub IsTold : Lack → Type 0
  IsTold lack = accept_answer version
      ≡ event_answer lack (setup_of old.core) state.world (Accept command)

  pub told : (lack : Lack) × IsTold lack
  told = answer-told (setup_of old.core) state.world (Accept command) (accept_answer version)
      (accepts state.world stands.core.world).0

  pub runs-both : (pages : Option PageState) (lying : Lying) (huge : Option HugePages)
      (memory : Option HugeMemory) → Lies pages lying → StandsForHuge huge memory
      → RunsAs (record { core = core; resident = old.resident; pages = pages; huge = huge })
      (record state_then { lying = lying; huge = memory })
  runs-both pages lying huge memory lies kept = record {
    core = record {
      bounds = stands.core.bounds ∙ sym (ap (λ (s : Setup). s.bounds) same);
      machine = stands.core.machine ∙ ap (λ (s : Setup). Some s.machine) (sym same);
      workers = ap (λ (s : Setup). s.workers) same ∙ stands.core.workers;
      world = (accepts state.world stands.core.world).1;
    };
    resident = stands.resident;
    lies = lies;
    huge = kept;
  }

  pub runs-then : (pages : Option PageState) (lying : Lying) → Lies pages lying
      → RunsAs (record { core = core; resident = old.resident; pages = pages; huge = old.huge })
      (record state_then { lying = lying })
  runs-then pages lying lies = runs-both pages lying old.huge state.huge lies stands.huge

  pub accepted-is : (lack : Lack) → IsTold lack
      → accepted_outcome lack old.core.space.machine state command
      ≡ with_reply (reply_to (accept_answer version)) state_then
  accepted-is lack is =
      ap (λ (s : Setup). shown s (event_answer lack s state.world (Accept command)))
      (setup-is old state stands)
      ∙ ap (shown (setup_of old.core)) (sym is)

  pub also-is : (lack : Lack) → IsTold lack → (more : Served → Served)
      → (if is_accepted lack old.core.space.machine state command
      then more (accepted_outcome lack old.core.space.machine state command)
      else accepted_outcome lack old.core.space.machine state command)
      ≡ also more (setup_of old.core) (accept_answer version)
  also-is lack is more =
      ap (λ (s : Setup). also more s (event_answer lack s state.world (Accept command)))
      (setup-is old state stands)
      ∙ ap (also more (setup_of old.core)) (sym is)

  pub laid-is : (lack : Lack) → IsTold lack → (lying : Lying)
      → lying_so lack old.core.space.machine state command lying
      ≡ laid lying (setup_of old.core) (accept_answer version)
  laid-is lack is lying = also-is lack is (with_lying lying)

  -- it was answered so with memory, or nothing was done for lack of it
  pub starved-or : IsTold Enough
      ⊎ ((reply_to (accept_answer version) ≡ command_reply cause.NoMemory) × (state_then ≡ state))
  starved-or = elim (accepts state.world stands.core.world).0 [
    | inl is ↦ inl is
    | inr want ↦ inr (ap reply_to want.1.0, ap (state_by (setup_of old.core)) want.1.0)
  ]

-- a command was carried out, as the core took it
pub accepted : (old : Running) (command : Command) (version : Result ℕ Refusal) (core : CoreState)
    → Accepts old.core command version core → setup_of core ≡ setup_of old.core
    → Serves old (reply_to (accept_answer version))
    (record old { core = core })
    (λ lack machine state. accepted_outcome lack machine state command)
accepted old command version core accepts same = λ state stands.
    let here = told old command version core accepts same state stands in
    served old (record old { core = core }) (reply_to (accept_answer version))
    (λ lack machine s. accepted_outcome lack machine s command) state
    (state_then old command version core accepts same state stands) here.0
    (accepted-is old command version core accepts same state stands here.0 here.1)
    (runs-then old command version core accepts same state stands old.pages state.lying
    stands.lies)

-- what serves as one definition says serves as another, where both say the same
pub serves-by : (old new : Running) (answer : Reply)
    (serve other : Lack → Hardware → State → Served)
    → ((state : State) → RunsAs old state → (lack : Lack)
    → other lack old.core.space.machine state ≡ serve lack old.core.space.machine state)
    → Serves old answer new serve → Serves old answer new other
serves-by old new answer serve other is serves = λ state stands.
    let s = serves state stands in
    let same = is state stands s.0 in (
      s.0,
      ap (λ (r : Served). r.answer) same ∙ s.1,
      subst (λ (r : Served). RunsAs new r.state) (sym same) s.2,
    )
