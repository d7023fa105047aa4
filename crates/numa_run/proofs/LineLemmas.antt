-- What serving a line of each kind comes to.
use Rattle.std.specs.Prelude.{◌≡◌, ℕ, Bool, true, false, Option, Some}
use Rattle.std.specs.Prelude.{None, List, [], refl, Result, Ok, Err, if◌then◌else◌}
use Rattle.std.proofs.Common.{Box}
use Rattle.std.specs.Global.{Global}
use Rattle.std.proofs.Common.{sym, ◌∙◌, ap, subst}
use Rattle.numa_mask.specs.declared.list.ListFault.{ListFault}
use Rattle.numa_machine.specs.Machine.{Hardware}
use Rattle.numa_machine.specs.Faults.{hardware_fault}
use Rattle.numa_machine.specs.declared.fault.MachineFault.{MachineFault}
use Rattle.numa_machine.specs.declared.fault.MachineFault.TheVariants as machine_fault
use Rattle.numa_machine.specs.declared.rules.Rules.{Rules}
use Rattle.numa_core.specs.World.{Setup, opening}
use Rattle.numa_core.specs.Standing.{LeadsTo, setup_of}
use Rattle.numa_huge.specs.Tallies.{StandsForHuge}
use Rattle.numa_huge.specs.declared.pages.HugePages.{HugePages}
use Rattle.numa_page_state.specs.Lying.{nothing}
use Rattle.numa_page_state.specs.Outcomes.{Enough, Lack, Starved}
use Rattle.numa_page_state.specs.Standing.{Lies}
use Rattle.numa_page_state.specs.declared.state.PageState.{PageState}
use Rattle.numa_script.specs.declared.policy.WordError.TheVariants as word_fault
use Rattle.numa_script.specs.declared.line.MachineLine.{MachineLine}
use Rattle.numa_script.specs.declared.line.Question.{Question}
use Rattle.numa_script.specs.declared.line.Line.{Line}
use Rattle.numa_script.specs.declared.line.Line.TheVariants as line
use Rattle.numa_script.specs.declared.page_line.PageLine.{PageLine}
use Rattle.numa_run.specs.Answers.{State, reply_of, after}
use Rattle.numa_run.specs.Listings.{both_listing}
use Rattle.numa_run.specs.Machines.{limits_fit, nodes_with_cpus, hardware_of, has_bad_nodes}
use Rattle.numa_run.specs.Machines.{first_fault}
use Rattle.numa_run.specs.Questions.{question_text}
use Rattle.numa_run.specs.Replies.{Replied, Served, reply_in, with_text, with_reply, cpus_outcome}
use Rattle.numa_run.specs.Replies.{machine_unless, machine_outcome, served_first, served_later}
use Rattle.numa_run.specs.Replies.{with_outcome, served_by, outcome_of}
use Rattle.numa_run.specs.Standing.{RunsAs, Stands, Replies, Serves, Takes, Does}
use Rattle.numa_run.specs.States.{process_on, setup_with}
use Rattle.numa_run.specs.Work.{Outcome}
use Rattle.numa_run.specs.declared.running.Running.{Running}
use Rattle.numa_run.specs.declared.settings.Settings.{Settings}
use Rattle.numa_run.specs.declared.running.Taken.TheVariants as taken
use Rattle.numa_script.specs.declared.reply.Reply.{Reply}
use Rattle.numa_script.specs.declared.reply.Reply.TheVariants as reply
use Rattle.numa_run.proofs.Accepting.{setup-is}
use Rattle.numa_run.proofs.JudgeLemmas.{IsText, served-is, text-served}

-- ---- before a machine is ready

pub first_is : (settings : Settings) (said : Line) (lack : Lack) (state : State)
    → Stands settings None state → outcome_of lack state said ≡ served_first lack state said
unfolding outcome_of
first_is settings said lack state stands = ap (λ m. served_by m lack state said) stands.3

-- a line that changes nothing
pub first_same : (settings : Settings) (said : Line) (answer : Reply) (lack : Lack)
    → ((state : State) → served_first lack state said ≡ with_reply answer state)
    → Replies settings None said (Some answer) settings None
first_same settings said answer lack right =
    λ state stands.
    let is : outcome_of lack state said ≡ with_reply answer state =
    first_is settings said lack state stands ∙ right state in (
      lack,
      sym (ap (λ r. reply_in r.answer) is),
      subst (λ (r : Served). Stands settings None r.state) (sym is) stands,
    )

-- limits that are taken
pub first_limits : (settings : Settings) (ranges tasks commands : ℕ)
    → limits_fit ranges tasks ≡ true →
    Replies settings None (line.Limits ranges tasks commands) (Some reply.LimitsOk)
    (record {
      limits =
          record { max_ranges = ranges; max_tasks = tasks; max_commands = commands };
      rules =
          settings.rules;
      cpus = settings.cpus;
    }) None
first_limits settings ranges tasks commands fits =
    λ state stands.
    let taken : State = record state {
      bounds = record { max_ranges = ranges; max_tasks = tasks; max_commands = commands };
    } in
    let is : outcome_of Enough state (line.Limits ranges tasks commands) ≡ with_reply reply.LimitsOk
    taken =
    first_is settings (line.Limits ranges tasks commands) Enough state stands
    ∙ ap (λ b. if b then with_reply reply.LimitsOk taken else with_reply reply.BadLimits state)
    fits in
    let after_it : Settings =
    record {
      limits =
          record { max_ranges = ranges; max_tasks = tasks; max_commands = commands };
      rules =
          settings.rules;
      cpus = settings.cpus;
    } in (
      Enough,
      sym (ap (λ r. reply_in r.answer) is),
      subst (λ (r : Served). Stands after_it None r.state) (sym is)
          (refl, stands.1, stands.2, stands.3),
    )

-- rules that are taken
pub first_rules : (settings : Settings) (rules : Rules) →
    Replies settings None (line.Rules rules) (Some reply.RulesOk)
    (record { limits = settings.limits; rules = rules; cpus = settings.cpus }) None
first_rules settings rules =
    λ state stands.
    let taken : State = record state { rules = rules } in
    let is : outcome_of Enough state (line.Rules rules) ≡ with_reply reply.RulesOk taken =
    first_is settings (line.Rules rules) Enough state stands in
    let after_it : Settings =
    record { limits = settings.limits; rules = rules; cpus = settings.cpus } in (
      Enough,
      sym (ap (λ r. reply_in r.answer) is),
      subst (λ (r : Served). Stands after_it None r.state) (sym is)
          (stands.0, refl, stands.2, stands.3),
    )

pub first_no_limits : (settings : Settings) (ranges tasks commands : ℕ)
    → limits_fit ranges tasks ≡ false → Replies settings None (line.Limits ranges tasks commands)
    (Some reply.BadLimits) settings None
first_no_limits settings ranges tasks commands none =
    first_same settings (line.Limits ranges tasks commands) reply.BadLimits Enough
    (λ state. rw none refl)

-- nodes with CPUs that are taken
pub first_cpus : (settings : Settings) (said : Result ℕ ListFault) (cpus : ℕ) → said ≡ Ok cpus →
    Replies settings None (line.Cpus said) (Some reply.CpusOk)
    (record { limits = settings.limits; rules = settings.rules; cpus = Some cpus }) None
first_cpus settings said cpus named =
    λ state stands.
    let taken : State = record state { cpus = Some cpus } in
    let is : outcome_of Enough state (line.Cpus said) ≡ with_reply reply.CpusOk taken =
    first_is settings (line.Cpus said) Enough state stands
    ∙ ap (λ m. cpus_outcome m state) named in
    let after_it : Settings = record {
      limits = settings.limits;
      rules = settings.rules;
      cpus =
          Some cpus;
    } in (
      Enough,
      sym (ap (λ r. reply_in r.answer) is),
      subst (λ (r : Served). Stands after_it None r.state) (sym is)
          (stands.0, stands.1, refl, stands.3),
    )

pub first_no_cpus : (settings : Settings) (said : Result ℕ ListFault) (fault : ListFault)
    → said ≡ Err fault
    → Replies settings None (line.Cpus said) (Some (reply.BadWord (word_fault.List fault))) settings
    None
first_no_cpus settings said fault named =
    first_same settings (line.Cpus said) (reply.BadWord (word_fault.List fault)) Enough
    (λ state. ap (λ m. cpus_outcome m state) named)

-- the machine that a line describes, by what was chosen before it, and its first fault
abbrev pub described : MachineLine → ℕ → Rules → Option ℕ → Hardware
described said memory rules cpus = hardware_of said memory rules (nodes_with_cpus said.nodes cpus)

abbrev pub described_fault : Lack → MachineLine → ℕ → Rules → Option ℕ → Option MachineFault
described_fault lack said memory rules cpus =
    first_fault lack (nodes_with_cpus said.nodes cpus) (described said memory rules cpus)

-- the state and the script have chosen the same
same_fault : (settings : Settings) (state : State) (lack : Lack) (said : MachineLine)
    (memory : ℕ) → Stands settings None state →
    described_fault lack said memory state.rules state.cpus ≡ described_fault lack said memory
    settings.rules settings.cpus
same_fault settings state lack said memory stands = λ i. described_fault lack said memory
    (stands.1 i) (stands.2 i)

-- a machine that is ready
pub first_ready : (settings : Settings) (said : MachineLine) (memory : ℕ)
    (running : Box Running Global) → said.memory ≡ Ok memory → described_fault Enough said memory settings.rules settings.cpus
    ≡ None
    → setup_of running.value.core ≡ setup_with
    (described said memory settings.rules settings.cpus) settings.limits
    → LeadsTo [] running.value.core → running.value.resident ≡ [] → running.value.pages ≡ None
    → running.value.huge ≡ None
    → Replies settings None (line.Machine said) (Some reply.Ready) settings (Some running)
first_ready settings said memory running named sound setup leads resident pages huge =
    λ state stands.
    let hardware : Hardware = described said memory state.rules state.cpus in
    let ready : State = record state {
      machine = Some hardware;
      world = opening;
      resident = [];
      lying = nothing;
      huge = None;
    } in
    let is : outcome_of Enough state (line.Machine said) ≡ with_reply reply.Ready ready =
    first_is settings (line.Machine said) Enough state stands
    ∙ ap (λ m. machine_outcome Enough said m state) named
    ∙ ap (λ f. machine_unless f hardware state)
    (same_fault settings state Enough said memory stands ∙ sound) in
    let same : hardware ≡ described said memory settings.rules settings.cpus =
    λ i. described said memory (stands.1 i) (stands.2 i) in
    let reached : RunsAs running.value ready = record {
      core = record {
        bounds = stands.0 ∙ sym (ap (λ s. s.bounds) setup);
        machine = ap Some (same ∙ sym (ap (λ s. s.machine) setup));
        workers = ap (λ s. s.workers) setup;
        world = leads.stands;
      };
      resident = resident;
      lies = subst (λ (p : Option PageState). Lies p nothing) (sym pages) refl;
      huge = subst (λ (h : Option HugePages). StandsForHuge h None) (sym huge) tt;
    } in (
      Enough,
      sym (ap (λ r. reply_in r.answer) is),
      subst (λ (r : Served). RunsAs running.value r.state)
          (sym is) reached,
    )

-- a machine that is refused
pub first_bad : (settings : Settings) (said : MachineLine) (memory : ℕ) (lack : Lack)
    (fault : MachineFault) → said.memory ≡ Ok memory
    → described_fault lack said memory settings.rules settings.cpus ≡ Some fault
    → Replies settings None (line.Machine said) (Some (reply.BadMachine fault)) settings None
first_bad settings said memory lack fault named why =
    λ state stands.
    let hardware : Hardware = described said memory state.rules state.cpus in
    let is : outcome_of lack state (line.Machine said) ≡ with_reply (reply.BadMachine fault)
    state =
    first_is settings (line.Machine said) lack state stands
    ∙ ap (λ m. machine_outcome lack said m state) named
    ∙ ap (λ f. machine_unless f hardware state)
    (same_fault settings state lack said memory stands ∙ why) in (
      lack,
      sym (ap (λ r. reply_in r.answer) is),
      subst (λ (r : Served). Stands settings None r.state) (sym is) stands,
    )

pub first_bad_list : (settings : Settings) (said : MachineLine) (fault : ListFault)
    → said.memory ≡ Err fault
    → Replies settings None (line.Machine said) (Some (reply.BadWord (word_fault.List fault)))
    settings None
first_bad_list settings said fault named = first_same settings (line.Machine said)
    (reply.BadWord (word_fault.List fault)) Enough
    (λ state. ap (λ m. machine_outcome Enough said m state) named)

-- where a machine has no fault, its core may find no memory
pub core-starved : (cpus : ℕ) (hardware : Hardware) → first_fault Enough cpus hardware ≡ None
    → first_fault Starved cpus hardware ≡ Some machine_fault.NoMemory
core-starved cpus hardware sound = by_nodes (has_bad_nodes hardware.nodes cpus) sound
  where
    by_nodes : (b : Bool) → (if b then Some machine_fault.NodeCount else hardware_fault hardware)
        ≡ None → (if b then Some machine_fault.NodeCount else Some machine_fault.NoMemory)
        ≡ Some machine_fault.NoMemory
    by_nodes true is = cc
    by_nodes false is = refl

-- ---- with a machine

-- a line that changes nothing, on any machine
pub later_same : (running : Running) (said : Line) (answer : Reply)
    → ((machine : Hardware) (state : State) → served_later Enough machine state said
    ≡ with_reply answer state)
    → Takes running said (taken.Reply answer) running
later_same running said answer right =
    λ state stands.
    let is : outcome_of Enough state said ≡ with_reply answer state =
    served-is running said Enough state stands ∙ right (setup_of running.core).machine state in (
      Enough,
      sym (ap (λ (r : Served). reply_in r.answer) is),
      subst (λ (r : Served). RunsAs running r.state) (sym is) stands,
    )

-- what may change where pages lie
pub served_here : (old new : Running) (said : Line) (answer : Reply)
    (serve : Lack → Hardware → State → Served) → Serves old answer new serve
    → ((lack : Lack) (state : State) → served_later lack (setup_of old.core).machine state
    said ≡ serve lack (setup_of old.core).machine state)
    → Takes old said (taken.Reply answer) new
served_here old new said answer serve serves right =
    λ state stands.
    let s = serves state stands in
    let is : outcome_of s.0 state said ≡ serve s.0 (setup_of old.core).machine state =
    served-is old said s.0 state stands ∙ right s.0 state in (
      s.0,
      sym (ap (λ (r : Served). reply_in r.answer) is ∙ ap reply_in s.1),
      subst (λ (r : Served). RunsAs new r.state) (sym is) s.2,
    )

-- the same, said in other words
pub serves_as : (old new : Running) (answer : Reply)
    (serve other : Lack → Hardware → State → Served) → Serves old answer new serve
    → ((lack : Lack) (state : State) → other lack (setup_of old.core).machine state
    ≡ serve lack (setup_of old.core).machine state)
    → Serves old answer new other
serves_as old new answer serve other serves right =
    λ state stands.
    let s = serves state stands in
    let is = right s.0 state in (
      s.0,
      ap (λ (r : Served). r.answer) is ∙ s.1,
      subst (λ (r : Served). RunsAs new r.state) (sym is) s.2,
    )

-- what does something on this machine, and leaves where other pages lie
pub done_here : (old new : Running) (answer : Reply) (outcome : Lack → Setup → State → Outcome)
    (serve : Lack → Hardware → State → Served)
    → Does old answer new (λ lack state. outcome lack (setup_of old.core) state)
    → ((lack : Lack) (state : State) → RunsAs old state
    → serve lack (setup_of old.core).machine state
    ≡ with_outcome state (outcome lack (setup_with (setup_of old.core).machine state.bounds)
    state))
    → Serves old answer new serve
done_here old new answer outcome serve does right =
    λ state stands.
    let d = does state stands in
    let is : serve d.0 (setup_of old.core).machine state
    ≡ with_outcome state (outcome d.0 (setup_of old.core) state) =
    right d.0 state stands ∙ ap (λ s. with_outcome state (outcome d.0 s state))
    (setup-is old state stands) in (
      d.0,
      ap (λ (r : Served). r.answer) is ∙ ap Replied (sym d.1),
      subst (λ (r : Served). RunsAs new r.state) (sym is) d.2,
    )

-- a reply that changes nothing
pub serves_same : (running : Running) (answer : Reply) (serve : Lack → Hardware → State → Served)
    → ((state : State) → RunsAs running state
    → serve Enough (setup_of running.core).machine state ≡ with_reply answer state)
    → Serves running answer running serve
serves_same running answer serve right =
    λ state stands.
    let is = right state stands in (
      Enough,
      ap (λ (r : Served). r.answer) is,
      subst (λ (r : Served). RunsAs running r.state) (sym is) stands,
    )

-- ---- a question, `maps`, `moved` and `room` alone have no reply

abbrev pub HasNone : Running → Running → Line → Type 0
HasNone old new said = (state : State) → RunsAs old state → (lack : Lack)
    × (None ≡ reply_of lack state said) × RunsAs new (after lack state said)

-- a text is answered, and nothing changes
shown_has_none : (running : Running) (said : Line) (text : State → List ℕ)
    → ((state : State) → RunsAs running state
    → outcome_of Enough state said ≡ with_text (text state) state) → HasNone running running said
shown_has_none running said text right =
    λ state stands.
    let is = right state stands in (
      Enough,
      sym (ap (λ (r : Served). reply_in r.answer) is),
      subst (λ (r : Served). RunsAs running r.state) (sym is) stands,
    )

-- of a line that is this one, on a machine that is as it was
has_none : (old new : Running) (said here : Line) → said ≡ here → new ≡ old
    → HasNone new new here → HasNone old new said
has_none old new said here is same none =
    subst (λ (l : Line). HasNone old new l) (sym is)
    (subst (λ (r : Running). HasNone r new here) same none)

pub question_has_none : (old new : Running) (said : Line) (asked : Question)
    → said ≡ line.Question asked → new ≡ old → HasNone old new said
question_has_none old new said asked is same =
    has_none old new said (line.Question asked) is same
    (shown_has_none new (line.Question asked)
    (λ state. question_text false (setup_of new.core).machine state.world.history asked)
    (served-is new (line.Question asked) Enough))

pub maps_have_none : (old new : Running) (said : Line) (task : ℕ) → said ≡ line.Maps task
    → new ≡ old → HasNone old new said
maps_have_none old new said task is same =
    has_none old new said (line.Maps task) is same
    (shown_has_none new (line.Maps task)
    (λ state. both_listing (process_on (setup_of new.core).machine state) state.lying.spots
    state.huge task)
    (served-is new (line.Maps task) Enough))

pub text_has_none : (asked : PageLine) (text : State → List ℕ) → IsText asked text
    → (old new : Running) (said : Line) → said ≡ line.Pages (Ok asked) → new ≡ old
    → HasNone old new said
text_has_none asked text shows old new said is same =
    has_none old new said (line.Pages (Ok asked)) is same
    (shown_has_none new (line.Pages (Ok asked)) text (text-served asked text shows new))
