-- A line that does the same by both rules leads twins to twins.
use Rattle.std.proofs.Common.{◌≡◌, ℕ, ◌+◌, Bool, true, false, Option, Some, None, List, [], ◌∷◌}
use Rattle.std.proofs.Common.{refl, sym, subst, ap, ◌∙◌}
use Rattle.std.specs.Option.{option_map}
use Rattle.std.specs.Prelude.{length, is_ok, if◌then◌else◌, Result, Ok, Err}
use Rattle.numa_mask.specs.declared.list.ListFault.{ListFault}
use Rattle.numa_machine.specs.Machine.{Hardware}
use Rattle.numa_machine.specs.declared.fault.MachineFault.{MachineFault}
use Rattle.numa_core.specs.Steps.{answer_of, because, refused_or, world_after}
use Rattle.numa_core.specs.World.{World, newest_published}
use Rattle.numa_huge.specs.Moves.{HugeMemory}
use Rattle.numa_page_state.specs.Huge.{has_huge_in, unmap_lack, unmapped_in}
use Rattle.numa_page_state.specs.Lying.{Lying, with_spots}
use Rattle.numa_page_state.specs.Outcomes.{Lack, forgotten, has_stated, is_starved, lack_of}
use Rattle.numa_requests.specs.declared.command.Command.{Command}
use Rattle.numa_requests.specs.declared.command.Command.TheVariants as command
use Rattle.numa_requests.specs.declared.event.CoreRefusal.TheVariants.{NoMemory}
use Rattle.numa_requests.specs.declared.event.CoreReply.TheVariants.{Accepted}
use Rattle.numa_requests.specs.declared.event.Event.TheVariants.{Accept, Begin, Give, Look}
use Rattle.numa_requests.specs.declared.event.Event.TheVariants.{Publish, Seek, Try}
use Rattle.numa_requests.specs.declared.page_refusal.PlacedRefusal.{PlacedRefusal}
use Rattle.numa_requests.specs.declared.refusal.Refusal.{Refusal}
use Rattle.numa_rules.specs.Others.{other_rules}
use Rattle.numa_script.specs.Lines.{alone}
use Rattle.numa_script.specs.Replies.{reply_to}
use Rattle.numa_script.specs.declared.line.Line.{Line}
use Rattle.numa_script.specs.declared.line.Line.TheVariants as line
use Rattle.numa_script.specs.declared.line.MachineLine.{MachineLine}
use Rattle.numa_script.specs.declared.line.ScriptLine.{ScriptLine}
use Rattle.numa_script.specs.declared.work.Work.TheVariants as work
use Rattle.numa_space.specs.History.{page_count, page_of}
use Rattle.numa_space.specs.Refusals.{refusal_of}
use Rattle.numa_run.specs.Answering.{Served, with_outcome}
use Rattle.numa_run.specs.Machines.{first_fault, hardware_of, limits_fit, nodes_with_cpus}
use Rattle.numa_run.specs.Obeying.{accepted_outcome, both_so, huge_unmap, is_accepted, lying_lack}
use Rattle.numa_run.specs.Obeying.{lying_so, lying_without, obeyed, small_unmap, unless_pages}
use Rattle.numa_run.specs.Obeying.{unmap_where, with_huge, with_lying}
use Rattle.numa_run.specs.Replies.{limits_outcome, machine_outcome, machine_unless, outcome_of}
use Rattle.numa_run.specs.Replies.{cpus_outcome, served_by, served_first, served_later}
use Rattle.numa_run.specs.PageLines.{work_served}
use Rattle.numa_run.specs.States.{State, setup_with}
use Rattle.numa_run.specs.Work.{unless_wanting, want_of}
use Rattle.numa_host_script.specs.Sessions.{HostLack, Single, is_host, session_after}
use Rattle.numa_host_script.specs.Sessions.{session_served}
use Rattle.numa_play.specs.Turned.{turned}
use Rattle.numa_play.specs.Twins.{IsRefusedAlike, IsServedAlike, KeepNodes, StayTwins, keeps_nodes}
use Rattle.numa_play.specs.Twins.{turned_machine, twin_of}

-- what a line comes to in a state, and in its twin
abbrev pub AreTwins : Served → Served → Type 0
AreTwins own twin = (twin.state ≡ twin_of own.state) × KeepNodes own.state.world.history

-- ---- the parts of what a line comes to

if-twins : (b : Bool) (one other twin twin_other : Served) → AreTwins one twin
    → AreTwins other twin_other → AreTwins (if b then one else other)
    (if b then twin else twin_other)
if-twins true one other twin twin_other first second = first
if-twins false one other twin twin_other first second = second

-- the same, where the twin's test is another of the same value
if-by : (b c : Bool) (one other twin twin_other : Served) → c ≡ b → AreTwins one twin
    → AreTwins other twin_other → AreTwins (if b then one else other)
    (if c then twin else twin_other)
if-by b c one other twin twin_other same first second =
    subst (λ (x : Bool). AreTwins (if b then one else other) (if x then twin else twin_other))
    (sym same) (if-twins b one other twin twin_other first second)

unless-twins : (why : Option PlacedRefusal) (state : State) (own twin : Served)
    → KeepNodes state.world.history → AreTwins own twin
    → AreTwins (unless_pages why state own) (unless_pages why (twin_of state) twin)
unless-twins None state own twin keep are = are
unless-twins (Some why) state own twin keep are = (refl, keep)

lying-twins : (lying : Lying) (own twin : Served) → AreTwins own twin
    → AreTwins (with_lying lying own) (with_lying lying twin)
lying-twins lying own twin are = (
  ap (λ (s : State). record s { lying = lying }) are.0,
  are.1,
)

huge-twins : (memory : Option HugeMemory) (own twin : Served) → AreTwins own twin
    → AreTwins (with_huge memory own) (with_huge memory twin)
huge-twins memory own twin are = (
  ap (λ (s : State). record s { huge = memory }) are.0,
  are.1,
)

-- ---- a command that both refuse alike

module _ (lack : Lack) (machine : Hardware) (state : State) (command : Command)
    (keeps : keeps_nodes command ≡ true) (keep : KeepNodes state.world.history)
    (alike : refusal_of machine state.bounds state.world.history command
    ≡ refusal_of (turned_machine machine) state.bounds state.world.history command) where
  -- whether it is accepted, by its first cause
  abbrev taken_by : Option Refusal → Bool
  taken_by cause = is_ok (unless_wanting (if is_starved lack then want_of (Accept command)
      else None) (refused_or (because cause) (Accepted (length state.world.history + 1))))

  abbrev world_by : Option Refusal → World
  world_by cause = if taken_by cause then record {
    history = command ∷ state.world.history;
    published = state.world.published;
    worker = state.world.worker;
    owner = state.world.owner;
  } else state.world

  accepted-alike : is_accepted lack (turned_machine machine) (twin_of state) command
      ≡ is_accepted lack machine state command
  accepted-alike = ap taken_by (sym alike)

  kept-by : (b : Bool) → KeepNodes (if b then record {
    history = command ∷ state.world.history;
    published = state.world.published;
    worker = state.world.worker;
    owner = state.world.owner;
  } else state.world).history
  kept-by true = (keeps, keep)
  kept-by false = keep

  accepted-twins : AreTwins (accepted_outcome lack machine state command)
      (accepted_outcome lack (turned_machine machine) (twin_of state) command)
  accepted-twins = (
    ap (λ cause. record (twin_of state) {
      world = world_by cause;
      resident = state.resident;
    }) (sym alike),
    kept-by (taken_by (refusal_of machine state.bounds state.world.history command)),
  )

  lying-so : (lying : Lying) → AreTwins (lying_so lack machine state command lying)
      (lying_so lack (turned_machine machine) (twin_of state) command lying)
  lying-so lying =
      let own = accepted_outcome lack machine state command in
      let twin = accepted_outcome lack (turned_machine machine) (twin_of state) command in
      if-by (is_accepted lack machine state command)
      (is_accepted lack (turned_machine machine) (twin_of state) command) (with_lying lying own) own
      (with_lying lying twin) twin accepted-alike (lying-twins lying own twin accepted-twins)
      accepted-twins

  both-so : (lying : Lying) (memory : Option HugeMemory)
      → AreTwins (both_so lack machine state command lying memory)
      (both_so lack (turned_machine machine) (twin_of state) command lying memory)
  both-so lying memory =
      let own = accepted_outcome lack machine state command in
      let twin = accepted_outcome lack (turned_machine machine) (twin_of state) command in
      if-by (is_accepted lack machine state command)
      (is_accepted lack (turned_machine machine) (twin_of state) command)
      (with_huge memory (with_lying lying own)) own (with_huge memory (with_lying lying twin)) twin
      accepted-alike (huge-twins memory (with_lying lying own) (with_lying lying twin)
      (lying-twins lying own twin accepted-twins)) accepted-twins

module _ (lack : Lack) (machine : Hardware) (state : State) (start bytes : ℕ)
    (keep : KeepNodes state.world.history)
    (alike : refusal_of machine state.bounds state.world.history (command.Unmap start bytes)
    ≡ refusal_of (turned_machine machine) state.bounds state.world.history
    (command.Unmap start bytes)) where
  small-unmap : AreTwins (small_unmap lack machine state start bytes)
      (small_unmap lack (turned_machine machine) (twin_of state) start bytes)
  small-unmap = if-twins (has_stated state.lying.spots start bytes) _ _ _ _
      (unless-twins (lack_of lack (forgotten start bytes state.lying.spots)) state _ _ keep
      (lying-so lack machine state (command.Unmap start bytes) refl keep alike
      (with_spots (forgotten start bytes state.lying.spots) state.lying)))
      (accepted-twins lack machine state (command.Unmap start bytes) refl keep alike)

  huge-unmap : (memory : HugeMemory)
      → AreTwins (huge_unmap lack machine state start bytes memory)
      (huge_unmap lack (turned_machine machine) (twin_of state) start bytes memory)
  huge-unmap memory = unless-twins (unmap_lack lack start bytes memory) state _ _ keep
      (unless-twins (lying_lack lack start bytes state.lying) state _ _ keep
      (both-so lack machine state (command.Unmap start bytes) refl keep alike
      (lying_without start bytes state.lying) (Some (unmapped_in start bytes memory))))

  unmap-where : (memory : Option HugeMemory)
      → AreTwins (unmap_where memory lack machine state start bytes)
      (unmap_where memory lack (turned_machine machine) (twin_of state) start bytes)
  unmap-where None = small-unmap
  unmap-where (Some memory) = if-twins (has_huge_in (Some memory) (page_of start)
      (page_count bytes)) _ _ _ _ (huge-unmap memory) small-unmap

obeyed-twins : (lack : Lack) (machine : Hardware) (state : State) (command : Command)
    → KeepNodes state.world.history → keeps_nodes command ≡ true
    → refusal_of machine state.bounds state.world.history command
    ≡ refusal_of (turned_machine machine) state.bounds state.world.history command
    → AreTwins (obeyed lack machine state command)
    (obeyed lack (turned_machine machine) (twin_of state) command)
obeyed-twins lack machine state (command.SetMems mask) keep keeps alike = absurd (cc)
obeyed-twins lack machine state (command.Unmap start bytes) keep keeps alike =
    unmap-where lack machine state start bytes keep alike state.huge
obeyed-twins lack machine state (command.Map start bytes offset size) keep keeps alike =
    accepted-twins lack machine state (command.Map start bytes offset size) keeps keep alike
obeyed-twins lack machine state (command.Mbind start bytes spec) keep keeps alike =
    accepted-twins lack machine state (command.Mbind start bytes spec) keeps keep alike
obeyed-twins lack machine state (command.SetTask task spec) keep keeps alike =
    accepted-twins lack machine state (command.SetTask task spec) keeps keep alike
obeyed-twins lack machine state (command.Inherit heir from) keep keeps alike =
    accepted-twins lack machine state (command.Inherit heir from) keeps keep alike
obeyed-twins lack machine state (command.SetHome start bytes node) keep keeps alike =
    accepted-twins lack machine state (command.SetHome start bytes node) keeps keep alike
obeyed-twins lack machine state (command.SetWeight node weight) keep keeps alike =
    accepted-twins lack machine state (command.SetWeight node weight) keeps keep alike

-- ---- a line before a machine is ready

limits-twins : (ranges tasks commands : ℕ) (state : State) → KeepNodes state.world.history
    → AreTwins (limits_outcome ranges tasks commands state)
    (limits_outcome ranges tasks commands (twin_of state))
limits-twins ranges tasks commands state keep = if-twins (limits_fit ranges tasks) _ _ _ _
    (refl, keep) (refl, keep)

cpus-twins : (said : Result ℕ ListFault) (state : State) → KeepNodes state.world.history
    → AreTwins (cpus_outcome said state) (cpus_outcome said (twin_of state))
cpus-twins (Ok cpus) state keep = (refl, keep)
cpus-twins (Err fault) state keep = (refl, keep)

unless-fault : (fault : Option MachineFault) (hardware : Hardware) (state : State)
    → KeepNodes state.world.history → AreTwins (machine_unless fault hardware state)
    (machine_unless fault (turned_machine hardware) (twin_of state))
unless-fault None hardware state keep = (refl, tt)
unless-fault (Some fault) hardware state keep = (refl, keep)

machine-twins : (lack : Lack) (said : MachineLine) (memory : Result ℕ ListFault) (state : State)
    → KeepNodes state.world.history → AreTwins (machine_outcome lack said memory state)
    (machine_outcome lack said memory (twin_of state))
machine-twins lack said (Err fault) state keep = (refl, keep)
machine-twins lack said (Ok memory) state keep =
    let cpus = nodes_with_cpus said.nodes state.cpus in
    let hardware = hardware_of said memory state.rules cpus in
    unless-fault (first_fault lack cpus hardware) hardware state keep

-- ---- every line

-- the line as the twin has it
abbrev twin_line : Line → Line
twin_line (line.Rules rules) = line.Rules (other_rules rules)
twin_line said = said

-- a publish, which lacks memory or doesn't
abbrev published_by : Bool → Hardware → State → Served
published_by starved machine state =
    let setup = setup_with machine state.bounds in
    let newest = newest_published state.world in
    let answer = unless_wanting (if starved then Some NoMemory else None)
    (answer_of setup state.world newest Publish) in
    with_outcome state (record {
      reply = reply_to answer;
      world = world_after setup state.world newest Publish answer;
      resident = state.resident;
    })

publish-by : (starved : Bool) (machine : Hardware) (state : State) → KeepNodes state.world.history
    → AreTwins (published_by starved machine state)
    (published_by starved (turned_machine machine) (twin_of state))
publish-by true machine state keep = (refl, keep)
publish-by false machine state keep = (refl, keep)

publish-twins : (lack : Lack) (machine : Hardware) (state : State) → KeepNodes state.world.history
    → AreTwins (work_served lack machine state (work.Event Publish))
    (work_served lack (turned_machine machine) (twin_of state) (work.Event Publish))
publish-twins lack machine state keep = publish-by (is_starved lack) machine state keep

first-twins : (lack : Lack) (state : State) (said : Line) → KeepNodes state.world.history
    → IsServedAlike (record state { machine = None }) said
    → AreTwins (served_first lack state said) (served_first lack (twin_of state) (twin_line said))
first-twins lack state line.Silent keep alike = (refl, keep)
first-twins lack state line.Malformed keep alike = (refl, keep)
first-twins lack state (line.Limits ranges tasks commands) keep alike =
    limits-twins ranges tasks commands state keep
first-twins lack state (line.Rules rules) keep alike = (refl, keep)
first-twins lack state (line.Cpus said) keep alike = cpus-twins said state keep
first-twins lack state (line.Machine said) keep alike =
    machine-twins lack said said.memory state keep
first-twins lack state (line.Command said) keep alike = (refl, keep)
first-twins lack state (line.Question said) keep alike = (refl, keep)
first-twins lack state (line.Maps task) keep alike = (refl, keep)
first-twins lack state (line.Work said) keep alike = (refl, keep)
first-twins lack state (line.EmptyBind start fault) keep alike = absurd alike
first-twins lack state (line.Pages said) keep alike = absurd alike
first-twins lack state (line.Bind start bytes policy pages) keep alike = absurd alike
first-twins lack state (line.Huge said) keep alike = absurd alike
first-twins lack state line.Host keep alike = absurd alike
first-twins lack state (line.HostCommand said) keep alike = absurd alike

later-twins : (lack : Lack) (machine : Hardware) (state : State) (said : Line)
    → KeepNodes state.world.history → IsServedAlike (record state { machine = Some machine }) said
    → AreTwins (served_later lack machine state said)
    (served_later lack (turned_machine machine) (twin_of state) (twin_line said))
later-twins lack machine state line.Silent keep alike = (refl, keep)
later-twins lack machine state line.Malformed keep alike = (refl, keep)
later-twins lack machine state (line.Limits ranges tasks commands) keep alike = (refl, keep)
later-twins lack machine state (line.Rules rules) keep alike = (refl, keep)
later-twins lack machine state (line.Cpus said) keep alike = (refl, keep)
later-twins lack machine state (line.Machine said) keep alike = (refl, keep)
later-twins lack machine state (line.Command (Err fault)) keep alike = (refl, keep)
later-twins lack machine state (line.Command (Ok command)) keep alike =
    obeyed-twins lack machine state command keep alike.0 alike.1
later-twins lack machine state (line.Question said) keep alike = (refl, keep)
later-twins lack machine state (line.Maps task) keep alike = (refl, keep)
later-twins lack machine state (line.Work (work.Event Publish)) keep alike =
    publish-twins lack machine state keep
later-twins lack machine state (line.Work (work.Event (Accept command))) keep alike = absurd alike
later-twins lack machine state (line.Work (work.Event (Begin w request))) keep alike = absurd alike
later-twins lack machine state (line.Work (work.Event (Seek w node))) keep alike = absurd alike
later-twins lack machine state (line.Work (work.Event (Look w word))) keep alike = absurd alike
later-twins lack machine state (line.Work (work.Event (Try w frame))) keep alike = absurd alike
later-twins lack machine state (line.Work (work.Event (Give w frame))) keep alike = absurd alike
later-twins lack machine state (line.Work (work.Touch w request)) keep alike = absurd alike
later-twins lack machine state (line.Work (work.Release w page)) keep alike = absurd alike
later-twins lack machine state (line.EmptyBind start fault) keep alike = absurd alike
later-twins lack machine state (line.Pages said) keep alike = absurd alike
later-twins lack machine state (line.Bind start bytes policy pages) keep alike = absurd alike
later-twins lack machine state (line.Huge said) keep alike = absurd alike
later-twins lack machine state line.Host keep alike = absurd alike
later-twins lack machine state (line.HostCommand said) keep alike = absurd alike

by-machine : (machine : Option Hardware) (lack : Lack) (state : State) (said : Line)
    → KeepNodes state.world.history → IsServedAlike (record state { machine = machine }) said
    → AreTwins (served_by machine lack (record state { machine = machine }) said)
    (served_by (option_map turned_machine machine) lack
    (twin_of (record state { machine = machine })) (twin_line said))
by-machine None lack state said keep alike =
    first-twins lack (record state { machine = None }) said keep alike
by-machine (Some machine) lack state said keep alike =
    later-twins lack machine (record state { machine = Some machine }) said keep alike

-- what is served alike is no line `host`, nor is it for the twin
not-host : (state : State) (said : Line) → IsServedAlike state said
    → (is_host said ≡ false) × (is_host (twin_line said) ≡ false)
not-host state line.Silent alike = (refl, refl)
not-host state line.Malformed alike = (refl, refl)
not-host state (line.Limits ranges tasks commands) alike = (refl, refl)
not-host state (line.Rules rules) alike = (refl, refl)
not-host state (line.Cpus said) alike = (refl, refl)
not-host state (line.Machine said) alike = (refl, refl)
not-host state (line.Command said) alike = (refl, refl)
not-host state (line.Question said) alike = (refl, refl)
not-host state (line.Maps task) alike = (refl, refl)
not-host state (line.Work said) alike = (refl, refl)
not-host state (line.EmptyBind start fault) alike = (refl, refl)
not-host state (line.Pages said) alike = (refl, refl)
not-host state (line.Bind start bytes policy pages) alike = (refl, refl)
not-host state (line.Huge said) alike = (refl, refl)
not-host state line.Host alike = absurd alike
not-host state (line.HostCommand said) alike = (refl, refl)

turned-alone : (said : Line) → turned (alone said) ≡ alone (twin_line said)
turned-alone line.Silent = refl
turned-alone line.Malformed = refl
turned-alone (line.Limits ranges tasks commands) = refl
turned-alone (line.Rules rules) = refl
turned-alone (line.Cpus said) = refl
turned-alone (line.Machine said) = refl
turned-alone (line.Command said) = refl
turned-alone (line.Question said) = refl
turned-alone (line.Maps task) = refl
turned-alone (line.Work said) = refl
turned-alone (line.EmptyBind start fault) = refl
turned-alone (line.Pages said) = refl
turned-alone (line.Bind start bytes policy pages) = refl
turned-alone (line.Huge said) = refl
turned-alone line.Host = refl
turned-alone (line.HostCommand said) = refl

session-alone : (lack : HostLack) (state : State) (said : Line) → is_host said ≡ false
    → session_after lack (Single state) (alone said)
    ≡ Single (served_by state.machine lack.lacked state said).state
unfolding session_served outcome_of
session-alone lack state said none = rw none refl

pub stay : (state : State) (said : Line) (lack : HostLack) → KeepNodes state.world.history
    → IsServedAlike state said → StayTwins state (alone said) lack
stay state said lack keep alike =
    let twins = by-machine state.machine lack.lacked state said keep alike in
    let host = not-host state said alike in
    record {
      after = (served_by state.machine lack.lacked state said).state;
      own = session-alone lack state said host.0;
      twin = ap (session_after lack (Single (twin_of state))) (turned-alone said)
          ∙ session-alone lack (twin_of state) (twin_line said) host.1
          ∙ ap Single twins.0;
      keeps = twins.1;
    }

-- the same of a line that no process of a host is told
pub stay-line : (said : ScriptLine) (state : State) (lack : HostLack) → said.process ≡ None
    → KeepNodes state.world.history → IsServedAlike state said.line → StayTwins state said lack
stay-line said state lack none keep alike =
    subst (λ (process : Option ℕ). StayTwins state (record { process = process; line = said.line })
    lack) (sym none) (stay state said.line lack keep alike)
