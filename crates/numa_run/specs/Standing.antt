-- Which states a running machine stands for, and what it does with lines.
use Rattle.std.specs.Prelude.{◌≡◌, ℕ, Bool, Box, true, List, Option, Some, None, Result, Ok, Err}
use Rattle.std.specs.Global.{Global}
use Rattle.numa_machine.specs.Machine.{Hardware}
use Rattle.numa_requests.specs.declared.page_refusal.PlacedRefusal.{PlacedRefusal}
use Rattle.numa_requests.specs.declared.page_refusal.PlacedRefusal.TheVariants.{NoMemory}
use Rattle.numa_huge.specs.Huge.{HugePlaced, places_of}
use Rattle.numa_huge.specs.Moves.{HugeMemory}
use Rattle.numa_huge.specs.Tallies.{IsMemory, StandsForHuge}
use Rattle.numa_huge.specs.declared.pages.HugePages.{HugePages}
use Rattle.numa_page_state.specs.Huge.{unmapped_in}
use Rattle.numa_page_state.specs.Lying.{Lying}
use Rattle.numa_page_state.specs.Standing.{Lies, LiesAs, Sends}
use Rattle.numa_page_state.specs.declared.sending.Rebinding.{Rebinding}
use Rattle.numa_page_state.specs.declared.sending.Sending.{Sending}
use Rattle.numa_page_state.specs.declared.state.PageState.{PageState}
use Rattle.numa_core.specs.Standing.{CoreState, CoreStandsFor, setup_of}
use Rattle.numa_page_state.specs.Outcomes.{Lack, is_starved}
use Rattle.numa_script.specs.declared.line.Line.{Line}
use Rattle.numa_script.specs.declared.line.Line.TheVariants as line
use Rattle.numa_script.specs.declared.page_line.MoveWords.{MoveWords}
use Rattle.numa_script.specs.declared.page_line.PageLine.TheVariants as page
use Rattle.numa_run.specs.Answering.{Replied, Served, Shown}
use Rattle.numa_run.specs.Answers.{reply_of, after}
use Rattle.numa_run.specs.HugeLines.{memory_on, pools_answer, pools_on}
use Rattle.numa_run.specs.Judged.{asked_fault}
use Rattle.numa_run.specs.PageLines.{answered_by, arrived_text}
use Rattle.numa_run.specs.PoolTexts.{pools_line}
use Rattle.numa_run.specs.Replies.{outcome_of}
use Rattle.numa_run.specs.Obeying.{toucher_of}
use Rattle.numa_run.specs.States.{State, process_on}
use Rattle.numa_run.specs.Work.{Outcome}
use Rattle.numa_script.specs.declared.reply.Reply.{Reply}
use Rattle.numa_run.specs.declared.running.Running.{Running}
use Rattle.numa_run.specs.declared.settings.Settings.{Settings}
use Rattle.numa_run.specs.declared.running.Taken.{Taken}
use Rattle.numa_run.specs.declared.running.Taken.TheVariants as taken

-- the core of the machine that is ready in the state: its machine and limits are the state's, it
-- has 4 workers, and it stands for the state's world
pub record IsCoreIn (core : CoreState) (state : State) : Type 0 where
  pub bounds : state.bounds ≡ (setup_of core).bounds
  pub machine : state.machine ≡ Some (setup_of core).machine
  pub workers : (setup_of core).workers ≡ 4
  pub world : CoreStandsFor core state.world

-- a running machine stands for the state: its core is the state's, the same pages are placed, and
-- other pages lie alike
pub record RunsAs (running : Running) (state : State) : Type 0 where
  pub core : IsCoreIn running.core state
  pub resident : running.resident ≡ state.resident
  pub lies : Lies running.pages state.lying
  pub huge : StandsForHuge running.huge state.huge

-- without a running machine the limits, the rules and the nodes with CPUs are those of the machine
-- to come
abbrev pub Stands : Settings → Option (Box Running Global) → State → Type 0
Stands settings None state =
    (state.bounds ≡ settings.limits) × (state.rules ≡ settings.rules)
    × (state.cpus ≡ settings.cpus) × (state.machine ≡ None)
Stands settings (Some running) state = RunsAs running.value state

-- the state, with what the line made of its world and placed pages
abbrev pub state_with : State → Outcome → State
state_with state outcome = record state { world = outcome.world; resident = outcome.resident }

-- the line was answered as the definition says, and the state that it says is reached
abbrev pub Does : Running → Reply → Running → (Lack → State → Outcome) → Type 0
Does old answer new outcome =
    (state : State) → RunsAs old state
    → (lack : Lack) × (answer ≡ (outcome lack state).reply)
    × RunsAs new (state_with state (outcome lack state))

-- the same of a line that may change where pages lie
abbrev pub Serves : Running → Reply → Running → (Lack → Hardware → State → Served) → Type 0
Serves old answer new serve =
    (state : State) → RunsAs old state
    → (lack : Lack) × ((serve lack old.core.space.machine state).answer ≡ Replied answer)
    × RunsAs new (serve lack old.core.space.machine state).state

-- the same in one state
abbrev pub ServesIn : Running → Reply → Running → (Lack → Hardware → State → Served) → State
    → Type 0
ServesIn old answer new serve state = (lack : Lack)
    × ((serve lack old.core.space.machine state).answer ≡ Replied answer)
    × RunsAs new (serve lack old.core.space.machine state).state

-- pages of 2 MiB are so once a span was unmapped
abbrev pub IsWithout : ℕ → ℕ → Hardware → State → HugePlaced → Type 0
IsWithout start bytes machine state after =
    places_of after ≡ (unmapped_in start bytes (memory_on machine state)).pages

-- nothing refuses a policy, and pages have been found that go to it
abbrev pub IsFound : Hardware → State → Rebinding → MoveWords → Sending → Type 0
IsFound machine state said words found =
    Sends (process_on machine state) said (toucher_of words) state.lying (Ok (Some found))

-- the same, where a line shows a text of the state that it reached
abbrev pub Shows : Running → Running → (Lack → Hardware → State → Served)
    → (Hardware → State → List ℕ) → Type 0
Shows old new serve text = (state : State) → RunsAs old state
    → (lack : Lack) × ((serve lack old.core.space.machine state).answer
    ≡ Shown (text new.core.space.machine (serve lack old.core.space.machine state).state))
    × RunsAs new (serve lack old.core.space.machine state).state

-- the same, where a line may tell what it touched, or what the pools have
abbrev pub ComesTo : Running → Taken → Running → (Lack → Hardware → State → Served) → Type 0
ComesTo old (taken.Reply answer) new serve = Serves old answer new serve
ComesTo old taken.Arrived new serve = Shows old new serve (λ machine state. arrived_text state)
ComesTo old taken.Pools new serve =
    Shows old new serve (λ machine state. pools_line (pools_on machine state))
ComesTo old (taken.Question asked) new serve = ⊥
ComesTo old (taken.Maps task) new serve = ⊥
ComesTo old taken.Moved new serve = ⊥
ComesTo old taken.Rooms new serve = ⊥

-- the same, where a line may have no reply and tell what it touched
abbrev pub Changes : Running → Option Reply → Running → (Lack → Hardware → State → Served)
    → Type 0
Changes old told new serve = (state : State) → RunsAs old state
    → (lack : Lack) × (reached : State)
    × (serve lack old.core.space.machine state ≡ answered_by told reached)
    × RunsAs new reached

-- pages of both sizes were touched as the outcome says by what they lacked; where that was memory,
-- nothing has changed
abbrev pub Populates : PageState → HugePages → Result (Unit {0}) PlacedRefusal → PageState
    → HugePages → (Lack → HugeMemory → Lying
    → Result (Unit {0}) PlacedRefusal × (Lying × HugeMemory)) → Type 0
Populates old huge result new huge_then outcome = (memory : HugeMemory) (lying : Lying)
    → IsMemory huge memory → LiesAs old lying → (lack : Lack)
    × ((outcome lack memory lying).0 ≡ result)
    × LiesAs new (outcome lack memory lying).1.0
    × IsMemory huge_then (outcome lack memory lying).1.1
    × (is_starved lack ≡ true
    → (result ≡ Err NoMemory) × (new ≡ old) × (huge_then ≡ huge))

-- the line has the reply that the definition says, and the state that it says is reached
abbrev pub Replies : Settings → Option (Box Running Global) → Line → Option Reply → Settings
    → Option (Box Running Global) → Type 0
Replies settings running said answer settings_then running_then =
    (state : State) → Stands settings running state
    → (lack : Lack) × (answer ≡ reply_of lack state said)
    × Stands settings_then running_then (after lack state said)

-- what a line came to that has this reply, or none, and was carried out
abbrev pub taken_by : Option Reply → Taken
taken_by (Some answer) = taken.Reply answer
taken_by None = taken.Arrived

-- the same where a machine is ready; a question and the lines `maps`, `moved` and `room` alone are
-- passed on, and change nothing. `populate` is carried out, and what it did is told of the state
-- that is reached
abbrev pub Takes : Running → Line → Taken → Running → Type 0
Takes old said (taken.Reply answer) new =
    (state : State) → RunsAs old state
    → (lack : Lack) × (Some answer ≡ reply_of lack state said)
    × RunsAs new (after lack state said)
Takes old said (taken.Question asked) new = (said ≡ line.Question asked) × (new ≡ old)
Takes old said (taken.Maps task) new = (said ≡ line.Maps task) × (new ≡ old)
Takes old said taken.Moved new = (said ≡ line.Pages (Ok page.Moved)) × (new ≡ old)
Takes old said taken.Rooms new = (said ≡ line.Pages (Ok page.Rooms)) × (new ≡ old)
Takes old said taken.Arrived new =
    (state : State) → RunsAs old state
    → (lack : Lack)
    × (Shown (arrived_text (after lack state said)) ≡ (outcome_of lack state said).answer)
    × (None ≡ asked_fault lack state said) × RunsAs new (after lack state said)
Takes old said taken.Pools new =
    (state : State) → RunsAs old state
    → (lack : Lack) × (pools_answer (after lack state said) ≡ (outcome_of lack state said).answer)
    × (None ≡ asked_fault lack state said) × RunsAs new (after lack state said)
