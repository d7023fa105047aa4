-- What judging a line of each kind comes to.
use Rattle.std.proofs.Common.{◌≡◌, ℕ, Bool, true, false, Option, Some, None, List, length, refl}
use Rattle.std.proofs.Common.{sym, ap, subst, ◌∙◌}
use Rattle.std.specs.Prelude.{◌↔◌, IsSomeAnd, IsTrue, Ok, if◌then◌else◌}
use Rattle.std.specs.Option.{option_map}
use Rattle.numa_machine.specs.Machine.{Hardware}
use Rattle.numa_requests.specs.declared.command.Command.{Command}
use Rattle.numa_machine.specs.declared.refusal.PlaceRefusal.{PlaceRefusal}
use Rattle.numa_machine.specs.declared.refusal.PlaceRefusal.TheVariants as place
use Rattle.numa_core.specs.Standing.{setup_of}
use Rattle.numa_script.specs.declared.line.Line.{Line}
use Rattle.numa_script.specs.declared.line.Line.TheVariants as line
use Rattle.numa_script.specs.declared.page_line.PageLine.{PageLine}
use Rattle.numa_script.specs.declared.page_line.PageLine.TheVariants as page
use Rattle.numa_script.specs.declared.line.Question.{Question}
use Rattle.numa_script.specs.declared.line.Question.TheVariants as question
use Rattle.numa_run.specs.Answers.{State, reply_of}
use Rattle.numa_script.specs.Replies.{LacksMemory, fault_in, is_fault}
use Rattle.numa_run.specs.Judged.{fault_or, fault_of, asked_by, asked_fault, cause_at}
use Rattle.numa_run.specs.Judged.{question_cause, question_refusal, IsStarved}
use Rattle.numa_run.specs.Questions.{question_text}
use Rattle.numa_run.specs.Listings.{both_listing}
use Rattle.numa_page_state.specs.Outcomes.{Enough, Lack, is_starved, rooms_of}
use Rattle.numa_run.specs.ArrivedTexts.{rooms_line}
use Rattle.numa_run.specs.MovedTexts.{both_line}
use Rattle.numa_run.specs.PageLines.{page_outcome}
use Rattle.numa_run.specs.Replies.{Served, reply_in, with_text, outcome_of, served_by, served_later}
use Rattle.numa_run.specs.Standing.{RunsAs}
use Rattle.numa_run.specs.States.{process_on}
use Rattle.numa_run.specs.declared.running.Running.{Running}
use Rattle.numa_script.specs.declared.reply.Reply.{Reply}
use Rattle.numa_script.specs.declared.reply.Reply.TheVariants as reply

-- a reply is told where it is a fault
pub told-judged : (told : Reply) (lack : Lack) (state : State) (said : Line) →
    Some told ≡ reply_of lack state said → fault_in told ≡ fault_of lack state said
told-judged told lack state said is = ap (λ o. fault_or o (asked_fault lack state said)) is

pub served-is : (running : Running) (said : Line) (lack : Lack) (state : State)
    → RunsAs running state →
    outcome_of lack state said ≡ served_later lack (setup_of running.core).machine state said
unfolding outcome_of
served-is running said lack state stands = ap (λ m. served_by m lack state said)
    stands.core.machine

-- a question is answered the fault or the refusal that its cause gives
pub asked-fault : (running : Running) (asked : Question) (lack : Lack) (state : State)
    → RunsAs running state
    → option_map reply.Refused
    (question_cause (is_starved lack) (setup_of running.core).machine state.world.history asked)
    ≡ fault_of lack state (line.Question asked)
asked-fault running asked lack state stands =
    let machine = (setup_of running.core).machine in
    let is : outcome_of lack state (line.Question asked)
    ≡ with_text (question_text (is_starved lack) machine state.world.history asked) state =
    served-is running (line.Question asked) lack state stands in
    let none : None ≡ reply_of lack state (line.Question asked) =
    sym (ap (λ r. reply_in r.answer) is) in
    let asks : option_map reply.Refused
    (question_cause (is_starved lack) machine state.world.history asked)
    ≡ asked_fault lack state (line.Question asked) =
    sym (ap (λ m. asked_by m lack state.world.history asked) stands.core.machine) in
    asks ∙ ap (λ o. fault_or o (asked_fault lack state (line.Question asked))) none

-- a line that is answered a text has no fault, unless it is a question
shown-fault : (said : Line) (text : List ℕ) (state : State)
    → outcome_of Enough state said ≡ with_text text state → asked_fault Enough state said ≡ None
    → None ≡ fault_of Enough state said
shown-fault said text state is none =
    sym none ∙ ap (λ o. fault_or o (asked_fault Enough state said))
    (sym (ap (λ (r : Served). reply_in r.answer) is))

-- maps
pub listed-fault : (running : Running) (task : ℕ) (state : State) → RunsAs running state
    → None ≡ fault_of Enough state (line.Maps task)
listed-fault running task state stands =
    shown-fault (line.Maps task)
    (both_listing (process_on (setup_of running.core).machine state) state.lying.spots state.huge
    task) state
    (served-is running (line.Maps task) Enough state stands) refl

-- a line about pages that is answered a text and changes nothing
abbrev pub IsText : PageLine → (State → List ℕ) → Type 0
IsText said text = (lack : Lack) (machine : Hardware) (state : State)
    → page_outcome lack machine state said ≡ with_text (text state) state

-- moved, and room alone
abbrev pub last_text : State → List ℕ
last_text state = both_line (length state.world.history) state.lying.last state.huge

abbrev pub rooms_left : State → List ℕ
rooms_left state = rooms_line (rooms_of state.lying.room)

pub moved-text : IsText page.Moved last_text
moved-text lack machine state = refl

pub rooms-text : IsText page.Rooms rooms_left
rooms-text lack machine state = refl

module _ (said : PageLine) (text : State → List ℕ) (is : IsText said text) where
  pub text-served : (running : Running) (state : State) → RunsAs running state
      → outcome_of Enough state (line.Pages (Ok said)) ≡ with_text (text state) state
  text-served running state stands =
      served-is running (line.Pages (Ok said)) Enough state stands
      ∙ is Enough (setup_of running.core).machine state

  pub text-fault : (running : Running) (state : State) → RunsAs running state
      → None ≡ fault_of Enough state (line.Pages (Ok said))
  text-fault running state stands =
      shown-fault (line.Pages (Ok said)) (text state) state (text-served running state stands) refl

-- with memory, a question is refused by what refuses it
pub plain-cause : (machine : Hardware) (history : List Command) (asked : Question) →
    question_cause false machine history asked ≡ option_map (cause_at (length history))
    (question_refusal machine history asked)
plain-cause machine history (question.Place task address cpu) = refl
plain-cause machine history (question.Span task address pages cpu) = refl
plain-cause machine history (question.Counts task address pages cpu) = refl
plain-cause machine history question.Ranges = refl

-- ---- lack of memory

-- a reply that says so is a fault or a refusal
starved-fault : (told : Reply) → LacksMemory told → is_fault told ≡ true
starved-fault (reply.BadMachine fault) lacks = refl
starved-fault (reply.Refused cause) lacks = refl
starved-fault (reply.HostRefused cause) lacks = refl
starved-fault (reply.PlacedRefused cause) lacks = refl
starved-fault (reply.MoveRefused cause) lacks = refl
starved-fault (reply.HugeRefused cause) lacks = refl
starved-fault reply.Silent lacks = absurd lacks
starved-fault reply.BadWords lacks = absurd lacks
starved-fault reply.BadState lacks = absurd lacks
starved-fault reply.LimitsOk lacks = absurd lacks
starved-fault reply.BadLimits lacks = absurd lacks
starved-fault reply.RulesOk lacks = absurd lacks
starved-fault reply.CpusOk lacks = absurd lacks
starved-fault reply.Ready lacks = absurd lacks
starved-fault (reply.BadWord fault) lacks = absurd lacks
starved-fault (reply.Accepted version) lacks = absurd lacks
starved-fault (reply.Published version) lacks = absurd lacks
starved-fault reply.Still lacks = absurd lacks
starved-fault (reply.Exhausted version) lacks = absurd lacks
starved-fault (reply.Won win) lacks = absurd lacks
starved-fault (reply.Found frame) lacks = absurd lacks
starved-fault reply.Full lacks = absurd lacks
starved-fault reply.Given lacks = absurd lacks
starved-fault (reply.Back frame) lacks = absurd lacks
starved-fault reply.Placed lacks = absurd lacks
starved-fault reply.HostReady lacks = absurd lacks
starved-fault reply.AtOk lacks = absurd lacks
starved-fault reply.RoomOk lacks = absurd lacks
starved-fault reply.MemoryMigrateOk lacks = absurd lacks
starved-fault (reply.Moved moved left) lacks = absurd lacks
starved-fault (reply.MovedTo node) lacks = absurd lacks
starved-fault (reply.Sent version moved left late) lacks = absurd lacks

starved-in : (told : Reply) (b : Bool) → IsSomeAnd (if b then Some told else None) LacksMemory
    → LacksMemory told
starved-in told true s = s
starved-in told false s = absurd s

-- so a reply says it where its fault does
pub reply-starved : (told : Reply) (lacks : Bool) → (IsTrue lacks ↔ LacksMemory told)
    → IsTrue lacks ↔ IsSomeAnd (fault_in told) LacksMemory
reply-starved told lacks h = (
  λ e. subst (λ (b : Bool). IsSomeAnd (if b then Some told else None) LacksMemory)
      (sym (starved-fault told (h.0 e))) (h.0 e),
  λ s. h.1 (starved-in told (is_fault told) s),
)

-- a page that isn't mapped, or a node that isn't there, is no lack
unstarved : (version : ℕ) (cause : Option PlaceRefusal)
    → IsSomeAnd (option_map reply.Refused (option_map (cause_at version) cause)) LacksMemory → ⊥
unstarved version None s = s
unstarved version (Some place.BadCpu) s = s
unstarved version (Some place.Unmapped) s = s

pub cause-starved : (lacks : Bool) (machine : Hardware) (history : List Command) (asked : Question)
    → (asked ≡ question.Ranges → lacks ≡ false)
    → IsTrue lacks
    ↔ IsSomeAnd (option_map reply.Refused (question_cause lacks machine history asked)) LacksMemory
cause-starved true machine history (question.Place task address cpu) ranges =
    (λ e. tt, λ s. refl)
cause-starved true machine history (question.Span task address pages cpu) ranges =
    (λ e. tt, λ s. refl)
cause-starved true machine history (question.Counts task address pages cpu) ranges =
    (λ e. tt, λ s. refl)
cause-starved false machine history (question.Place task address cpu) ranges = (
  λ e. cc,
  λ s.
      absurd (unstarved (length history)
      (question_refusal machine history (question.Place task address cpu)) s),
)
cause-starved false machine history (question.Span task address pages cpu) ranges = (
  λ e. cc,
  λ s.
      absurd (unstarved (length history)
      (question_refusal machine history (question.Span task address pages cpu)) s),
)
cause-starved false machine history (question.Counts task address pages cpu) ranges = (
  λ e. cc,
  λ s.
      absurd (unstarved (length history)
      (question_refusal machine history (question.Counts task address pages cpu)) s),
)
cause-starved lacks machine history question.Ranges ranges =
    (λ e. let no = ranges refl in cc, λ s. absurd s)

pub asked-starved : (running : Running) (asked : Question) (lack : Lack) (state : State)
    → RunsAs running state → (asked ≡ question.Ranges → is_starved lack ≡ false)
    → IsTrue (is_starved lack) ↔ IsStarved lack state (line.Question asked)
asked-starved running asked lack state stands ranges =
    subst (λ (o : Option Reply). IsTrue (is_starved lack) ↔ IsSomeAnd o LacksMemory)
    (asked-fault running asked lack state stands)
    (cause-starved (is_starved lack) (setup_of running.core).machine state.world.history asked
    ranges)

-- a line without a fault lacks no memory
pub faultless-starved : (said : Line) (state : State) → None ≡ fault_of Enough state said
    → IsTrue false ↔ IsStarved Enough state said
faultless-starved said state none =
    subst (λ (o : Option Reply). IsTrue false ↔ IsSomeAnd o LacksMemory) none
    (λ e. cc, λ s. absurd s)
