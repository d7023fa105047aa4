-- A line that is taken, and then judged.
use Rattle.std.proofs.Common.{◌≡◌, ℕ, Option, Some, None, List, refl, sym, ap, subst, ◌∙◌}
use Rattle.std.specs.Prelude.{Ok}
use Rattle.std.specs.Option.{option_map}
use Rattle.numa_core.specs.Standing.{setup_of}
use Rattle.numa_machine.specs.Machine.{Hardware}
use Rattle.numa_requests.specs.declared.event.CoreRefusal.{CoreRefusal}
use Rattle.numa_page_state.specs.Outcomes.{Enough, Lack, is_starved}
use Rattle.numa_script.specs.declared.line.Line.{Line}
use Rattle.numa_script.specs.declared.line.Line.TheVariants as line
use Rattle.numa_script.specs.declared.line.Question.{Question}
use Rattle.numa_script.specs.declared.page_line.PageLine.{PageLine}
use Rattle.numa_script.specs.declared.page_line.PageLine.TheVariants as page
use Rattle.numa_script.specs.declared.reply.Reply.{Reply}
use Rattle.numa_script.specs.declared.reply.Reply.TheVariants as reply
use Rattle.numa_run.specs.Answers.{State, after}
use Rattle.numa_run.specs.HugeLines.{pools_answer, pools_answer_on}
use Rattle.numa_run.specs.Judged.{fault_of, fault_or, question_cause}
use Rattle.numa_run.specs.Replies.{Answer, reply_in}
use Rattle.numa_run.specs.Scripts.{ScriptStandsFor, ScriptTakes, ScriptTells, arrived_answer}
use Rattle.numa_run.specs.Scripts.{arrived_on}
use Rattle.numa_run.specs.Standing.{RunsAs, Stands}
use Rattle.numa_run.specs.declared.running.Running.{Running}
use Rattle.numa_run.specs.declared.running.Taken.{Taken}
use Rattle.numa_run.specs.declared.running.Taken.TheVariants as taken
use Rattle.numa_run.specs.declared.script.Script.{Script}
use Rattle.numa_run.specs.declared.settings.Settings.{Settings}
use Rattle.numa_run.proofs.JudgeLemmas.{IsText, asked-fault, last_text, listed-fault, moved-text}
use Rattle.numa_run.proofs.JudgeLemmas.{rooms-text, rooms_left, text-fault, told-judged}
use Rattle.numa_run.proofs.Taking.{IsUnready, arrived-is, left-fault, maps-same, pools-is}
use Rattle.numa_run.proofs.Taking.{question-same, text-same, told-unready, unready}

-- a question is judged by what refuses it
abbrev pub IsCaused : Question → Option CoreRefusal → Running → Running → Type 0
IsCaused asked cause new old = (state : State) → RunsAs old state → (lack : Lack)
    × RunsAs new state
    × (cause ≡ question_cause (is_starved lack) (setup_of old.core).machine state.world.history
    asked)

pub question-told : (old new : Running) (asked : Question) (cause : Option CoreRefusal)
    → IsCaused asked cause new old
    → (state : State) → RunsAs old state → (lack : Lack)
    × (option_map reply.Refused cause ≡ fault_of lack state (line.Question asked))
    × RunsAs new state
question-told old new asked cause h = λ state stands.
    let a = h state stands in
    (a.0, ap (option_map reply.Refused) a.2 ∙ asked-fault old asked a.0 state stands, a.1)

-- nothing changed, and this fault was told of a line
abbrev pub IsTold : (State → Type 0) → Line → Option Reply → State → Type 0
IsTold reached said fault state =
    (lack : Lack) × (fault ≡ fault_of lack state said) × reached state

unready-told : (settings : Settings) (said : Line) → IsUnready said → (state : State)
    → Stands settings None state
    → IsTold (Stands settings None) said (Some reply.BadState) state
unready-told settings said bad state stands = (
  Enough,
  told-judged reply.BadState Enough state said
      (told-unready said state (unready settings said bad state stands)),
  stands,
)

pub question-bad : (settings : Settings) (asked : Question) (state : State)
    → Stands settings None state
    → IsTold (Stands settings None) (line.Question asked) (Some reply.BadState) state
question-bad settings asked = unready-told settings (line.Question asked) (λ state. refl)

pub maps-told : (running : Running) (task : ℕ) (state : State) → RunsAs running state
    → IsTold (RunsAs running) (line.Maps task) None state
maps-told running task state stands = (Enough, listed-fault running task state stands, stands)

pub maps-bad : (settings : Settings) (task : ℕ) (state : State) → Stands settings None state
    → IsTold (Stands settings None) (line.Maps task) (Some reply.BadState) state
maps-bad settings task = unready-told settings (line.Maps task) (λ state. refl)

pub text-told : (asked : PageLine) (text : State → List ℕ) → IsText asked text
    → (running : Running) (state : State) → RunsAs running state
    → IsTold (RunsAs running) (line.Pages (Ok asked)) None state
text-told asked text shows running state stands =
    (Enough, text-fault asked text shows running state stands, stands)

pub text-bad : (settings : Settings) (asked : PageLine) (state : State)
    → Stands settings None state
    → IsTold (Stands settings None) (line.Pages (Ok asked)) (Some reply.BadState) state
text-bad settings asked = unready-told settings (line.Pages (Ok asked)) (λ state. refl)

-- what was left to be told has no fault, once a machine is ready
abbrev pub IsLeftJudged : (State → Answer) → (State → Type 0) → Option Reply → State → Type 0
IsLeftJudged told reached fault state = (lack : Lack)
    × (fault ≡ fault_or (reply_in (told state)) None) × reached state

pub arrived-told : (running : Running) (state : State) → RunsAs running state
    → IsLeftJudged arrived_answer (RunsAs running) None state
arrived-told running state stands = (
  Enough,
  ap (λ (a : Answer). fault_or (reply_in a) None) (sym (arrived-is running state stands)),
  stands,
)

pub pools-told : (running : Running) (state : State) → RunsAs running state
    → IsLeftJudged pools_answer (RunsAs running) None state
pools-told running state stands = (
  Enough,
  ap (λ (a : Answer). fault_or (reply_in a) None) (sym (pools-is running state stands)),
  stands,
)

pub arrived-bad : (settings : Settings) (state : State) → Stands settings None state
    → IsLeftJudged arrived_answer (Stands settings None) (Some reply.BadState) state
arrived-bad settings state stands = (
  Enough,
  ap (λ (machine : Option Hardware). fault_or (reply_in (arrived_on machine state)) None)
      (sym stands.3),
  stands,
)

pub pools-bad : (settings : Settings) (state : State) → Stands settings None state
    → IsLeftJudged pools_answer (Stands settings None) (Some reply.BadState) state
pools-bad settings state stands = (
  Enough,
  ap (λ (machine : Option Hardware). fault_or (reply_in (pools_answer_on machine state)) None)
      (sym stands.3),
  stands,
)

-- a line was taken, and then its fault or refusal was told
abbrev IsJudged : Script → Line → Option Reply → State → Type 0
IsJudged new said fault state = (lack : Lack) × (fault ≡ fault_of lack state said)
    × ScriptStandsFor new (after lack state said)

pub judged : (old mid new : Script) (said : Line) (found : Taken) (fault : Option Reply)
    → ScriptTakes old said found mid → ScriptTells mid found fault new
    → (state : State) → ScriptStandsFor old state → IsJudged new said fault state
judged old mid new said (taken.Reply answer) fault takes tells = λ state stands.
    let t = takes state stands in
    let w = tells (after t.0 state said) t.2 in
    (t.0, w.1 ∙ told-judged answer t.0 state said t.1, w.2)
judged old mid new said (taken.Question asked) fault takes tells = λ state stands.
    let t = takes state stands in
    let same = ap (after t.0 state) t.1.1 ∙ question-same t.0 state asked in
    let w = tells state (subst (ScriptStandsFor mid) same t.2) in
    subst (λ (l : Line). IsJudged new l fault state) (sym t.1.1)
    (w.0, w.1, subst (ScriptStandsFor new) (sym (question-same w.0 state asked)) w.2)
judged old mid new said (taken.Maps task) fault takes tells = λ state stands.
    let t = takes state stands in
    let same = ap (after t.0 state) t.1.1 ∙ maps-same t.0 state task in
    let w = tells state (subst (ScriptStandsFor mid) same t.2) in
    subst (λ (l : Line). IsJudged new l fault state) (sym t.1.1)
    (w.0, w.1, subst (ScriptStandsFor new) (sym (maps-same w.0 state task)) w.2)
judged old mid new said taken.Moved fault takes tells = λ state stands.
    let t = takes state stands in
    let same = text-same page.Moved last_text moved-text in
    let w = tells state (subst (ScriptStandsFor mid) (ap (after t.0 state) t.1.1
    ∙ same t.0 state) t.2) in
    subst (λ (l : Line). IsJudged new l fault state) (sym t.1.1)
    (w.0, w.1, subst (ScriptStandsFor new) (sym (same w.0 state)) w.2)
judged old mid new said taken.Rooms fault takes tells = λ state stands.
    let t = takes state stands in
    let same = text-same page.Rooms rooms_left rooms-text in
    let w = tells state (subst (ScriptStandsFor mid) (ap (after t.0 state) t.1.1
    ∙ same t.0 state) t.2) in
    subst (λ (l : Line). IsJudged new l fault state) (sym t.1.1)
    (w.0, w.1, subst (ScriptStandsFor new) (sym (same w.0 state)) w.2)
judged old mid new said taken.Arrived fault takes tells = λ state stands.
    let t = takes state stands in
    let w = tells (after t.0 state said) t.2 in
    (t.0, w.1 ∙ left-fault arrived_answer t.0 state said t.1.1 t.1.2, w.2)
judged old mid new said taken.Pools fault takes tells = λ state stands.
    let t = takes state stands in
    let w = tells (after t.0 state said) t.2 in
    (t.0, w.1 ∙ left-fault pools_answer t.0 state said t.1.1 t.1.2, w.2)
