-- A line that is taken, and then answered or judged.
use Rattle.std.proofs.Common.{◌≡◌, ℕ, Bool, true, false, Option, Some, None, List, refl}
use Rattle.std.proofs.Common.{sym, ap, subst, ◌∙◌}
use Rattle.std.specs.Prelude.{◌↔◌, IsSomeAnd, IsTrue, Ok}
use Rattle.numa_core.specs.Standing.{setup_of}
use Rattle.numa_lines.proofs.Adding.{said_same}
use Rattle.numa_lines.specs.Written.{Said}
use Rattle.numa_lines.specs.declared.watched.Watched.{Watched}
use Rattle.numa_machine.specs.Machine.{Hardware}
use Rattle.numa_page_state.specs.Outcomes.{Enough, Lack, Starved, is_starved}
use Rattle.numa_script.specs.Replies.{LacksMemory}
use Rattle.numa_script.specs.Texts.{text_of}
use Rattle.numa_script.specs.declared.line.Line.{Line}
use Rattle.numa_script.specs.declared.line.Line.TheVariants as line
use Rattle.numa_script.specs.declared.line.Question.{Question}
use Rattle.numa_script.specs.declared.line.Question.TheVariants as question
use Rattle.numa_script.specs.declared.page_line.PageLine.{PageLine}
use Rattle.numa_script.specs.declared.page_line.PageLine.TheVariants as page
use Rattle.numa_script.specs.declared.reply.Reply.{Reply}
use Rattle.numa_script.specs.declared.reply.Reply.TheVariants as reply
use Rattle.numa_run.specs.Answers.{State, after, answer_of, reply_of}
use Rattle.numa_run.specs.Judged.{IsStarved, asked_fault, fault_of, fault_or}
use Rattle.numa_run.specs.Questions.{question_text}
use Rattle.numa_run.specs.HugeLines.{pools_answer, pools_answer_on, pools_on}
use Rattle.numa_run.specs.Listings.{both_listing}
use Rattle.numa_run.specs.PageLines.{arrived_text}
use Rattle.numa_run.specs.PoolTexts.{pools_line}
use Rattle.numa_run.specs.Replies.{Answer, Replied, Shown, Served, bytes_of, outcome_of, reply_in}
use Rattle.numa_run.specs.Replies.{served_by, served_first, with_reply}
use Rattle.numa_run.specs.Scripts.{IsTaken, ScriptStandsFor, ScriptTakes, ScriptWrites}
use Rattle.numa_run.specs.Scripts.{arrived_answer, arrived_on}
use Rattle.numa_run.specs.Standing.{RunsAs, Stands, Takes}
use Rattle.numa_run.specs.States.{process_on}
use Rattle.numa_run.specs.declared.running.Running.{Running}
use Rattle.numa_run.specs.declared.running.Taken.{Taken}
use Rattle.numa_run.specs.declared.running.Taken.TheVariants as taken
use Rattle.numa_run.specs.declared.script.Script.{Script}
use Rattle.numa_run.specs.declared.settings.Settings.{Settings}
use Rattle.numa_run.proofs.JudgeLemmas.{IsText, asked-starved, faultless-starved}
use Rattle.numa_run.proofs.JudgeLemmas.{last_text, listed-fault, moved-text, reply-starved}
use Rattle.numa_run.proofs.JudgeLemmas.{rooms-text, rooms_left, served-is, text-fault}
use Rattle.numa_run.proofs.JudgeLemmas.{text-served, told-judged}
use Rattle.numa_run.proofs.LineLemmas.{first_is, maps_have_none, question_has_none, text_has_none}

-- ---- taking

-- what was touched is told, and what the pools have, once a machine is ready
pub arrived-is : (running : Running) (state : State) → RunsAs running state
    → arrived_answer state ≡ Shown (arrived_text state)
arrived-is running state stands =
    ap (λ (machine : Option Hardware). arrived_on machine state) stands.core.machine

pub pools-is : (running : Running) (state : State) → RunsAs running state
    → pools_answer state ≡ Shown (pools_line (pools_on (setup_of running.core).machine state))
pools-is running state stands =
    ap (λ (machine : Option Hardware). pools_answer_on machine state) stands.core.machine

-- a line that a running machine takes
pub taken-later : (old new : Running) (said : Line) (found : Taken) → Takes old said found new
    → (state : State) → RunsAs old state → (lack : Lack) × IsTaken lack state said found
    × RunsAs new (after lack state said)
taken-later old new said (taken.Reply answer) takes = takes
taken-later old new said (taken.Question asked) takes = λ state stands.
    let none = question_has_none old new said asked takes.0 takes.1 state stands in
    (none.0, (none.1, takes.0), none.2)
taken-later old new said (taken.Maps task) takes = λ state stands.
    let none = maps_have_none old new said task takes.0 takes.1 state stands in
    (none.0, (none.1, takes.0), none.2)
taken-later old new said taken.Moved takes = λ state stands.
    let none = text_has_none page.Moved last_text moved-text old new said takes.0 takes.1 state
    stands in
    (none.0, (none.1, takes.0), none.2)
taken-later old new said taken.Rooms takes = λ state stands.
    let none = text_has_none page.Rooms rooms_left rooms-text old new said takes.0 takes.1 state
    stands in
    (none.0, (none.1, takes.0), none.2)
taken-later old new said taken.Arrived takes = λ state stands.
    let t = takes state stands in
    let reached = after t.0 state said in (
      t.0,
      (
        ap reply_in t.1,
        arrived-is new reached t.3 ∙ t.1,
        t.2,
      ),
      t.3,
    )
taken-later old new said taken.Pools takes = λ state stands.
    let t = takes state stands in (
      t.0,
      (ap reply_in (sym (pools-is new (after t.0 state said) t.3) ∙ t.1), t.1, t.2),
      t.3,
    )

-- a malformed line changes nothing, whether a machine is ready or not
pub malformed-is : (lack : Lack) (state : State) → outcome_of lack state line.Malformed
    ≡ with_reply reply.BadWords state
unfolding outcome_of
malformed-is lack state = by_machine state.machine
  where
    by_machine : (machine : Option Hardware) → served_by machine lack state line.Malformed
        ≡ with_reply reply.BadWords state
    by_machine None = refl
    by_machine (Some machine) = refl

pub malformed-taken : (script : Script)
    → ScriptTakes script line.Malformed (taken.Reply reply.BadWords) script
malformed-taken script = λ state stands.
    let is = malformed-is Enough state in (
      Enough,
      sym (ap (λ (r : Served). reply_in r.answer) is),
      subst (λ (r : Served). ScriptStandsFor script r.state) (sym is) stands,
    )

-- ---- what shows what is, and changes nothing

pub question-same : (lack : Lack) (state : State) (asked : Question)
    → after lack state (line.Question asked) ≡ state
unfolding outcome_of
question-same lack state asked = by_machine state.machine
  where
    by_machine : (machine : Option Hardware)
        → (served_by machine lack state (line.Question asked)).state ≡ state
    by_machine None = refl
    by_machine (Some machine) = refl

pub maps-same : (lack : Lack) (state : State) (task : ℕ)
    → after lack state (line.Maps task) ≡ state
unfolding outcome_of
maps-same lack state task = by_machine state.machine
  where
    by_machine : (machine : Option Hardware)
        → (served_by machine lack state (line.Maps task)).state ≡ state
    by_machine None = refl
    by_machine (Some machine) = refl

pub text-same : (asked : PageLine) (text : State → List ℕ) → IsText asked text → (lack : Lack)
    (state : State) → after lack state (line.Pages (Ok asked)) ≡ state
unfolding outcome_of
text-same asked text shows lack state = by_machine state.machine
  where
    by_machine : (machine : Option Hardware)
        → (served_by machine lack state (line.Pages (Ok asked))).state ≡ state
    by_machine None = refl
    by_machine (Some machine) = ap (λ (r : Served). r.state) (shows lack machine state)

-- before a machine is ready they are refused
abbrev pub IsUnready : Line → Type 0
IsUnready said = (state : State) → served_first Enough state said ≡ with_reply reply.BadState state

pub unready : (settings : Settings) (said : Line) → IsUnready said → (state : State)
    → Stands settings None state → outcome_of Enough state said ≡ with_reply reply.BadState state
unready settings said is state stands = first_is settings said Enough state stands ∙ is state

pub told-unready : (said : Line) (state : State)
    → outcome_of Enough state said ≡ with_reply reply.BadState state
    → Some reply.BadState ≡ reply_of Enough state said
told-unready said state is = sym (ap (λ (r : Served). reply_in r.answer) is)

starved-unready : (said : Line) (state : State)
    → outcome_of Enough state said ≡ with_reply reply.BadState state
    → IsTrue false ↔ IsStarved Enough state said
starved-unready said state is =
    subst (λ (o : Option Reply). IsTrue false ↔ IsSomeAnd o LacksMemory)
    (told-judged reply.BadState Enough state said (told-unready said state is))
    (λ e. cc, λ s. absurd s)

-- what is told of the state after: the line's fault is that
pub left-fault : (told : State → Answer) (lack : Lack) (state : State) (said : Line)
    → told (after lack state said) ≡ (outcome_of lack state said).answer
    → None ≡ asked_fault lack state said
    → fault_or (reply_in (told (after lack state said))) None ≡ fault_of lack state said
left-fault told lack state said is none =
    λ i. fault_or (reply_in (is i)) (none i)

-- ---- writing

-- the bytes of a reply are those of the answer
text-of_reply : (answer : Answer) (told : Reply) → Some told ≡ reply_in answer
    → text_of told ≡ bytes_of answer
text-of_reply (Replied other) told e = cc
text-of_reply (Shown text) told e = cc

module _ {W : Type 0} (contents : W → Option (List ℕ)) (output output_then : Watched W) where
  -- a reply was written
  pub reply-written : (script : Script) (answer : Reply) (lacks : Bool)
      → Said contents output output_then (text_of answer) → (IsTrue lacks ↔ LacksMemory answer)
      → ScriptWrites contents script output (taken.Reply answer) lacks script output_then
  reply-written script answer lacks told starved = λ state stands.
      (Enough, stands, told, reply-starved answer lacks starved)

  -- a question was answered
  abbrev pub AnswersSo : Running → Running → Question → Bool → Type 0
  AnswersSo old new asked starved = (state : State) → RunsAs old state → RunsAs new state
      × Said contents output output_then
      (question_text starved (setup_of old.core).machine state.world.history asked)

  abbrev pub IsWritten : Running → Running → Question → Bool → Type 0
  IsWritten old new asked starved = (state : State) → RunsAs old state → (lack : Lack)
      × RunsAs new state
      × Said contents output output_then (answer_of lack state (line.Question asked))
      × (IsTrue starved ↔ IsStarved lack state (line.Question asked))

  written-by : (old new : Running) (asked : Question) (lack : Lack)
      → AnswersSo old new asked (is_starved lack)
      → (asked ≡ question.Ranges → is_starved lack ≡ false)
      → IsWritten old new asked (is_starved lack)
  written-by old new asked lack answers ranges = λ state stands.
      let a = answers state stands in
      let is = served-is old (line.Question asked) lack state stands in (
        lack,
        a.0,
        said_same contents output output_then _ _
            (ap (λ (r : Served). bytes_of r.answer) (sym is)) a.1,
        asked-starved old asked lack state stands ranges,
      )

  pub question-written : (old new : Running) (asked : Question) (starved : Bool)
      → AnswersSo old new asked starved → (asked ≡ question.Ranges → starved ≡ false)
      → IsWritten old new asked starved
  question-written old new asked false answers ranges =
      written-by old new asked Enough answers ranges
  question-written old new asked true answers ranges =
      written-by old new asked Starved answers ranges

  -- a line was answered, and nothing changed
  abbrev pub IsAnswered : (State → Type 0) → Line → State → Type 0
  IsAnswered reached said state = (lack : Lack) × reached state
      × Said contents output output_then (answer_of lack state said)
      × (IsTrue false ↔ IsStarved lack state said)

  -- no machine is ready
  unready-written : (settings : Settings) (said : Line) → IsUnready said
      → Said contents output output_then (text_of reply.BadState)
      → (state : State) → Stands settings None state
      → IsAnswered (Stands settings None) said state
  unready-written settings said bad told = λ state stands.
      let is = unready settings said bad state stands in (
        Enough,
        stands,
        said_same contents output output_then _ _
            (ap (λ (r : Served). bytes_of r.answer) (sym is)) told,
        starved-unready said state is,
      )

  pub question-unready : (settings : Settings) (asked : Question)
      → Said contents output output_then (text_of reply.BadState)
      → (state : State) → Stands settings None state
      → IsAnswered (Stands settings None) (line.Question asked) state
  question-unready settings asked =
      unready-written settings (line.Question asked) (λ state. refl)

  pub maps-unready : (settings : Settings) (task : ℕ)
      → Said contents output output_then (text_of reply.BadState)
      → (state : State) → Stands settings None state
      → IsAnswered (Stands settings None) (line.Maps task) state
  maps-unready settings task = unready-written settings (line.Maps task) (λ state. refl)

  pub text-unready : (settings : Settings) (asked : PageLine)
      → Said contents output output_then (text_of reply.BadState)
      → (state : State) → Stands settings None state
      → IsAnswered (Stands settings None) (line.Pages (Ok asked)) state
  text-unready settings asked = unready-written settings (line.Pages (Ok asked)) (λ state. refl)

  -- it told this of each state that it stands for
  abbrev pub Tells : (Hardware → State → List ℕ) → Running → Type 0
  Tells text running = (state : State) → RunsAs running state
      → Said contents output output_then (text (setup_of running.core).machine state)

  -- the ranges were listed
  pub maps-written : (running : Running) (task : ℕ)
      → ((state : State) → RunsAs running state → Said contents output output_then
      (both_listing (process_on (setup_of running.core).machine state) state.lying.spots state.huge
      task))
      → (state : State) → RunsAs running state
      → IsAnswered (RunsAs running) (line.Maps task) state
  maps-written running task lists = λ state stands.
      let is = served-is running (line.Maps task) Enough state stands in (
        Enough,
        stands,
        said_same contents output output_then _ _
            (ap (λ (r : Served). bytes_of r.answer) (sym is)) (lists state stands),
        faultless-starved (line.Maps task) state (listed-fault running task state stands),
      )

  -- the text of a line about pages was told
  pub text-written : (asked : PageLine) (text : State → List ℕ) → IsText asked text
      → (running : Running)
      → ((state : State) → RunsAs running state → Said contents output output_then (text state))
      → (state : State) → RunsAs running state
      → IsAnswered (RunsAs running) (line.Pages (Ok asked)) state
  text-written asked text shows running tells = λ state stands.
      let is = text-served asked text shows running state stands in (
        Enough,
        stands,
        said_same contents output output_then _ _
            (ap (λ (r : Served). bytes_of r.answer) (sym is)) (tells state stands),
        faultless-starved (line.Pages (Ok asked)) state
            (text-fault asked text shows running state stands),
      )

  -- what was left to be told was told, and nothing changed
  abbrev pub IsLeftTold : (State → Answer) → (State → Type 0) → State → Type 0
  IsLeftTold told reached state = (lack : Lack) × reached state
      × Said contents output output_then (bytes_of (told state))
      × (IsTrue false ↔ IsSomeAnd (fault_or (reply_in (told state)) None) LacksMemory)

  left-told : (told : State → Answer) (answer : Answer) (reached : State → Type 0)
      (state : State) → told state ≡ answer → reached state
      → Said contents output output_then (bytes_of answer)
      → (IsTrue false ↔ IsSomeAnd (fault_or (reply_in answer) None) LacksMemory)
      → IsLeftTold told reached state
  left-told told answer reached state is stands says starved = (
    Enough,
    stands,
    said_same contents output output_then _ _ (ap bytes_of (sym is)) says,
    subst (λ (a : Answer). IsTrue false ↔ IsSomeAnd (fault_or (reply_in a) None) LacksMemory)
        (sym is) starved,
  )

  pub arrived-written : (running : Running)
      → ((state : State) → RunsAs running state
      → Said contents output output_then (arrived_text state))
      → (state : State) → RunsAs running state
      → IsLeftTold arrived_answer (RunsAs running) state
  arrived-written running tells = λ state stands.
      left-told arrived_answer (Shown (arrived_text state)) (RunsAs running) state
      (arrived-is running state stands) stands (tells state stands) (λ e. cc, λ s. absurd s)

  pub pools-written : (running : Running)
      → ((state : State) → RunsAs running state → Said contents output output_then
      (pools_line (pools_on (setup_of running.core).machine state)))
      → (state : State) → RunsAs running state
      → IsLeftTold pools_answer (RunsAs running) state
  pools-written running tells = λ state stands.
      left-told pools_answer (Shown (pools_line (pools_on (setup_of running.core).machine state)))
      (RunsAs running) state (pools-is running state stands) stands (tells state stands)
      (λ e. cc, λ s. absurd s)

  pub arrived-unready : (settings : Settings)
      → Said contents output output_then (text_of reply.BadState)
      → (state : State) → Stands settings None state
      → IsLeftTold arrived_answer (Stands settings None) state
  arrived-unready settings says = λ state stands.
      left-told arrived_answer (Replied reply.BadState) (Stands settings None) state
      (ap (λ (machine : Option Hardware). arrived_on machine state) stands.3) stands says
      (λ e. cc, λ s. absurd s)

  pub pools-unready : (settings : Settings)
      → Said contents output output_then (text_of reply.BadState)
      → (state : State) → Stands settings None state
      → IsLeftTold pools_answer (Stands settings None) state
  pools-unready settings says = λ state stands.
      left-told pools_answer (Replied reply.BadState) (Stands settings None) state
      (ap (λ (machine : Option Hardware). pools_answer_on machine state) stands.3) stands says
      (λ e. cc, λ s. absurd s)

  -- a line was taken, and then its answer was written
  abbrev pub IsServed : Script → Script → Line → Bool → State → Type 0
  IsServed old new said lacks state = (lack : Lack)
      × ScriptStandsFor new (after lack state said)
      × Said contents output output_then (answer_of lack state said)
      × (IsTrue lacks ↔ IsStarved lack state said)

  pub served : (old mid new : Script) (said : Line) (found : Taken) (lacks : Bool)
      → ScriptTakes old said found mid
      → ScriptWrites contents mid output found lacks new output_then
      → (state : State) → ScriptStandsFor old state → IsServed old new said lacks state
  served old mid new said (taken.Reply answer) lacks takes writes = λ state stands.
      let t = takes state stands in
      let w = writes (after t.0 state said) t.2 in (
        t.0,
        w.1,
        said_same contents output output_then _ _
            (text-of_reply (outcome_of t.0 state said).answer answer t.1) w.2,
        subst (λ (o : Option Reply). IsTrue lacks ↔ IsSomeAnd o LacksMemory)
            (told-judged answer t.0 state said t.1) w.3,
      )
  served old mid new said (taken.Question asked) lacks takes writes = λ state stands.
      let t = takes state stands in
      let same = ap (after t.0 state) t.1.1 ∙ question-same t.0 state asked in
      let w = writes state (subst (ScriptStandsFor mid) same t.2) in
      subst (λ (l : Line). IsServed old new l lacks state) (sym t.1.1) (
        w.0,
        subst (ScriptStandsFor new) (sym (question-same w.0 state asked)) w.1,
        w.2,
        w.3,
      )
  served old mid new said (taken.Maps task) lacks takes writes = λ state stands.
      let t = takes state stands in
      let same = ap (after t.0 state) t.1.1 ∙ maps-same t.0 state task in
      let w = writes state (subst (ScriptStandsFor mid) same t.2) in
      subst (λ (l : Line). IsServed old new l lacks state) (sym t.1.1) (
        w.0,
        subst (ScriptStandsFor new) (sym (maps-same w.0 state task)) w.1,
        w.2,
        w.3,
      )
  served old mid new said taken.Moved lacks takes writes = λ state stands.
      let t = takes state stands in
      let same = text-same page.Moved last_text moved-text in
      let w = writes state (subst (ScriptStandsFor mid) (ap (after t.0 state) t.1.1
      ∙ same t.0 state) t.2) in
      subst (λ (l : Line). IsServed old new l lacks state) (sym t.1.1)
      (w.0, subst (ScriptStandsFor new) (sym (same w.0 state)) w.1, w.2, w.3)
  served old mid new said taken.Rooms lacks takes writes = λ state stands.
      let t = takes state stands in
      let same = text-same page.Rooms rooms_left rooms-text in
      let w = writes state (subst (ScriptStandsFor mid) (ap (after t.0 state) t.1.1
      ∙ same t.0 state) t.2) in
      subst (λ (l : Line). IsServed old new l lacks state) (sym t.1.1)
      (w.0, subst (ScriptStandsFor new) (sym (same w.0 state)) w.1, w.2, w.3)
  served old mid new said taken.Arrived lacks takes writes = λ state stands.
      let t = takes state stands in
      let w = writes (after t.0 state said) t.2 in (
        t.0,
        w.1,
        said_same contents output output_then _ _ (ap bytes_of t.1.1) w.2,
        subst (λ (o : Option Reply). IsTrue lacks ↔ IsSomeAnd o LacksMemory)
            (left-fault arrived_answer t.0 state said t.1.1 t.1.2) w.3,
      )
  served old mid new said taken.Pools lacks takes writes = λ state stands.
      let t = takes state stands in
      let w = writes (after t.0 state said) t.2 in (
        t.0,
        w.1,
        said_same contents output output_then _ _ (ap bytes_of t.1.1) w.2,
        subst (λ (o : Option Reply). IsTrue lacks ↔ IsSomeAnd o LacksMemory)
            (left-fault pools_answer t.0 state said t.1.1 t.1.2) w.3,
      )
