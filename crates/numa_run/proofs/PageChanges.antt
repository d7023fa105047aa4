-- What a line about pages makes of a running machine, and of where its pages lie.
use Rattle.std.proofs.Common.{◌≡◌, Bool, true, false, Option, Some, None, Ok, Err}
use Rattle.std.proofs.Common.{refl, sym, ap, subst, ◌∙◌, inl, inr}
use Rattle.std.proofs.lemmas.Bool.{and_parts, both_ways, cases_Bool}
use Rattle.std.specs.Prelude.{◌&&◌, if◌then◌else◌, IsSomeAnd, not}
use Rattle.numa_machine.specs.Machine.{Hardware}
use Rattle.numa_mask.specs.declared.list.ListFault.{ListFault}
use Rattle.numa_core.specs.Standing.{setup_of}
use Rattle.numa_page_state.specs.Lying.{Ground, Lying, ground_in, ground_of, nothing}
use Rattle.numa_page_state.specs.Outcomes.{Enough, Lack, Starved, is_starved}
use Rattle.numa_page_state.specs.Standing.{DoesAs, Lies, LiesAs}
use Rattle.numa_page_state.specs.declared.state.PageState.{PageState}
use Rattle.numa_script.specs.declared.line.Line.{Line}
use Rattle.numa_script.specs.declared.line.Line.TheVariants as line
use Rattle.numa_script.specs.declared.page_line.PageLine.{PageLine}
use Rattle.numa_script.specs.declared.policy.WordError.TheVariants as word_fault
use Rattle.numa_script.specs.declared.reply.Reply.{Reply}
use Rattle.numa_script.specs.declared.reply.Reply.TheVariants as reply
use Rattle.numa_run.specs.Answering.{Served, Shown, with_reply}
use Rattle.numa_run.specs.HugeLines.{pools_answer, pools_answer_on}
use Rattle.numa_run.specs.Judged.{asked_fault}
use Rattle.numa_run.specs.PageLines.{answered_by, arrived_text, change_of, changed, lack_reply}
use Rattle.numa_run.specs.PageLines.{page_outcome, with_change}
use Rattle.numa_run.specs.Replies.{served_later}
use Rattle.numa_run.specs.Standing.{Changes, ComesTo, RunsAs, Takes}
use Rattle.numa_run.specs.States.{State, process_on}
use Rattle.numa_run.specs.declared.running.Running.{Running}
use Rattle.numa_run.specs.declared.running.Taken.{Taken}
use Rattle.numa_run.specs.declared.running.Taken.TheVariants as taken
use Rattle.numa_run.proofs.Accepting.{kept-pages}
use Rattle.numa_run.proofs.Processes.{ground-same}
use Rattle.numa_run.proofs.JudgeLemmas.{served-is}
use Rattle.numa_run.proofs.LineLemmas.{later_same, served_here}

-- ---- the pages

-- what is done is told by a reply, or by none
pub replied : {A : Type 0} (old new : PageState) (done lack : A)
    (outcome : Lack → Lying → A × Lying) (told : A → Option Reply)
    → DoesAs old done new lack outcome
    → DoesAs old (told done) new (told lack)
    (λ lack at. (told (outcome lack at).0, (outcome lack at).1))
replied old new done lack outcome told does = λ lying lies.
    let d = does lying lies in (
      d.0,
      d.1,
      ap told d.2,
      λ t. let lacks = d.3 t in (lacks.0, ap told lacks.1),
    )

-- what always succeeds
pub succeeds : (old new : PageState) (told lack : Option Reply) (outcome : Lying → Lying)
    → ((lying : Lying) → LiesAs old lying → LiesAs new (outcome lying))
    → DoesAs old told new lack (λ lack at. (told, outcome at))
succeeds old new told lack outcome lies = λ lying before. (
  Enough,
  lies lying before,
  refl,
  λ t. absurd (both_ways false refl t),
)

-- ---- the machine

-- before the first line about pages none was accepted
pub nothing-begun : (pages : Option PageState) (lying : Lying) → pages ≡ None → Lies pages lying
    → lying.begun ≡ false
nothing-begun pages lying none lies =
    let is : lying ≡ nothing = subst (λ (p : Option PageState). Lies p lying) none lies in
    ap (λ (l : Lying). l.begun) is

module _ (old : Running) (said : PageLine) where
  abbrev pub changes : Lack → Hardware → State → Served
  changes lack machine state = changed lack machine state said

  -- there is no memory to begin
  pub change-starved : (pages : Option PageState) → (pages ≡ old.pages) × (old.pages ≡ None)
      → Changes old (Some (lack_reply said))
      (record { core = old.core; resident = old.resident; pages = pages; huge = old.huge }) changes
  change-starved pages same = λ state stands.
      let early = nothing-begun old.pages state.lying same.1 stands.lies in
      let is : changes Starved old.core.space.machine state ≡ with_reply (lack_reply said) state =
      rw early refl in (
        Starved,
        state,
        is,
        kept-pages old state pages stands
            (subst (λ (p : Option PageState). Lies p state.lying) (sym same.0) stands.lies),
      )

  module _ (kept new : PageState) (told : Option Reply)
      (begins : (lying : Lying) → Lies old.pages lying → LiesAs kept lying)
      (does : DoesAs kept told new (Some (lack_reply said)) (λ lack at. change_of lack
      (ground_in old.core.space old.resident) said at)) where
    abbrev here : Running
    here = record { core = old.core; resident = old.resident; pages = Some new; huge = old.huge }

    abbrev by_ground : State → Lack → Ground → Served
    by_ground state lack basis = if not state.lying.begun && is_starved lack
        then with_reply (lack_reply said) state
        else with_change state (change_of lack basis said
        (record state.lying { begun = true }))

    is-by : (lack : Lack) (state : State) → RunsAs old state
        → changes lack old.core.space.machine state
        ≡ by_ground state lack (ground_in old.core.space old.resident)
    is-by lack state stands = ap (by_ground state lack) (ground-same old state stands)

    pub change-done : Changes old told here changes
    change-done = λ state stands.
        let before = begins state.lying stands.lies in
        let begun : LiesAs kept (record state.lying { begun = true }) = record {
          spots = before.spots;
          room = before.room;
          follows = before.follows;
          last = before.last;
          arrived = before.arrived;
        } in
        let d = does (record state.lying { begun = true }) begun in
        let basis = ground_in old.core.space old.resident in
        let done = change_of d.0 basis said (record state.lying { begun = true }) in
        elim (cases_Bool (not state.lying.begun && is_starved d.0)) [
          | inl t ↦
              let lack = d.3 (and_parts (not state.lying.begun) (is_starved d.0) t).1 in (
                d.0,
                state,
                is-by d.0 state stands
                    ∙ ap (λ (b : Bool). if b then with_reply (lack_reply said) state
                    else with_change state done) t
                    ∙ ap (λ (r : Option Reply). answered_by r state) (sym lack.1),
                kept-pages old state (Some new) stands
                    (subst (λ (p : PageState). LiesAs p state.lying) (sym lack.0) before),
              )
          | inr e ↦ (
            d.0,
            record state { lying = done.1 },
            is-by d.0 state stands
                ∙ ap (λ (b : Bool). if b then with_reply (lack_reply said) state
                else with_change state done) e
                ∙ ap (λ (r : Option Reply). answered_by r (record state { lying = done.1 }))
                d.2,
            record {
              core = record {
                bounds = stands.core.bounds;
                machine = stands.core.machine;
                workers = stands.core.workers;
                world = stands.core.world;
              };
              resident = stands.resident;
              lies = d.1;
              huge = stands.huge;
            },
          )
        ]

-- ---- the line

-- it lies as all did, whether or not a line has begun to say so
pub begun-lies : (old pages : Option PageState)
    → IsSomeAnd pages (λ kept. (lying : Lying) → Lies old lying → LiesAs kept lying)
    → (lying : Lying) → Lies old lying → (begun : Bool)
    → Lies pages (record lying { begun = begun })
begun-lies old (Some kept) all lying lies begun =
    let before = all lying lies in
    record {
      spots = before.spots;
      room = before.room;
      follows = before.follows;
      last = before.last;
      arrived = before.arrived;
    }
begun-lies old None all lying lies begun = absurd all

-- what is kept, where a line begins to keep it
pub begun-pages : (pages then_pages : Option PageState) (kept : PageState)
    → then_pages ≡ Some kept
    → IsSomeAnd then_pages (λ k. (lying : Lying) → Lies pages lying → LiesAs k lying)
    → (lying : Lying) → Lies pages lying → LiesAs kept lying
begun-pages pages then_pages kept is all lying lies =
    subst (λ (p : Option PageState). IsSomeAnd p (λ k. (l : Lying) → Lies pages l → LiesAs k l)) is
    all lying lies

-- what a line changes are not pages of 2 MiB
answered-same : (told : Option Reply) (state : State) → (answered_by told state).state ≡ state
answered-same (Some answer) state = refl
answered-same None state = refl

pub changed-huge : (lack : Lack) (machine : Hardware) (state : State) (said : PageLine)
    → (changed lack machine state said).state.huge ≡ state.huge
changed-huge lack machine state said = by (not state.lying.begun && is_starved lack)
  where
    by : (starved : Bool) → (if starved then with_reply (lack_reply said) state
        else with_change state (change_of lack (ground_of (process_on machine state)) said
        (record state.lying { begun = true }))).state.huge ≡ state.huge
    by true = refl
    by false =
        let done = change_of lack (ground_of (process_on machine state)) said
        (record state.lying { begun = true }) in
        ap (λ (s : State). s.huge) (answered-same done.0 (record state { lying = done.1 }))

-- what a line came to that was carried out, is so of the line
pub comes-taken : (old new : Running) (said : Line) (found : Taken)
    (serve : Lack → Hardware → State → Served) → ComesTo old found new serve
    → ((lack : Lack) (state : State) → served_later lack (setup_of old.core).machine state said
    ≡ serve lack (setup_of old.core).machine state)
    → ((lack : Lack) (state : State) → None ≡ asked_fault lack state said)
    → Takes old said found new
comes-taken old new said (taken.Reply answer) serve comes right none =
    served_here old new said answer serve comes right
comes-taken old new said taken.Arrived serve comes right none = λ state stands.
    let s = comes state stands in
    let is = served-is old said s.0 state stands ∙ right s.0 state in (
      s.0,
      subst (λ (r : Served). Shown (arrived_text r.state) ≡ r.answer) (sym is) (sym s.1),
      none s.0 state,
      subst (λ (r : Served). RunsAs new r.state) (sym is) s.2,
    )
comes-taken old new said taken.Pools serve comes right none = λ state stands.
    let s = comes state stands in
    let is = served-is old said s.0 state stands ∙ right s.0 state in
    let reached : State = (serve s.0 old.core.space.machine state).state in
    let shown = ap (λ (m : Option Hardware). pools_answer_on m reached) s.2.core.machine
    ∙ sym s.1 in (
      s.0,
      subst (λ (r : Served). pools_answer r.state ≡ r.answer) (sym is) shown,
      none s.0 state,
      subst (λ (r : Served). RunsAs new r.state) (sym is) s.2,
    )
comes-taken old new said (taken.Question asked) serve comes right none = absurd comes
comes-taken old new said (taken.Maps task) serve comes right none = absurd comes
comes-taken old new said taken.Moved serve comes right none = absurd comes
comes-taken old new said taken.Rooms serve comes right none = absurd comes

-- of a line about pages
pub page-taken : (old new : Running) (said : PageLine) (found : Taken)
    → ComesTo old found new (λ lack machine state. page_outcome lack machine state said)
    → Takes old (line.Pages (Ok said)) found new
page-taken old new said found comes = comes-taken old new (line.Pages (Ok said)) found
    (λ lack machine state. page_outcome lack machine state said) comes (λ lack state. refl)
    (λ lack state. refl)

-- a fault of its list
pub page-fault : (old : Running) (fault : ListFault)
    → Takes old (line.Pages (Err fault)) (taken.Reply (reply.BadWord (word_fault.List fault))) old
page-fault old fault =
    later_same old (line.Pages (Err fault)) (reply.BadWord (word_fault.List fault))
    (λ machine state. refl)
