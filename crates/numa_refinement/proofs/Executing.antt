-- One order of the steps of seats whose workers each go through an agenda is an execution.
use Rattle.std.proofs.Common.{◌≡◌, ◌≢◌, ◌⊎◌, ℕ, ◌+◌, ◌<◌, ◌≤◌, List, [], ◌∷◌, ◌++◌}
use Rattle.std.proofs.Common.{length, Bool, true, false, cond, inl, inr, refl, sym, ap, subst}
use Rattle.std.proofs.Common.{◌∙◌, arith, Some, None, append-nil, append_assoc}
use Rattle.std.proofs.Common.{eq-eqb, ne_eqb, length-append, ⊎_elim}
use Rattle.std.specs.Prelude.{slice_index, unwrap_or, ◌==◌}
use Rattle.std.specs.List.{list_any}
use Rattle.std.proofs.lemmas.List.{same_from_push}
use native.Mathlib.Decide.{ℕ_discrete}
use Rattle.numa_requests.specs.declared.command.Command.{Command}
use Rattle.numa_requests.specs.declared.event.Event.TheVariants.{Begin}
use Rattle.numa_requests.specs.declared.event.CoreReply.{CoreReply}
use Rattle.numa_core.specs.World.{fresh}
use Rattle.numa_core.specs.World.{Setup, World, Worker, FrameSearch, frame_search_of, last_of}
use Rattle.numa_core.specs.World.{list_at}
use Rattle.numa_core.specs.Steps.{answer_of, effect_of, going_on, goes_on}
use Rattle.numa_core.specs.Executions.{CoreStep, world_of}
use Rattle.numa_pool.specs.declared.view.Entry.{Entry}
use Rattle.numa_pool.specs.Order.{Made, own, words_after, Finds, IsOrder}
use Rattle.numa_pool.specs.Walk.{IsWalk}
use Rattle.numa_refinement.specs.Agendas.{Errand, found_by, IsAmong, IsDue, AreDue}
use Rattle.numa_refinement.specs.Agendas.{IsAnswered}
use Rattle.numa_refinement.specs.WalkSteps.{IsCoreStep, MayBegin}
use Rattle.numa_refinement.specs.Moves.{PoolState}
use Rattle.numa_refinement.specs.Plays.{has_event, Done}
use Rattle.numa_refinement.specs.Plays.{IsPlay, execution_of, since_of, pools_of}
use Rattle.numa_refinement.proofs.Beside.{workers}
use Rattle.numa_refinement.proofs.Current.{still}
use Rattle.numa_refinement.proofs.Falling.{own-last}
use Rattle.numa_refinement.proofs.FrameSearching.{begins, begun-as}
use Rattle.numa_refinement.proofs.Making.{walk_at, current_of}
use Rattle.numa_refinement.proofs.Playing.{plays, Stands}
use Rattle.numa_refinement.proofs.Todo.{Base as BaseOf, Going as GoingOf, BusyWith as BusyWithOf}
use Rattle.numa_refinement.proofs.Todo.{IsIdle as IsIdleOf, At as AtOf, from_end, Publics, leads_to}
use Rattle.numa_refinement.proofs.Todo.{put_here, put_else, later_answer, moved}
use Rattle.numa_refinement.proofs.Stepping.{now, base_now, mine_now, others_now}

module _ (s : Setup) (few : (n : ℕ) → slice_index s.machine.frames n ≤ 4096)
    (some_worker : 0 < s.workers) (first : PoolState) (count : ℕ) (published : List ℕ)
    (history : List Command) (agenda : ℕ → List Errand) where
  abbrev Base : List Done → List ℕ → Type 0
  Base = BaseOf s few some_worker first count published history agenda

  abbrev Going : List Done → List ℕ → ℕ → List Entry → Entry → Type 0
  Going = GoingOf s few some_worker first count published history agenda

  abbrev BusyWith : Worker → List Entry → List Errand → List Entry → Type 0
  BusyWith = BusyWithOf s few some_worker first count published history agenda

  abbrev IsIdle : Worker → List Errand → List Entry → Type 0
  IsIdle = IsIdleOf s few some_worker first count published history agenda

  abbrev At : List Done → ℕ → List Entry → Type 0
  At = AtOf s few some_worker first count published history agenda

  -- ---- a Begin, where the worker is idle

  module _ (done : List Done) (words : List ℕ) (base : Base done words) (id : ℕ)
      (inside : id < count) (later : List Entry) (e : Entry) (steps : List Entry)
      (steps_are : steps ≡ later ++ e ∷ []) where
    abbrev OthersStay : List Done → Type 0
    OthersStay then_done = (j : ℕ) → j ≢ id → (es : List Entry) → At done j es → At then_done j es

    abbrev Goes : Type 0
    Goes = (then_done : List Done) × Going then_done words id later e × OthersStay then_done

    -- the newest of these steps is the last of the walk, so the walk goes on with it
    split_steps : (newer rest : List Entry) (next : Entry)
        → steps ≡ newer ++ (rest ++ next ∷ []) → (later ≡ newer ++ rest) × (e ≡ next)
    split_steps newer rest next is = same_from_push later (newer ++ rest) e next
        (sym steps_are ∙ is ∙ sym (append_assoc newer rest (next ∷ [])))

    busy_goes : (st : At done id steps) (left : List Errand)
        → ((y : Errand) → IsAmong y (agenda id) → IsAmong y left
        ⊎ IsAnswered (execution_of s done) id y)
        → BusyWith ((world_of s (execution_of s done)).worker id) (since_of s done id) left steps
        → Goes
    busy_goes st [] answered b = absurd b
    busy_goes st (x ∷ todo) answered b =
        let two = split_steps b.newer b.rest b.next b.steps_are in (
          done,
          record {
            base = base;
            x = x;
            todo = todo;
            rest = b.rest;
            newer = b.newer;
            later_is = two.0;
            its_steps = b.its_steps ∙ ap (λ d. b.rest ++ d ∷ since_of s done id) (sym two.1);
            due = b.due;
            seen = b.seen;
            busy = b.busy;
            last = b.last;
            others = b.others;
            answered = answered;
          },
          (λ j apart es old. old),
        )

    begin_goes : (x : Errand) (todo : List Errand)
        → frame_search_of (world_of s (execution_of s done)) id ≡ None
        → ((y : Errand) → IsAmong y (agenda id) → IsAmong y (x ∷ todo)
        ⊎ IsAnswered (execution_of s done) id y)
        → (newer rest : List Entry) → later ≡ newer ++ rest → x.steps ≡ rest ++ e ∷ []
        → IsDue s published history x
        → last_of (world_of s (execution_of s done)) id ≤ x.version
        → AreDue s published history x.version todo newer → Goes
    begin_goes x todo idle answered newer rest later_is its_steps due not_older others = (
      then_done,
      record {
        base = record {
          play = (base.play, (tt, refl, (goes_on s fresh_x, is_step)));
          words_are = base.words_are;
          seats = base.seats;
          publics = ap Publics world_then ∙ base.publics;
        };
        x = x;
        todo = todo;
        rest = rest;
        newer = newer;
        later_is = later_is;
        its_steps = its_steps ∙ ap (λ es. rest ++ e ∷ es) (sym since_then);
        due = due;
        seen = λ n k. false;
        busy = ap (λ v. frame_search_of v id) world_then
            ∙ begun-as s id x.version x.request x.nodes world may_begin
            ∙ on.1;
        last = ap (λ v. last_of v id) world_then
            ∙ own-last world id x.version (going_on s (new_search));
        others = others;
        answered = λ y among. ⊎_elim (λ h. inl h)
            (λ h. inr (later_answer s few some_worker first count published history agenda past
            core_step id y h)) (answered y among);
      },
      (λ j apart es st.
          moved s few some_worker first count published history agenda past core_step
          (world.worker j)
          ((world_of s (execution_of s then_done)).worker j) (since_of s done j)
          (since_of s then_done j) j es
          (workers s world x.version (Begin id x.request)
          (answer_of s world x.version (Begin id x.request)) id j refl
          (λ same. apart (sym same)))
          (put_else (since_of s done) id j [] (λ same. apart (sym same))) st),
    )
      where
        past : List CoreStep
        past = execution_of s done

        world : World
        world = world_of s past

        core_step : CoreStep
        core_step = record {
          event = Begin id x.request;
          version = x.version;
          answer = answer_of s world x.version (Begin id x.request);
        }

        fresh_x : FrameSearch
        fresh_x = fresh (Some x.request) x.version x.nodes

        then_done : List Done
        then_done = record {
          deed = has_event x.version (Begin id x.request);
          pools = pools_of s first done;
        } ∷ done

        stands : Stands s past (pools_of s first done) (since_of s done)
        stands = plays s few some_worker first done base.play

        may_begin : MayBegin s world id x.version x.request x.nodes
        may_begin = record {
          there = let all = stands.tied.workers in let n = base.seats in omega arith;
          idle = idle;
          cpu = due.cpu;
          published = ap (λ (q : List Command × List ℕ). list_any (λ v. v == x.version) q.1)
              base.publics ∙ due.known;
          not_older = not_older;
          listed = ap (λ (q : List Command × List ℕ). list_at s.machine q.0 x.version x.request)
              base.publics ∙ due.listed;
        }

        is_step : IsCoreStep s world x.version (Begin id x.request) (goes_on s fresh_x)
        is_step = begins s id x.version x.request x.nodes world may_begin

        world_then : world_of s (execution_of s then_done)
            ≡ effect_of s world x.version (Begin id x.request)
        world_then = leads_to s world x.version (Begin id x.request) (goes_on s fresh_x) is_step

        new_search : FrameSearch
        new_search = record {
          request = Some x.request;
          version = x.version;
          nodes = unwrap_or (list_at s.machine world.history x.version x.request) [];
          met = λ n k. false;
        }

        since_then : since_of s then_done id ≡ []
        since_then = put_here (since_of s done) id []

        on : (goes_on s fresh_x ≡ CoreReply.Still) × (going_on s fresh_x ≡ Some fresh_x)
        on =
            let may = (walk_at s.machine.frames x.nodes (found_by x) rest e []
            (subst (λ (es : List Entry). IsWalk s.machine.frames x.nodes (found_by x) es) its_steps
            due.walk)).1 in
            let at = current_of s.machine.frames x.nodes e [] may in
            still s fresh_x [] (λ n k. refl) at.0 at.1

    idle_goes : (left : List Errand)
        → ((y : Errand) → IsAmong y (agenda id) → IsAmong y left
        ⊎ IsAnswered (execution_of s done) id y)
        → IsIdle ((world_of s (execution_of s done)).worker id) left steps → Goes
    idle_goes [] answered i = let none : length steps ≡ 0 = ap length i.1 in
        let some_there : length steps ≡ length later + 1 =
        ap length steps_are ∙ length-append later (e ∷ []) in absurd (omega arith)
    idle_goes (x ∷ todo) answered i =
        let newer = i.1.0 in
        let due = i.1.2 in
        ⊎_elim
        (λ none. let zero_steps : length x.steps ≡ 0 = ap length none in let some_there =
        due.some_step in absurd (omega arith))
        (λ more.
        let two = split_steps newer more.0 more.1 (i.1.1 ∙ ap (λ es. newer ++ es) more.2) in
        begin_goes x todo i.0 answered newer more.0 two.0
        (more.2 ∙ ap (λ d. more.0 ++ d ∷ []) (sym two.1)) due i.1.3 i.1.4)
        (from_end x.steps)

    pub goes_now : At done id steps → Goes
    goes_now st = ⊎_elim (λ i. idle_goes st.left st.answered i)
        (λ b. busy_goes st st.left st.answered b) st.stage

  -- ---- all steps

  abbrev pub AreInside : List Made → Type 0
  AreInside [] = Unit {0}
  AreInside (m ∷ made) = AreInside made × (m.seat < count)

  module _ (words : List ℕ) (start : List Done) (quiet : Base start words)
      (idle : (j : ℕ) → frame_search_of (world_of s (execution_of s start)) j ≡ None)
      (none_told : (j : ℕ) → last_of (world_of s (execution_of s start)) j ≡ 0) where
    abbrev Played : List Made → (ℕ → List Entry) → Type 0
    Played made later = (done : List Done) × Base done (words_after words made)
        × ((j : ℕ) → At done j (later j))

    abbrev one_more : Made → (ℕ → List Entry) → ℕ → List Entry
    one_more m later j = cond (m.seat == j) (later j ++ m.entry ∷ []) (later j)

    same_log : (m : Made) (made : List Made) (later : ℕ → List Entry) (j : ℕ)
        → one_more m later j ++ own j made ≡ later j ++ own j (m ∷ made)
    same_log m made later j = by (m.seat == j)
      where
        by : (b : Bool) → cond b (later j ++ m.entry ∷ []) (later j) ++ own j made
            ≡ later j ++ cond b (m.entry ∷ own j made) (own j made)
        by true = append_assoc (later j) (m.entry ∷ []) (own j made)
        by false = refl

    step_all : (m : Made) (made : List Made) (later : ℕ → List Entry)
        → Played made (one_more m later) → m.seat < count
        → Finds s.machine.frames (words_after words made) m.entry → Played (m ∷ made) later
    step_all m made later before inside found = (
      done_now,
      base_now s few some_worker first count published history agenda going.0
          (words_after words made) m.seat (later m.seat) m.entry going.1 inside found,
      (λ j. by j (ℕ_discrete j m.seat)),
    )
      where
        steps_are : one_more m later m.seat ≡ later m.seat ++ m.entry ∷ []
        steps_are = ap (λ b. cond b (later m.seat ++ m.entry ∷ []) (later m.seat))
            (eq-eqb m.seat m.seat refl)

        going : Goes before.0 (words_after words made) before.1 m.seat inside (later m.seat) m.entry
            (one_more m later m.seat) steps_are
        going = goes_now before.0 (words_after words made) before.1 m.seat inside (later m.seat)
            m.entry (one_more m later m.seat) steps_are (before.2 m.seat)

        done_now : List Done
        done_now = now s few some_worker first count published history agenda going.0
            (words_after words made) m.seat (later m.seat) m.entry going.1 inside
            found

        by : (j : ℕ) → Dec (j ≡ m.seat) → At done_now j (later j)
        by j (yes same) = subst (λ (k : ℕ). At done_now k (later k)) (sym same)
            (mine_now s few some_worker first count published history agenda going.0
            (words_after words made) m.seat (later m.seat) m.entry going.1 inside
            found)
        by j (no apart) = others_now s few some_worker first count published history agenda going.0
            (words_after words made) m.seat (later m.seat) m.entry
            going.1 inside found j apart (later j)
            (going.2 j apart (later j)
            (subst (λ (es : List Entry). At before.0 j es)
            (ap (λ b. cond b (later j ++ m.entry ∷ []) (later j))
            (ne_eqb m.seat j (λ same. apart (sym same)))) (before.2 j)))

    plays_all : (made : List Made) (later : ℕ → List Entry) → IsOrder s.machine.frames words made
        → AreInside made
        → ((j : ℕ) → AreDue s published history 0 (agenda j) (later j ++ own j made))
        → Played made later
    plays_all [] later order inside due = (
      start,
      quiet,
      (λ j. record {
        left = agenda j;
        stage = inl (
          idle j,
          subst (λ (q : ℕ × List Entry). AreDue s published history q.0 (agenda j) q.1)
              (λ c. (sym (none_told j) c, append-nil (later j) c)) (due j),
        );
        answered = λ x among. inl among;
      }),
    )
    plays_all (m ∷ made) later order inside due =
        step_all m made later
        (plays_all made (one_more m later) order.0 inside.0
        (λ j. subst (λ (es : List Entry). AreDue s published history 0 (agenda j) es)
        (sym (same_log m made later j)) (due j))) inside.1 order.1

    -- at the end nothing is left
    none_left : (worker : Worker) (since : List Entry) (left : List Errand)
        → IsIdle worker left [] ⊎ BusyWith worker since left [] → left ≡ []
    none_left worker since [] stage = refl
    none_left worker since (x ∷ todo) (inl i) =
        let none : 0 ≡ length i.1.0 + length x.steps =
        ap length i.1.1 ∙ length-append i.1.0 x.steps in
        let some_there = i.1.2.some_step in
        absurd (omega arith)
    none_left worker since (x ∷ todo) (inr b) =
        let none : 0 ≡ length b.newer + length (b.rest ++ b.next ∷ []) =
        ap length b.steps_are ∙ length-append b.newer (b.rest ++ b.next ∷ []) in
        let one : length (b.rest ++ b.next ∷ []) ≡ length b.rest + 1 =
        length-append b.rest (b.next ∷ []) in
        absurd (omega arith)

    pub all_answered : (made : List Made) → IsOrder s.machine.frames words made → AreInside made
        → ((j : ℕ) → AreDue s published history 0 (agenda j) (own j made))
        → (done : List Done) × IsPlay s first done
        × (Publics (world_of s (execution_of s done)) ≡ (history, published))
        × ((j : ℕ) (x : Errand) → IsAmong x (agenda j) → IsAnswered (execution_of s done) j x)
    all_answered made order inside due =
        let played = plays_all made (λ j. []) order inside due in (
          played.0,
          played.1.play,
          played.1.publics,
          (λ j x among.
              let st = played.2 j in
              let none = none_left ((world_of s (execution_of s played.0)).worker j)
              (since_of s played.0 j) st.left st.stage in
              ⊎_elim (λ h. absurd (subst (λ (l : List Errand). IsAmong x l) none h)) (λ h. h)
              (st.answered x among)),
        )
