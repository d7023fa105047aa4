-- A crew, joined and closed, was an execution of the core.
use Rattle.std.proofs.Common.{◌≡◌, ◌≢◌, ℕ, ◌+◌, ◌*◌, ◌/◌, ◌%◌, ◌<◌, ◌≤◌, List, [], ◌∷◌, ◌++◌, zero}
use Rattle.std.proofs.Common.{suc}
use Rattle.std.proofs.Common.{length, Bool, true, false, cond, refl, sym, ap, subst, ◌∙◌, arith}
use Rattle.std.proofs.Common.{Option, Some, append-nil, eq-eqb, ne_eqb, get_or, set, ◌-◌}
use Rattle.std.proofs.Common.{◌⊎◌, ⊎_elim, inl, inr}
use Rattle.std.proofs.Common.{length-append, length-set}
use Rattle.std.specs.Prelude.{slice_get, slice_index, slice_index_or, ◌==◌}
use Rattle.std.specs.Option.{option_and_then}
use Rattle.std.proofs.lemmas.List.{get_or-map, length-map, map-append}
use native.Mathlib.Decide.{ℕ_discrete, dec_le}
use Rattle.numa_requests.specs.declared.command.Command.{Command}
use Rattle.numa_requests.specs.declared.placement.Placement.{Placement}
use Rattle.numa_requests.specs.declared.request.Request.{Request}
use Rattle.numa_requests.specs.declared.event.Event.TheVariants.{Accept, Publish, Begin, Seek}
use Rattle.numa_requests.specs.declared.event.Event.TheVariants.{Look, Try, Give}
use Rattle.numa_core.specs.World.{Setup, World, Worker, opening}
use Rattle.numa_core.specs.Steps.{answer_of}
use Rattle.numa_core.specs.Executions.{CoreStep, IsExecution, world_of}
use Rattle.numa_pool.specs.declared.view.Entry.{Entry}
use Rattle.numa_pool.specs.declared.view.Past.{Past}
use Rattle.numa_pool.specs.Order.{Made, own, IsAbsent, AreBelow, AreDifferent, IsByThese, IsLedTo}
use Rattle.numa_pool.specs.Order.{pasts_of}
use Rattle.numa_pool.specs.Steps.{newborn, past_of, after_split}
use Rattle.numa_pool.proofs.Ordering.{absent_append, past_by}
use Rattle.numa_fault.specs.Crew.{column, result_of}
use Rattle.numa_fault.specs.Told.{version_told}
use Rattle.numa_fault.specs.Worker.{WorkerState, parts_of}
use Rattle.numa_fault.specs.declared.answer.Answer.{Answer}
use Rattle.numa_fault.specs.declared.answer.Answer.TheVariants.{Placed}
use Rattle.numa_fault.proofs.Apart.{in-column}
use Rattle.numa_fault.proofs.Columns.{column-at}
use Rattle.numa_refinement.specs.Agendas.{Errand, IsAmong, IsAnswered, IsBare, AreDue, Ends}
use Rattle.numa_refinement.specs.Crews.{IsRun, IsSeenIn, AreAnswered, AreEarly, IsEarly}
use Rattle.numa_refinement.specs.Moves.{PoolState, opened}
use Rattle.numa_refinement.specs.Plays.{Deed, makes_step, splits, has_event, Done, Fits, IsPlay}
use Rattle.numa_refinement.specs.Plays.{execution_of, pools_of, since_of, with_deed, NoneRefused}
use Rattle.numa_refinement.proofs.Beside.{desk}
use Rattle.numa_refinement.proofs.Executing.{AreInside, all_answered}
use Rattle.numa_refinement.proofs.Todo.{Base, at_place}
use Rattle.numa_refinement.proofs.Playing.{plays}
use Rattle.numa_refinement.proofs.Working.{Worked, worked, AreKnown, BareAt, IsExhaustedAt, OfNone}

-- ---- before the crew

early_words : (s : Setup) (first : PoolState) (start : List Done) → IsPlay s first start
    → AreEarly start → (pools_of s first start).words ≡ first.words
early_words s first [] play early = refl
early_words s first (d ∷ done) play early =
    by (early_words s first done play.0 early.0) d.deed early.1 play.1
  where
    by : (pools_of s first done).words ≡ first.words → (deed : Deed) → IsEarly deed
        → Fits s (world_of s (execution_of s done)) (since_of s done) deed (pools_of s first done)
        d.pools → d.pools.words ≡ first.words
    by rest (makes_step id e) is fit = absurd is
    by rest (splits id) is fit = fit.0.words ∙ rest
    by rest (has_event version event) is fit = ap (λ (p : PoolState). p.words) fit.1 ∙ rest

early_workers : (s : Setup) (start : List Done) → AreEarly start → (j : ℕ)
    → (world_of s (execution_of s start)).worker j ≡ opening.worker j
early_workers s [] early j = refl
early_workers s (d ∷ done) early j = by (early_workers s done early.0 j) d.deed early.1
  where
    by : (world_of s (execution_of s done)).worker j ≡ opening.worker j → (deed : Deed)
        → IsEarly deed
        → (world_of s (with_deed s deed (execution_of s done))).worker j ≡ opening.worker j
    by rest (makes_step id e) is = absurd is
    by rest (splits id) is = rest
    by rest (has_event version (Accept command)) is =
        desk s (world_of s (execution_of s done)) version (Accept command)
        (answer_of s (world_of s (execution_of s done)) version (Accept command)) j refl ∙ rest
    by rest (has_event version Publish) is =
        desk s (world_of s (execution_of s done)) version Publish
        (answer_of s (world_of s (execution_of s done)) version Publish) j refl ∙ rest
    by rest (has_event version (Begin w request)) is = absurd is
    by rest (has_event version (Seek w node)) is = absurd is
    by rest (has_event version (Look w word)) is = absurd is
    by rest (has_event version (Try w frame)) is = absurd is
    by rest (has_event version (Give w frame)) is = absurd is

-- ---- agendas by seats

-- what a seat has to do: what the worker has at whose place it stands
abbrev agenda_at : List ℕ → (ℕ → List Errand) → ℕ → List Errand
agenda_at [] todo j = []
agenda_at (k ∷ ks) todo j = cond (k == j) (todo 0) (agenda_at ks (λ w. todo (suc w)) j)

absent_index : (k : ℕ) (ks : List ℕ) (w : ℕ) → IsAbsent k ks → w < length ks
    → k ≢ slice_index ks w
absent_index k [] w absent inside = absurd (omega arith)
absent_index k (j ∷ js) zero absent inside = absent.0
absent_index k (j ∷ js) (suc w) absent inside = absent_index k js w absent.1 (omega arith)

at_seat : (ks : List ℕ) (todo : ℕ → List Errand) (w : ℕ) → AreDifferent ks → w < length ks
    → agenda_at ks todo (slice_index ks w) ≡ todo w
at_seat [] todo w different inside = absurd (omega arith)
at_seat (k ∷ ks) todo zero different inside =
    ap (λ b. cond b (todo 0) (agenda_at ks (λ w. todo (suc w)) k)) (eq-eqb k k refl)
at_seat (k ∷ ks) todo (suc w) different inside =
    ap (λ b. cond b (todo 0) (agenda_at ks (λ w. todo (suc w)) (slice_index ks w)))
    (ne_eqb k (slice_index ks w) (absent_index k ks w different.0 (omega arith)))
    ∙ at_seat ks (λ w. todo (suc w)) w different.1 (omega arith)

module _ (s : Setup) (published : List ℕ) (history : List Command) (made : List Made) where
  due_at : (ks : List ℕ) (todo : ℕ → List Errand)
      → ((w : ℕ) → w < length ks
      → AreDue s published history 0 (todo w) (own (slice_index ks w) made)) → (j : ℕ)
      → (IsAbsent j ks → own j made ≡ [])
      → AreDue s published history 0 (agenda_at ks todo j) (own j made)
  due_at [] todo due j none = none tt
  due_at (k ∷ ks) todo due j none =
      by (λ absent. due_at ks (λ w. todo (suc w)) (λ w inside. due (suc w) (omega arith)) j absent)
      (ℕ_discrete k j)
    where
      by : ((IsAbsent j ks → own j made ≡ [])
          → AreDue s published history 0 (agenda_at ks (λ w. todo (suc w)) j) (own j made))
          → Dec (k ≡ j)
          → AreDue s published history 0 (agenda_at (k ∷ ks) todo j) (own j made)
      by rest (yes same) = subst (λ (xs : List Errand). AreDue s published history 0 xs
          (own j made))
          (sym (ap (λ b. cond b (todo 0) (agenda_at ks (λ w. todo (suc w)) j)) (eq-eqb k j same)))
          (subst (λ (i : ℕ). AreDue s published history 0 (todo 0) (own i made)) same
          (due zero (omega arith)))
      by rest (no apart) = subst (λ (xs : List Errand). AreDue s published history 0 xs
          (own j made))
          (sym (ap (λ b. cond b (todo 0) (agenda_at ks (λ w. todo (suc w)) j))
          (ne_eqb k j apart)))
          (rest (λ absent. none ((λ same. apart (sym same)), absent)))

-- ---- which seats made steps

none_of_rest : (j : ℕ) (m : Made) (made : List Made) → own j (m ∷ made) ≡ [] → own j made ≡ []
none_of_rest j m made = by (m.seat == j)
  where
    by : (b : Bool) → cond b (m.entry ∷ own j made) (own j made) ≡ [] → own j made ≡ []
    by true e = let n : length (m.entry ∷ own j made) ≡ 0 = ap length e in absurd (omega arith)
    by false e = e

some_of : (m : Made) (made : List Made) → own m.seat (m ∷ made) ≡ [] → ⊥
some_of m made e =
    let here : own m.seat (m ∷ made) ≡ m.entry ∷ own m.seat made =
    ap (λ b. cond b (m.entry ∷ own m.seat made) (own m.seat made)) (eq-eqb m.seat m.seat refl) in
    let n : length (m.entry ∷ own m.seat made) ≡ 0 = ap length (sym here ∙ e) in
    absurd (omega arith)

all_inside : (s : Setup) (few : (n : ℕ) → slice_index s.machine.frames n ≤ 4096)
    (some_worker : 0 < s.workers) (first : PoolState) (count : ℕ) (published : List ℕ)
    (history : List Command) (agenda : ℕ → List Errand) (bound : ℕ) → bound ≤ count
    → (made : List Made) → ((j : ℕ) → bound ≤ j → own j made ≡ [])
    → AreInside s few some_worker first count published history agenda made
all_inside s few some_worker first count published history agenda bound room [] none = tt
all_inside s few some_worker first count published history agenda bound room (m ∷ made) none = (
  all_inside s few some_worker first count published history agenda bound room made
      (λ j high. none_of_rest j m made (none j high)),
  by (dec_le bound m.seat),
)
  where
    by : Dec (bound ≤ m.seat) → m.seat < count
    by (no d) = omega arith
    by (yes high) = absurd (some_of m made (none m.seat high))

abbrev no_past : Past
no_past = record { name = []; splits = 0; log = [] }

-- ---- the crew

module _ (s : Setup) (few : (n : ℕ) → slice_index s.machine.frames n ≤ 4096)
    (some_worker : 0 < s.workers) (requests : List Request) (before after : List WorkerState)
    (answers : List Answer) (pasts : List Past) (words : List ℕ)
    (run : IsRun s requests before after answers pasts)
    (order : IsLedTo s.machine.frames pasts words) (only : IsByThese order.seats order.deeds.made)
    (first : PoolState) (start : List Done) (play : IsPlay s first start) (early : AreEarly start)
    (words_same : first.words ≡ order.first)
    (room : order.count ≤ length (pools_of s first start).views)
    (seen : IsSeenIn (world_of s (execution_of s start)) after answers) (d : WorkerState) where
  abbrev world : World
  world = world_of s (execution_of s start)

  abbrev count : ℕ
  count = length before

  in_after : (w : ℕ) → w < length before → w < length after
  in_after w inside = let n = run.many in omega arith

  known_in : (w : ℕ) → AreKnown s world.published world.history (column count w answers)
  known_in w i version at = seen.versions (w + i * count) version
      (sym (ap (option_and_then (λ (answer : Answer). version_told (result_of answer)))
      (column-at count w i answers run.crew.0)) ∙ at)

  its_work : (w : ℕ) → w < length before
      → Worked s world.published world.history 0 (slice_index_or before w d).seat
      (slice_index_or after w d).seat (column count w requests) (column count w answers)
  its_work w inside = worked s world.published world.history (column count w requests)
      (parts_of (slice_index_or before w d)) (parts_of (slice_index_or after w d))
      (column count w answers) (run.served w d inside) (run.machine w d inside)
      (seen.commands w d (in_after w inside)) (known_in w) 0 (omega arith)

  abbrev todo_by : (w : ℕ) → Dec (suc w ≤ length before) → List Errand
  todo_by w (yes inside) = (its_work w inside).todo
  todo_by w (no out) = []

  abbrev todo : ℕ → List Errand
  todo w = todo_by w (dec_le (suc w) (length before))

  due_by : (w : ℕ) (c : Dec (suc w ≤ length before)) → w < length before
      → AreDue s world.published world.history 0 (todo_by w c) (slice_index_or after w d).seat.log
  due_by w (yes inside) l =
      let work = its_work w inside in
      subst (λ (es : List Entry). AreDue s world.published world.history 0 work.todo es)
      (sym (work.gained ∙ ap (λ es. work.steps ++ es) (run.fresh w d l) ∙ append-nil work.steps))
      work.due
  due_by w (no out) l = absurd (omega arith)

  told_by : (w : ℕ) (c : Dec (suc w ≤ length before)) → w < length before → (i : ℕ)
      (p : Placement) → slice_get (column count w answers) i ≡ Some (Placed p)
      → (x : Errand) × IsAmong x (todo_by w c) × (x.placement ≡ Some p)
  told_by w (yes inside) l i p at = (its_work w inside).told i p at
  told_by w (no out) l i p at = absurd (omega arith)

  none_by : (w : ℕ) (c : Dec (suc w ≤ length before)) → w < length before → (i version : ℕ)
      → IsExhaustedAt s world.published world.history (column count w answers) i version
      → OfNone s world.published world.history (todo_by w c) version
      ⊎ BareAt s world.published world.history (column count w requests) i version
  none_by w (yes inside) l i version at = (its_work w inside).none_told i version at
  none_by w (no out) l i version at = absurd (omega arith)

  same_many : length order.seats ≡ length before
  same_many = sym (length-map order.seats (past_by order.deeds))
      ∙ ap length (sym order.pasts_are ∙ run.its_pasts)
      ∙ length-map after (λ (w : WorkerState). past_of w.seat.log w.seat.unlogged) ∙ run.many

  own_at : (w : ℕ) → w < length order.seats
      → own (slice_index order.seats w) order.deeds.made ≡ (slice_index_or after w d).seat.log
  own_at w inside =
      ap (λ (p : Past). p.log)
      (sym (get_or-map (past_by order.deeds) order.seats w 0 no_past inside)
      ∙ ap (λ ps. get_or ps w no_past) (sym order.pasts_are ∙ run.its_pasts)
      ∙ get_or-map (λ (v : WorkerState). past_of v.seat.log v.seat.unlogged) after w d no_past
      (in_after w (let n = same_many in omega arith)))

  abbrev agenda : ℕ → List Errand
  agenda = agenda_at order.seats todo

  due_all : (j : ℕ)
      → AreDue s world.published world.history 0 (agenda j) (own j order.deeds.made)
  due_all j = due_at s world.published world.history order.deeds.made order.seats todo
      (λ w inside. subst (λ (es : List Entry).
      AreDue s world.published world.history 0 (todo w) es) (sym (own_at w inside))
      (due_by w (dec_le (suc w) (length before)) (let n = same_many in omega arith))) j (only j)

  base : Base s few some_worker first (length (pools_of s first start).views) world.published
      world.history agenda start order.first
  base = record {
    play = play;
    words_are = early_words s first start play early ∙ words_same;
    seats = refl;
    publics = refl;
  }

  abbrev Executed : Type 0
  Executed = (done : List Done) × IsPlay s first done × IsExecution s (execution_of s done)
      × NoneRefused (execution_of s done)
      × AreAnswered s (execution_of s done) order.seats requests answers (length before)

  -- what the seat of a worker was answered
  answer_of_seat : (done : List Done) → ((j : ℕ) (x : Errand) → IsAmong x (agenda j)
      → IsAnswered (execution_of s done) j x) → (w : ℕ) → w < length before → (x : Errand)
      → IsAmong x (todo_by w (dec_le (suc w) (length before)))
      → IsAnswered (execution_of s done) (slice_index order.seats w) x
  answer_of_seat done answered w inside x among =
      let here = at_seat order.seats todo w order.different (let n = same_many in omega arith) in
      answered (slice_index order.seats w) x
      (subst (λ (xs : List Errand). IsAmong x xs) (sym here) among)

  pub crew_executes : Executed
  crew_executes =
      let all = all_answered s few some_worker first (length (pools_of s first start).views)
      world.published world.history agenda order.first start base
      (λ j. ap (λ (w : Worker). w.frame_search) (early_workers s start early j))
      (λ j. ap (λ (w : Worker). w.last) (early_workers s start early j))
      order.deeds.made order.order
      (all_inside s few some_worker first (length (pools_of s first start).views) world.published
      world.history agenda order.count room order.deeds.made (λ j high.
      (order.names.none_else j high).0))
      due_all in
      let stands = plays s few some_worker first all.0 all.1 in (
        all.0,
        all.1,
        stands.legal,
        stands.granted,
        record {
          won = λ i p at.
              let some_turn = run.crew.0 in
              let inside : i % length before < length before = omega arith in
              let told = told_by (i % length before)
              (dec_le (suc (i % length before)) (length before)) inside (i / length before) p
              (in-column (length before) i answers p some_turn at) in
              subst (λ (o : Option Placement). Ends (execution_of s all.0)
              (slice_index order.seats (i % length before)) told.0.version o) told.2
              (answer_of_seat all.0 all.3 (i % length before) inside told.0 told.1);
          exhausted = λ i version at.
              let some_turn = run.crew.0 in
              let inside : i % length before < length before = omega arith in
              let here : i % length before + i / length before * length before ≡ i = omega arith in
              ⊎_elim
              (λ h. inl (subst (λ (q : ℕ × Option Placement). Ends (execution_of s all.0)
              (slice_index order.seats (i % length before)) q.0 q.1) (λ c. (h.3 c, h.2 c))
              (answer_of_seat all.0 all.3 (i % length before) inside h.0 h.1)))
              (λ h. inr (
                h.0,
                (sym (column-at (length before) (i % length before) (i / length before) requests
                    some_turn ∙ ap (slice_get requests) here) ∙ h.1),
                subst (λ (cs : List Command). IsBare s cs version h.0)
                    (sym (ap (λ (q : List Command × List ℕ). q.0) all.2)) h.2,
              ))
              (none_by (i % length before) (dec_le (suc (i % length before)) (length before)) inside
              (i / length before) version
              (column-at (length before) (i % length before) (i / length before) answers some_turn
              ∙ ap (slice_get answers) here ∙ at));
        },
      )

-- ---- the seat that the others were joined into stands last

different_turn : (k : ℕ) (js : List ℕ) → IsAbsent k js → AreDifferent js
    → AreDifferent (js ++ k ∷ [])
different_turn k [] absent different = (tt, tt)
different_turn k (j ∷ js) absent different = (
  absent_append j js (k ∷ []) different.0 ((λ same. absent.0 (sym same)), tt),
  different_turn k js absent.1 different.1,
)

below_turn : (n k : ℕ) (js : List ℕ) → k < n → AreBelow n js
    → AreBelow n (js ++ k ∷ [])
below_turn n k [] low below = (low, tt)
below_turn n k (j ∷ js) low below = (below.0, below_turn n k js low below.1)

absent_turn : (i k : ℕ) (js : List ℕ) → IsAbsent i (js ++ k ∷ []) → IsAbsent i (k ∷ js)
absent_turn i k [] absent = absent
absent_turn i k (j ∷ js) absent =
    let rest = absent_turn i k js absent.1 in (rest.0, (absent.0, rest.1))

module _ (s : Setup) (few : (n : ℕ) → slice_index s.machine.frames n ≤ 4096)
    (some_worker : 0 < s.workers) (requests : List Request) (old new : List WorkerState)
    (answers : List Answer) (its : Past) (others : List Past) (words : List ℕ)
    (run : IsRun s requests old new answers (others ++ its ∷ [])) where
  module _ (order : IsLedTo s.machine.frames (its ∷ others) words)
      (only : IsByThese order.seats order.deeds.made)
      (first : PoolState) (start : List Done) (play : IsPlay s first start)
      (early : AreEarly start) (words_same : first.words ≡ order.first)
      (room : order.count ≤ length (pools_of s first start).views)
      (seen : IsSeenIn (world_of s (execution_of s start)) new answers) where
    abbrev Ran : Type 0
    Ran = (seats : List ℕ) × AreDifferent seats × ((done : List Done) × IsPlay s first done
        × IsExecution s (execution_of s done) × NoneRefused (execution_of s done)
        × AreAnswered s (execution_of s done) seats requests answers (length old))

    with_worker : (workers : List WorkerState) → old ≡ workers
        → (turned : IsLedTo s.machine.frames (others ++ its ∷ []) words)
        → IsByThese turned.seats turned.deeds.made → first.words ≡ turned.first
        → turned.count ≤ length (pools_of s first start).views → Ran
    with_worker [] is turned only_turned same fits = let none : length old ≡ 0 = ap length is in
        let some_old = run.crew.0 in absurd (omega arith)
    with_worker (d ∷ workers) is turned only_turned same fits = (
      turned.seats,
      turned.different,
      crew_executes s few some_worker requests old new answers (others ++ its ∷ []) words run
          turned only_turned first start play early same fits seen d,
    )

    by_seats : (seats : List ℕ) → order.seats ≡ seats → Ran
    by_seats [] is =
        let none : length (its ∷ others) ≡ 0 =
        ap length (order.pasts_are ∙ ap (pasts_of order.deeds) is) in absurd (omega arith)
    by_seats (k ∷ js) is =
        let pasts = order.pasts_are ∙ ap (pasts_of order.deeds) is in
        let its_own : its ≡ past_by order.deeds k = cc in
        let its_others : others ≡ pasts_of order.deeds js = cc in
        let different = subst (λ (ks : List ℕ). AreDifferent ks) is order.different in
        let inside = subst (λ (ks : List ℕ). AreBelow order.count ks) is order.inside in
        with_worker old refl record {
          first = order.first;
          clear = order.clear;
          deeds = order.deeds;
          order = order.order;
          last = order.last;
          count = order.count;
          names = order.names;
          seats = js ++ k ∷ [];
          different = different_turn k js different.0 different.1;
          inside = below_turn order.count k js inside.0 inside.1;
          pasts_are = (λ c. its_others c ++ its_own c ∷ [])
              ∙ sym (map-append (past_by order.deeds) js (k ∷ []));
        } (λ j absent. only j (subst (λ (ks : List ℕ). IsAbsent j ks) (sym is)
        (absent_turn j k js absent))) words_same room

  pub runs : (order : IsLedTo s.machine.frames (its ∷ others) words)
      → (only : IsByThese order.seats order.deeds.made)
      → (first : PoolState) (start : List Done) → IsPlay s first start → AreEarly start
      → first.words ≡ order.first → order.count ≤ length (pools_of s first start).views
      → IsSeenIn (world_of s (execution_of s start)) new answers
      → (seats : List ℕ) × AreDifferent seats × ((done : List Done) × IsPlay s first done
      × IsExecution s (execution_of s done) × NoneRefused (execution_of s done)
      × AreAnswered s (execution_of s done) seats requests answers (length old))
  runs order only first start play early words_same room seen =
      by_seats order only first start play early words_same room seen order.seats refl

-- ---- splits behind the commands and publications

early_some : (s : Setup) (first : PoolState) → 0 < length first.views → (start : List Done)
    → IsPlay s first start → AreEarly start → 0 < length (pools_of s first start).views
early_some s first some_view [] play early = some_view
early_some s first some_view (d ∷ done) play early =
    by (early_some s first some_view done play.0 early.0) d.deed early.1 play.1
  where
    by : 0 < length (pools_of s first done).views → (deed : Deed) → IsEarly deed
        → Fits s (world_of s (execution_of s done)) (since_of s done) deed (pools_of s first done)
        d.pools → 0 < length d.pools.views
    by rest (makes_step id e) is fit = absurd is
    by rest (splits id) is fit =
        let n = ap length fit.0.views
        ∙ length-append (set (pools_of s first done).views id (after_split fit.0.view))
        (newborn fit.0.view ∷ []) in
        omega arith
    by rest (has_event version event) is fit =
        let n = ap (λ (p : PoolState). length p.views) fit.1 in omega arith

module _ (s : Setup) (first : PoolState) (start : List Done) (play : IsPlay s first start)
    (early : AreEarly start) (some_view : 0 < length (pools_of s first start).views) where
  abbrev Started : ℕ → Type 0
  Started n = (more : List Done) × IsPlay s first more × AreEarly more
      × (length (pools_of s first more).views ≡ length (pools_of s first start).views + n)
      × (execution_of s more ≡ execution_of s start)

  split_on : (n : ℕ) → length (pools_of s first start).views + n ≤ s.workers → Started n
  split_on zero room = (start, play, early, omega arith, refl)
  split_on (suc n) room = one_more (split_on n (omega arith))
    where
      one_more : Started n → Started (suc n)
      one_more r =
          let old = pools_of s first r.0 in
          let many = r.3 in
          let at = at_place old.views 0 (omega arith) in
          let now : PoolState = record {
            words = old.words;
            views = set old.views 0 (after_split at.0) ++ newborn at.0 ∷ [];
          } in (
            record { deed = splits 0; pools = now } ∷ r.0,
            (
              r.1,
              (
                record { view = at.0; shown = at.1; words = refl; views = refl },
                omega arith,
              ),
            ),
            (r.2, tt),
            (let n1 = length-append (set old.views 0 (after_split at.0)) (newborn at.0 ∷ []) in
                let n2 = length-set old.views 0 (after_split at.0) in omega arith),
            r.4,
          )

module _ (s : Setup) (few : (n : ℕ) → slice_index s.machine.frames n ≤ 4096)
    (some_worker : 0 < s.workers) (requests : List Request) (old new : List WorkerState)
    (answers : List Answer) (its : Past) (others : List Past) (words : List ℕ)
    (run : IsRun s requests old new answers (others ++ its ∷ []))
    (order : IsLedTo s.machine.frames (its ∷ others) words)
    (only : IsByThese order.seats order.deeds.made) (calls : List Done)
    (play : IsPlay s (opened order.first) calls) (early : AreEarly calls)
    (room : order.count ≤ s.workers)
    (seen : IsSeenIn (world_of s (execution_of s calls)) new answers) where
  pub runs_after : (seats : List ℕ) × AreDifferent seats
      × ((done : List Done) × IsPlay s (opened order.first) done
      × IsExecution s (execution_of s done) × NoneRefused (execution_of s done)
      × AreAnswered s (execution_of s done) seats requests answers (length old))
  runs_after =
      let first = opened order.first in
      let views = (pools_of s first calls).views in
      let fits = (plays s few some_worker first calls play).tied.workers in
      let some_view = early_some s first (omega arith) calls play early in
      let started = split_on s first calls play early some_view (order.count - length views)
      (omega arith) in
      let long = started.3 in
      runs s few some_worker requests old new answers its others words run order only first
      started.0 started.1 started.2 refl (omega arith)
      (subst (λ (past : List CoreStep). IsSeenIn (world_of s past) new answers) (sym started.4)
      seen)
