-- What a crew's worker did is an agenda.
use Rattle.std.proofs.Common.{◌≡◌, ℕ, ◌+◌, ◌<◌, ◌≤◌, List, [], ◌∷◌, ◌++◌, zero, suc, length}
use Rattle.std.proofs.Common.{inl, inr, refl, sym, ap, subst, ◌∙◌, arith, Option, Some, None}
use Rattle.std.proofs.Common.{append_assoc, length-append, nat_le, true, false, if◌then◌else◌}
use Rattle.std.proofs.Common.{◌⊎◌, ⊎_elim}
use Rattle.std.specs.Prelude.{slice_get, slice_index, ◌==◌}
use Rattle.std.specs.List.{list_any}
use native.Mathlib.Decide.{dec_le}
use Rattle.numa_machine.specs.Machine.{Hardware}
use Rattle.numa_machine.specs.declared.frame.Frame.{Frame}
use Rattle.numa_space.specs.Pages.{is_mapped}
use Rattle.numa_requests.specs.declared.command.Command.{Command}
use Rattle.numa_requests.specs.declared.placement.Placement.{Placement}
use Rattle.numa_requests.specs.declared.request.Request.{Request}
use Rattle.numa_core.specs.World.{Setup, first_commands, list_at}
use Rattle.numa_pool.specs.Seats.{SeatView}
use Rattle.numa_pool.specs.Walk.{AllFull, IsWalk}
use Rattle.numa_pool.specs.declared.view.Entry.{Entry}
use Rattle.numa_publish.specs.Batches.{Extends}
use Rattle.numa_fault.specs.Crew.{Serves}
use Rattle.numa_fault.specs.Fault.{FindsNone, Places, list_of, refusal_of}
use Rattle.numa_fault.specs.Told.{version_at}
use Rattle.numa_fault.specs.Worker.{Parts}
use Rattle.numa_fault.specs.declared.answer.Answer.{Answer}
use Rattle.numa_fault.specs.declared.answer.Answer.TheVariants.{Placed, Refused}
use Rattle.numa_fault.specs.declared.refusal.FaultRefusal.TheVariants.{NoView, BadCpu, Unmapped}
use Rattle.numa_fault.specs.declared.refusal.FaultRefusal.TheVariants.{Exhausted}
use Rattle.numa_fault.proofs.Falling.{serves-grow}
use Rattle.numa_refinement.specs.Agendas.{Errand, IsAmong, IsBare, IsDue, AreDue}
use Rattle.numa_refinement.specs.FrameSearches.{IsPlaced}
use Rattle.numa_refinement.proofs.Begins.{all-well, above, list_at-known}
use Rattle.numa_refinement.proofs.Desking.{behind}

extends_on : {A : Type 0} (a b c : List A) → Extends a b → Extends b c → Extends a c
extends_on a b c p q =
    (q.0 ++ p.0, q.1 ∙ ap (λ l. q.0 ++ l) p.1 ∙ sym (append_assoc q.0 p.0 a))

no_longer : {A : Type 0} (a b : List A) → Extends a b → length a ≤ length b
no_longer a b p = let n : length b ≡ length p.0 + length a = ap length p.1 ∙ length-append p.0 a in
    omega arith

some_step : (frames ns : List ℕ) (f : Frame) (es : List Entry) → IsWalk frames ns (Some f) es
    → 0 < length es
some_step frames ns f [] walk = absurd walk
some_step frames ns f (e ∷ es) walk = omega arith

-- nodes of which each frame was found taken by no step have none
bare_nodes : (frames nodes : List ℕ) → AllFull frames [] nodes → (i : ℕ) → i < length nodes
    → slice_index frames (slice_index nodes i) ≡ 0
bare_nodes frames [] full i low = absurd (omega arith)
bare_nodes frames (n ∷ ns) full zero low = by (dec_le 1 (slice_index frames n))
  where
    by : Dec (1 ≤ slice_index frames n) → slice_index frames n ≡ 0
    by (yes some) = let odd : false ≡ true = full.0 0 (omega arith) in absurd (cc)
    by (no none) = omega arith
bare_nodes frames (n ∷ ns) full (suc i) low = bare_nodes frames ns full.1 i (omega arith)

module _ (s : Setup) (published : List ℕ) (history : List Command) where
  abbrev IsKnown : ℕ → Type 0
  IsKnown version = list_any (λ v. v == version) published ≡ true

  -- each version that these answers tell is published
  abbrev pub AreKnown : List Answer → Type 0
  AreKnown answers = (i version : ℕ) → version_at answers i ≡ Some version → IsKnown version

  -- the answer at a place is Exhausted, at this version
  abbrev pub IsExhaustedAt : List Answer → ℕ → ℕ → Type 0
  IsExhaustedAt answers i version = slice_get answers i ≡ Some (Refused (Exhausted version))

  -- there is a search among these that finds no frame, at this version
  abbrev pub OfNone : List Errand → ℕ → Type 0
  OfNone todo version =
      (x : Errand) × IsAmong x todo × (x.placement ≡ None) × (x.version ≡ version)

  -- no node of the list of the request at a place has a frame
  abbrev pub BareAt : List Request → ℕ → ℕ → Type 0
  BareAt requests i version =
      (request : Request) × (slice_get requests i ≡ Some request)
      × IsBare s history version request

  -- the searches of one who served these requests so
  pub record Worked
      (last : ℕ) (before after : SeatView) (requests : List Request) (answers : List Answer) :
      Type 0 where
    pub todo : List Errand
    pub steps : List Entry
    pub gained : after.log ≡ steps ++ before.log
    pub due : AreDue s published history last todo steps
    pub told : (i : ℕ) (p : Placement) → slice_get answers i ≡ Some (Placed p)
        → (x : Errand) × IsAmong x todo × (x.placement ≡ Some p)
    pub none_told : (i version : ℕ) → IsExhaustedAt answers i version
        → OfNone todo version ⊎ BareAt requests i version

  -- what a fault that was let in saw
  module _ (seen : List Command) (request : Request) (part : Extends seen history)
      (stands : refusal_of s.machine seen request ≡ None) where
    listed_by : (version : ℕ) → version ≡ length seen
        → list_at s.machine history version request ≡ Some (list_of s.machine seen request)
    listed_by version is =
        let tests = all-well (nat_le s.machine.nodes request.cpu) (is_mapped seen request.page)
        stands in
        ap (λ v. list_at s.machine history v request) is
        ∙ list_at-known s.machine history seen request
        (ap (first_commands (length seen)) part.1 ∙ behind part.0 seen)
        ∙ ap (λ b. if b then Some (list_of s.machine seen request) else None) tests.1

    cpu_by : request.cpu < s.machine.nodes
    cpu_by = above s.machine.nodes request.cpu
        (all-well (nat_le s.machine.nodes request.cpu) (is_mapped seen request.page) stands).0

  skip : (last : ℕ) (before middle after : SeatView) (r : Request) (requests : List Request)
      (a : Answer) (answers : List Answer) → middle.log ≡ before.log
      → ((p : Placement) → ◌≡◌ {A = Option Answer} (Some a) (Some (Placed p)) → ⊥)
      → ((version : ℕ) → ◌≡◌ {A = Option Answer} (Some a) (Some (Refused (Exhausted version)))
      → IsBare s history version r)
      → Worked last middle after requests answers
      → Worked last before after (r ∷ requests) (a ∷ answers)
  skip last before middle after r requests a answers same none bare w = record {
    todo = w.todo;
    steps = w.steps;
    gained = w.gained ∙ ap (λ es. w.steps ++ es) same;
    due = w.due;
    told = λ i p at. by i p at;
    none_told = λ i version at. of i version at;
  }
    where
      by : (i : ℕ) (p : Placement) → slice_get (a ∷ answers) i ≡ Some (Placed p)
          → (x : Errand) × IsAmong x w.todo × (x.placement ≡ Some p)
      by zero p at = absurd (none p at)
      by (suc i) p at = w.told i p at

      of : (i version : ℕ) → IsExhaustedAt (a ∷ answers) i version
          → OfNone w.todo version ⊎ BareAt (r ∷ requests) i version
      of zero version at = inr (r, refl, bare version at)
      of (suc i) version at = w.none_told i version at

  one : (last : ℕ) (before middle after : SeatView) (r : Request) (requests : List Request)
      (a : Answer) (answers : List Answer)
      (x : Errand) → middle.log ≡ x.steps ++ before.log → IsDue s published history x
      → last ≤ x.version
      → ((p : Placement) → ◌≡◌ {A = Option Answer} (Some a) (Some (Placed p))
      → x.placement ≡ Some p)
      → ((version : ℕ) → ◌≡◌ {A = Option Answer} (Some a) (Some (Refused (Exhausted version)))
      → (x.placement ≡ None) × (x.version ≡ version))
      → Worked x.version middle after requests answers
      → Worked last before after (r ∷ requests) (a ∷ answers)
  one last before middle after r requests a answers x same due not_older its its_none w = record {
    todo = x ∷ w.todo;
    steps = w.steps ++ x.steps;
    gained = w.gained ∙ ap (λ es. w.steps ++ es) same
        ∙ sym (append_assoc w.steps x.steps before.log);
    due = (w.steps, refl, due, not_older, w.due);
    told = λ i p at. by i p at;
    none_told = λ i version at. of i version at;
  }
    where
      by : (i : ℕ) (p : Placement) → slice_get (a ∷ answers) i ≡ Some (Placed p)
          → (y : Errand) × IsAmong y (x ∷ w.todo) × (y.placement ≡ Some p)
      by zero p at = (x, inl refl, its p at)
      by (suc i) p at = let rest = w.told i p at in (rest.0, inr rest.1, rest.2)

      of : (i version : ℕ) → IsExhaustedAt (a ∷ answers) i version
          → OfNone (x ∷ w.todo) version ⊎ BareAt (r ∷ requests) i version
      of zero version at = let none = its_none version at in inl (x, inl refl, none.0, none.1)
      of (suc i) version at = ⊎_elim (λ h. inl (h.0, inr h.1, h.2, h.3)) (λ h. inr h)
          (w.none_told i version at)

  abbrev placed_errand : Request → List Command → Placement → List Entry → Errand
  placed_errand request seen p es = record {
    request = request;
    version = p.version;
    nodes = list_of s.machine seen request;
    placement = Some p;
    steps = es;
  }

  placed_due : (seen : List Command) (request : Request) (before after : SeatView) (p : Placement)
      → Extends seen history
      → (h : Places s.machine.frames s.machine seen request p before after) → IsKnown p.version
      → IsDue s published history (placed_errand request seen p h.walks.steps.0)
  placed_due seen request before after p part h known = record {
    known = known;
    listed = listed_by seen request part h.stands p.version h.version;
    cpu = cpu_by seen request part h.stands;
    some_step = some_step s.machine.frames (list_of s.machine seen request) p.frame
        h.walks.steps.0 h.walks.steps.2;
    walk = h.walks.steps.2;
    distinct = h.walks.distinct;
    placed = λ q at.
        let same : p ≡ q = cc in
        subst (λ (z : Placement).
        IsPlaced p.version request (list_of s.machine seen request) z.frame z) same record {
          version_is = refl;
          task = h.task;
          page = h.page;
          frame_is = refl;
          node = h.node;
          rank = h.rank ∙ ap Some h.node;
        };
  }

  abbrev none_errand : Request → List Command → ℕ → List Entry → Errand
  none_errand request seen version es = record {
    request = request;
    version = version;
    nodes = list_of s.machine seen request;
    placement = None;
    steps = es;
  }

  none_due : (seen : List Command) (request : Request) (before after : SeatView) (version : ℕ)
      → Extends seen history
      → (h : FindsNone s.machine.frames s.machine seen request version before after)
      → IsKnown version → 0 < length h.walks.steps.0
      → IsDue s published history (none_errand request seen version h.walks.steps.0)
  none_due seen request before after version part h known some_there = record {
    known = known;
    listed = listed_by seen request part h.stands version h.version_is;
    cpu = cpu_by seen request part h.stands;
    some_step = some_there;
    walk = h.walks.steps.2;
    distinct = h.walks.distinct;
    placed = λ q at. absurd (cc);
  }

  -- the searches of all requests that a worker served
  pub worked : (requests : List Request) (before after : Parts) (answers : List Answer)
      → Serves s.machine.frames requests before after answers
      → before.reader.desk.machine ≡ s.machine → Extends after.reader.history history
      → AreKnown answers → (last : ℕ) → last ≤ length before.reader.history
      → Worked last before.seat after.seat requests answers
  worked [] before after [] served on part known last old_enough = record {
    todo = [];
    steps = [];
    gained = ap (λ (w : Parts). w.seat.log) served;
    due = refl;
    told = λ i p at. absurd (cc);
    none_told = λ i version at. absurd (cc);
  }
  worked [] before after (a ∷ answers) served on part known last old_enough = absurd served
  worked (r ∷ requests) before after [] served on part known last old_enough = absurd served
  worked (r ∷ requests) before after (Placed p ∷ answers) served on part known last old_enough =
      let middle = served.0 in
      let lets = served.1.0 in
      let rest = served.2 in
      let on_now : middle.reader.desk.machine ≡ s.machine =
      ap (λ d. d.machine) lets.desk ∙ on in
      let grown = serves-grow s.machine.frames requests middle after answers rest in
      let seen_part = extends_on middle.reader.history after.reader.history history grown part in
      let h : Places s.machine.frames s.machine middle.reader.history r p before.seat middle.seat =
      subst (λ (m : Hardware).
      Places s.machine.frames m middle.reader.history r p before.seat middle.seat) on_now
      served.1.1 in
      let longer = no_longer before.reader.history middle.reader.history lets.history in
      let version_is = h.version in
      one last before.seat middle.seat after.seat r requests (Placed p) answers
      (placed_errand r middle.reader.history p h.walks.steps.0) h.walks.steps.1
      (placed_due middle.reader.history r before.seat middle.seat p seen_part h
      (known zero p.version refl)) (omega arith)
      (λ q at. let same : ◌≡◌ {A = Option Placement} (Some p) (Some q) = cc in same)
      (λ v at. absurd (cc))
      (worked requests middle after answers rest on_now part (λ i v at. known (suc i) v at)
      p.version (omega arith))
  worked (r ∷ requests) before after (Refused NoView ∷ answers) served on part known last
      old_enough =
      let middle = served.0 in
      let same = served.1 in
      let same_history : middle.reader.history ≡ before.reader.history =
      ap (λ (w : Parts). w.reader.history) same in
      skip last before.seat middle.seat after.seat r requests (Refused NoView) answers
      (ap (λ (w : Parts). w.seat.log) same) (λ p at. absurd (cc)) (λ v at. absurd (cc))
      (worked requests middle after answers served.2
      (ap (λ (w : Parts). w.reader.desk.machine) same ∙ on) part (λ i v at. known (suc i) v at)
      last (let n = ap length same_history in omega arith))
  worked (r ∷ requests) before after (Refused BadCpu ∷ answers) served on part known last
      old_enough =
      let middle = served.0 in
      let lets = served.1.0 in
      let longer = no_longer before.reader.history middle.reader.history lets.history in
      skip last before.seat middle.seat after.seat r requests (Refused BadCpu) answers
      (ap (λ (v : SeatView). v.log) served.1.1.1) (λ p at. absurd (cc)) (λ v at. absurd (cc))
      (worked requests middle after answers served.2 (ap (λ d. d.machine) lets.desk ∙ on) part
      (λ i v at. known (suc i) v at) last (omega arith))
  worked (r ∷ requests) before after (Refused (Unmapped version) ∷ answers) served on part known
      last old_enough =
      let middle = served.0 in
      let lets = served.1.0 in
      let longer = no_longer before.reader.history middle.reader.history lets.history in
      skip last before.seat middle.seat after.seat r requests (Refused (Unmapped version)) answers
      (ap (λ (v : SeatView). v.log) served.1.1.2) (λ p at. absurd (cc)) (λ v at. absurd (cc))
      (worked requests middle after answers served.2 (ap (λ d. d.machine) lets.desk ∙ on) part
      (λ i v at. known (suc i) v at) last (omega arith))
  worked (r ∷ requests) before after (Refused (Exhausted version) ∷ answers) served on part known
      last old_enough =
      let middle = served.0 in
      let lets = served.1.0 in
      let rest = served.2 in
      let on_now : middle.reader.desk.machine ≡ s.machine =
      ap (λ d. d.machine) lets.desk ∙ on in
      let grown = serves-grow s.machine.frames requests middle after answers rest in
      let seen_part = extends_on middle.reader.history after.reader.history history grown part in
      let h : FindsNone s.machine.frames s.machine middle.reader.history r version before.seat
      middle.seat =
      subst (λ (m : Hardware).
      FindsNone s.machine.frames m middle.reader.history r version before.seat middle.seat) on_now
      served.1.1 in
      let longer = no_longer before.reader.history middle.reader.history lets.history in
      exhausted_one r requests before middle after version answers h seen_part
      (known zero version refl) last (let is = h.version_is in omega arith)
      (λ l low. worked requests middle after answers rest on_now part
      (λ i v at. known (suc i) v at) l (let is = h.version_is in omega arith))
    where
      exhausted_one : (r : Request) (requests : List Request) (before middle after : Parts)
          (version : ℕ) (answers : List Answer)
          → (h : FindsNone s.machine.frames s.machine middle.reader.history r version before.seat
          middle.seat)
          → Extends middle.reader.history history → IsKnown version → (last : ℕ)
          → last ≤ version
          → ((l : ℕ) → l ≤ version → Worked l middle.seat after.seat requests answers)
          → Worked last before.seat after.seat (r ∷ requests)
          (Refused (Exhausted version) ∷ answers)
      exhausted_one r requests before middle after version answers h seen_part known last low rest =
          by h.walks.steps.0 refl
        where
          bare : h.walks.steps.0 ≡ [] → IsBare s history version r
          bare is = record {
            nodes = list_of s.machine middle.reader.history r;
            listed = listed_by middle.reader.history r seen_part h.stands version h.version_is;
            none_there = bare_nodes s.machine.frames (list_of s.machine middle.reader.history r)
                (subst (λ (es : List Entry).
                AllFull s.machine.frames es (list_of s.machine middle.reader.history r)) is
                h.walks.steps.2.1);
          }

          by : (es : List Entry) → h.walks.steps.0 ≡ es
              → Worked last before.seat after.seat (r ∷ requests)
              (Refused (Exhausted version) ∷ answers)
          by [] is = skip last before.seat middle.seat after.seat r requests
              (Refused (Exhausted version)) answers
              (h.walks.steps.1 ∙ ap (λ es. es ++ before.seat.log) is) (λ p at. absurd (cc))
              (λ v at. let same : version ≡ v = cc in
              subst (λ n. IsBare s history n r) same (bare is)) (rest last low)
          by (e ∷ es) is = one last before.seat middle.seat after.seat r requests
              (Refused (Exhausted version)) answers
              (none_errand r middle.reader.history version h.walks.steps.0) h.walks.steps.1
              (none_due middle.reader.history r before.seat middle.seat version seen_part h known
              (let n = ap length is in omega arith)) low
              (λ p at. absurd (cc)) (λ v at. let same : version ≡ v = cc in (refl, same))
              (rest version (omega arith))
