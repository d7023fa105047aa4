-- A replay, one access later.
use Rattle.std.proofs.Common.{◌≡◌, ℕ, ◌<◌, Bool, not, is_some, Option, Some, None, List, [], ◌∷◌}
use Rattle.std.proofs.Common.{◌++◌, Result, Ok, Err, OnOk, IfErr, IfOk, refl, subst, sym, ap, ◌∙◌}
use Rattle.std.specs.Prelude.{unwrap_or, if◌then◌else◌}
use Rattle.std.specs.Option.{option_map}
use Rattle.std.proofs.lemmas.Bool.{lt-leb}
use Rattle.numa_machine.specs.Machine.{Hardware}
use Rattle.numa_plan.specs.Meaning.{PlanData, place_refusal, planned_list}
use Rattle.numa_machine.specs.declared.refusal.PlaceRefusal.{PlaceRefusal}
use Rattle.numa_machine.specs.declared.refusal.PlaceRefusal.TheVariants.{Unmapped}
use Rattle.numa_traces.specs.Placing.{Frames, node_of, frames_with_page}
use Rattle.numa_traces.specs.Replaying.{EndsReplay, Replayed, IsNext, IsReplay, frames_with_access}
use Rattle.numa_traces.specs.Replaying.{is_first, route_from}
use Rattle.numa_traces.specs.Tallies.{Counts, IsFull, IsRoomFault, Route, is_route, with_accesses}
use Rattle.numa_traces.specs.declared.access.Access.{Access}
use Rattle.numa_traces.specs.declared.fault.ReplayError.{ReplayError}
use Rattle.numa_traces.specs.declared.fault.ReplayError.TheVariants.{Malformed, Named, NoMemory}
use Rattle.numa_traces.specs.declared.fault.ReplayError.TheVariants.{NoProcess, Refused, TooMany}
use Rattle.numa_traces.specs.declared.fault.ReplayError.TheVariants.{Drawn, Huge, TooManyRuns}
use Rattle.numa_traces.specs.declared.fault.ReplayError.TheVariants.{Unnamed}
use Rattle.numa_traces.specs.declared.fault.ReplayError.TheVariants.{ByRange, WantsRoom}

pub on-ok : {A E : Type 0} {P Q : Type 0} (result : Result A E) → (P → Q) → OnOk result P
    → OnOk result Q
on-ok (Ok a) from p = from p
on-ok (Err e) from p = tt

-- what was made as it should be, and is added
pub added-mark : {A E F : Type 0} (result : Result (Unit {0}) E) (made : Result A F) (old new : List A)
    (wanted : A) → IfOk made (λ mark. mark ≡ wanted)
    → OnOk result ((mark : A) × (made ≡ Ok mark) × (new ≡ old ++ (mark ∷ [])))
    → OnOk result (new ≡ old ++ (wanted ∷ []))
added-mark (Ok done) made old new wanted is (mark, so, more) =
    more ∙ ap (λ m. old ++ (m ∷ [])) (rw so at is)
added-mark (Err why) made old new wanted is added = tt

pub in-any : {A E : Type 0} {P : Type 0} (result : Result A E) → P → OnOk result P
in-any (Ok a) p = p
in-any (Err e) p = tt

pub on-both : {A E : Type 0} {P Q R : Type 0} (result : Result A E) → (P → Q → R) → OnOk result P
    → OnOk result Q → OnOk result R
on-both (Ok a) from p q = from p q
on-both (Err e) from p q = tt

-- a page that has a list is refused to no node of the plan
pub none-refused : (plan : PlanData) (task page cpu : ℕ) (nodes : List ℕ) → cpu < plan.nodes
    → planned_list plan task page cpu ≡ Some nodes → place_refusal plan page cpu ≡ None
none-refused plan task page cpu nodes lt planned = rw (lt-leb plan.nodes cpu lt) (go _ _ planned)
  where
    go : (f : (ℕ × Option ℕ) → List ℕ) (at : Option (ℕ × Option ℕ)) → option_map f at ≡ Some nodes
        → ◌≡◌ {A = Option PlaceRefusal} (if is_some at then None else Some Unmapped) None
    go f None e = absurd (let odd = e in cc)
    go f (Some at) e = refl

-- why accesses that take a route can't be counted
pub room-ends : {A : Type 0} (plan : PlanData) (met : Replayed) (access : Access) (route : Route)
    (first : Bool) (result : Result A ReplayError) → place_refusal plan access.page access.cpu
    ≡ None
    → route_from plan met.frames access ≡ route → is_first met.frames access ≡ first
    → IfErr result IsRoomFault
    → IfErr result (λ why. why ≡ TooMany → IsFull met.tallies route access.count first)
    → IfErr result (EndsReplay plan met access)
room-ends plan met access route first (Ok a) none goes is room full = tt
room-ends plan met access route first (Err TooMany) none goes is room full = (
  none,
  subst (λ (w : Route). IsFull met.tallies w access.count (is_first met.frames access))
      (sym goes) (subst (λ (b : Bool). IsFull met.tallies route access.count b) (sym is)
      (full refl)),
)
room-ends plan met access route first (Err NoMemory) none goes is room full = none
room-ends plan met access route first (Err (Refused r)) none goes is room full = absurd room
room-ends plan met access route first (Err (Malformed f)) none goes is room full = absurd room
room-ends plan met access route first (Err Unnamed) none goes is room full = absurd room
room-ends plan met access route first (Err WantsRoom) none goes is room full = absurd room
room-ends plan met access route first (Err ByRange) none goes is room full = absurd room
room-ends plan met access route first (Err Drawn) none goes is room full = absurd room
room-ends plan met access route first (Err Huge) none goes is room full = absurd room
room-ends plan met access route first (Err TooManyRuns) none goes is room full = absurd room
room-ends plan met access route first (Err Named) none goes is room full = absurd room
room-ends plan met access route first (Err NoProcess) none goes is room full = absurd room

-- the route of an access whose page is placed already
pub placed-route : (plan : PlanData) (frames : Frames) (access : Access) (node : ℕ)
    → node_of frames.pages access.page ≡ Some node → route_from plan frames access
    ≡ (access.task, access.cpu, Some node)
placed-route plan frames access node lies = ap (λ (n : Option ℕ). (access.task, access.cpu, n))
    (rw lies lies)

-- and of one whose page is placed by it
pub touched-route : (plan : PlanData) (old new : Frames) (access : Access) (nodes : List ℕ)
    (place : Option ℕ) → planned_list plan access.task access.page access.cpu ≡ Some nodes
    → new ≡ frames_with_page old access.page nodes → node_of new.pages access.page ≡ place
    → route_from plan old access ≡ (access.task, access.cpu, place)
touched-route plan old new access nodes place planned touches lies =
    let list : unwrap_or (planned_list plan access.task access.page access.cpu) [] ≡ nodes =
    ap (λ (o : Option (List ℕ)). unwrap_or o []) planned in
    ap (λ (n : Option ℕ). (access.task, access.cpu, n))
    (ap (λ (nodes : List ℕ). node_of (frames_with_page old access.page nodes).pages access.page)
    list ∙ ap (λ (f : Frames). node_of f.pages access.page) (sym touches) ∙ lies)

-- what a page's touch and a route's count make
pub next-of : (plan : PlanData) (access : Access) (old new : Replayed) (nodes : List ℕ)
    → planned_list plan access.task access.page access.cpu ≡ Some nodes
    → new.frames ≡ frames_with_page old.frames access.page nodes
    → Counts old.tallies (access.task, access.cpu, node_of new.frames.pages access.page)
    access.count (not (is_some (node_of old.frames.pages access.page))) new.tallies
    → IsNext plan access old new
next-of plan access old new nodes planned touches counts = record {
  frames = after;
  tallies = subst (λ (frames : Frames). Counts old.tallies
      (access.task, access.cpu, node_of frames.pages access.page) access.count
      (is_first old.frames access) new.tallies) after counts;
}
  where
    list : nodes ≡ unwrap_or (planned_list plan access.task access.page access.cpu) []
    list = sym (ap (λ o. unwrap_or o []) planned)

    after : new.frames ≡ frames_with_access plan old.frames access
    after = touches ∙ ap (λ (nodes : List ℕ). frames_with_page old.frames access.page nodes) list

pub replayed : (machine : Hardware) (plan : PlanData) (trace : List Access) (access : Access)
    (old new : Replayed) → IsNext plan access old new → IsReplay machine plan trace old
    → IsReplay machine plan (access ∷ trace) new
replayed machine plan trace access old new next was = record {
  start = was.start;
  fresh = was.fresh;
  frames = next.frames ∙ (λ i. frames_with_access plan (was.frames i) access);
  tallies = λ route. next.tallies route
      ∙ (λ i. if is_route (route_from plan (was.frames i) access) route
      then with_accesses (was.tallies route i) access.count (is_first (was.frames i) access)
      else was.tallies route i);
}
