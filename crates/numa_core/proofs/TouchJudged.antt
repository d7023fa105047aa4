-- What refuses a Begin in a core that stands for a world, and the list that it takes.
use Rattle.std.proofs.Common.{◌≡◌, ℕ, ◌-◌, ◌<◌, ◌≤◌, Bool, true, false, Option, Some, None, is_some}
use Rattle.std.proofs.Common.{is_none, option_and_then, List, [], ◌∷◌, length, nat_le, map, refl}
use Rattle.std.proofs.Common.{sym, ap, subst, ◌∙◌, arith, slice_get, get_or, if◌then◌else◌, cond}
use Rattle.std.specs.Option.{option_map}
use Rattle.std.proofs.lemmas.Bool.{leb-true, leb-false}
use Rattle.std.proofs.lemmas.Bool.Decides.{nat_tests}
use Rattle.std.proofs.lemmas.List.{length-drop}
use Rattle.std.proofs.lemmas.Option.{slice_get-map, slice_get_read, slice_get_within}
use Rattle.numa_space.specs.Lists.{node_list}
use Rattle.numa_space.specs.Pages.{is_mapped}
use Rattle.numa_machine.specs.declared.refusal.PlaceRefusal.{PlaceRefusal}
use Rattle.numa_machine.specs.declared.refusal.PlaceRefusal.TheVariants.{BadCpu as NoCpu}
use Rattle.numa_machine.specs.declared.refusal.PlaceRefusal.TheVariants.{Unmapped as NoPage}
use Rattle.numa_plan.specs.Meaning.{PlanData, planned_list, place_refusal}
use Rattle.numa_requests.specs.declared.request.Request.{Request}
use Rattle.numa_core.specs.declared.seat.OngoingSearch.{OngoingSearch}
use Rattle.numa_core.specs.declared.seat.WorkerSeat.{WorkerSeat}
use Rattle.numa_requests.specs.declared.event.Event.TheVariants.{Begin}
use Rattle.numa_requests.specs.declared.event.CoreRefusal.TheVariants.{BadCpu, Unmapped}
use Rattle.numa_core.specs.World.{World, newest_published, first_commands, frame_search_of, list_at}
use Rattle.numa_core.specs.Steps.{refusal_of, first_refusal}
use Rattle.numa_core.specs.Standing.{CoreState, CoreStandsFor, Busy, setup_of, frame_search_by}
use Rattle.numa_core.specs.Seats.{busy_of, busy_by}
use Rattle.numa_core.specs.Judging.{IsJudged, IsListed, cause_at}

low_false : (a b : ℕ) → b < a → nat_le a b ≡ false
low_false a b h = grind (arith, nat_tests)

high_true : (a b : ℕ) → a ≤ b → nat_le a b ≡ true
high_true a b h = grind (arith, nat_tests)

-- a seat without a job shows a worker that is about nothing
pub idle-seat : (seats : List WorkerSeat) (count w : ℕ) (seat : WorkerSeat) → count ≡ length seats
    → w < count → seat ≡ get_or seats w seat → false ≡ is_some seat.job
    → slice_get (map busy_of seats) w ≡ Some None
idle-seat seats count w seat all low read none =
    slice_get-map busy_of seats w
    ∙ ap (λ o. option_map busy_of o) (slice_get_read seats count w seat all low read)
    ∙ go seat.job none
  where
    go : (o : Option OngoingSearch) → false ≡ is_some o
        → ◌≡◌ {A = Option (Option Busy)} (Some (busy_by o seat.nodes.items seat.met.items))
        (Some None)
    go None e = refl
    go (Some job) e = absurd (cc)

-- the plan's version is the newest published one
pub version-newest : (core : CoreState) (world : World) → CoreStandsFor core world
    → core.plan.version ≡ newest_published world
version-newest core world stands =
    let all : length (first_commands (newest_published world) world.history) ≡ length world.history
    - (length world.history - newest_published world) =
    length-drop (length world.history - newest_published world) world.history in
    omega (arith, stands.plan.version, stands.known)

-- the plan's list is that of the newest published version
pub list-planned : (core : CoreState) (world : World) (request : Request) → CoreStandsFor core world
    → request.cpu < core.space.machine.nodes
    → list_at core.space.machine world.history (newest_published world) request
    ≡ planned_list core.plan request.task request.page request.cpu
unfolding list_at
list-planned core world request stands low =
    go (is_mapped (first_commands (newest_published world) world.history) request.page) refl
  where
    go : (b : Bool) → is_mapped (first_commands (newest_published world) world.history) request.page
        ≡ b → list_at core.space.machine world.history (newest_published world) request
        ≡ planned_list core.plan request.task request.page request.cpu
    go true e =
        ap (λ b.
        cond b
        (Some (node_list core.space.machine (first_commands (newest_published world) world.history)
        request.task request.page request.cpu)) None) e
        ∙ sym (stands.plan.lists request.task request.page request.cpu low e)
    go false e =
        ap (λ b.
        cond b
        (Some (node_list core.space.machine (first_commands (newest_published world) world.history)
        request.task request.page request.cpu)) None) e
        ∙ sym (stands.plan.unmapped request.task request.page request.cpu e)

-- a known worker that is about nothing is refused by the faulting node and the page alone
judged-idle : (core : CoreState) (w : ℕ) (request : Request) (world : World)
    → CoreStandsFor core world → slice_get core.workers w ≡ Some None
    → refusal_of (setup_of core) world (newest_published world) (Begin w request) ≡ first_refusal (
    (nat_le core.space.machine.nodes request.cpu, BadCpu)
    ∷ (
      is_none (list_at core.space.machine world.history (newest_published world) request),
      Unmapped (newest_published world),
    )
    ∷ [])
judged-idle core w request world stands idle =
    let none : frame_search_of world w ≡ None = sym (stands.frame_searches w)
    ∙ ap (λ o. frame_search_by core.space.machine (option_and_then (λ busy. busy) o)) idle in
    rw (low_false (length core.workers) w (slice_get_within core.workers w None idle), none) refl

-- not at all, where the plan has a list
pub judged-allowed : (core : CoreState) (w : ℕ) (request : Request) (nodes : List ℕ)
    → slice_get core.workers w ≡ Some None → request.cpu < core.plan.nodes
    → planned_list core.plan request.task request.page request.cpu ≡ Some nodes
    → IsJudged core w request None
judged-allowed core w request nodes idle cpu listed world stands =
    let within : request.cpu < core.space.machine.nodes =
    subst (λ n. request.cpu < n) stands.plan.nodes cpu in
    judged-idle core w request world stands idle
    ∙ rw (
      low_false core.space.machine.nodes request.cpu within,
      list-planned core world request stands within ∙ listed,
    ) refl

pub judged-listed : (core : CoreState) (request : Request) (nodes : List ℕ)
    → request.cpu < core.plan.nodes → planned_list core.plan request.task request.page request.cpu
    ≡ Some nodes → IsListed core request nodes
judged-listed core request nodes cpu listed world stands = list-planned core world request stands
    (subst (λ n. request.cpu < n) stands.plan.nodes cpu) ∙ listed

-- the faulting node is none of the plan's
judged-bad_cpu : (core : CoreState) (w : ℕ) (request : Request)
    → slice_get core.workers w ≡ Some None → core.plan.nodes ≤ request.cpu
    → IsJudged core w request (Some BadCpu)
judged-bad_cpu core w request idle high world stands =
    judged-idle core w request world stands idle
    ∙ rw (high_true core.space.machine.nodes request.cpu
    (subst (λ n. n ≤ request.cpu) stands.plan.nodes high)) refl

-- no execution of the plan has the page
judged-unmapped : (core : CoreState) (w : ℕ) (request : Request)
    → slice_get core.workers w ≡ Some None → request.cpu < core.plan.nodes
    → planned_list core.plan request.task request.page request.cpu ≡ None
    → IsJudged core w request (Some (Unmapped core.plan.version))
judged-unmapped core w request idle cpu none world stands =
    let within : request.cpu < core.space.machine.nodes =
    subst (λ n. request.cpu < n) stands.plan.nodes cpu in
    judged-idle core w request world stands idle
    ∙ rw (
      low_false core.space.machine.nodes request.cpu within,
      list-planned core world request stands within ∙ none,
    )
    (ap (λ v. Some (Unmapped v)) (sym (version-newest core world stands)))

-- what a plan's refusal of a page means
first_row : (b c : Bool)
    → ◌≡◌ {A = Option PlaceRefusal} (if b then Some NoCpu else if c then None else Some NoPage)
    (Some NoCpu) → b ≡ true
first_row true c e = refl
first_row false true e = absurd (cc)
first_row false false e = absurd (cc)

second_row : {X : Type 0} (f : X → List ℕ) (b : Bool) (o : Option X)
    → ◌≡◌ {A = Option PlaceRefusal}
    (if b then Some NoCpu else if is_some o then None else Some NoPage) (Some NoPage) → (b ≡ false)
    × (option_map f o ≡ None)
second_row f true o e = absurd (cc)
second_row f false None e = (refl, refl)
second_row f false (Some x) e = absurd (cc)

refused-bad_cpu : (plan : PlanData) (page cpu : ℕ) → place_refusal plan page cpu ≡ Some NoCpu
    → plan.nodes ≤ cpu
refused-bad_cpu plan page cpu e = leb-true plan.nodes cpu (first_row (nat_le plan.nodes cpu) _ e)

refused-unmapped : (plan : PlanData) (task page cpu : ℕ) → place_refusal plan page cpu ≡ Some NoPage
    → (cpu < plan.nodes) × (planned_list plan task page cpu ≡ None)
refused-unmapped plan task page cpu e = let rows = second_row _ (nat_le plan.nodes cpu) _ e in
    (omega (arith, leb-false plan.nodes cpu rows.0), rows.1)

-- what refuses the request by the plan refuses the Begin
pub judged-refused : (core : CoreState) (w : ℕ) (request : Request) (refusal : PlaceRefusal)
    → slice_get core.workers w ≡ Some None → place_refusal core.plan request.page request.cpu
    ≡ Some refusal → IsJudged core w request (Some (cause_at core.plan.version refusal))
judged-refused core w request NoCpu idle e =
    judged-bad_cpu core w request idle (refused-bad_cpu core.plan request.page request.cpu e)
judged-refused core w request NoPage idle e = let none = refused-unmapped core.plan request.task
    request.page request.cpu e in judged-unmapped core w request idle none.0 none.1
