-- What an exported call answers and does, in terms of the calls below it.
use Rattle.std.specs.Prelude.{◌≡◌, ◌≢◌, ◌==◌, ◌&&◌, ◌||◌, ℕ, Bool, true, not, nat_le, nat_lt}
use Rattle.std.specs.Prelude.{if◌then◌else◌, List, length, is_some, MatchResult}
use Rattle.std.specs.Prelude.{Option, Some, None, IfSome, Result, Ok, Err}
use Rattle.numa_machine.specs.declared.fallback.Fallback.{Fallback}
use Rattle.numa_mask.specs.declared.list.ListFault.{ListFault}
use Rattle.numa_requests.specs.declared.command.Command.{Command}
use Rattle.numa_requests.specs.declared.event.Event.{Event}
use Rattle.numa_requests.specs.declared.event.CoreReply.{CoreReply}
use Rattle.numa_requests.specs.declared.event.CoreRefusal.{CoreRefusal}
use Rattle.numa_core.specs.Standing.{CoreState}
use Rattle.numa_machine.specs.Faults.{machine_fault, fallback_fault}
use Rattle.numa_machine.specs.Machine.{Hardware}
use Rattle.numa_machine.specs.declared.fault.MachineFault.{MachineFault}
use Rattle.numa_core.specs.World.{Setup}
use Rattle.numa_space.specs.Limited.{Bounds}
use Rattle.numa_requests.specs.declared.request.Request.{Request}
use Rattle.numa_requests.specs.declared.event.CoreReply.TheVariants as reply
use Rattle.numa_plan.specs.Meaning.{PlanData}
use Rattle.numaplan_handles.specs.Steps.{Steps, Touches, Compiles, Publishes}
use Rattle.numaplan_c.specs.declared.opening.NpLimits.{NpLimits}
use Rattle.numaplan_c.specs.declared.options.Options.{Options}
use Rattle.numaplan_c.specs.declared.plans.Commands.{Commands}
use Rattle.numaplan_c.specs.declared.plans.Commands.TheVariants as commands
use Rattle.numaplan_c.specs.declared.events.NpPlacement.{NpPlacement}
use Rattle.numaplan_c.specs.Codes.{answer_code, list_code, machine_code}

-- the call made the event of the kept core and answered by its number; a closed handle answers 1
-- and stays closed
abbrev pub Answers : Option CoreState → Event → ℕ → Option CoreState → Type 0
Answers old event code new = (old ≡ None → (code ≡ 1) × (new ≡ None))
    × ((core : CoreState) → old ≡ Some core → (answer : Result CoreReply CoreRefusal)
    × (code ≡ answer_code answer) × Steps event old new answer)

-- the same for a command with a word that is read first: a faulty word is told, by `code_of` its
-- fault, and changes nothing
abbrev pub AnswersRead : {A F : Type 0} → Result A F → (F → ℕ) → (A → Command) → Option CoreState
    → ℕ → Option CoreState → Type 0
AnswersRead word code_of command old code new = MatchResult word
    (λ it. Answers old (Event.Accept (command it)) code new)
    (λ fault. (code ≡ code_of fault) × (new ≡ old))

-- where a page was placed, as C has it: the version and the page, the task and the rank, the frame
-- and its node; what isn't a placement leaves what stood there
abbrev pub Places : Result CoreReply CoreRefusal → NpPlacement → NpPlacement → Type 0
Places (Ok (reply.Won p)) old new = new ≡ record {
  version = p.version;
  page = p.page;
  task = p.task;
  rank = p.rank;
  frame = p.frame.number;
  node = p.node;
}
Places (Ok reply.Still) old new = new ≡ old
Places (Ok (reply.Exhausted version)) old new = new ≡ old
Places (Ok (reply.Accepted version)) old new = new ≡ old
Places (Ok (reply.Published version)) old new = new ≡ old
Places (Ok (reply.Found frame)) old new = new ≡ old
Places (Ok reply.Full) old new = new ≡ old
Places (Ok reply.Given) old new = new ≡ old
Places (Err cause) old new = new ≡ old

-- a call that may change what a handle keeps, and `told` says what is told of it; a closed handle
-- stays closed, and answers 1, and nothing is told, which is `untold`
abbrev pub Called : {A : Type 0} → Option A → ℕ → Option A → Type 0 → (A → Type 0) → Type 0
Called {A} old code new untold told = (old ≡ None → (code ≡ 1) × (new ≡ None) × untold)
    × ((it : A) → old ≡ Some it → told it)

-- the same as `Answers` for a touch and for a Try, which tell where the page was placed
abbrev pub Touched : Option CoreState → ℕ → Request → ℕ → Option CoreState → NpPlacement
    → NpPlacement → Type 0
Touched old worker request code new before after = Called old code new (after ≡ before)
    (λ core. (answer : Result CoreReply CoreRefusal) × (code ≡ answer_code answer)
    × Touches worker request old new answer × Places answer before after)

abbrev pub Tried : Option CoreState → Event → ℕ → Option CoreState → NpPlacement → NpPlacement
    → Type 0
Tried old event code new before after = Called old code new (after ≡ before)
    (λ core. (answer : Result CoreReply CoreRefusal) × (code ≡ answer_code answer)
    × Steps event old new answer × Places answer before after)

-- the machine of a description, whose list of nodes with memory is a text, by these options
abbrev pub IsMachineOf : Result ℕ ListFault → List ℕ → List ℕ → Options → Hardware → Type 0
IsMachineOf list frames distances options machine =
    (memory : ℕ) × (list ≡ Ok memory) × (machine ≡ record {
      nodes = length frames;
      memory = memory;
      distances = distances;
      frames = frames;
      rules = options.rules;
      fallback = options.fallback;
    })

-- that machine, these limits and this many workers
abbrev pub IsSetUp : Result ℕ ListFault → List ℕ → List ℕ → Options → Bounds → ℕ → Setup → Type 0
IsSetUp list frames distances options bounds workers setup =
    IsMachineOf list frames distances options setup.machine × (setup.bounds ≡ bounds)
    × (setup.workers ≡ workers)

-- the limits as the library has them
abbrev pub bounds_of : NpLimits → Bounds
bounds_of limits = record {
  max_ranges = limits.max_ranges;
  max_tasks = limits.max_tasks;
  max_commands = limits.max_commands;
}

-- why limits, or a number of workers, are refused
abbrev pub limits_cause : Bounds → ℕ → Option ℕ
limits_cause bounds workers =
    if not (nat_le bounds.max_ranges 65536 && nat_le bounds.max_tasks 1024) then Some 54
    else if not (nat_le 1 workers && nat_le workers 16) then Some 55
    else None

abbrev pub or_fault : Option ℕ → Option MachineFault → Option ℕ
or_fault (Some code) fault = Some code
or_fault None (Some fault) = Some (machine_code fault)
or_fault None None = None

abbrev pub first_fault : Option MachineFault → Option MachineFault → Option MachineFault
first_fault (Some fault) other = Some fault
first_fault None other = other

-- the first cause for which a description is refused, out of memory apart: the list, the number of
-- nodes, what is wrong with `others` that are asked for, the orders, the machine
abbrev pub described_cause : Result ℕ ListFault → List ℕ → List ℕ → Option ℕ → Fallback → Option ℕ
described_cause (Err fault) frames distances others fallback = Some (list_code fault)
described_cause (Ok memory) frames distances others fallback = if nat_lt 256 (length frames)
    then Some 50
    else or_fault others (first_fault (fallback_fault (length frames) fallback)
    (machine_fault (length frames) memory distances frames))

-- the same with limits and workers
abbrev pub opening_cause : Result ℕ ListFault → List ℕ → List ℕ → Fallback → Bounds → ℕ → Option ℕ
opening_cause list frames distances fallback bounds workers =
    described_cause list frames distances (limits_cause bounds workers) fallback

-- it is done, or out of memory
abbrev pub is_done : ℕ → Bool
is_done code = code == 0 || code == 3

-- a handle that is to be opened keeps something where 0 is answered, and else what it kept
abbrev pub Opens : {A : Type 0} → Option A → ℕ → Option A → Type 0
Opens old code new = (code ≡ 0 → is_some new ≡ true) × (code ≢ 0 → new ≡ old)

-- what is answered where a handle is to keep what is made from another one: 2 where it keeps
-- something already, then 1 where the other one keeps nothing
abbrev pub AnswersKeeping : {A B : Type 0} → Option A → Option B → ℕ → Type 0
AnswersKeeping {A} from old code = (is_some old ≡ true → code ≡ 2)
    × (old ≡ None → from ≡ None → code ≡ 1)
    × (old ≡ None → (kept : A) → from ≡ Some kept → is_done code ≡ true)

-- a handle is to keep what another one keeps
abbrev pub Gives : {A : Type 0} → Option A → Option A → ℕ → Option A → Type 0
Gives from other code other_then = (code ≡ 0 → (other_then ≡ from) × (is_some from ≡ true))
    × (code ≢ 0 → other_then ≡ other) × AnswersKeeping from other code

-- the same where the other one is taken out, and goes on keeping; `kept` is what one keeps
abbrev pub Shares : {H A : Type 0} → (H → Option A) → H → H → ℕ → H → H → Type 0
Shares kept from other code from_then other_then = (kept from_then ≡ kept from)
    × Gives (kept from) (kept other) code (kept other_then)

-- a handle is to keep what is made of what another one keeps, of which `made` tells
abbrev pub Makes : {A B : Type 0} → (Option A → B → Type 0) → Option A → Option B → ℕ → Option B
    → Type 0
Makes made from old code new = Opens old code new × AnswersKeeping from old code
    × (old ≡ None → IfSome new (made from))

-- the plan is that of these commands of a core
abbrev pub IsPlanBy : Commands → Option CoreState → PlanData → Type 0
IsPlanBy commands.Accepted core plan = Compiles core plan
IsPlanBy commands.Published core plan = Publishes core plan

-- a question of what a handle keeps, and `told` says what is told of it; a closed handle answers 1,
-- and nothing is told, which is `untold`
abbrev pub Read : {A : Type 0} → Option A → ℕ → Type 0 → (A → Type 0) → Type 0
Read {A} kept code untold told = (kept ≡ None → (code ≡ 1) × untold)
    × ((it : A) → kept ≡ Some it → told it)

-- the same of a question that takes it out, and leaves it as it was
abbrev pub Asked : {A : Type 0} → Option A → Option A → ℕ → Type 0 → (A → Type 0) → Type 0
Asked old new code untold told = (new ≡ old) × Read old code untold told

-- a question that is answered by items in a room, and by their number: untold, both stay
abbrev pub ReadInto : {A B : Type 0} → Option A → ℕ → List B → List B → ℕ → ℕ → (A → Type 0)
    → Type 0
ReadInto kept code room room_then count count_then told =
    Read kept code ((room_then ≡ room) × (count_then ≡ count)) told

-- the same of a question that takes it out
abbrev pub AskedInto : {A B : Type 0} → Option A → Option A → ℕ → List B → List B → ℕ → ℕ
    → (A → Type 0) → Type 0
AskedInto old new code room room_then count count_then told =
    (new ≡ old) × ReadInto old code room room_then count count_then told
