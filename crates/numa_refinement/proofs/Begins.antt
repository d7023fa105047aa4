-- The Begin of a fault, by the history that the fault saw.
use Rattle.std.proofs.Common.{◌≡◌, ℕ, ◌<◌, Bool, true, false, Option, Some, None, Err, is_some}
use Rattle.std.proofs.Common.{is_none, List, [], ◌∷◌, length, refl, ap, ◌∙◌, arith, nat_le}
use Rattle.std.proofs.Common.{if◌then◌else◌}
use Rattle.std.proofs.lemmas.Bool.Decides.{nat_tests}
use Rattle.numa_machine.specs.Machine.{Hardware}
use Rattle.numa_space.specs.Lists.{node_list}
use Rattle.numa_space.specs.Pages.{is_mapped}
use Rattle.numa_requests.specs.declared.command.Command.{Command}
use Rattle.numa_requests.specs.declared.request.Request.{Request}
use Rattle.numa_machine.specs.declared.refusal.PlaceRefusal.{PlaceRefusal}
use Rattle.numa_machine.specs.declared.refusal.PlaceRefusal.TheVariants.{BadCpu as cpu_is_bad}
use Rattle.numa_machine.specs.declared.refusal.PlaceRefusal.TheVariants.{Unmapped as is_unmapped}
use Rattle.numa_core.specs.World.{Setup, World, first_commands, list_at}
use Rattle.numa_core.specs.Steps.{first_refusal, refusal_of, refused_or, reply_of, answer_of}
use Rattle.numa_requests.specs.declared.event.CoreRefusal.TheVariants.{NoSuchWorker, Busy, BadCpu}
use Rattle.numa_requests.specs.declared.event.CoreRefusal.TheVariants.{Unmapped}
use Rattle.numa_requests.specs.declared.event.Event.TheVariants.{Begin}
use Rattle.numa_core.proofs.InARow.{not_le}
use Rattle.numa_fault.specs.Fault.{list_of, refusal_of as refusal_by}
use Rattle.numa_refinement.specs.WalkSteps.{MayBegin}
use Rattle.numa_refinement.specs.Faults.{IsReady}

-- what a page's refusal says of the two tests
cpu-bad : (bad mapped : Bool)
    → ◌≡◌ {A = Option PlaceRefusal}
    (if bad then Some cpu_is_bad else if mapped then None else Some is_unmapped) (Some cpu_is_bad)
    → bad ≡ true
cpu-bad true mapped e = refl
cpu-bad false true e = absurd (cc)
cpu-bad false false e = absurd (cc)

not-mapped : (bad mapped : Bool)
    → ◌≡◌ {A = Option PlaceRefusal}
    (if bad then Some cpu_is_bad else if mapped then None else Some is_unmapped) (Some is_unmapped)
    → (bad ≡ false) × (mapped ≡ false)
not-mapped true mapped e = absurd (cc)
not-mapped false true e = absurd (cc)
not-mapped false false e = (refl, refl)

pub all-well : (bad mapped : Bool)
    → ◌≡◌ {A = Option PlaceRefusal}
    (if bad then Some cpu_is_bad else if mapped then None else Some is_unmapped) None
    → (bad ≡ false) × (mapped ≡ true)
all-well true mapped e = absurd (cc)
all-well false true e = (refl, refl)
all-well false false e = absurd (cc)

pub above : (nodes cpu : ℕ) → nat_le nodes cpu ≡ false → cpu < nodes
above nodes cpu e = grind (arith, nat_tests)

-- the list of a published version is that of its history
pub list_at-known : (machine : Hardware) (all history : List Command) (request : Request)
    → first_commands (length history) all ≡ history
    → list_at machine all (length history) request
    ≡ (if is_mapped history request.page then Some (list_of machine history request) else None)
unfolding list_at
list_at-known machine all history request known =
    ap (λ h. if is_mapped h request.page then Some
    (node_list machine h request.task request.page request.cpu) else None) known

module _ (s : Setup) (w : ℕ) (history : List Command) (request : Request) (first : World)
    (ready : IsReady s w history first) where
  listed : (b : Bool) → is_mapped history request.page ≡ b
      → list_at s.machine first.history (length history) request
      ≡ (if b then Some (list_of s.machine history request) else None)
  listed b e = list_at-known s.machine first.history history request ready.known.commands
      ∙ ap (λ b. if b then Some (list_of s.machine history request) else None) e

  -- the four causes, of which the first two don't hold
  refusal-is : (bad unmapped : Bool) → nat_le s.machine.nodes request.cpu ≡ bad
      → is_none (list_at s.machine first.history (length history) request) ≡ unmapped
      → refusal_of s first (length history) (Begin w request)
      ≡ first_refusal ((bad, BadCpu) ∷ (unmapped, Unmapped (length history)) ∷ [])
  refusal-is bad unmapped e d =
      ap (λ (p : Bool × Bool × Bool × Bool).
      first_refusal ((p.0, NoSuchWorker) ∷ (p.1, Busy) ∷ (p.2, BadCpu)
      ∷ (p.3, Unmapped (length history)) ∷ []))
      (λ i. (not_le s.workers w ready.worker i, is_some (ready.idle i), e i, d i))

  pub bad-cpu : refusal_by s.machine history request ≡ Some cpu_is_bad
      → answer_of s first (length history) (Begin w request) ≡ Err BadCpu
  bad-cpu e =
      ap (λ o. refused_or o (reply_of s first (length history) (Begin w request)))
      (refusal-is true (is_none (list_at s.machine first.history (length history) request))
      (cpu-bad (nat_le s.machine.nodes request.cpu) (is_mapped history request.page) e) refl)

  pub unmapped : refusal_by s.machine history request ≡ Some is_unmapped
      → answer_of s first (length history) (Begin w request) ≡ Err (Unmapped (length history))
  unmapped e =
      let tests = not-mapped (nat_le s.machine.nodes request.cpu) (is_mapped history request.page)
      e in
      ap (λ o. refused_or o (reply_of s first (length history) (Begin w request)))
      (refusal-is false true tests.0
      (ap (λ (o : Option (List ℕ)). is_none o) (listed false tests.1)))

  pub has-list : refusal_by s.machine history request ≡ None
      → MayBegin s first w (length history) request (list_of s.machine history request)
  has-list e =
      let tests = all-well (nat_le s.machine.nodes request.cpu) (is_mapped history request.page)
      e in
      record {
        there = ready.worker;
        idle = ready.idle;
        cpu = above s.machine.nodes request.cpu tests.0;
        published = ready.known.published;
        not_older = ready.last;
        listed = listed true tests.1;
      }
