-- The commands of executions: each was accepted, and a published version means the same ones for
-- ever.
use Rattle.std.proofs.Common.{zero, suc, ◌≡◌, ◌≢◌, ℕ, ◌+◌, ◌^◌, ◌<◌, ◌≤◌, ◌&&◌, Bool, true, false}
use Rattle.std.proofs.Common.{Option, Some, None, Result, Ok, Err, is_ok, List, [], ◌∷◌, ◌++◌}
use Rattle.std.proofs.Common.{length, drop, count_by, refl, sym, ap, subst, ◌∙◌, arith}
use Rattle.std.proofs.Common.{if◌then◌else◌}
use Rattle.std.proofs.lemmas.List.Elements.{All-get_or}
use Rattle.std.proofs.lemmas.List.Sums.{sum_by-cons}
use Rattle.std.specs.Prelude.{slice_index}
use Rattle.numa_mask.specs.NodeSet.{has}
use Rattle.numa_machine.specs.Machine.{Hardware}
use Rattle.numa_space.specs.Limited.{Bounds}
use Rattle.numa_space.specs.Lists.{node_list}
use Rattle.numa_space.specs.Pages.{is_mapped}
use Rattle.numa_space.specs.Policies.{allowed_nodes}
use Rattle.numa_space.specs.Refusals.{refusal_of as command_refusal}
use Rattle.numa_space.specs.Standing.{IsAccepted, IsNodeList}
use Rattle.numa_requests.specs.declared.command.Command.{Command}
use Rattle.numa_requests.specs.declared.refusal.Refusal.{Refusal}
use Rattle.numa_space.proofs.Meant.{meant-list}
use Rattle.numa_requests.specs.declared.request.Request.{Request}
use Rattle.numa_requests.specs.declared.event.Event.{Event}
use Rattle.numa_requests.specs.declared.event.Event.TheVariants.{Accept, Publish, Begin, Seek, Look}
use Rattle.numa_requests.specs.declared.event.Event.TheVariants.{Try, Give}
use Rattle.numa_requests.specs.declared.event.CoreReply.{CoreReply}
use Rattle.numa_requests.specs.declared.event.CoreRefusal.{CoreRefusal}
use Rattle.numa_requests.specs.declared.placement.Placement.{Placement}
use Rattle.numa_core.specs.World.{Setup, World, first_commands, is_published, list_at}
use Rattle.numa_core.specs.World.{newest_published, owner_of}
use Rattle.numa_core.specs.Steps.{because, refusal_of, effect_of, world_after, IsAnswer}
use Rattle.numa_core.specs.Executions.{CoreStep, accepts, is_accept, world_of, IsExecution}
use Rattle.numa_core.specs.Executions.{IsRightPlacement}
use Rattle.numa_core.proofs.Answered.{replied}
use Rattle.numa_core.proofs.Newest.{newest}
use Rattle.numa_core.proofs.Tracking.{first_commands-more}
use Rattle.numa_core.proofs.Versions.{sound}

-- ---- what an event does to the commands and to the published versions

abbrev history_after : Event → List Command → List Command
history_after (Accept command) history = command ∷ history
history_after Publish history = history
history_after (Begin w request) history = history
history_after (Seek w node) history = history
history_after (Look w word) history = history
history_after (Try w frame) history = history
history_after (Give w frame) history = history

abbrev published_after : Event → World → List ℕ
published_after (Accept command) world = world.published
published_after Publish world = length world.history ∷ world.published
published_after (Begin w request) world = world.published
published_after (Seek w node) world = world.published
published_after (Look w word) world = world.published
published_after (Try w frame) world = world.published
published_after (Give w frame) world = world.published

module _ (s : Setup) (world : World) (version : ℕ) where
  effect-history : (event : Event) → (effect_of s world version event).history ≡ history_after event
      world.history
  effect-history (Accept command) = refl
  effect-history Publish = refl
  effect-history (Begin w request) = refl
  effect-history (Seek w node) = refl
  effect-history (Look w word) = refl
  effect-history (Try w frame) = go (owner_of world frame) refl
    where
      go : (o : Option ℕ) → owner_of world frame ≡ o
          → (effect_of s world version (Try w frame)).history ≡ world.history
      go (Some u) is = rw is refl
      go None is = rw is refl
  effect-history (Give w frame) = refl

  effect-published : (event : Event) → (effect_of s world version event).published ≡ published_after
      event world
  effect-published (Accept command) = refl
  effect-published Publish = refl
  effect-published (Begin w request) = refl
  effect-published (Seek w node) = refl
  effect-published (Look w word) = refl
  effect-published (Try w frame) = go (owner_of world frame) refl
    where
      go : (o : Option ℕ) → owner_of world frame ≡ o
          → (effect_of s world version (Try w frame)).published ≡ world.published
      go (Some u) is = rw is refl
      go None is = rw is refl
  effect-published (Give w frame) = refl

  -- ---- accepted commands

  because-none : (o : Option Refusal) → because o ≡ None → o ≡ None
  because-none None e = refl
  because-none (Some refusal) e = absurd (cc)

  accepted-event : (event : Event) → refusal_of s world version event ≡ None
      → IsAccepted s.machine s.bounds world.history
      → IsAccepted s.machine s.bounds (history_after event world.history)
  accepted-event (Accept command) none accepted =
      (because-none (command_refusal s.machine s.bounds world.history command) none, accepted)
  accepted-event Publish none accepted = accepted
  accepted-event (Begin w request) none accepted = accepted
  accepted-event (Seek w node) none accepted = accepted
  accepted-event (Look w word) none accepted = accepted
  accepted-event (Try w frame) none accepted = accepted
  accepted-event (Give w frame) none accepted = accepted

  accepted-step : (event : Event) (answer : Result CoreReply CoreRefusal)
      → IsAnswer s world version event answer → IsAccepted s.machine s.bounds world.history
      → IsAccepted s.machine s.bounds (world_after s world version event answer).history
  accepted-step event (Ok reply) is accepted =
      subst (λ (h : List Command). IsAccepted s.machine s.bounds h) (sym (effect-history event))
      (accepted-event event (replied s world version event reply is).0 accepted)
  accepted-step event (Err refusal) is accepted = accepted

  -- ---- how many there are

  counted-event : (event : Event) → length (history_after event world.history)
      ≡ (if is_accept event then 1 else 0) + length world.history
  counted-event (Accept command) = omega arith
  counted-event Publish = omega arith
  counted-event (Begin w request) = omega arith
  counted-event (Seek w node) = omega arith
  counted-event (Look w word) = omega arith
  counted-event (Try w frame) = omega arith
  counted-event (Give w frame) = omega arith

  counted-step : (event : Event) (answer : Result CoreReply CoreRefusal)
      → length (world_after s world version event answer).history
      ≡ (if is_ok answer && is_accept event then 1 else 0) + length world.history
  counted-step event (Ok reply) = ap (λ (h : List Command). length h) (effect-history event)
      ∙ counted-event event
  counted-step event (Err refusal) = omega arith

  -- ---- the first commands, and the newest version

  first-event : (event : Event) (v : ℕ) → v ≤ length world.history
      → (first_commands v (history_after event world.history) ≡ first_commands v world.history)
      × (v ≤ length (history_after event world.history))
  first-event (Accept command) v low =
      (first_commands-more v command world.history low, omega arith)
  first-event Publish v low = (refl, low)
  first-event (Begin w request) v low = (refl, low)
  first-event (Seek w node) v low = (refl, low)
  first-event (Look w word) v low = (refl, low)
  first-event (Try w frame) v low = (refl, low)
  first-event (Give w frame) v low = (refl, low)

  first-step : (event : Event) (answer : Result CoreReply CoreRefusal) (v : ℕ)
      → v ≤ length world.history
      → (first_commands v (world_after s world version event answer).history ≡ first_commands v
      world.history) × (v ≤ length (world_after s world version event answer).history)
  first-step event (Ok reply) v low =
      let P : List Command → Type 0 = λ h. (first_commands v h ≡ first_commands v world.history)
      × (v ≤ length h) in
      subst P (sym (effect-history event)) (first-event event v low)
  first-step event (Err refusal) v low = (refl, low)

  rises-event : (event : Event) → newest_published world ≤ length world.history
      → newest_published world ≤ slice_index (published_after event world) 0
  rises-event (Accept command) known = omega arith
  rises-event Publish known = known
  rises-event (Begin w request) known = omega arith
  rises-event (Seek w node) known = omega arith
  rises-event (Look w word) known = omega arith
  rises-event (Try w frame) known = omega arith
  rises-event (Give w frame) known = omega arith

  rises-step : (event : Event) (answer : Result CoreReply CoreRefusal)
      → newest_published world ≤ length world.history
      → newest_published world ≤ newest_published (world_after s world version event answer)
  rises-step event (Ok reply) known =
      subst (λ (vs : List ℕ). newest_published world ≤ slice_index vs 0)
      (sym (effect-published event)) (rises-event event known)
  rises-step event (Err refusal) known = omega arith

-- ---- over runs

pub past-accepted : (s : Setup) (past : List CoreStep) → IsExecution s past
    → IsAccepted s.machine s.bounds (world_of s past).history
past-accepted s [] legal = tt
past-accepted s (m ∷ past) legal = accepted-step s (world_of s past) m.version m.event m.answer
    legal.2 (past-accepted s past legal.0)

pub past-counted : (s : Setup) (past : List CoreStep) → length (world_of s past).history
    ≡ count_by accepts past
past-counted s [] = refl
past-counted s (m ∷ past) = counted-step s (world_of s past) m.version m.event m.answer
    ∙ ap (λ n. (if accepts m then 1 else 0) + n) (past-counted s past)
    ∙ sym (sum_by-cons (λ m. if accepts m then 1 else 0) m past)

pub newest-known : (s : Setup) (past : List CoreStep) → IsExecution s past
    → newest_published (world_of s past) ≤ length (world_of s past).history
newest-known s past legal = (sound s past legal).published (newest_published (world_of s past))
    (newest s past legal).there

past-first : (s : Setup) (later earlier : List CoreStep) (v : ℕ)
    → v ≤ length (world_of s earlier).history
    → (first_commands v (world_of s (later ++ earlier)).history ≡ first_commands v
    (world_of s earlier).history) × (v ≤ length (world_of s (later ++ earlier)).history)
past-first s [] earlier v low = (refl, low)
past-first s (m ∷ later) earlier v low =
    let rest = past-first s later earlier v low in
    let step = first-step s (world_of s (later ++ earlier)) m.version m.event m.answer v rest.1 in
    (step.0 ∙ rest.0, step.1)

legal-before : (s : Setup) (later earlier : List CoreStep) → IsExecution s (later ++ earlier)
    → IsExecution s earlier
legal-before s [] earlier legal = legal
legal-before s (m ∷ later) earlier legal = legal-before s later earlier legal.0

-- a published version means the same commands for ever
pub past-same : (s : Setup) (later earlier : List CoreStep) (v : ℕ)
    → IsExecution s (later ++ earlier) → is_published (world_of s earlier) v ≡ true
    → first_commands v (world_of s (later ++ earlier)).history ≡ first_commands v
    (world_of s earlier).history
past-same s later earlier v legal published =
    (past-first s later earlier v ((sound s earlier (legal-before s later earlier legal)).published
    v published)).0

-- the newest published version never falls
pub past-rises : (s : Setup) (later earlier : List CoreStep) → IsExecution s (later ++ earlier)
    → newest_published (world_of s earlier) ≤ newest_published (world_of s (later ++ earlier))
past-rises s [] earlier legal = omega arith
past-rises s (m ∷ later) earlier legal =
    let step : newest_published (world_of s (later ++ earlier)) ≤ newest_published
    (world_of s (m ∷ (later ++ earlier))) = rises-step s (world_of s (later ++ earlier))
    m.version m.event m.answer (newest-known s (later ++ earlier) legal.0) in
    let rest : newest_published (world_of s earlier) ≤ newest_published
    (world_of s (later ++ earlier)) = past-rises s later earlier legal.0 in
    omega (arith, step, rest)

-- ---- lists

accepted-drop : (machine : Hardware) (bounds : Bounds) (n : ℕ) (history : List Command)
    → IsAccepted machine bounds history → IsAccepted machine bounds (drop n history)
accepted-drop machine bounds zero history accepted = accepted
accepted-drop machine bounds (suc n) [] accepted = tt
accepted-drop machine bounds (suc n) (command ∷ history) accepted =
    accepted-drop machine bounds n history accepted.1

module _ (s : Setup) (some : s.machine.memory ≢ 0) (small : s.machine.memory < 2 ^ 256) where
  -- each list that a version of an execution means is one in which memory can be looked for
  pub past-list : (past : List CoreStep) (version : ℕ) (request : Request) (nodes : List ℕ)
      → IsExecution s past → list_at s.machine (world_of s past).history version request
      ≡ Some nodes
      → IsNodeList (allowed_nodes s.machine (first_commands version (world_of s past).history))
      nodes
  unfolding list_at
  past-list past version request nodes legal listed =
      go (is_mapped (first_commands version (world_of s past).history) request.page) listed
    where
      commands : List Command
      commands = first_commands version (world_of s past).history

      go : (b : Bool)
          → (if b then Some (node_list s.machine commands request.task request.page request.cpu)
          else None) ≡ Some nodes → IsNodeList (allowed_nodes s.machine commands) nodes
      go false e = absurd (cc)
      go true e =
          let same : node_list s.machine commands request.task request.page request.cpu ≡ nodes =
          cc in
          subst (λ (ns : List ℕ). IsNodeList (allowed_nodes s.machine commands) ns) same
          (meant-list s.machine s.bounds some small commands request.task request.page request.cpu
          (accepted-drop s.machine s.bounds _ (world_of s past).history
          (past-accepted s past legal)))

  -- the node of a right placement is allowed at its version
  pub right-allowed : (past : List CoreStep) (w : ℕ) (placement : Placement) → IsExecution s past
      → IsRightPlacement s w placement past
      → has (allowed_nodes s.machine (first_commands placement.version (world_of s past).history))
      placement.node ≡ true
  right-allowed past w placement legal right =
      let list = past-list past right.begun.version right.begun.request right.nodes legal
      right.listed in
      let at :
      has (allowed_nodes s.machine
      (first_commands right.begun.version (world_of s past).history))
      (slice_index right.nodes placement.rank) ≡ true =
      All-get_or (λ node.
      has (allowed_nodes s.machine
      (first_commands right.begun.version (world_of s past).history)) node ≡ true) right.nodes
      placement.rank 0 right.rank list.inside in
      (λ i.
      has (allowed_nodes s.machine (first_commands (right.version i) (world_of s past).history))
      (sym right.node i)) ∙ at
