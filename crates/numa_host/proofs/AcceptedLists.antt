-- What a process has accepted is a list that a space of its own would accept.
use Rattle.std.proofs.Common.{◌≡◌, ◌≢◌, ◌<◌, ◌^◌, ℕ, Bool, true, false, List, [], ◌∷◌}
use Rattle.std.proofs.Common.{length, Option, Some, None, All, eqb, leb, refl, sym, ap, ◌∙◌}
use Rattle.std.proofs.Common.{arith, inl, inr, if◌then◌else◌}
use Rattle.std.proofs.lemmas.Bool.{cases_Bool, eqb-true, lt-leb}
use Rattle.std.proofs.lemmas.List.Elements.{All-weaker}
use Rattle.std.proofs.lemmas.List.Folds.{list_any_none}
use Rattle.std.specs.List.{list_any}
use Rattle.std.specs.Option.{option_map, option_map_or}
use Rattle.std.specs.Prelude.{nat_le}
use Rattle.numa_mask.specs.NodeSet.{has, members}
use Rattle.numa_machine.specs.Machine.{Hardware}
use Rattle.numa_mode.proofs.Subsets.{members-within}
use Rattle.numa_space.specs.Limited.{Bounds}
use Rattle.numa_space.specs.Refusals.{refusal_of, is_bad_weight, lacks_mems}
use Rattle.numa_space.specs.Refusals.{first_of as space_first, when as space_when}
use Rattle.numa_space.specs.Standing.{IsAccepted}
use Rattle.numa_requests.specs.declared.command.Command.{Command}
use Rattle.numa_requests.specs.declared.command.Command.TheVariants as own
use Rattle.numa_requests.specs.declared.refusal.Refusal.{Refusal}
use Rattle.numa_requests.specs.declared.refusal.Refusal.TheVariants as refused
use Rattle.numa_space.proofs.Refused.{first_of-none}
use Rattle.numa_requests.specs.declared.host_command.HostCommand.{HostCommand}
use Rattle.numa_requests.specs.declared.host_command.HostCommand.TheVariants.{NewGroup}
use Rattle.numa_requests.specs.declared.host_command.HostCommand.TheVariants.{SetGroupMems}
use Rattle.numa_requests.specs.declared.host_command.HostCommand.TheVariants.{NewProcess, Exit}
use Rattle.numa_requests.specs.declared.host_command.HostCommand.TheVariants.{Attach}
use Rattle.numa_requests.specs.declared.host_command.HostCommand.TheVariants.{Fork, In, SetWeight}
use Rattle.numa_requests.specs.declared.host_refusal.HostRefusal.TheVariants as cause
use Rattle.numa_host.specs.Causes.{cause_of, cause_in, host_refusal_of, is_the_host_s}
use Rattle.numa_host.specs.Causes.{when}
use Rattle.numa_host.specs.Groups.{effective_mems, groups_of}
use Rattle.numa_host.specs.Processes.{commands_of, group_in, is_there, members_of, nodes_of}
use Rattle.numa_host.specs.Processes.{weights_of, when_moved}
use Rattle.numa_host.specs.Standing.{IsHostAccepted}
use Rattle.numa_host.proofs.Allowing.{lacks-none, has-below}
use Rattle.numa_host.proofs.Effective.{AreSome, effective-some, memory-some}
use Rattle.numa_host.proofs.Lengths.{commands-few, weights-few}
use Rattle.numa_host.proofs.Nested.{first-none, when-none}

from-leb : (a b : ℕ) → leb a b ≡ false → b < a
from-leb a b h = grind arith

module _ (machine : Hardware) (bounds : Bounds) (some : machine.memory ≢ 0)
    (small : machine.memory < 2 ^ 256)
    (below : All (λ node. node < machine.nodes) (members machine.memory)) where
  -- the nodes of a group, and of a process
  group-some : (history : List HostCommand) (name : ℕ)
      → AreSome machine.memory (effective_mems machine.memory (groups_of history) name)
  group-some history name = effective-some machine.memory (groups_of history) name
      (memory-some machine.memory some)

  nodes-some : (history : List HostCommand) (process : ℕ)
      → AreSome machine.memory (nodes_of machine history process)
  nodes-some history process = go (group_in (members_of history) process)
    where
      go : (o : Option ℕ) → AreSome machine.memory
          (option_map_or (effective_mems machine.memory (groups_of history)) o machine.memory)
      go None = memory-some machine.memory some
      go (Some name) = group-some history name

  -- a change to them is accepted
  moved-accepted : (old new : ℕ) (commands : List Command) → AreSome machine.memory new
      → length commands < bounds.max_commands → IsAccepted machine bounds commands
      → IsAccepted machine bounds (when_moved old new commands)
  moved-accepted old new commands nodes room accepted =
      elim (cases_Bool (eqb old new)) [
        | inl e ↦ rw e accepted
        | inr e ↦
            let known : list_any (λ node. leb machine.nodes node) (members new) ≡ false =
            list_any_none (λ node. leb machine.nodes node) (members new)
            (All-weaker (λ n. has new n ≡ true) (λ n. leb machine.nodes n ≡ false)
            (λ n had. lt-leb machine.nodes n
            (has-below machine new small below nodes.inside n had)) (members new)
            (members-within new)) in
            let lives : lacks_mems machine.rules new machine.memory ≡ false =
            lacks-none machine.rules new machine.memory nodes.some nodes.inside in
            rw e (
              rw (lt-leb bounds.max_commands (length commands) room, known, lives) refl,
              accepted,
            )
      ]

  -- a host's list has room for the command that was accepted
  pub host-room : (history : List HostCommand) (command : HostCommand)
      → host_refusal_of machine bounds history command ≡ None
      → length history < bounds.max_commands
  host-room history command none =
      from-leb bounds.max_commands (length history)
      (when-none (leb bounds.max_commands (length history)) cause.CommandsSpent
      (first-none (when (leb bounds.max_commands (length history)) cause.CommandsSpent)
      (cause_of machine bounds history command) none).0)

  pub host-cause : (history : List HostCommand) (command : HostCommand)
      → host_refusal_of machine bounds history command ≡ None
      → cause_of machine bounds history command ≡ None
  host-cause history command none =
      (first-none (when (leb bounds.max_commands (length history)) cause.CommandsSpent)
      (cause_of machine bounds history command) none).1

  own-none : (o : Option Refusal) → option_map cause.OfSpace o ≡ None → o ≡ None
  own-none None is = refl
  own-none (Some refusal) is = absurd (cc)

  -- a weight is judged by the machine alone
  weight-moved : (some_list other : List Command) (node weight : ℕ)
      → length other < bounds.max_commands
      → refusal_of machine bounds some_list (own.SetWeight node weight) ≡ None
      → refusal_of machine bounds other (own.SetWeight node weight) ≡ None
  weight-moved some_list other node weight room none =
      let rest : space_first (space_when (nat_le machine.nodes node) refused.NoSuchNode)
      (space_when (is_bad_weight machine.rules weight) refused.BadWeight) ≡ None =
      (first_of-none (space_when (nat_le bounds.max_commands (length some_list))
      refused.CommandsSpent) _ none).1 in
      rw (lt-leb bounds.max_commands (length other) room) rest

  weights-accepted : (history : List HostCommand) → IsHostAccepted machine bounds history
      → IsAccepted machine bounds (weights_of history)
  weights-accepted [] accepted = tt
  weights-accepted (NewGroup name parent ∷ history) accepted =
      weights-accepted history accepted.1
  weights-accepted (SetGroupMems name mems ∷ history) accepted =
      weights-accepted history accepted.1
  weights-accepted (NewProcess process group ∷ history) accepted =
      weights-accepted history accepted.1
  weights-accepted (Exit process ∷ history) accepted = weights-accepted history accepted.1
  weights-accepted (Attach process group ∷ history) accepted =
      weights-accepted history accepted.1
  weights-accepted (Fork parent child from task ∷ history) accepted =
      weights-accepted history accepted.1
  weights-accepted (In process command ∷ history) accepted = weights-accepted history accepted.1
  weights-accepted (SetWeight node weight ∷ history) accepted = (
    own-none (refusal_of machine bounds (weights_of history) (own.SetWeight node weight))
        (host-cause history (SetWeight node weight) accepted.0),
    weights-accepted history accepted.1,
  )

  choice-accepted : (b : Bool) (xs ys : List Command) → (b ≡ true → IsAccepted machine bounds xs)
      → IsAccepted machine bounds ys → IsAccepted machine bounds (if b then xs else ys)
  choice-accepted true xs ys h k = h refl
  choice-accepted false xs ys h k = k

  pub commands-accepted : (history : List HostCommand) (process : ℕ)
      → IsHostAccepted machine bounds history
      → IsAccepted machine bounds (commands_of machine history process)
  commands-accepted [] process accepted = tt
  commands-accepted (NewGroup name parent ∷ history) process accepted =
      moved-accepted (nodes_of machine history process)
      (nodes_of machine (NewGroup name parent ∷ history) process)
      (commands_of machine history process) (nodes-some (NewGroup name parent ∷ history) process)
      (omega (
        arith,
        host-room history (NewGroup name parent) accepted.0,
        commands-few machine history process,
      )) (commands-accepted history process accepted.1)
  commands-accepted (SetGroupMems name mems ∷ history) process accepted =
      moved-accepted (nodes_of machine history process)
      (nodes_of machine (SetGroupMems name mems ∷ history) process)
      (commands_of machine history process)
      (nodes-some (SetGroupMems name mems ∷ history) process)
      (omega (
        arith,
        host-room history (SetGroupMems name mems) accepted.0,
        commands-few machine history process,
      )) (commands-accepted history process accepted.1)
  commands-accepted (Attach one group ∷ history) process accepted =
      moved-accepted (nodes_of machine history process)
      (nodes_of machine (Attach one group ∷ history) process)
      (commands_of machine history process) (nodes-some (Attach one group ∷ history) process)
      (omega (
        arith,
        host-room history (Attach one group) accepted.0,
        commands-few machine history process,
      )) (commands-accepted history process accepted.1)
  commands-accepted (NewProcess one group ∷ history) process accepted =
      choice-accepted (eqb one process)
      (when_moved machine.memory (effective_mems machine.memory (groups_of history) group)
      (weights_of history)) (commands_of machine history process)
      (λ same. moved-accepted machine.memory
      (effective_mems machine.memory (groups_of history) group) (weights_of history)
      (group-some history group)
      (omega (arith, host-room history (NewProcess one group) accepted.0, weights-few history))
      (weights-accepted history accepted.1))
      (commands-accepted history process accepted.1)
  commands-accepted (Exit one ∷ history) process accepted =
      choice-accepted (eqb one process) (weights_of history)
      (commands_of machine history process) (λ same. weights-accepted history accepted.1)
      (commands-accepted history process accepted.1)
  commands-accepted (Fork parent child from task ∷ history) process accepted =
      let judged = first-none (when (is_there (members_of history) child) cause.ProcessExists) _
      (host-cause history (Fork parent child from task) accepted.0) in
      let here = first-none _ _ judged.1 in
      let few = first-none (when (leb 4096 (length (members_of history))) cause.TooManyProcesses)
      (cause_in machine bounds history parent (own.Inherit task from)) here.1 in
      choice-accepted (eqb child process)
      (own.Inherit task from ∷ commands_of machine history parent)
      (commands_of machine history process)
      (λ same. (
        own-none (refusal_of machine bounds (commands_of machine history parent)
            (own.Inherit task from)) few.1,
        commands-accepted history parent accepted.1,
      ))
      (commands-accepted history process accepted.1)
  commands-accepted (In one command ∷ history) process accepted =
      let judged = first-none _ _ (host-cause history (In one command) accepted.0) in
      let its = first-none (when (is_the_host_s command) cause.GroupMems)
      (cause_in machine bounds history one command) judged.1 in
      choice-accepted (eqb one process) (command ∷ commands_of machine history process)
      (commands_of machine history process)
      (λ same. (
        ap (λ n. refusal_of machine bounds (commands_of machine history n) command)
            (sym (eqb-true one process same))
            ∙ own-none (refusal_of machine bounds (commands_of machine history one) command) its.1,
        commands-accepted history process accepted.1,
      ))
      (commands-accepted history process accepted.1)
  commands-accepted (SetWeight node weight ∷ history) process accepted = (
    weight-moved (weights_of history) (commands_of machine history process) node weight
        (omega (
          arith,
          host-room history (SetWeight node weight) accepted.0,
          commands-few machine history process,
        ))
        (own-none (refusal_of machine bounds (weights_of history) (own.SetWeight node weight))
        (host-cause history (SetWeight node weight) accepted.0)),
    commands-accepted history process accepted.1,
  )
