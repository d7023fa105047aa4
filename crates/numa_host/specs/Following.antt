-- What becomes of each element of a list, and of each process.
use Rattle.std.specs.Prelude.{◌≡◌, ◌≢◌, ◌<◌, ◌&&◌, not, is_some, nat_le, ℕ, Bool, List, ◌∷◌}
use Rattle.std.specs.Prelude.{length, slice_index_or, Result}
use Rattle.numa_space.specs.Standing.{SpaceState, StandsFor, record_of}
use Rattle.numa_requests.specs.declared.command.Command.{Command}
use Rattle.numa_requests.specs.declared.command.Command.TheVariants.{Inherit}
use Rattle.numa_space.specs.Steps.{IsApplied}
use Rattle.numa_requests.specs.declared.refusal.Refusal.{Refusal}
use Rattle.numa_host.specs.declared.process.Process.{Process}
use Rattle.numa_host.specs.Processes.{when_moved}

-- the processes of one list and those at the same places of the other
pub record AreFollowed {X : Type 0} (became : X → X → Type 0) (olds news : List X) : Type 0 where
  pub count : length news ≡ length olds
  pub each : (k : ℕ) (d : X) → k < length olds
      → became (slice_index_or olds k d) (slice_index_or news k d)

-- a process that accepted one command more, or was allowed these nodes
pub record HasMore (change : List Command → List Command) (nodes : ℕ) (p q : Process)
    : Type 0 where
  pub id : q.id ≡ p.id
  pub group : q.group ≡ p.group
  pub machine : q.space.machine ≡ p.space.machine
  pub bounds : q.space.bounds ≡ p.space.bounds
  pub allowed : q.space.allowed ≡ nodes
  pub stands : (history : List Command) → StandsFor p.space history
      → StandsFor q.space (change history)

-- a process whose space answered a command
pub record HasAnswered (command : Command) (result : Result (Unit {0}) Refusal) (p q : Process)
    : Type 0 where
  pub id : q.id ≡ p.id
  pub group : q.group ≡ p.group
  pub applied : IsApplied p.space command result q.space

-- the process at a place was told a command, the others stay as they are
pub record IsTold (place : ℕ) (command : Command) (result : Result (Unit {0}) Refusal)
    (olds news : List Process) : Type 0 where
  pub count : length news ≡ length olds
  pub others : (k : ℕ) (d : Process) → k ≢ place
      → slice_index_or news k d ≡ slice_index_or olds k d
  pub told : (d : Process) → HasAnswered command result (slice_index_or olds place d)
      (slice_index_or news place d)

-- a space that is allowed these nodes: it stands for a change of them more, if they were others
pub record IsAllowed (nodes : ℕ) (old new : SpaceState) : Type 0 where
  pub machine : new.machine ≡ old.machine
  pub bounds : new.bounds ≡ old.bounds
  pub allowed : new.allowed ≡ nodes
  pub stands : (history : List Command) → StandsFor old history
      → StandsFor new (when_moved old.allowed nodes history)

-- a process that came to a group with these nodes
pub record HasMoved (name nodes : ℕ) (p q : Process) : Type 0 where
  pub id : q.id ≡ p.id
  pub group : q.group ≡ name
  pub space : IsAllowed nodes p.space q.space

-- the process at a place came to a group with these nodes, the others stay as they are
pub record IsMoved (place name nodes : ℕ) (olds news : List Process) : Type 0 where
  pub count : length news ≡ length olds
  pub others : (k : ℕ) (d : Process) → k ≢ place
      → slice_index_or news k d ≡ slice_index_or olds k d
  pub moved : (d : Process) → HasMoved name nodes (slice_index_or olds place d)
      (slice_index_or news place d)

-- a new process in a group with these nodes
pub record IsBorn (blank : SpaceState) (number name nodes : ℕ) (born : Process) : Type 0 where
  pub id : born.id ≡ number
  pub group : born.group ≡ name
  pub space : IsAllowed nodes blank born.space

-- ---- fork

-- a task can't have the policy of another where it has none yet, and as many have one as may
abbrev pub lacks_place : SpaceState → ℕ → ℕ → ℕ → Bool
lacks_place space from task most = is_some (record_of space.tasks from)
    && (not (is_some (record_of space.tasks task)) && nat_le most (length space.tasks))

-- a copy of a space, in which a task has the policy that `from` has
pub record IsHeirOf (parent : SpaceState) (from task : ℕ) (heir : SpaceState) : Type 0 where
  pub machine : heir.machine ≡ parent.machine
  pub bounds : heir.bounds ≡ parent.bounds
  pub allowed : heir.allowed ≡ parent.allowed
  pub stands : (history : List Command) → StandsFor parent history
      → StandsFor heir (Inherit task from ∷ history)

-- a copy of a process, in which a task has the policy that `from` has in the parent
pub record IsChildOf (parent : Process) (number from task : ℕ) (child : Process) : Type 0 where
  pub id : child.id ≡ number
  pub group : child.group ≡ parent.group
  pub space : IsHeirOf parent.space from task child.space
