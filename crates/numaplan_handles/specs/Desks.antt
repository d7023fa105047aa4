-- What a handle of a desk keeps, and what a call does to it.
use Rattle.std.specs.Prelude.{◌≡◌, ◌+◌, ℕ, [], ◌∷◌, length, Option, Some, None, Result, IfOk, IfErr}
use Rattle.std.specs.Prelude.{OnOk, OnErr}
use Rattle.numa_machine.specs.declared.no_memory.NoMemory.{NoMemory}
use Rattle.numa_machine.specs.declared.rules.Rules.{Rules}
use Rattle.numa_space.specs.Refusals.{refusal_of}
use Rattle.numa_requests.specs.declared.command.Command.{Command}
use Rattle.numa_requests.specs.declared.refusal.Refusal.{Refusal}
use Rattle.numa_publish.specs.Shown.{DeskState, Refuses, ViewState, accepted_commands}
use Rattle.numa_publish.specs.Shown.{versions_after}

-- the desk accepted the command, behind all that it had accepted, and answers how many these are;
-- or it refused it, for want of memory or for the first cause, and nothing changed
pub record IsOrdered (command : Command) (before : DeskState) (answer : Result ℕ Refusal)
    (after : DeskState) : Type 0 where
  pub allowed : OnOk answer
      (refusal_of before.desk.machine before.bounds (accepted_commands before) command ≡ None)
  pub version : IfOk answer (λ version. version ≡ length (accepted_commands before) + 1)
  pub added : OnOk answer (after ≡ record before { pending = command ∷ before.pending })
  pub err : IfErr answer (Refuses before command)
  pub unchanged : OnErr answer (after ≡ before)

-- the same of what is kept: a desk before and a desk after
abbrev pub Orders : Command → Option DeskState → Option DeskState → Result ℕ Refusal → Type 0
Orders command old new answer = (before : DeskState) → old ≡ Some before →
    (after : DeskState) × (new ≡ Some after) × IsOrdered command before answer after

-- a desk that has published all that it had accepted
abbrev pub all_published : DeskState → DeskState
all_published desk = record {
  desk = desk.desk;
  bounds = desk.bounds;
  published = accepted_commands desk;
  versions = versions_after desk;
  pending = [];
}

-- the desk published all that it had accepted, and answers how many commands these are; or it is
-- out of memory, and nothing changed
pub record IsPublished (before : DeskState) (answer : Result ℕ NoMemory) (after : DeskState)
    : Type 0 where
  pub done : OnOk answer (after ≡ all_published before)
  pub version : IfOk answer (λ version. version ≡ length (accepted_commands before))
  pub unchanged : OnErr answer (after ≡ before)

-- the same of what is kept
abbrev pub Shows : Option DeskState → Option DeskState → Result ℕ NoMemory → Type 0
Shows old new answer = (before : DeskState) → old ≡ Some before →
    (after : DeskState) × (new ≡ Some after) × IsPublished before answer after

-- this many commands are accepted, and this many of them are published
abbrev pub HasDeskVersions : Option DeskState → ℕ → ℕ → Type 0
HasDeskVersions kept accepted published = (desk : DeskState) → kept ≡ Some desk →
    (accepted ≡ length (accepted_commands desk)) × (published ≡ length desk.published)

-- its machine goes by these rules
abbrev pub HasDeskRules : Option DeskState → Rules → Type 0
HasDeskRules kept rules = (desk : DeskState) → kept ≡ Some desk → rules ≡ desk.desk.machine.rules

-- a reader of the kept desk, which looks at what is published
abbrev pub IsReaderOf : Option DeskState → ViewState → Type 0
IsReaderOf kept view = (desk : DeskState) → kept ≡ Some desk → (view.desk ≡ desk.desk)
    × (view.history ≡ desk.published) × (view.versions ≡ desk.versions)
