-- What an accepted command changes, told by the space as it was before.
use Rattle.std.specs.Prelude.{◌≡◌, ℕ, ◌+◌, ◌==◌, if◌then◌else◌}
use Rattle.numa_space.specs.declared.change.Change.{Change}
use Rattle.numa_space.specs.declared.change.Change.TheVariants.{Nothing, Mapped, Unmapped, Bound}
use Rattle.numa_space.specs.declared.change.Change.TheVariants.{Homed, TaskSet, Weighed, Allowed}
use Rattle.numa_space.specs.declared.change.ChangedPages.{ChangedPages}
use Rattle.numa_requests.specs.declared.command.Command.{Command}
use Rattle.numa_requests.specs.declared.command.Command.TheVariants.{Map, Unmap, Mbind, SetTask}
use Rattle.numa_requests.specs.declared.command.Command.TheVariants.{Inherit}
use Rattle.numa_requests.specs.declared.command.Command.TheVariants.{SetHome, SetWeight, SetMems}
use Rattle.numa_machine.specs.Sizes.{whole}
use Rattle.numa_space.specs.History.{page_of, page_count}
use Rattle.numa_space.specs.Policies.{mems_of, weight_given}
use Rattle.numa_space.specs.Standing.{SpaceState, record_of}
use Rattle.numa_space.specs.Steps.{record_now}

-- the pages of a span in bytes, with a guess at the place of their ranges
abbrev pub pages_at : ℕ → ℕ → ℕ → ChangedPages
pages_at place start bytes = record {
  first = page_of start;
  end = page_of start + page_count bytes;
  place = place;
}

-- the change, with this guess: a span without bytes has no page, and changes nothing
abbrev pub change_at : ℕ → SpaceState → Command → Change
change_at place old (Map start bytes offset size) =
    Mapped (pages_at place start (whole size bytes))
change_at place old (Unmap start bytes) =
    if bytes == 0 then Nothing else Unmapped (pages_at place start bytes)
change_at place old (Mbind start bytes spec) =
    if bytes == 0 then Nothing
    else Bound (pages_at place start bytes) (record_now old.allowed spec)
change_at place old (SetHome start bytes node) =
    if bytes == 0 then Nothing else Homed (pages_at place start bytes) node
change_at place old (SetTask task spec) = TaskSet task (record_now old.allowed spec)
change_at place old (Inherit heir from) = TaskSet heir (record_of old.tasks from)
change_at place old (SetWeight node weight) = Weighed node (weight_given weight)
change_at place old (SetMems mask) = Allowed (mems_of old.machine mask)

-- the change of an accepted command: all of it but the guess
abbrev pub IsChange : SpaceState → Command → Change → Type 0
IsChange old command change = (place : ℕ) × (change ≡ change_at place old command)
