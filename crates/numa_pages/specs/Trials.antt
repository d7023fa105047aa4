-- Why a command that is tried on a copy of a core has no core after it. A copy takes memory,
-- whatever the command.
use Rattle.std.specs.Prelude.{Err}
use Rattle.numa_core.specs.Standing.{CoreState}
use Rattle.numa_requests.specs.declared.command.Command.{Command}
use Rattle.numa_pages.specs.Changes.{Answers}
use Rattle.numa_pages.specs.declared.trial.TrialError.{TrialError}
use Rattle.numa_pages.specs.declared.trial.TrialError.TheVariants.{Refused, NoMemory}

abbrev pub IsTrialError : CoreState → Command → TrialError → Type 0
IsTrialError core command (Refused refusal) = Answers core command (Err refusal) core
IsTrialError core command NoMemory = Unit {0}
