-- What stands against a child, told without making it.
use Rattle.std.proofs.Common.{◌≡◌, ℕ, List, Option, Some, None, Err, sym, ap}
use Rattle.std.specs.Prelude.{MatchOption}
use Rattle.numa_requests.specs.declared.host_command.HostCommand.{HostCommand}
use Rattle.numa_requests.specs.declared.host_command.HostCommand.TheVariants.{Fork}
use Rattle.numa_requests.specs.declared.host_refusal.HostRefusal.{HostRefusal}
use Rattle.numa_requests.specs.declared.host_refusal.HostRefusal.TheVariants.{NoMemory}
use Rattle.numa_host.specs.Causes.{host_refusal_of}
use Rattle.numa_host.specs.Standing.{HostState, HostStandsFor, IsHostApplied}

abbrev pub IsCause : HostState → ℕ → ℕ → ℕ → ℕ → Option HostRefusal → Type 0
IsCause host parent child from task cause = (history : List HostCommand)
    → HostStandsFor host history
    → cause ≡ host_refusal_of host.blank.machine host.blank.bounds history
    (Fork parent child from task)

first-cause : (o : Option HostRefusal) (why : HostRefusal) → (why ≡ NoMemory → ⊥)
    → MatchOption o (why ≡ NoMemory) (λ first. why ≡ first) → Some why ≡ o
first-cause None why other is = absurd (other is)
first-cause (Some first) why other is = ap Some is

-- what the command would be refused for
pub stated : (host : HostState) (parent child from task : ℕ) (why : HostRefusal)
    → (why ≡ NoMemory → ⊥) → IsHostApplied host (Fork parent child from task) (Err why) host
    → IsCause host parent child from task (Some why)
stated host parent child from task why other applied history stands =
    first-cause _ why other (applied.err history stands)
