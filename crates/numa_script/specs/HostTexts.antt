-- The names of a host's refusals, and of their error numbers.
use Rattle.std.specs.Prelude.{ℕ, List, ◌++◌, codes}
use Rattle.numa_requests.specs.HostErrors.{host_errno_of}
use Rattle.numa_requests.specs.declared.host_refusal.HostErrno.{HostErrno}
use Rattle.numa_requests.specs.declared.host_refusal.HostErrno.TheVariants as number
use Rattle.numa_requests.specs.declared.host_refusal.HostRefusal.{HostRefusal}
use Rattle.numa_requests.specs.declared.host_refusal.HostRefusal.TheVariants as cause
use Rattle.numa_script.specs.Names.{errno_name, refusal_name}

abbrev pub host_refusal_name : HostRefusal → List ℕ
host_refusal_name cause.CommandsSpent = codes "CommandsSpent"
host_refusal_name cause.GroupExists = codes "GroupExists"
host_refusal_name cause.NoSuchGroup = codes "NoSuchGroup"
host_refusal_name cause.TooManyGroups = codes "TooManyGroups"
host_refusal_name cause.RootGroup = codes "RootGroup"
host_refusal_name cause.NoSuchNode = codes "NoSuchNode"
host_refusal_name cause.Populated = codes "Populated"
host_refusal_name cause.ProcessExists = codes "ProcessExists"
host_refusal_name cause.NoSuchProcess = codes "NoSuchProcess"
host_refusal_name cause.TooManyProcesses = codes "TooManyProcesses"
host_refusal_name cause.GroupMems = codes "GroupMems"
host_refusal_name (cause.OfSpace refusal) = refusal_name refusal
host_refusal_name cause.NoMemory = codes "NoMemory"

-- errno(3)
abbrev pub host_errno_name : HostErrno → List ℕ
host_errno_name (number.OfSpace errno) = errno_name errno
host_errno_name number.ESrch = codes "ESRCH"
host_errno_name number.EAcces = codes "EACCES"
host_errno_name number.EPerm = codes "EPERM"
host_errno_name number.EAgain = codes "EAGAIN"

-- a refusal with its error number
abbrev pub host_cause : HostRefusal → List ℕ
host_cause refusal =
    host_refusal_name refusal ++ codes " " ++ host_errno_name (host_errno_of refusal)
