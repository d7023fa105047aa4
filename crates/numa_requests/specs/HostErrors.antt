-- What a space answers, as an answer of the host, and the error number of each refusal
-- (errno(3)).
use Rattle.numa_requests.specs.Errors.{errno_of}
use Rattle.numa_requests.specs.declared.refusal.Errno.TheVariants.{EInval, ENoMem, EExist, ENoSpc}
use Rattle.numa_requests.specs.declared.refusal.Errno.TheVariants.{ENoEnt}
use Rattle.numa_requests.specs.declared.refusal.Refusal.{Refusal}
use Rattle.numa_requests.specs.declared.refusal.Refusal.TheVariants as own
use Rattle.numa_requests.specs.declared.host_refusal.HostErrno.{HostErrno}
use Rattle.numa_requests.specs.declared.host_refusal.HostErrno.TheVariants as number
use Rattle.numa_requests.specs.declared.host_refusal.HostRefusal.{HostRefusal}
use Rattle.numa_requests.specs.declared.host_refusal.HostRefusal.TheVariants as cause

-- want of memory is one cause for both
abbrev pub of_space : Refusal → HostRefusal
of_space own.NoMemory = cause.NoMemory
of_space refusal = cause.OfSpace refusal

abbrev pub host_errno_of : HostRefusal → HostErrno
host_errno_of cause.CommandsSpent = number.OfSpace ENoSpc
host_errno_of cause.GroupExists = number.OfSpace EExist
host_errno_of cause.NoSuchGroup = number.OfSpace ENoEnt
host_errno_of cause.TooManyGroups = number.OfSpace ENoSpc
host_errno_of cause.RootGroup = number.EAcces
host_errno_of cause.NoSuchNode = number.OfSpace EInval
host_errno_of cause.Populated = number.OfSpace ENoSpc
host_errno_of cause.ProcessExists = number.OfSpace EExist
host_errno_of cause.NoSuchProcess = number.ESrch
host_errno_of cause.TooManyProcesses = number.EAgain
host_errno_of cause.GroupMems = number.EPerm
host_errno_of (cause.OfSpace refusal) = number.OfSpace (errno_of refusal)
host_errno_of cause.NoMemory = number.OfSpace ENoMem
