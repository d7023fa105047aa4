-- The error number of each refusal (errno(3)).
use Rattle.numa_requests.specs.declared.refusal.Refusal.{Refusal}
use Rattle.numa_requests.specs.declared.refusal.Refusal.TheVariants.{CommandsSpent, Unaligned}
use Rattle.numa_requests.specs.declared.refusal.Refusal.TheVariants.{OutOfSpace, BadSpan}
use Rattle.numa_requests.specs.declared.refusal.Refusal.TheVariants.{EmptyLength, NoNodes}
use Rattle.numa_requests.specs.declared.refusal.Refusal.TheVariants.{BadOffset, Overlap, Hole}
use Rattle.numa_requests.specs.declared.refusal.Refusal.TheVariants.{NoSuchNode, BadWeight}
use Rattle.numa_requests.specs.declared.refusal.Refusal.TheVariants.{NodesNotAllowed, NotSupported}
use Rattle.numa_requests.specs.declared.refusal.Refusal.TheVariants.{TooManyTasks, TooManyRanges}
use Rattle.numa_requests.specs.declared.refusal.Refusal.TheVariants.{NoMemory, NoPolicy}
use Rattle.numa_requests.specs.declared.refusal.Errno.{Errno}
use Rattle.numa_requests.specs.declared.refusal.Errno.TheVariants.{EInval, ENoMem, EExist, EFault}
use Rattle.numa_requests.specs.declared.refusal.Errno.TheVariants.{ENoSpc, EOpNotSupp, ENoEnt}

abbrev pub errno_of : Refusal → Errno
errno_of CommandsSpent = ENoSpc
errno_of Unaligned = EInval
errno_of OutOfSpace = ENoMem
errno_of BadSpan = EInval
errno_of EmptyLength = EInval
errno_of BadOffset = EInval
errno_of Overlap = EExist
errno_of Hole = EFault
errno_of NoSuchNode = EInval
errno_of BadWeight = EInval
errno_of NodesNotAllowed = EInval
errno_of NoNodes = ENoSpc
errno_of NotSupported = EOpNotSupp
errno_of NoPolicy = ENoEnt
errno_of TooManyTasks = ENoMem
errno_of TooManyRanges = ENoMem
errno_of NoMemory = ENoMem
