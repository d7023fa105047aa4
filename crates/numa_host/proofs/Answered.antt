-- What a space refuses, as an answer of the host.
use Rattle.std.proofs.Common.{◌≡◌, List, Option, Some, None, MatchOption, refl, ap, ◌∙◌}
use Rattle.std.specs.Option.{option_map}
use Rattle.numa_machine.specs.Machine.{Hardware}
use Rattle.numa_space.specs.Limited.{Bounds}
use Rattle.numa_space.specs.Refusals.{refusal_of, scene_of}
use Rattle.numa_requests.specs.declared.command.Command.{Command}
use Rattle.numa_requests.specs.declared.refusal.Refusal.{Refusal}
use Rattle.numa_requests.specs.declared.refusal.Refusal.TheVariants as own
use Rattle.numa_space.proofs.Refused.{refusal-not_memory}
use Rattle.numa_requests.specs.declared.host_refusal.HostRefusal.TheVariants.{OfSpace, NoMemory}
use Rattle.numa_requests.specs.HostErrors.{of_space}

of_space-other : (refusal : Refusal) → (refusal ≡ own.NoMemory → ⊥)
    → of_space refusal ≡ OfSpace refusal
of_space-other own.CommandsSpent other = refl
of_space-other own.Unaligned other = refl
of_space-other own.OutOfSpace other = refl
of_space-other own.BadSpan other = refl
of_space-other own.EmptyLength other = refl
of_space-other own.BadOffset other = refl
of_space-other own.Overlap other = refl
of_space-other own.Hole other = refl
of_space-other own.NoSuchNode other = refl
of_space-other own.BadWeight other = refl
of_space-other own.NodesNotAllowed other = refl
of_space-other own.NoNodes other = refl
of_space-other own.NotSupported other = refl
of_space-other own.NoPolicy other = refl
of_space-other own.TooManyTasks other = refl
of_space-other own.TooManyRanges other = refl
of_space-other own.NoMemory other = absurd (other refl)

-- only want of memory is the host's want of memory
pub of_space-memory : (refusal : Refusal) → of_space refusal ≡ NoMemory → refusal ≡ own.NoMemory
of_space-memory own.NoMemory is = refl
of_space-memory refusal is = cc

pub refusal-no_memory : (machine : Hardware) (bounds : Bounds) (history : List Command)
    (command : Command) → refusal_of machine bounds history command ≡ Some own.NoMemory → ⊥
refusal-no_memory machine bounds history command =
    refusal-not_memory (scene_of machine bounds history command) command

-- the first cause of a space, or want of memory, is that of the host
pub answer-caused : (o : Option Refusal) (refusal : Refusal) → (o ≡ Some own.NoMemory → ⊥)
    → MatchOption o (refusal ≡ own.NoMemory) (λ first. refusal ≡ first)
    → MatchOption (option_map OfSpace o) (of_space refusal ≡ NoMemory)
    (λ first. of_space refusal ≡ first)
answer-caused None refusal free is = ap (λ r. of_space r) is
answer-caused (Some first) refusal free is = ap (λ r. of_space r) is
    ∙ of_space-other first (λ same. free (ap (λ r. Some r) same))
