-- How a space is kept.
use Rattle.std.specs.Prelude.{◌≡◌, ◌<◌, ◌%◌, ◌^◌, ℕ, false, All, IfSome}
use Rattle.numa_mask.specs.NodeSet.{members}
use Rattle.numa_machine.specs.Sizes.{is_inside, is_part}
use Rattle.numa_ranges.specs.Runs.{page_at}
use Rattle.numa_space.specs.Refusals.{PageMap}
use Rattle.numa_space.specs.Standing.{SpaceState, IsSound, HasHistory}
use Rattle.numa_space.specs.declared.space.Space.TheInside.{Inside}

abbrev pub shown_of : Inside → SpaceState
shown_of a = record {
  machine = a.machine;
  bounds = a.limits;
  version = a.version;
  allowed = a.allowed;
  ranges = a.pages.runs;
  tasks = a.tasks;
  weights = a.weights;
}

-- no page is a part of one of 2 MiB
abbrev pub AreSmall : PageMap → Type 0
AreSmall pages = (page : ℕ) → IfSome (pages page) (λ at. is_part at.0 ≡ false)

-- pages of 2 MiB begin at multiples of 2 MiB: no border there lies inside one
abbrev pub AreAligned : PageMap → Type 0
AreAligned pages = (page : ℕ) → page % 512 ≡ 0
    → IfSome (pages page) (λ at. is_inside at.0 ≡ false)

pub record IsKept (a : Inside) : Type 0 where
  pub sound : IsSound (shown_of a)
  pub history : HasHistory (shown_of a)
  pub limit : a.pages.limit ≡ a.limits.max_ranges
  pub nodes : a.weights.nodes ≡ a.machine.nodes
  pub memory : a.machine.memory < 2 ^ 256
  pub sizes : a.has_huge ≡ false → AreSmall (page_at a.pages.runs)
  pub aligned : AreAligned (page_at a.pages.runs)
  pub of_the_machine : All (λ node. node < a.machine.nodes) (members a.machine.memory)
