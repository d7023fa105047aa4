-- What is held of processes before the first line that moves pages: these lie as scripts left them.
use Rattle.std.specs.Prelude.{◌≡◌, ℕ, suc, ◌==◌, List, [], ◌∷◌, Option, Some, None, MatchOption}
use Rattle.std.specs.Prelude.{◌++◌, find, if◌then◌else◌, map}
use Rattle.std.specs.Option.{option_map}
use Rattle.numa_host.specs.declared.process.Process.{Process}
use Rattle.numa_host_pages.specs.Homes.{HostLying, pages_in}
use Rattle.numa_host_pages.specs.Standing.{HostLies}
use Rattle.numa_host_pages.specs.TopDown.{told_in, top_down}
use Rattle.numa_page_state.specs.Lying.{Lying, nothing}
use Rattle.numa_page_state.specs.Outcomes.{rooms_of}
use Rattle.numa_page_state.specs.Standing.{LiesAs}
use Rattle.numa_placed.specs.declared.spot.Spot.{Spot}
use Rattle.numa_placed.specs.declared.spot.Spot.TheVariants.{Nowhere}
use Rattle.numa_reports.specs.Mapped.{span_of}
use Rattle.numa_sheets.specs.declared.asked.FreePages.{FreePages}
use Rattle.numa_space.specs.Standing.{SpaceState}
use Rattle.numa_moves.specs.Shares.{shares_over, stated_in}
use Rattle.numa_moves.specs.declared.holding.Holding.{Holding}
use Rattle.numa_moves.specs.declared.holding.Origin.{Origin}
use Rattle.numa_moves.specs.declared.holding.Origin.TheVariants.{Touched, Left}
use Rattle.numa_moves.specs.declared.scene.Member.{Member}
use Rattle.numa_moves.specs.declared.scene.Scene.{Scene}
use Rattle.numa_moves.specs.declared.scene.Scene.TheVariants.{Own, Each}
use Rattle.numa_moves.specs.declared.share.Share.{Share}

-- ---- the processes

-- a process, and its space
pub record Told : Type 0 where
  pub process : ℕ
  pub space : SpaceState

abbrev pub told_of_process : Process → Told
told_of_process p = record { process = p.id; space = p.space }

abbrev pub told_of : Member → Told
told_of member = record { process = member.process; space = member.space.now }

-- those of a scene, in the order in which they were made
abbrev pub processes_in : Scene → List Told
processes_in (Own space pages) = record { process = 0; space = space.now } ∷ []
processes_in (Each host pages) = map told_of_process host.now.processes

-- the nodes that a process is allowed, if it is there
abbrev pub allowed_in : Scene → ℕ → Option ℕ
allowed_in (Own space pages) process = Some space.now.allowed
allowed_in (Each host pages) process = option_map (λ (p : Process). p.space.allowed)
    (find (λ (p : Process). process == p.id) host.now.processes)

-- ---- where their pages lie

-- the pages of one process, or of all of a host
pub data Before : Type 0 where
  OfOne : Lying → Before
  OfHost : HostLying → Before

-- a script has left them so
abbrev pub IsLeft : Scene → Before → Type 0
IsLeft (Own space pages) (OfOne at) =
    MatchOption pages (at ≡ nothing) (λ state. LiesAs state.now at)
IsLeft (Each host pages) (OfHost at) = HostLies pages.now at
IsLeft _ _ = ⊥

abbrev pub spots_of : Option Lying → ℕ → Spot
spots_of None page = Nowhere
spots_of (Some lying) page = lying.spots page

abbrev pub spots_in : Before → ℕ → ℕ → Spot
spots_in (OfOne at) process = at.spots
spots_in (OfHost at) process = spots_of (pages_in process at.homes)

-- how many more pages each node takes, of whichever process
abbrev pub rooms_in : Before → ℕ → ℕ
rooms_in (OfOne at) = rooms_of at.room
rooms_in (OfHost at) = rooms_of at.room

-- in which order pages follow the nodes of their processes: one process is told alone
abbrev pub order_in : Scene → Before → List ℕ
order_in (Own space pages) before = []
order_in (Each host pages) (OfOne at) = []
order_in (Each host pages) (OfHost at) = told_in (0 ∷ top_down host.now.groups) at.homes

-- pages lie as scripts left them, and not as a task would touch them
abbrev pub IsAsLeft : Origin → Type 0
IsAsLeft (Touched touch) = ⊥
IsAsLeft Left = Unit {0}

-- ---- what is held

-- the pages of each range of a space
abbrev pub shares_at : SpaceState → (ℕ → Spot) → List Share
shares_at space spots =
    shares_over (stated_in spots) space.machine.nodes (map span_of space.ranges)

-- what is known of a process: how many were made before it, its nodes, and where its pages lie
pub record Held : Type 0 where
  pub process : ℕ
  pub made : ℕ
  pub allowed : ℕ
  pub shares : List Share

abbrev pub held_in : Holding → Held
held_in holding = record {
  process = holding.process;
  made = holding.made;
  allowed = holding.allowed;
  shares = holding.shares.items;
}

abbrev pub held_by : Before → ℕ → Told → Held
held_by before made told = record {
  process = told.process;
  made = made;
  allowed = told.space.allowed;
  shares = shares_at told.space (spots_in before told.process);
}

-- what these hold, before which so many were made
abbrev pub held_from : Before → ℕ → List Told → List Held
held_from before made [] = []
held_from before made (told ∷ more) =
    held_by before made told ∷ held_from before (suc made) more

-- named nodes take so many more pages
abbrev pub limited_by : List FreePages → (ℕ → ℕ) → ℕ → ℕ
limited_by [] room = room
limited_by (one ∷ free) room =
    limited_by free (λ node. if node == one.node then one.pages else room node)

-- ---- in which order they are held

abbrev pub first_of : ℕ → List Holding → List Holding
first_of process [] = []
first_of process (holding ∷ holdings) =
    if process == holding.process then holding ∷ [] else first_of process holdings

abbrev pub without_first : ℕ → List Holding → List Holding
without_first process [] = []
without_first process (holding ∷ holdings) = if process == holding.process then holdings
    else holding ∷ without_first process holdings

-- first those that are named, in this order
abbrev pub arranged : List ℕ → List Holding → List Holding
arranged [] holdings = holdings
arranged (process ∷ order) holdings =
    first_of process holdings ++ arranged order (without_first process holdings)
