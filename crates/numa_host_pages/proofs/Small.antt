-- Hosts whose processes have no pages of 2 MiB, and what is the same whether they have some.
use Rattle.std.proofs.Common.{◌≡◌, ℕ, Bool, List, [], ◌∷◌, suc, eqb, ap, sym, refl, inl, inr, ◌∙◌}
use Rattle.std.proofs.lemmas.Bool.{cases_Bool}
use Rattle.numa_machine.specs.Machine.{Hardware}
use Rattle.numa_host.specs.Groups.{effective_mems, groups_of}
use Rattle.numa_host.specs.Processes.{nodes_of}
use Rattle.numa_requests.specs.declared.host_command.HostCommand.{HostCommand}
use Rattle.numa_requests.specs.declared.host_command.HostCommand.TheVariants as command
use Rattle.numa_pools.specs.Pools.{PoolCounts}
use Rattle.numa_page_state.specs.Outcomes.{Lack}
use Rattle.numa_host_huge.specs.Sharing.{HugeHome, Sharing}
use Rattle.numa_host_pages.specs.Homes.{Home, HostLying, all_still, followed_each}
use Rattle.numa_host_pages.specs.Homes.{group_followed, huge_moved, huge_of_group}
use Rattle.numa_host_pages.specs.Obeying.{pages_after}
use Rattle.numa_host_pages.specs.Summed.{sum_in, sum_of, sum_with}
use Rattle.numa_host_pages.specs.TopDown.{top_down}

-- pools that no process has a page of
abbrev unshared : PoolCounts → Sharing
unshared pools = record { pools = pools; homes = [] }

is-unshared : (huge : Sharing) → huge.homes ≡ [] → huge ≡ unshared huge.pools
is-unshared huge none =
    ap (λ (hs : List HugeHome). record { pools = huge.pools; homes = hs }) none

-- the host has these
abbrev with_sharing : Sharing → HostLying → HostLying
with_sharing huge at = record at { huge = huge }

-- ---- nothing of them changes

moved-none : (pools : PoolCounts) (follows : Bool) (process old new : ℕ)
    → huge_moved follows process old new (unshared pools) ≡ unshared pools
moved-none pools follows process old new =
    elim (cases_Bool (eqb old new)) [ inl e ↦ rw e refl | inr e ↦ rw e refl ]

group-none : (pools : PoolCounts) (follows : Bool) (group nodes : ℕ) (homes : List Home)
    → huge_of_group follows group nodes homes (unshared pools) ≡ unshared pools
group-none pools follows group nodes [] = refl
group-none pools follows group nodes (home ∷ homes) =
    elim (cases_Bool (eqb home.group group)) [
      | inl e ↦
          rw (e, moved-none pools follows home.id home.allowed nodes)
          (group-none pools follows group nodes homes)
      | inr e ↦ rw e (group-none pools follows group nodes homes)
    ]

each-none : (pools : PoolCounts) (lacks : ℕ → ℕ → Lack) (nodes : ℕ → ℕ) (groups : List ℕ)
    (at : HostLying) → at.huge ≡ unshared pools
    → (followed_each lacks nodes groups at).huge ≡ unshared pools
each-none pools lacks nodes [] at none = none
each-none pools lacks nodes (group ∷ groups) at none =
    each-none pools (λ k. lacks (suc k)) nodes groups
    (group_followed (lacks 0) group (nodes group) at)
    (ap (λ (h : Sharing). huge_of_group at.follows group (nodes group) at.homes h) none
    ∙ group-none pools at.follows group (nodes group) at.homes)

still-none : (pools : PoolCounts) (lacks : ℕ → ℕ → Lack) (machine : Hardware)
    (history : List HostCommand) (said : HostCommand) (at : HostLying)
    → (pages_after lacks machine history said (with_sharing (unshared pools) at)).huge
    ≡ unshared pools
still-none pools lacks machine history (command.NewProcess process group) at = refl
still-none pools lacks machine history (command.Fork parent child from task) at = refl
still-none pools lacks machine history (command.Exit process) at = refl
still-none pools lacks machine history (command.Attach process group) at =
    moved-none pools at.follows process (nodes_of machine history process)
    (effective_mems machine.memory (groups_of history) group)
still-none pools lacks machine history (command.SetGroupMems name mems) at =
    each-none pools lacks
    (effective_mems machine.memory (groups_of (command.SetGroupMems name mems ∷ history)))
    (top_down (groups_of (command.SetGroupMems name mems ∷ history)))
    (all_still (with_sharing (unshared pools) at)) refl
still-none pools lacks machine history (command.NewGroup name parent) at = refl
still-none pools lacks machine history (command.In process request) at = refl
still-none pools lacks machine history (command.SetWeight node weight) at = refl

pub stay-none : (lacks : ℕ → ℕ → Lack) (machine : Hardware) (history : List HostCommand)
    (said : HostCommand) (at : HostLying) → at.huge.homes ≡ []
    → (pages_after lacks machine history said at).huge ≡ at.huge
stay-none lacks machine history said at none =
    let is = is-unshared at.huge none in
    ap (λ (h : Sharing). (pages_after lacks machine history said (with_sharing h at)).huge) is
    ∙ still-none at.huge.pools lacks machine history said at ∙ sym is

-- ---- other pages lie as they do in any host

each-apart : (lacks : ℕ → ℕ → Lack) (nodes : ℕ → ℕ) (groups : List ℕ) (at : HostLying)
    (huge other : Sharing)
    → with_sharing other (followed_each lacks nodes groups (with_sharing huge at))
    ≡ with_sharing other (followed_each lacks nodes groups at)
each-apart lacks nodes [] at huge other = refl
each-apart lacks nodes (group ∷ groups) at huge other =
    each-apart (λ k. lacks (suc k)) nodes groups
    (group_followed (lacks 0) group (nodes group) at)
    (huge_of_group at.follows group (nodes group) at.homes huge) other

pub lie-apart : (lacks : ℕ → ℕ → Lack) (machine : Hardware) (history : List HostCommand)
    (said : HostCommand) (at : HostLying) (huge : Sharing)
    → record (pages_after lacks machine history said (record at { huge = huge })) {
      huge = at.huge;
    } ≡ record (pages_after lacks machine history said at) { huge = at.huge }
lie-apart lacks machine history (command.NewProcess process group) at huge = refl
lie-apart lacks machine history (command.Fork parent child from task) at huge = refl
lie-apart lacks machine history (command.Exit process) at huge = refl
lie-apart lacks machine history (command.Attach process group) at huge = refl
lie-apart lacks machine history (command.SetGroupMems name mems) at huge =
    each-apart lacks
    (effective_mems machine.memory (groups_of (command.SetGroupMems name mems ∷ history)))
    (top_down (groups_of (command.SetGroupMems name mems ∷ history))) (all_still at) huge at.huge
lie-apart lacks machine history (command.NewGroup name parent) at huge = refl
lie-apart lacks machine history (command.In process request) at huge = refl
lie-apart lacks machine history (command.SetWeight node weight) at huge = refl

-- ---- the last move

pub sum-small : (at : HostLying) → at.huge.homes ≡ [] → sum_in at ≡ sum_of at.homes
sum-small at none = ap (λ (hs : List HugeHome). sum_with hs at) none
