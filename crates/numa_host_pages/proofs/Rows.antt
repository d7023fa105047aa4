-- Small hosts: in which order their processes are told.
use Rattle.std.proofs.Common.{◌≡◌, ℕ, Bool, List, [], ◌∷◌, Option, Some, None, false, true, refl}
use Rattle.numa_host.specs.Groups.{groups_of}
use Rattle.numa_requests.specs.declared.host_command.HostCommand.{HostCommand}
use Rattle.numa_requests.specs.declared.host_command.HostCommand.TheVariants.{NewGroup}
use Rattle.numa_requests.specs.declared.host_command.HostCommand.TheVariants.{NewProcess, Exit}
use Rattle.numa_requests.specs.declared.host_command.HostCommand.TheVariants.{Attach, Fork}
use Rattle.numa_page_state.specs.Outcomes.{Enough}
use Rattle.numa_host_pages.specs.Homes.{Home, HostLying, empty_host, group_followed, pages_in}
use Rattle.numa_host_pages.specs.Homes.{taken_along, with_attached, with_born, with_ended}
use Rattle.numa_host_pages.specs.Homes.{with_pages}
use Rattle.numa_host_pages.specs.TopDown.{arrivals_of, top_down}

-- two groups below the root, two below the first, one of which has a group below it in turn
made : List HostCommand
made = NewGroup 5 1 ∷ NewGroup 4 3 ∷ NewGroup 3 1 ∷ NewGroup 2 0 ∷ NewGroup 1 0 ∷ []

-- the first group, all that are below it, and then the second
depth-first : top_down (groups_of made) ≡ 1 ∷ 3 ∷ 4 ∷ 5 ∷ 2 ∷ []
unfolding made
depth-first = refl

-- a group that is made later below the second comes behind it
later : top_down (groups_of (NewGroup 9 2 ∷ made)) ≡ 1 ∷ 3 ∷ 4 ∷ 5 ∷ 2 ∷ 9 ∷ []
unfolding made
later = refl

-- the first process moves to another group, a third is born, and the second has a child
run : List HostCommand
run = Fork 2 4 1 1 ∷ NewProcess 3 1 ∷ Attach 1 2 ∷ NewProcess 2 1 ∷ NewProcess 1 1 ∷ made

came : arrivals_of run ≡ (2, 1) ∷ (1, 2) ∷ (3, 1) ∷ (4, 1) ∷ []
unfolding made run
came = refl

-- one that comes back to its group is the last there
came-back : arrivals_of (Exit 3 ∷ Attach 2 1 ∷ run) ≡ (1, 2) ∷ (4, 1) ∷ (2, 1) ∷ []
unfolding made run
came-back = refl

-- a host with these processes, none with pages
here : HostLying
here = with_born 3 1 6 (with_born 1 2 9 (with_born 2 1 6 (empty_host 15)))

abbrev bare : ℕ → ℕ → ℕ → Bool → Home
bare process group nodes along = record {
  id = process;
  group = group;
  allowed = nodes;
  lying = None;
  along = along;
}

-- the first group's processes are allowed others, and nobody else: these go along
told : (group_followed (λ k. Enough) 1 3 here).homes
    ≡ bare 2 1 3 true ∷ bare 1 2 9 false ∷ bare 3 1 3 true ∷ []
unfolding here
told = refl

-- the host's last move is of the one that moves, and then of the one that asks for it
moved : (with_attached Enough 2 2 6 9 (group_followed (λ k. Enough) 1 3 here)).homes
    ≡ bare 1 2 9 false ∷ bare 3 1 3 false ∷ bare 2 2 9 true ∷ []
unfolding here
moved = refl

asked : (taken_along 1 (with_attached Enough 2 2 6 9 here)).homes
    ≡ bare 1 2 9 true ∷ bare 3 1 6 false ∷ bare 2 2 9 false ∷ []
unfolding here
asked = refl

-- one that is born, and one that ends
born : (with_ended 3 (with_born 4 1 3 (group_followed (λ k. Enough) 1 3 here))).homes
    ≡ bare 2 1 3 true ∷ bare 1 2 9 false ∷ bare 4 1 3 false ∷ []
unfolding here
born = refl
