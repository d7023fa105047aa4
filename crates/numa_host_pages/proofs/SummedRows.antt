-- The example of two services that lose a node, examples/services-lose-a-node.script: what the last
-- move of the host did, from what it did to each process.
use Rattle.std.proofs.Common.{◌≡◌, ℕ, Bool, true, false, List, [], ◌∷◌, Some, None, refl}
use Rattle.std.specs.Prelude.{◌==◌, if◌then◌else◌}
use Rattle.numa_page_state.specs.Lying.{LastMove, OfNodes, OfPages, nothing, still}
use Rattle.numa_host_pages.specs.Homes.{Home, empty_host, with_ended}
use Rattle.numa_host_pages.specs.Summed.{both_pages, most, sum_of}

-- so many pages went from node 1 to node 2, and so many stayed
abbrev told : ℕ → ℕ → LastMove
told pages left = OfNodes (record {
  moved = pages;
  left = left;
  from = λ node. if node == 1 then pages else 0;
  to = λ node. if node == 1 then 2 else node;
})

abbrev with_last : ℕ → ℕ → Bool → LastMove → Home
with_last process group along last = record {
  id = process;
  group = group;
  allowed = 5;
  lying = Some (record nothing { last = last });
  along = along;
}

-- `cgroup-mems 9 0,2`: process 10 lost two pages to node 2, 11 one, and 20 found no room for two
abbrev went : List Home
went = with_last 10 1 true (told 2 0) ∷ with_last 20 2 true (told 0 2)
    ∷ with_last 11 1 true (told 1 0) ∷ []

-- `moved => v11: moved 3 left 2 N1->N2=3`
moved : (sum_of went).moved ≡ 3
moved = refl

left : (sum_of went).left ≡ 2
left = refl

from-1-to-2 : (sum_of went).flow 1 2 ≡ 3
from-1-to-2 = refl

from-2-to-1 : (sum_of went).flow 2 1 ≡ 0
from-2-to-1 = refl

from-1-to-1 : (sum_of went).flow 1 1 ≡ 0
from-1-to-1 = refl

-- `exit 11`: what it did to 11 is told no more: `moved => v12: moved 2 left 2 N1->N2=2`
left-alone : (sum_of (with_ended 11 (record (empty_host 15) { homes = went })).homes).moved ≡ 2
left-alone = refl

-- `attach 20 0`: 20 alone goes along, and nothing of it had to go: `moved => v13: moved 0 left 0`
abbrev attached : List Home
attached = with_last 10 1 false (told 2 0) ∷ with_last 20 0 true (OfNodes still) ∷ []

nothing-moved : (sum_of attached).moved ≡ 0
nothing-moved = refl

nothing-left : (sum_of attached).left ≡ 0
nothing-left = refl

-- one without pages adds none
bare : (sum_of (record (with_last 30 1 true (told 2 0)) { lying = None } ∷ went)).moved ≡ 3
bare = refl

-- a policy's move goes from nodes to several
abbrev sent : LastMove
sent = OfPages (record {
  moved = 3;
  left = 1;
  flow = λ from to. if from == 1 then (if to == 2 then 1 else if to == 3 then 2 else 0) else 0;
})

to-2 : (sum_of (with_last 10 1 true sent ∷ with_last 20 2 false (told 4 0) ∷ [])).flow 1 2 ≡ 1
to-2 = refl

to-3 : (sum_of (with_last 10 1 true sent ∷ with_last 20 2 false (told 4 0) ∷ [])).flow 1 3 ≡ 2
to-3 = refl

-- no more are told than 2^64 - 1
most-told : both_pages most 1 ≡ most
most-told = refl
