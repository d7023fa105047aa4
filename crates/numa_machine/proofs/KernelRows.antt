-- Lists that a kernel makes, worked out.
use Rattle.std.proofs.Common.{◌≡◌, ℕ, ◌*◌, ◌/◌, ◌%◌, [], ◌∷◌, List, cond, eqb, map, replicate, refl}
use Rattle.std.specs.List.{range_with_len}
use Rattle.numa_mask.specs.NodeSet.{members, set_of}
use Rattle.numa_machine.specs.declared.fallback.Fallback.{Fallback}
use Rattle.numa_machine.specs.declared.fallback.Fallback.TheVariants.{Nearest, Kernel}
use Rattle.numa_machine.specs.declared.rules.Rules.TheVariants.{Document}
use Rattle.numa_machine.specs.Machine.{Hardware, fallback_order, loads_before}

-- a machine of so many nodes, these with memory, with a distance for each two
abbrev machine_of : ℕ → List ℕ → (ℕ → ℕ → ℕ) → Fallback → Hardware
machine_of nodes memory far fallback = record {
  nodes = nodes;
  memory = set_of memory;
  distances = map (λ k. far (k / nodes) (k % nodes)) (range_with_len 0 (nodes * nodes));
  frames = replicate nodes 8;
  rules = Document;
  fallback = fallback;
}

-- ---- three nodes, all as far from each other

abbrev flat : Fallback → Hardware
flat fallback = machine_of 3 (0 ∷ 1 ∷ 2 ∷ []) (λ from to. cond (eqb from to) 10 20) fallback

flat-nearest-of_1 : fallback_order (flat Nearest) 1 ≡ 1 ∷ 0 ∷ 2 ∷ []
unfolding members fallback_order
flat-nearest-of_1 = refl

flat-of_0 : fallback_order (flat (Kernel 7)) 0 ≡ 0 ∷ 1 ∷ 2 ∷ []
unfolding members fallback_order loads_before
flat-of_0 = refl

flat-of_1 : fallback_order (flat (Kernel 7)) 1 ≡ 1 ∷ 2 ∷ 0 ∷ []
unfolding members fallback_order loads_before
flat-of_1 = refl

flat-of_2 : fallback_order (flat (Kernel 7)) 2 ≡ 2 ∷ 0 ∷ 1 ∷ []
unfolding members fallback_order loads_before
flat-of_2 = refl

-- ---- three nodes, of which node 0 alone has CPUs

fewer_cpus-of_2 : fallback_order (flat (Kernel 1)) 2 ≡ 2 ∷ 1 ∷ 0 ∷ []
unfolding members fallback_order loads_before
fewer_cpus-of_2 = refl

-- ---- three nodes, of which node 1 has no memory

abbrev gap : Hardware
gap = machine_of 3 (0 ∷ 2 ∷ []) (λ from to. cond (eqb from to) 10 20) (Kernel 7)

gap-of_1 : fallback_order gap 1 ≡ 2 ∷ 0 ∷ []
unfolding members fallback_order loads_before
gap-of_1 = refl

-- ---- two sockets of four nodes

abbrev sockets : Hardware
sockets =
    machine_of 8 (range_with_len 0 8)
    (λ from to. cond (eqb from to) 10 (cond (eqb (from / 4) (to / 4)) 12 21)) (Kernel 255)

sockets-of_0 : fallback_order sockets 0 ≡ range_with_len 0 8
unfolding members fallback_order loads_before
sockets-of_0 = refl

sockets-of_1 : fallback_order sockets 1 ≡ 1 ∷ 2 ∷ 3 ∷ 0 ∷ 5 ∷ 6 ∷ 7 ∷ 4 ∷ []
unfolding members fallback_order loads_before
sockets-of_1 = refl

sockets-of_4 : fallback_order sockets 4 ≡ 4 ∷ 5 ∷ 6 ∷ 7 ∷ 0 ∷ 1 ∷ 2 ∷ 3 ∷ []
unfolding members fallback_order loads_before
sockets-of_4 = refl
