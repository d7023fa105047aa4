-- Sets of allowed nodes.
use Rattle.std.proofs.Common.{◌≡◌, ◌≢◌, ℕ, ◌^◌, ◌<◌, true, false, not, eqb, get_or, All, inl, inr}
use Rattle.std.proofs.Common.{sym, ap, subst, ◌∙◌, refl}
use Rattle.std.proofs.lemmas.Bool.{both_ways, eq-eqb, not-true, or_cases}
use Rattle.std.proofs.lemmas.List.Elements.{All-contains}
use Rattle.numa_mask.specs.NodeSet.{has, both, members}
use Rattle.numa_mask.proofs.Images.{below-has}
use Rattle.numa_mask.proofs.Sets.{contains-has, members-have}
use Rattle.numa_mode.specs.Policy.{PolicyRecord, Specification, is_live, is_local_mode}
use Rattle.numa_mode.specs.declared.modes.Mode.{Mode}
use Rattle.numa_space.specs.Standing.{SpaceState}
use Rattle.numa_space.proofs.NodeLists.{within-both, within-from_both, small-inside}
use Rattle.numa_compile.specs.Rules.{IsReady}

-- a set of allowed nodes is one of nodes below 256
pub allowed-small : (space : SpaceState) (set : ℕ) → IsReady space → both set space.allowed ≡ set
    → set < 2 ^ 256
allowed-small space set ready inside = small-inside set space.allowed inside
    (small-inside space.allowed space.machine.memory ready.sound.allowed_memory ready.memory)

-- nodes with memory are nodes of the machine
pub node-low_memory : (space : SpaceState) (set node : ℕ) → IsReady space
    → both set space.machine.memory ≡ set → has set node ≡ true → node < space.machine.nodes
node-low_memory space set node ready inside member =
    let in_memory : has space.machine.memory node ≡ true = within-from_both set space.machine.memory
    inside node member in
    All-contains (λ n. n < space.machine.nodes) (members space.machine.memory) node
    ready.of_the_machine (contains-has space.machine.memory node
    (below-has space.machine.memory node ready.memory in_memory) in_memory)

pub members-low_memory : (space : SpaceState) (set : ℕ) → IsReady space
    → both set space.machine.memory ≡ set → All (λ node. node < space.machine.nodes) (members set)
members-low_memory space set ready inside k d lt =
    node-low_memory space set (get_or (members set) k d) ready inside (members-have set k d lt)

-- a set of nodes with memory is one of nodes below 256
pub memory-small : (space : SpaceState) (set : ℕ) → IsReady space
    → both set space.machine.memory ≡ set → set < 2 ^ 256
memory-small space set ready inside = small-inside set space.machine.memory inside ready.memory

-- a live policy of another mode than local has a node
pub filled : (r : PolicyRecord) → is_live r ≡ true → is_local_mode r.spec.mode ≡ false
    → r.effective ≢ 0
filled r live local none =
    elim (or_cases (not (eqb r.effective 0)) (is_local_mode r.spec.mode) live) [
      | inl some ↦ both_ways (eqb r.effective 0) (not-true (eqb r.effective 0) some)
          (eq-eqb r.effective 0 none)
      | inr t ↦ both_ways (is_local_mode r.spec.mode) local t
    ]

-- the set of a live policy, by the mode that was read of it
pub filled-by : (r : PolicyRecord) (spec : Specification) (mode other : Mode) (set : ℕ)
    → is_live r ≡ true → spec ≡ r.spec → mode ≡ spec.mode → mode ≡ other
    → is_local_mode other ≡ false → set ≡ r.effective → set ≢ 0
filled-by r spec mode other set live of read is local same none =
    let own : r.spec.mode ≡ other = ap (λ (s : Specification). s.mode) (sym of) ∙ sym read ∙ is in
    filled r live (ap is_local_mode own ∙ local) (sym same ∙ none)

-- all allowed nodes are allowed
pub all-allowed : (set allowed : ℕ) → set ≡ allowed → both set allowed ≡ set
all-allowed set allowed same =
    within-both set allowed (λ node member. subst (λ (s : ℕ). has s node ≡ true) same member)

-- the set of a policy in force is one of nodes with memory
pub policy-memory : (r : PolicyRecord) (set memory : ℕ) → both r.effective memory ≡ r.effective
    → set ≡ r.effective → both set memory ≡ set
policy-memory r set memory inside same = subst (λ (s : ℕ). both s memory ≡ s) (sym same) inside
