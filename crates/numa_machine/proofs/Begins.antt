-- The list that a kernel makes for a node with memory begins with it.
use Rattle.std.proofs.Common.{◌≡◌, ℕ, ◌<◌, true, false, eqb, List, [], ◌∷◌, None, slice_index}
use Rattle.std.proofs.Common.{Contains, refl, sym, arith, inl, inr}
use Rattle.std.proofs.lemmas.Bool.{cases_eq, eq-eqb, ne_eqb}
use Rattle.std.proofs.lemmas.List.Elements.{All-contains}
use Rattle.numa_mask.specs.NodeSet.{members}
use Rattle.numa_machine.specs.Faults.{hardware_fault}
use Rattle.numa_machine.specs.Machine.{Hardware, distance, nearer_by, order_by, kernel_cost}
use Rattle.numa_machine.specs.Machine.{loads_before, kernel_order}
use Rattle.numa_machine.proofs.Nearest.{nearer_cases, IsStrictOrder-nearer_by, IsRising-order_by}
use Rattle.numa_machine.proofs.Nearest.{order_by-members, members-order_by}
use Rattle.numa_machine.proofs.NoFault.{far_apart, memory_within}
use Rattle.numa_machine.proofs.Rising.{IsRising, IsIn, Contains-from_IsIn, IsIn-from_Contains}
use Rattle.numa_machine.proofs.Rising.{before_from_ComesFirst}

-- where one node costs nothing and each other of a list something, the list begins with that one
first-free : (cost : ℕ → ℕ) (order : List ℕ) (node : ℕ) → IsRising (nearer_by cost) order
    → IsIn order node → cost node ≡ 0
    → ((other : ℕ) → IsIn order other → (other ≡ node → ⊥) → 0 < cost other)
    → slice_index order 0 ≡ node
first-free cost [] node rising found free others = absurd found
first-free cost (first ∷ rest) node rising found free others =
    elim (cases_eq first node) [
      | inl same ↦ same
      | inr differ ↦ elim found [
        | inl same ↦ sym same
        | inr later ↦
            let some : 0 < cost first = others first (inl refl) differ in
            elim (nearer_cases cost first node
            (before_from_ComesFirst (nearer_by cost) (IsStrictOrder-nearer_by cost) first rest
            node rising.0 later)) [
              | inl less ↦ absurd (omega (arith, less, free))
              | inr tie ↦ absurd (omega (arith, tie.0, free, some))
            ]
      ]
    ]

module _ (hardware : Hardware) (cpus : ℕ) (loads : List ℕ) (from : ℕ) where
  stays : kernel_cost hardware cpus loads from from ≡ 0
  stays = let e : eqb from from ≡ true = eq-eqb from from refl in rw e refl

  goes : (to : ℕ) → (to ≡ from → ⊥) → 10 < distance hardware from to
      → 0 < kernel_cost hardware cpus loads from to
  goes to differ far =
      let e : eqb to from ≡ false = ne_eqb to from differ in
      rw e (omega (arith, far))

pub itself-first : (hardware : Hardware) (cpus from : ℕ) → hardware_fault hardware ≡ None
    → from < hardware.nodes → Contains (members hardware.memory) from
    → slice_index (kernel_order hardware cpus from) 0 ≡ from
unfolding kernel_order
itself-first hardware cpus from sound known member =
    let cost = kernel_cost hardware cpus (loads_before hardware cpus from) from in
    first-free cost (order_by cost hardware.memory) from (IsRising-order_by cost hardware.memory)
    (members-order_by cost hardware.memory from
    (IsIn-from_Contains (members hardware.memory) from member))
    (stays hardware cpus (loads_before hardware cpus from) from)
    (λ other found differ. goes hardware cpus (loads_before hardware cpus from) from other differ
    (far_apart hardware.nodes hardware.memory hardware.distances hardware.frames sound from other
    known
    (All-contains (λ n. n < hardware.nodes) (members hardware.memory) other
    (memory_within hardware.nodes hardware.memory hardware.distances hardware.frames sound)
    (Contains-from_IsIn (members hardware.memory) other
    (order_by-members cost hardware.memory other found)))
    (λ e. differ (sym e))))
