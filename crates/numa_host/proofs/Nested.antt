-- The effective nodes of each group are inside those of its parent.
use Rattle.std.proofs.Common.{◌≡◌, ℕ, Bool, true, false, List, [], ◌∷◌, map, Option, Some}
use Rattle.std.proofs.Common.{None, All, not, eqb, leb, length, refl, sym, ap, ◌∙◌, inl}
use Rattle.std.proofs.Common.{inr, ◌||◌}
use Rattle.std.proofs.lemmas.Bool.{both_ways, cases_Bool, eq-eqb, ne_eqb}
use Rattle.std.proofs.lemmas.List.Elements.{All-cons, All-nil}
use Rattle.std.proofs.lemmas.List.Elements.{All-weaker}
use Rattle.numa_mask.specs.NodeSet.{both}
use Rattle.numa_machine.specs.Machine.{Hardware}
use Rattle.numa_mode.proofs.Subsets.{both-within}
use Rattle.numa_space.specs.Limited.{Bounds}
use Rattle.numa_space.proofs.NodeLists.{within-both}
use Rattle.numa_requests.specs.declared.host_command.HostCommand.{HostCommand}
use Rattle.numa_requests.specs.declared.host_command.HostCommand.TheVariants.{NewGroup}
use Rattle.numa_requests.specs.declared.host_command.HostCommand.TheVariants.{SetGroupMems}
use Rattle.numa_requests.specs.declared.host_command.HostCommand.TheVariants.{NewProcess, Exit}
use Rattle.numa_requests.specs.declared.host_command.HostCommand.TheVariants.{Attach}
use Rattle.numa_requests.specs.declared.host_command.HostCommand.TheVariants.{Fork, In, SetWeight}
use Rattle.numa_host.specs.declared.group.ControlGroup.{ControlGroup}
use Rattle.numa_requests.specs.declared.host_refusal.HostRefusal.{HostRefusal}
use Rattle.numa_requests.specs.declared.host_refusal.HostRefusal.TheVariants as cause
use Rattle.numa_host.specs.Causes.{cause_of, first_of, when}
use Rattle.numa_host.specs.Groups.{effective_mems, groups_of, is_group, narrowed, with_mems}
use Rattle.numa_host.specs.Standing.{IsHostAccepted}
use Rattle.numa_host.proofs.Grouped.{groups-same}

-- ---- causes

pub first-none : (a b : Option HostRefusal) → first_of a b ≡ None → (a ≡ None) × (b ≡ None)
first-none None b is = (refl, is)
first-none (Some c) b is = absurd (cc)

pub when-none : (test : Bool) (why : HostRefusal) → when test why ≡ None → test ≡ false
when-none true why is = absurd (cc)
when-none false why is = refl

not-false : (b : Bool) → not b ≡ false → b ≡ true
not-false true is = refl
not-false false is = absurd (cc)

-- ---- the tree

-- each group has a name of its own, and its parent is older
abbrev pub IsTree : List ControlGroup → Type 0
IsTree [] = Unit {0}
IsTree (group ∷ older) = (is_group older group.name ≡ false)
    × (is_group older group.parent ≡ true) × IsTree older

tree-with_mems : (name : ℕ) (mems : Option ℕ) (groups : List ControlGroup) → IsTree groups
    → IsTree (map (with_mems name mems) groups)
tree-with_mems name mems [] tree = tt
tree-with_mems name mems (group ∷ older) tree =
    elim (cases_Bool (eqb group.name name)) [
      | inl e ↦
          rw e (
            groups-same older name mems group.name
                ∙ tree.0,
            groups-same older name mems group.parent
                ∙ tree.1,
            tree-with_mems name mems older tree.2,
          )
      | inr e ↦
          rw e (
            groups-same older name mems group.name
                ∙ tree.0,
            groups-same older name mems group.parent
                ∙ tree.1,
            tree-with_mems name mems older tree.2,
          )
    ]

pub groups-tree : (machine : Hardware) (bounds : Bounds) (history : List HostCommand)
    → IsHostAccepted machine bounds history → IsTree (groups_of history)
groups-tree machine bounds [] accepted = tt
groups-tree machine bounds (NewGroup name parent ∷ history) accepted =
    let judged : cause_of machine bounds history (NewGroup name parent) ≡ None =
    (first-none (when (leb bounds.max_commands (length history)) cause.CommandsSpent)
    (cause_of machine bounds history (NewGroup name parent)) accepted.0).1 in
    let new = first-none (when (is_group (groups_of history) name) cause.GroupExists) _ judged in
    let known = first-none (when (not (is_group (groups_of history) parent)) cause.NoSuchGroup) _
    new.1 in (
      when-none (is_group (groups_of history) name) cause.GroupExists new.0,
      not-false (is_group (groups_of history) parent)
          (when-none (not (is_group (groups_of history) parent)) cause.NoSuchGroup known.0),
      groups-tree machine bounds history accepted.1,
    )
groups-tree machine bounds (SetGroupMems name mems ∷ history) accepted =
    tree-with_mems name mems (groups_of history) (groups-tree machine bounds history accepted.1)
groups-tree machine bounds (NewProcess process group ∷ history) accepted =
    groups-tree machine bounds history accepted.1
groups-tree machine bounds (Exit process ∷ history) accepted =
    groups-tree machine bounds history accepted.1
groups-tree machine bounds (Attach process group ∷ history) accepted =
    groups-tree machine bounds history accepted.1
groups-tree machine bounds (Fork parent child from task ∷ history) accepted =
    groups-tree machine bounds history accepted.1
groups-tree machine bounds (In process command ∷ history) accepted =
    groups-tree machine bounds history accepted.1
groups-tree machine bounds (SetWeight node weight ∷ history) accepted =
    groups-tree machine bounds history accepted.1

-- ---- nodes

narrowed-inside : (mems : Option ℕ) (above : ℕ)
    → both (narrowed mems above) above ≡ narrowed mems above
narrowed-inside None above = within-both above above (λ node had. had)
narrowed-inside (Some mems) above =
    elim (cases_Bool (eqb (both mems above) 0)) [
      | inl e ↦ rw e (within-both above above (λ node had. had))
      | inr e ↦ rw e (within-both (both mems above) above (both-within mems above))
    ]

-- both a group and its parent are among the groups
record IsKnown (groups : List ControlGroup) (group : ControlGroup) : Type 0 where
  pub name : is_group groups group.name ≡ true
  pub parent : is_group groups group.parent ≡ true

or-right : (a b c : Bool) → (a || c) ≡ true → (a || (b || c)) ≡ true
or-right true b c h = refl
or-right false true c h = refl
or-right false false c h = h

or-middle : (a b c : Bool) → b ≡ true → (a || (b || c)) ≡ true
or-middle true b c h = refl
or-middle false true c h = refl
or-middle false false c h = absurd (cc)

tree-known : (groups : List ControlGroup) → IsTree groups
    → All (λ (group : ControlGroup). IsKnown groups group) groups
tree-known [] tree = All-nil (λ (group : ControlGroup). IsKnown [] group)
tree-known (first ∷ older) tree =
    All-cons (λ (group : ControlGroup). IsKnown (first ∷ older) group) first older
    (record {
      name = or-middle (eqb first.name 0) (eqb first.name first.name) _
          (eq-eqb first.name first.name refl);
      parent =
          or-right (eqb first.parent 0) (eqb first.name first.parent) _ tree.1;
    })
    (All-weaker (λ (group : ControlGroup). IsKnown older group)
    (λ (group : ControlGroup). IsKnown (first ∷ older) group)
    (λ group known. record {
      name = or-right (eqb group.name 0) (eqb first.name group.name) _ known.name;
      parent =
          or-right (eqb group.parent 0) (eqb first.name group.parent) _ known.parent;
    })
    older (tree-known older tree.2))

-- the nodes of a group that is older than the first
effective-older : (memory : ℕ) (first : ControlGroup) (older : List ControlGroup) (name : ℕ)
    → is_group older first.name ≡ false → is_group older name ≡ true
    → effective_mems memory (first ∷ older) name ≡ effective_mems memory older name
effective-older memory first older name new known =
    rw (ne_eqb first.name name
    (λ same. both_ways (is_group older first.name) new (ap (λ n. is_group older n) same
    ∙ known))) refl

-- a group's effective nodes are inside its parent's
abbrev pub IsNested : ℕ → List ControlGroup → ControlGroup → Type 0
IsNested memory groups group = both (effective_mems memory groups group.name)
    (effective_mems memory groups group.parent) ≡ effective_mems memory groups group.name

pub tree-nested : (memory : ℕ) (groups : List ControlGroup) → IsTree groups
    → All (IsNested memory groups) groups
tree-nested memory [] tree = All-nil (IsNested memory [])
tree-nested memory (first ∷ older) tree =
    let above : ℕ = effective_mems memory older first.parent in
    let parent : effective_mems memory (first ∷ older) first.parent ≡ above =
    effective-older memory first older first.parent tree.0 tree.1 in
    let mine : effective_mems memory (first ∷ older) first.name ≡ narrowed first.mems above =
    rw (eq-eqb first.name first.name refl) refl in
    let here : IsNested memory (first ∷ older) first =
    (λ i. both (mine i) (parent i)) ∙ narrowed-inside first.mems above ∙ sym mine in
    All-cons (IsNested memory (first ∷ older)) first older here (λ k d inside.
    let known = tree-known older tree.2 k d inside in
    let nested = tree-nested memory older tree.2 k d inside in
    let name = effective-older memory first older _ tree.0 known.name in
    let above_it = effective-older memory first older _ tree.0 known.parent in
    (λ i. both (name i) (above_it i)) ∙ nested ∙ sym name)
