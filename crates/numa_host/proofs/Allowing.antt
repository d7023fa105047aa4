-- A space can't refuse the nodes of its group.
use Rattle.std.proofs.Common.{◌≡◌, ◌≢◌, ◌<◌, ℕ, Bool, true, false, List, [], ◌∷◌, Option, None}
use Rattle.std.proofs.Common.{Result, Err, MatchOption, IfErr, OnOk, Ok, All, refl, sym, ap, ◌∙◌}
use Rattle.std.proofs.Common.{subst, leb, eqb, ◌^◌, ◌&&◌, inl, inr}
use Rattle.std.proofs.lemmas.Bool.{ne_eqb, lt-leb, cases_Bool, eqb-true}
use Rattle.std.proofs.lemmas.List.Folds.{list_any_none}
use Rattle.std.proofs.lemmas.List.Elements.{All-weaker, All-head, All-tail}
use Rattle.numa_mask.proofs.Images.{has-both, has-set_of, set_of-members}
use Rattle.std.specs.List.{list_any}
use Rattle.numa_mask.specs.NodeSet.{both, members, has}
use Rattle.numa_mode.proofs.Subsets.{members-within}
use Rattle.numa_machine.specs.Machine.{Hardware}
use Rattle.numa_machine.specs.declared.rules.Rules.{Rules}
use Rattle.numa_machine.specs.declared.rules.Rules.TheVariants.{Document, Linux}
use Rattle.numa_mode.specs.Policy.{never_empty}
use Rattle.numa_space.specs.Policies.{mems_of}
use Rattle.numa_space.specs.Refusals.{lacks_mems, refusal_in, refusal_of}
use Rattle.numa_space.specs.Standing.{SpaceState, HasHistory}
use Rattle.numa_space.specs.Steps.{scene_in, IsApplied, IsStep, MayNeedRoom}
use Rattle.numa_requests.specs.declared.command.Command.{Command}
use Rattle.numa_requests.specs.declared.command.Command.TheVariants.{SetMems}
use Rattle.numa_requests.specs.declared.refusal.Refusal.{Refusal}
use Rattle.numa_requests.specs.declared.refusal.Refusal.TheVariants.{NoMemory}
use Rattle.numa_space.proofs.Refused.{refusal-same}

-- a command that never wants memory, and against which nothing stands, isn't refused
pub never-refused : {A : Type 0} (old new : SpaceState) (command : Command)
    (result : Result A Refusal) (refusal : Refusal) → HasHistory old
    → refusal_in (scene_in old command) command ≡ None → (MayNeedRoom command → ⊥)
    → IsApplied old command result new → result ≡ Err refusal → ⊥
never-refused {A} old new command result refusal had none small applied is =
    let none_of : refusal_of old.machine old.bounds had.history command ≡ None =
    sym (refusal-same old had.history command had.stands) ∙ none in
    let P : Result A Refusal
    → Type 0 = λ r. IfErr r
    (λ refusal. MatchOption (refusal_of old.machine old.bounds had.history command)
    (refusal ≡ NoMemory) (λ first. refusal ≡ first)) in
    let caused : MatchOption (refusal_of old.machine old.bounds had.history command)
    (refusal ≡ NoMemory) (λ first. refusal ≡ first) =
    subst P is (applied.err had.history had.stands) in
    let Q : Option Refusal
    → Type 0 = λ o. MatchOption o (refusal ≡ NoMemory) (λ first. refusal ≡ first) in
    let lacked : refusal ≡ NoMemory = subst Q none_of caused in
    let R : Result A Refusal
    → Type 0 = λ r. IfErr r (λ refusal. refusal ≡ NoMemory → MayNeedRoom command) in
    small ((subst R is applied.room) lacked)

-- some nodes, all of them with memory, are what either rules allow
pub lacks-none : (rules : Rules) (mask memory : ℕ) → mask ≢ 0 → both mask memory ≡ mask
    → lacks_mems rules mask memory ≡ false
unfolding lacks_mems
lacks-none Document mask memory some inside = ap (λ m. eqb m 0) inside ∙ ne_eqb mask 0 some
lacks-none Linux mask memory some inside = ne_eqb mask 0 some

pub mems-same : (machine : Hardware) (mask : ℕ) → mask ≢ 0 → both mask machine.memory ≡ mask
    → mems_of machine mask ≡ mask
unfolding mems_of
mems-same machine mask some inside = go machine.rules
  where
    go : (rules : Rules) → never_empty rules (both mask machine.memory) machine.memory ≡ mask
    go Document = inside
    go Linux = rw (ap (λ m. eqb m 0) inside ∙ ne_eqb mask 0 some) inside

-- the step of a command that was accepted
pub accepted-step : {A : Type 0} {told : A} (old new : SpaceState) (command : Command)
    (result : Result A Refusal) → IsApplied old command result new → result ≡ Ok told
    → IsStep old command new
accepted-step {A} old new command result applied is =
    subst (λ (r : Result A Refusal). OnOk r (IsStep old command new)) is applied.step

-- nothing stands against nodes that have memory, some of them
pub mems-free : (old : SpaceState) (mask : ℕ) → old.version < old.bounds.max_commands → mask ≢ 0
    → both mask old.machine.memory ≡ mask
    → ((node : ℕ) → has mask node ≡ true → node < old.machine.nodes)
    → refusal_in (scene_in old (SetMems mask)) (SetMems mask) ≡ None
mems-free old mask room some inside below =
    let known : list_any (λ node. leb old.machine.nodes node) (members mask) ≡ false =
    list_any_none (λ node. leb old.machine.nodes node) (members mask)
    (each (members mask) (members-within mask)) in
    let lives : lacks_mems old.machine.rules mask old.machine.memory ≡ false =
    lacks-none old.machine.rules mask old.machine.memory some inside in
    rw (lt-leb old.bounds.max_commands old.version room, known, lives) refl
  where
    each : (ns : List ℕ) → All (λ n. has mask n ≡ true) ns
        → All (λ n. leb old.machine.nodes n ≡ false) ns
    each ns h = All-weaker (λ n. has mask n ≡ true) (λ n. leb old.machine.nodes n ≡ false)
        (λ n had. lt-leb old.machine.nodes n (below n had)) ns h

any-holds : (P : ℕ → Type 0) (node : ℕ) (ns : List ℕ) → All P ns
    → list_any (λ m. eqb node m) ns ≡ true → P node
any-holds P node [] all found = absurd (cc)
any-holds P node (n ∷ ns) all found =
    elim (cases_Bool (eqb node n)) [
      | inl e ↦ subst P (sym (eqb-true node n e)) (All-head P n ns all)
      | inr e ↦ any-holds P node ns (All-tail P n ns all) (rw e at found)
    ]

-- the members of a set that is inside the nodes with memory are nodes of the machine
pub has-below : (machine : Hardware) (mask : ℕ) → machine.memory < 2 ^ 256
    → All (λ node. node < machine.nodes) (members machine.memory)
    → both mask machine.memory ≡ mask → (node : ℕ) → has mask node ≡ true → node < machine.nodes
has-below machine mask small all inside node had =
    let in_both : has (both mask machine.memory) node ≡ true = ap (λ s. has s node) inside
    ∙ had in
    let in_memory : has machine.memory node ≡ true =
    second (has mask node) (has machine.memory node) (sym (has-both mask machine.memory node)
    ∙ in_both) in
    let found : list_any (λ m. eqb node m) (members machine.memory) ≡ true =
    sym (has-set_of (members machine.memory) node)
    ∙ ap (λ s. has s node) (set_of-members machine.memory small) ∙ in_memory in
    any-holds (λ n. n < machine.nodes) node (members machine.memory) all found
  where
    second : (a b : Bool) → (a && b) ≡ true → b ≡ true
    second true b h = h
    second false b h = cc

pub below-nodes : (old : SpaceState) (mask memory : ℕ) (machine : Hardware)
    → memory ≡ machine.memory → machine ≡ old.machine → memory < 2 ^ 256
    → All (λ node. node < machine.nodes) (members memory) → both mask old.machine.memory ≡ mask
    → (node : ℕ) → has mask node ≡ true → node < old.machine.nodes
below-nodes old mask memory machine is same small all inside node had =
    let whole : memory ≡ old.machine.memory = is ∙ ap (λ (m : Hardware). m.memory) same in
    has-below old.machine mask (subst (λ m. m < 2 ^ 256) whole small)
    (subst (λ (m : Hardware). All (λ node. node < m.nodes) (members old.machine.memory)) same
    (subst (λ n. All (λ node. node < machine.nodes) (members n)) whole all)) inside node had
