-- What a space answers about a page, from what it holds.
use Rattle.std.proofs.Common.{◌≡◌, ◌<◌, ℕ, Bool, true, false, List, Some, None, is_some, Result, Ok}
use Rattle.std.proofs.Common.{Err, MatchResult, IfOk, IfSome, refl, sym, ◌∙◌, subst}
use Rattle.std.proofs.lemmas.List.Elements.{All-contains}
use Rattle.std.specs.Prelude.{nat_le, if◌then◌else◌}
use Rattle.numa_mask.specs.NodeSet.{has, members}
use Rattle.numa_mask.proofs.Images.{below-has}
use Rattle.numa_mask.proofs.Sets.{contains-has}
use Rattle.numa_mode.specs.Policy.{PolicyRecord, is_live}
use Rattle.numa_ranges.specs.Runs.{page_at}
use Rattle.numa_space.specs.Inside.{shown_of, IsKept}
use Rattle.numa_space.specs.Lists.{node_list}
use Rattle.numa_space.specs.Standing.{SpaceState, StandsFor, IsInForce, IsNodeList, policy_in}
use Rattle.numa_space.specs.Standing.{list_in, place_refusal_in, place_refusal_of}
use Rattle.numa_requests.specs.declared.command.Command.{Command}
use Rattle.numa_machine.specs.declared.refusal.PlaceRefusal.{PlaceRefusal}
use Rattle.numa_machine.specs.declared.refusal.PlaceRefusal.TheVariants.{BadCpu, Unmapped}
use Rattle.numa_space.specs.declared.space.Space.TheInside.{Inside}
use Rattle.numa_space.proofs.Lists.{list-same, place-same}
use Rattle.numa_space.proofs.NodeLists.{within-from_both, policy-in_force, node-list-sound}

-- a node of a policy that is in force is one of the machine
pub in_force-node : (inside : Inside) (space : SpaceState) → IsKept inside → shown_of inside ≡ space
    → (r : PolicyRecord) → IsInForce space.machine space.allowed r → (node : ℕ)
    → has r.effective node ≡ true → node < space.machine.nodes
in_force-node inside space kept same r force node member = let P : SpaceState → Type 0 =
    λ s. IsInForce s.machine s.allowed r → node < s.machine.nodes in subst P same go force
  where
    go : IsInForce inside.machine inside.allowed r → node < inside.machine.nodes
    go force =
        let in_memory : has inside.machine.memory node ≡ true =
        within-from_both r.effective inside.machine.memory force.memory node member in
        All-contains (λ n. n < inside.machine.nodes) (members inside.machine.memory) node
        kept.of_the_machine (contains-has inside.machine.memory node
        (below-has inside.machine.memory node kept.memory in_memory) in_memory)

-- the policy that counts is in force
pub policy-kept : (inside : Inside) (space : SpaceState) → IsKept inside → shown_of inside ≡ space
    → (task page : ℕ)
    → IfSome (policy_in space task page) (λ r. IsInForce space.machine space.allowed r
    × (is_live r ≡ true))
policy-kept inside space kept same task page = let P : SpaceState → Type 0 =
    λ s. IfSome (policy_in s task page) (λ r. IsInForce s.machine s.allowed r
    × (is_live r ≡ true)) in subst P same (policy-in_force (shown_of inside) task page kept.sound)

-- the list of a page is one in which memory can be looked for
pub list-kept : (inside : Inside) (space : SpaceState) → IsKept inside → shown_of inside ≡ space
    → (task page cpu : ℕ) → IsNodeList space.allowed (list_in space task page cpu)
list-kept inside space kept same task page cpu = let P : SpaceState → Type 0 =
    λ s. IsNodeList s.allowed (list_in s task page cpu) in
    subst P same (node-list-sound (shown_of inside) task page cpu kept.sound kept.memory)

place-mapped : (nodes cpu : ℕ) (mapped : Bool) → place_refusal_in nodes mapped cpu ≡ None
    → mapped ≡ true
place-mapped nodes cpu true none = refl
place-mapped nodes cpu false none = go (nat_le nodes cpu) none
  where
    go : (bad : Bool) → (if bad then Some BadCpu else Some Unmapped) ≡ None → false ≡ true
    go true h = cc
    go false h = cc

module _ {A : Type 0} (items : A → List ℕ) (space : SpaceState) (task page cpu : ℕ)
    (result : Result A PlaceRefusal) where
  -- a list, or the refusal, as the space's parts say
  abbrev pub IsLookUp : Type 0
  IsLookUp = MatchResult result
      (λ list. (place_refusal_in space.machine.nodes (is_some (page_at space.ranges page)) cpu
      ≡ None) × (items list ≡ list_in space task page cpu))
      (λ refusal. place_refusal_in space.machine.nodes (is_some (page_at space.ranges page)) cpu
      ≡ Some refusal)

pub look_up-meaning : {A : Type 0} (items : A → List ℕ) (space : SpaceState) (task page cpu : ℕ)
    (result : Result A PlaceRefusal) → IsLookUp items space task page cpu result
    → (history : List Command) → StandsFor space history
    → MatchResult result
    (λ list. (place_refusal_of space.machine history page cpu ≡ None)
    × (items list ≡ node_list space.machine history task page cpu))
    (λ refusal. place_refusal_of space.machine history page cpu ≡ Some refusal)
look_up-meaning items space task page cpu (Ok list) found history stands = (
  sym (place-same space history page cpu stands) ∙ found.0,
  found.1
      ∙ list-same space history task page cpu stands
      (place-mapped space.machine.nodes cpu (is_some (page_at space.ranges page)) found.0),
)
look_up-meaning items space task page cpu (Err refusal) found history stands =
    sym (place-same space history page cpu stands) ∙ found

pub look_up-sound : {A : Type 0} (items : A → List ℕ) (space : SpaceState) (task page cpu : ℕ)
    (result : Result A PlaceRefusal) → IsLookUp items space task page cpu result
    → IsNodeList space.allowed (list_in space task page cpu)
    → IfOk result (λ list. IsNodeList space.allowed (items list))
look_up-sound items space task page cpu (Ok list) found sound = let P : List ℕ → Type 0 =
    λ nodes. IsNodeList space.allowed nodes in subst P (sym found.1) sound
look_up-sound items space task page cpu (Err refusal) found sound = tt
