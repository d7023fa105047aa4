-- What a space answers about a page is what every history that it stands for says.
use Rattle.std.proofs.Common.{◌≡◌, ℕ, true, List, Option, is_some, refl, sym, ap, ◌∙◌, length}
use Rattle.std.specs.Option.{option_map_or}
use Rattle.numa_machine.specs.Machine.{Hardware}
use Rattle.numa_mode.specs.Policy.{PolicyRecord}
use Rattle.numa_ranges.specs.Runs.{page_at, AreApart, AreMaximal}
use Rattle.numa_ranges.specs.Counts.{range_count}
use Rattle.numa_ranges.proofs.Counted.{range_count-length}
use Rattle.numa_space.specs.Policies.{policy_that_counts}
use Rattle.numa_space.specs.Pages.{is_mapped, index_of, page_in, policy_of_range, resolved_policy}
use Rattle.numa_space.specs.Lists.{list_for, setting_of, node_list}
use Rattle.numa_space.specs.Same.{same_record}
use Rattle.numa_space.specs.Refusals.{range_count_of}
use Rattle.numa_space.specs.Standing.{SpaceState, StandsFor, setting_in, policy_in, list_in}
use Rattle.numa_space.specs.Standing.{place_refusal_in, place_refusal_of}
use Rattle.numa_requests.specs.declared.command.Command.{Command}
use Rattle.numa_space.proofs.Refused.{page-is_some}
use Rattle.numa_space.proofs.Same.{same_record-exact, same_record-refl}

-- whether a page is mapped
pub mapped-same : (space : SpaceState) (history : List Command) (page : ℕ) → StandsFor space history
    → is_some (page_at space.ranges page) ≡ is_mapped history page
mapped-same space history page stands = ap (λ o. is_some o) (stands.pages page)
    ∙ page-is_some space.machine history page

-- the policy that counts for a task at a page
pub policy-same : (space : SpaceState) (history : List Command) (task page : ℕ)
    → StandsFor space history → policy_in space task page ≡ resolved_policy space.machine history
    task page
policy-same space history task page stands =
    λ i. policy_that_counts (policy_of_range (stands.pages page i)) (stands.tasks task i)

pub setting-same : (space : SpaceState) (history : List Command) → StandsFor space history
    → setting_in space ≡ setting_of space.machine history
setting-same space history stands =
    λ i. record {
      machine = space.machine;
      allowed = stands.allowed i;
      weight =
          λ node. stands.weights node i;
    }

-- the index of a mapped page
index-of_page : (machine : Hardware) (history : List Command) (page : ℕ)
    → is_mapped history page ≡ true → option_map_or (λ (at : ℕ × Option PolicyRecord). at.0)
    (page_in machine history page) 0 ≡ index_of history page
index-of_page machine history page mapped = rw mapped refl

-- the fallback list of a mapped page
pub list-same : (space : SpaceState) (history : List Command) (task page cpu : ℕ)
    → StandsFor space history → is_some (page_at space.ranges page) ≡ true
    → list_in space task page cpu ≡ node_list space.machine history task page cpu
list-same space history task page cpu stands found =
    let mapped : is_mapped history page ≡ true = sym (mapped-same space history page stands)
    ∙ found in
    let index : option_map_or (λ (at : ℕ × Option PolicyRecord). at.0) (page_at space.ranges page) 0
    ≡ index_of history page =
    ap (λ o. option_map_or (λ (at : ℕ × Option PolicyRecord). at.0) o 0) (stands.pages page)
    ∙ index-of_page space.machine history page mapped in
    λ i. list_for (setting-same space history stands i)
    (policy-same space history task page stands i) cpu (index i)

-- the refusal of a question about a page
pub place-same : (space : SpaceState) (history : List Command) (page cpu : ℕ)
    → StandsFor space history
    → place_refusal_in space.machine.nodes (is_some (page_at space.ranges page)) cpu
    ≡ place_refusal_of space.machine history page cpu
place-same space history page cpu stands =
    ap (λ mapped. place_refusal_in space.machine.nodes mapped cpu)
    (mapped-same space history page stands)

-- the ranges of a space are those of the history
pub ranges-same : (space : SpaceState) (history : List Command) → StandsFor space history
    → AreApart 0 space.ranges → AreMaximal space.ranges
    → length space.ranges ≡ range_count_of space.machine history
ranges-same space history stands apart maximal =
    let whole : page_at space.ranges ≡ page_in space.machine history =
    λ i page. stands.pages page i in
    sym (range_count-length same_record same_record-exact same_record-refl space.ranges apart
    maximal) ∙ ap (λ at. range_count same_record at) whole
