-- The listing, line by line.
use Rattle.std.proofs.Common.{◌≡◌, ◌↔◌, ℕ, ◌≤◌, ◌^◌, Option, List, ◌∷◌, ◌++◌, Contains, sym}
use Rattle.std.proofs.Common.{ap, subst, ◌∙◌, append_assoc}
use Rattle.numa_mode.specs.Policy.{PolicyRecord}
use Rattle.numa_ranges.proofs.Apart.{apart-top}
use Rattle.numa_ranges.specs.Counts.{IsRange}
use Rattle.numa_ranges.specs.Runs.{AreApart, end_of}
use Rattle.numa_ranges.specs.declared.run.Run.{Run}
use Rattle.numa_space.proofs.Lists.{policy-same}
use Rattle.numa_space.specs.Pages.{page_in, resolved_policy}
use Rattle.numa_space.specs.Same.{same_record}
use Rattle.numa_space.specs.Standing.{SpaceState, StandsFor, policy_in}
use Rattle.numa_requests.specs.declared.command.Command.{Command}
use Rattle.numa_maps.specs.Listing.{IsListing, listing, listing_in, range_line}
use Rattle.numa_maps.specs.Residents.{Kept}

pub apart-next : (from : ℕ) (range : Run (Option PolicyRecord))
    (left rest : List (Run (Option PolicyRecord))) → left ≡ range ∷ rest → AreApart from left
    → AreApart (end_of range) rest × (end_of range ≤ 2 ^ 35)
apart-next from range left rest e apart =
    let whole : AreApart from (range ∷ rest) =
    subst (λ (ranges : List (Run (Option PolicyRecord))). AreApart from ranges) e apart in
    (whole.3, apart-top (end_of range) rest whole.3)

-- one line more went out
pub line-next : (policy_of : ℕ → Option PolicyRecord) (kept : Kept) (all sent line : List ℕ)
    (range : Run (Option PolicyRecord)) (left rest : List (Run (Option PolicyRecord)))
    → all ≡ sent ++ listing policy_of kept left → left ≡ range ∷ rest
    → line ≡ range_line (policy_of range.first) kept range → all ≡ (sent ++ line)
    ++ listing policy_of kept rest
line-next policy_of kept all sent line range left rest so_far e text =
    so_far ∙ ap (λ (ranges : List (Run (Option PolicyRecord))). sent
    ++ listing policy_of kept ranges) e ∙ ap (λ x. sent ++ (x ++ listing policy_of kept rest))
    (sym text)
    ∙ sym (append_assoc sent line (listing policy_of kept rest))

-- the listing of a space is that of the commands for which it stands
pub listing-meaning : (space : SpaceState) (history : List Command) (task : ℕ) (kept : Kept)
    → StandsFor space history → AreApart 0 space.ranges
    → ((range : Run (Option PolicyRecord)) → Contains space.ranges range
    ↔ IsRange same_record (page_in space.machine history) range)
    → IsListing space.machine history task kept (listing_in space task kept)
listing-meaning space history task kept stands rising each =
    let same : policy_in space task ≡ resolved_policy space.machine history task =
    λ i page. policy-same space history task page stands i in (
      space.ranges,
      record { rising = rising; each = each },
      ap (λ policy_of. listing policy_of kept space.ranges) same,
    )
