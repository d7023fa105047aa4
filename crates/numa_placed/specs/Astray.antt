-- Pages that lie on other nodes than those of a list (mbind(2), MPOL_MF_STRICT).
use Rattle.std.specs.Prelude.{ℕ, zero, suc, ◌+◌, ◌-◌, ◌%◌, ◌==◌, ◌&&◌, Bool, false, not, nat_lt}
use Rattle.std.specs.Prelude.{Option, Some, None, is_some, if◌then◌else◌}
use Rattle.numa_mask.specs.NodeSet.{has}
use Rattle.numa_machine.specs.declared.rules.Rules.{Rules}
use Rattle.numa_machine.specs.declared.rules.Rules.TheVariants.{Document, Linux}
use Rattle.numa_ranges.specs.Counts.{is_start}
use Rattle.numa_ranges.specs.Maps.{any_page}
use Rattle.numa_space.specs.History.{page_of, page_count}
use Rattle.numa_space.specs.Refusals.{PageMap}
use Rattle.numa_space.specs.Same.{same_record}
use Rattle.numa_placed.specs.Refusals.{first_of, span_cause}
use Rattle.numa_placed.specs.declared.spot.Spot.{Spot}
use Rattle.numa_placed.specs.declared.spot.Spot.TheVariants.{Nowhere, Stated}
use Rattle.numa_requests.specs.declared.page_refusal.PlacedRefusal.{PlacedRefusal}
use Rattle.numa_requests.specs.declared.page_refusal.PlacedRefusal.TheVariants.{Astray, Unaligned}

-- whether a page lies on a node that isn't in the list
abbrev pub is_astray : ℕ → Spot → Bool
is_astray list Nowhere = false
is_astray list (Stated node) = not (has list node)

-- whether a node isn't in a list, and has pages
abbrev pub is_other : ℕ → (ℕ → ℕ) → ℕ → Bool
is_other list count node = not (has list node) && nat_lt 0 (count node)

-- whether some of the n pages from `first` on does
abbrev pub astray_cause : (ℕ → Spot) → ℕ → ℕ → ℕ → Option PlacedRefusal
astray_cause spots first n list =
    if any_page (λ page. is_astray list (spots page)) first n then Some Astray else None

-- why a policy of this list may not be set for a span where its pages have to lie as it says
abbrev pub strict_cause : (ℕ → Spot) → ℕ → ℕ → ℕ → Option PlacedRefusal
strict_cause spots start bytes list = first_of (span_cause start bytes)
    (astray_cause spots (page_of start) (page_count bytes) list)

-- ---- where the span has a hole

-- The kernel walks the areas of a span from the lowest on, and looks for a hole right behind each
-- before it looks at the area's pages. So it judges the pages up to the area that ends at the first
-- hole; that area is the one that begins at `area`, where n pages from `page` on are to come.
unfoldable pub judged_end : PageMap → ℕ → ℕ → ℕ → ℕ
judged_end map area page zero = page
judged_end map area page (suc n) = if is_some (map page)
    then judged_end map (if is_start same_record map page then page else area) (page + 1) n
    else area

-- how many pages of a span, from its first on, are judged: by the documents all, where there is no
-- hole among them
abbrev pub judged_pages : Rules → PageMap → ℕ → ℕ → ℕ
judged_pages Document map first pages = pages
judged_pages Linux map first pages = judged_end map first first pages - first

-- why a span may not have a policy: for the kernel it may end anywhere
abbrev pub strict_span_cause : Rules → ℕ → ℕ → Option PlacedRefusal
strict_span_cause Document start bytes = span_cause start bytes
strict_span_cause Linux start bytes = if start % 4096 == 0 then None else Some Unaligned

-- why the policy may not be set for it where pages are mapped so, by whose rules count
abbrev pub strict_cause_by : Rules → PageMap → (ℕ → Spot) → ℕ → ℕ → ℕ → Option PlacedRefusal
strict_cause_by rules map spots start bytes list = first_of (strict_span_cause rules start bytes)
    (astray_cause spots (page_of start)
    (judged_pages rules map (page_of start) (page_count bytes)) list)
