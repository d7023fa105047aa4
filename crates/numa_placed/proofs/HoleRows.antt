-- Worked examples: which pages of a span are judged where it has a hole (mm/mempolicy.c,
-- queue_pages_range).
use Rattle.std.proofs.Common.{◌≡◌, ℕ, Option, Some, None, [], ◌∷◌, refl}
use Rattle.std.specs.Prelude.{◌==◌, if◌then◌else◌}
use Rattle.numa_machine.specs.declared.rules.Rules.TheVariants.{Document, Linux}
use Rattle.numa_mode.specs.Policy.{PolicyRecord}
use Rattle.numa_ranges.specs.Maps.{any_page}
use Rattle.numa_ranges.specs.Runs.{page_at}
use Rattle.numa_ranges.specs.declared.run.Run.{Run}
use Rattle.numa_space.specs.Refusals.{PageMap}
use Rattle.numa_placed.specs.Astray.{judged_end, judged_pages, strict_cause_by}
use Rattle.numa_requests.specs.declared.page_refusal.PlacedRefusal.{PlacedRefusal}
use Rattle.numa_requests.specs.declared.page_refusal.PlacedRefusal.TheVariants.{Astray}
use Rattle.numa_placed.specs.declared.spot.Spot.{Spot}
use Rattle.numa_placed.specs.declared.spot.Spot.TheVariants.{Nowhere, Stated}

plain : ℕ → ℕ → ℕ → Run (Option PolicyRecord)
plain first pages index = record { first = first; pages = pages; index = index; value = None }

-- two areas side by side, pages 1 and 2 and pages 3 to 5; a hole, which is page 6; then one more
mapped : PageMap
mapped = page_at (plain 1 2 0 ∷ plain 3 3 9 ∷ plain 7 1 6 ∷ [])

-- without a hole all are judged, if the span begins or ends inside an area too
no_hole : judged_pages Linux mapped 1 5 ≡ 5
unfolding judged_end mapped plain
no_hole = refl

inside : judged_pages Linux mapped 2 2 ≡ 2
unfolding judged_end mapped plain
inside = refl

-- behind the second area is a hole: only the first is judged
second-ends : judged_pages Linux mapped 1 6 ≡ 2
unfolding judged_end mapped plain
second-ends = refl

inside-second_ends : judged_pages Linux mapped 2 7 ≡ 1
unfolding judged_end mapped plain
inside-second_ends = refl

-- a hole behind the only area, and one where the span begins: no page is judged
only-ends : judged_pages Linux mapped 4 3 ≡ 0
unfolding judged_end mapped plain
only-ends = refl

hole-begins : judged_pages Linux mapped 0 3 ≡ 0
unfolding judged_end mapped plain
hole-begins = refl

-- by the documents all are
documents : judged_pages Document mapped 1 6 ≡ 6
documents = refl

-- a page on node 1, and a list with node 0 alone
lies : ℕ → ℕ → Spot
lies at page = if page == at then Stated 1 else Nowhere

told : ℕ → Option PlacedRefusal
told at = strict_cause_by Linux mapped (lies at) 4096 24576 1

-- before the area that ends at the hole it is told, in that area it isn't
before-told : told 2 ≡ Some Astray
unfolding judged_end mapped plain any_page lies told
before-told = refl

in_it-not_told : told 3 ≡ None
unfolding judged_end mapped plain any_page lies told
in_it-not_told = refl

-- the page before the hole, and the page behind it
last-not_told : told 5 ≡ None
unfolding judged_end mapped plain any_page lies told
last-not_told = refl
