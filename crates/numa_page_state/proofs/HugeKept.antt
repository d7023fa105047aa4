-- Pages of 2 MiB, where any are kept.
use Rattle.std.proofs.Common.{◌≡◌, ◌≢◌, ℕ, ◌∙◌, true, false, Option, Some, None, ap, refl}
use Rattle.std.proofs.lemmas.Bool.{both_ways}
use Rattle.numa_ranges.specs.Maps.{any_page}
use Rattle.numa_huge.specs.Huge.{has_huge, huge_at}
use Rattle.numa_huge.specs.Moves.{HugeMemory}
use Rattle.numa_huge.specs.Tallies.{StandsForHuge}
use Rattle.numa_huge.specs.declared.pages.HugePages.{HugePages}
use Rattle.numa_huge.specs.declared.spot.HugeSpot.{HugeSpot}
use Rattle.numa_page_state.specs.Huge.{has_huge_in, huge_at_address, huge_count, huge_first}
use Rattle.numa_page_state.specs.Huge.{huge_page}

pub stands-none : (memory : Option HugeMemory) → StandsForHuge None memory → memory ≡ None
stands-none None stands = refl
stands-none (Some memory) stands = absurd stands

-- whether a page of a span is mapped so
pub has-some : (kept : HugePages) (memory : Option HugeMemory) (first pages from n : ℕ)
    → StandsForHuge (Some kept) memory → from ≡ huge_first first → n ≡ huge_count first pages
    → has_huge (huge_at kept.places.runs) from n ≡ has_huge_in memory first pages
has-some kept None first pages from n stands f p = absurd stands
has-some kept (Some memory) first pages from n stands f p =
    λ i. has_huge (stands.pages i).spots (f i) (p i)

-- what is known of a page
pub at-some : (kept : HugePages) (memory : Option HugeMemory) (address : ℕ)
    → StandsForHuge (Some kept) memory
    → huge_at kept.places.runs (huge_page address) ≡ huge_at_address memory address
at-some kept None address stands = absurd stands
at-some kept (Some memory) address stands = λ i. (stands.pages i).spots (huge_page address)

-- a span without pages has none
none-huge : (spots : ℕ → Option HugeSpot) (first : ℕ) → has_huge spots first 0 ≡ false
unfolding any_page
none-huge spots first = refl

pub pages-there : (spots : ℕ → Option HugeSpot) (first pages : ℕ)
    → has_huge spots first pages ≡ true → pages ≢ 0
pages-there spots first pages has none =
    both_ways (has_huge spots first pages)
    (ap (has_huge spots first) none ∙ none-huge spots first) has
