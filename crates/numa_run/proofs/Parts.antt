-- Pages above address 2^47 are no parts of pages of 2 MiB.
use Rattle.std.proofs.Common.{◌≡◌, ℕ, ◌≤◌, false, Option, Some, None, refl, sym, ap, ◌∙◌, arith}
use Rattle.numa_ranges.specs.Maps.{any_page}
use Rattle.numa_huge.specs.Huge.{has_huge}
use Rattle.numa_huge.specs.Moves.{HugeMemory}
use Rattle.numa_page_state.specs.Huge.{has_huge_in, huge_count, huge_first}

none-of : (memory : HugeMemory) (first : ℕ) → has_huge memory.pages.spots first 0 ≡ false
unfolding any_page
none-of memory first = refl

pub far-part : (memory : Option HugeMemory) (page : ℕ) → 34359738368 ≤ page
    → false ≡ has_huge_in memory page 1
far-part None page far = refl
far-part (Some memory) page far =
    let none : huge_count page 1 ≡ 0 = omega (arith, far) in
    sym (ap (has_huge memory.pages.spots (huge_first page)) none
    ∙ none-of memory (huge_first page))
