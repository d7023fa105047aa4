-- Blocks of pages around a page: where they lie, which index each has, and which orders a first
-- touch of the page tries.
use Rattle.std.specs.Prelude.{◌≡◌, ℕ, ◌+◌, ◌-◌, ◌*◌, ◌/◌, ◌^◌, ◌<◌, ◌≤◌, ◌&&◌, Bool, true, false}
use Rattle.std.specs.Prelude.{not, nat_le, nat_lt, List, [], ◌∷◌, ◌++◌, filter}
use Rattle.numa_ranges.specs.Maps.{any_page}
use Rattle.numa_blocks.specs.Settings.{is_enabled}
use Rattle.numa_blocks.specs.declared.area.Area.{Area}
use Rattle.numa_blocks.specs.declared.gap.Gap.{Gap}
use Rattle.numa_blocks.specs.declared.settings.BlockSettings.{BlockSettings}

-- ---- a block

-- the first page of the block of a page
abbrev pub block_of : ℕ → ℕ → ℕ
block_of order page = page / 2 ^ order * 2 ^ order

-- the page after its last
abbrev pub block_end : ℕ → ℕ → ℕ
block_end order page = block_of order page + 2 ^ order

-- the pages of the block lie from one page on and before another
abbrev pub lies_within : ℕ → ℕ → ℕ → ℕ → Bool
lies_within first end order page = nat_le first (block_of order page)
    && nat_le (block_end order page) end

-- they lie in the area
abbrev pub lies_in : Area → ℕ → ℕ → Bool
lies_in area order page = lies_within area.first (area.first + area.pages) order page

-- the index of the block of a page, where nodes take turns: the blocks that the area's first index
-- makes, and those between the area's first page and the block. So it goes by where the area begins
abbrev pub block_index : Area → ℕ → ℕ → ℕ
block_index area order page = area.index / 2 ^ order
    + (block_of order page - area.first) / 2 ^ order

-- ---- what is tried

-- no page of the block was touched
abbrev pub is_untouched : (ℕ → Bool) → ℕ → ℕ → Bool
is_untouched touched order page = not (any_page touched (block_of order page) (2 ^ order))

-- whether the pages of an area are a task's own: those of a pool of pages of 2 MiB and of a shared
-- object have indexes from 2^36 on
abbrev pub is_own : Area → Bool
is_own area = nat_lt area.index (2 ^ 36)

-- whether blocks of an order may be taken in an area
abbrev pub is_wanted : BlockSettings → Area → ℕ → Bool
is_wanted settings area order = is_own area && is_enabled settings area.advice order

-- a block of this order may serve a first touch of the page: it is wanted, the block lies in the
-- area, and nobody touched a page of it
abbrev pub may_serve : BlockSettings → Area → (ℕ → Bool) → ℕ → ℕ → Bool
may_serve settings area touched page order = is_wanted settings area order
    && (lies_in area order page && is_untouched touched order page)

-- the orders of blocks, the greatest first
abbrev pub large_orders : List ℕ
large_orders = 9 ∷ 8 ∷ 7 ∷ 6 ∷ 5 ∷ 4 ∷ 3 ∷ 2 ∷ []

-- the orders that a first touch of a page tries, in turn; at last the page alone
abbrev pub orders_for : BlockSettings → Area → (ℕ → Bool) → ℕ → List ℕ
orders_for settings area touched page =
    filter (may_serve settings area touched page) large_orders ++ 0 ∷ []

-- ---- as callers tell it

-- an area that has the page, below the last page and index
pub record HasPage (area : Area) (page : ℕ) : Type 0 where
  pub first : area.first ≤ page
  pub end : page < area.first + area.pages
  pub last_page : area.first + area.pages ≤ 2 ^ 35
  pub last_index : area.index + area.pages ≤ 2 ^ 48

-- the pages around a page that nobody touched, as many as there are in a row, or as far as the
-- area reaches
pub record IsGap (area : Area) (touched : ℕ → Bool) (page : ℕ) (gap : Gap) : Type 0 where
  pub first : gap.first ≤ page
  pub end : page < gap.end
  pub untouched : (other : ℕ) → gap.first ≤ other → other < gap.end → touched other ≡ false
  pub before : area.first < gap.first → touched (gap.first - 1) ≡ true
  pub behind : gap.end < area.first + area.pages → touched gap.end ≡ true

-- the same by the gap: the block lies within it
abbrev pub fits : BlockSettings → Area → Gap → ℕ → ℕ → Bool
fits settings area gap page order = is_wanted settings area order
    && (lies_in area order page && lies_within gap.first gap.end order page)
