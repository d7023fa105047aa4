-- What first touches of pages make of where pages lie, and of the rooms that nodes have.
use Rattle.std.specs.Prelude.{ℕ, zero, suc, ◌+◌, ◌-◌, ◌^◌, ◌==◌, Bool, Option, Some, None, List}
use Rattle.std.specs.Prelude.{if◌then◌else◌, is_some}
use Rattle.std.specs.Option.{option_map}
use Rattle.numa_ranges.specs.Runs.{in_pages}
use Rattle.numa_blocks.specs.Blocks.{block_of}
use Rattle.numa_blocks.specs.Tries.{Try, taken_of}

-- the node on which each page lies that is there, and how many more pages of 4 KiB each node takes,
-- once a line said so of one; what is free counts as lying in one piece
pub record Placing : Type 0 where
  pub on : ℕ → Option ℕ
  pub room : Option (ℕ → ℕ)

-- nodes have room for any block before a line said so of one
abbrev pub room_for_blocks : Option (ℕ → ℕ) → ℕ → ℕ
room_for_blocks None node = 512
room_for_blocks (Some room) node = room node

-- a node's room without so many pages
abbrev pub less_at : ℕ → ℕ → (ℕ → ℕ) → ℕ → ℕ
less_at node pages room other = if other == node then room other - pages else room other

-- the block of a page on a node: all its pages are there at once
abbrev pub with_block : ℕ → ℕ → ℕ → Placing → Placing
with_block order page node at = record {
  on = λ other. if in_pages (block_of order page) (2 ^ order) other then Some node else at.on other;
  room = option_map (less_at node (2 ^ order)) at.room;
}

abbrev pub placed_by : Option (ℕ × ℕ) → ℕ → Placing → Placing
placed_by None page at = at
placed_by (Some taken) page at = with_block taken.0 page taken.1 at

-- a page is touched: where it isn't there yet, the first of its tries that finds room gives it, and
-- with it its block; where none does, it stays away
abbrev pub after_touch : (ℕ → (ℕ → Bool) → List Try) → ℕ → Placing → Placing
after_touch tries page at = if is_some (at.on page) then at
    else placed_by (taken_of (room_for_blocks at.room)
    (tries page (λ other. is_some (at.on other)))) page at

-- so many pages from one on, the lowest first
unfoldable pub after_touches : (ℕ → (ℕ → Bool) → List Try) → ℕ → ℕ → Placing → Placing
after_touches tries first zero at = at
after_touches tries first (suc pages) at =
    after_touches tries (first + 1) pages (after_touch tries first at)
