-- The sizes of pages. Pages and their indexes are counted in 4 KiB whatever their size; a page of
-- 2 MiB has 512 parts of 4 KiB in a row.
use Rattle.std.specs.Prelude.{ℕ, ◌+◌, ◌-◌, ◌*◌, ◌/◌, ◌%◌, ◌^◌, ◌==◌, ◌&&◌, not, Bool}
use Rattle.std.specs.Prelude.{true, false, min, nat_le, nat_lt}
use Rattle.std.specs.Prelude.{if◌then◌else◌}
use Rattle.numa_machine.specs.declared.page_size.PageSize.{PageSize}
use Rattle.numa_machine.specs.declared.page_size.PageSize.TheVariants.{Small, Huge}

-- whether a size is 2 MiB
abbrev pub is_huge : PageSize → Bool
is_huge Small = false
is_huge Huge = true

-- the bytes of a page
abbrev pub bytes_of : PageSize → ℕ
bytes_of Small = 4096
bytes_of Huge = 2097152

-- a length in bytes, up to the end of its last page; pages of 4 KiB are rounded where they are
-- counted
abbrev pub whole : PageSize → ℕ → ℕ
whole Small bytes = bytes
whole Huge bytes = (bytes + 2097151) / 2097152 * 2097152

-- how many pages of 4 KiB so many bytes take, up to the end of the last page
abbrev pub parts_in : PageSize → ℕ → ℕ
parts_in size bytes = (whole size bytes + 4095) / 4096

-- the index of what stands so many pages of 4 KiB behind the beginning of what is mapped: the
-- indexes from 2^36 on are those of parts of pages of 2 MiB
abbrev pub index_in : PageSize → ℕ → ℕ
index_in Small place = place
index_in Huge place = 2 ^ 36 + place

-- whether an index is that of a part of a page of 2 MiB
unfoldable pub is_part : ℕ → Bool
is_part index = nat_le (2 ^ 36) index && nat_lt index (2 ^ 37)

-- whether an index is that of a page of a shared object: those from 2^37 on, 2^36 for each object
unfoldable pub is_shared : ℕ → Bool
is_shared index = nat_le (2 ^ 37) index

-- the turn of a page of a shared object: the number of the object's inode plus the page's place
unfoldable pub shared_turn : ℕ → ℕ
shared_turn index = (index - 2 ^ 37) % 2 ^ 36

-- whether the border before the page of an index lies inside a page of 2 MiB
unfoldable pub is_inside : ℕ → Bool
is_inside index = is_part index && not (index % 512 == 0)

-- the turn of an index, where nodes take turns: each page has one, and the parts of a page its own
unfoldable pub turn_at : ℕ → ℕ
turn_at index = if is_part index then (index - 2 ^ 36) / 512
    else if is_shared index then shared_turn index else index

-- how many pages with the indexes from one on have one turn: the parts that are left of a page
unfoldable pub parts_left : ℕ → ℕ
parts_left index = if is_part index then 512 - index % 512 else 1

-- so many indexes from one on have turns that go on by one, from page to page or from 512 parts to
-- 512
unfoldable pub turns_left : ℕ → ℕ
turns_left index = if is_part index then 2 ^ 37 - index
    else if is_shared index then 2 ^ 36 - shared_turn index else 2 ^ 36 - index

-- of so many pages with the indexes from one on, after how many their turns come again, where turns
-- come again after so many; all of them, if not before, as where two sizes were in a row
unfoldable pub round_of : ℕ → ℕ → ℕ → ℕ
round_of turns index pages = if nat_le pages (turns_left index)
    then min (if is_part index then turns * 512 else turns) pages else pages
