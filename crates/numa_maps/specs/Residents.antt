-- Which pages are placed, and where.
use Rattle.std.specs.Prelude.{◌≡◌, ℕ, Option, None, List, IsSome}
use Rattle.std.specs.Ordering.{nat_cmp}
use Rattle.std.specs.BTreeMap.{insert_entry, is_at}
use Rattle.std.specs.List.Sorted.{IsStrictlySortedBy}
use Rattle.std.specs.Map.{lookup, keys_of, remove_entry}
use Rattle.std.specs.Option.{ForSome}
use Rattle.numa_requests.specs.declared.placement.Placement.{Placement}
use Rattle.numa_maps.specs.declared.resident.RecordRefusal.{RecordRefusal}
use Rattle.numa_maps.specs.declared.resident.RecordRefusal.TheVariants.{Taken, NoMemory}

-- pages, each with its placement
abbrev pub Kept : Type 0
Kept = List (ℕ × Placement)

-- the placement of a page, where it has one
abbrev pub placed_at : Kept → ℕ → Option Placement
placed_at kept page = lookup (is_at (nat_cmp page)) kept

-- with one placement more, in its place among the pages
abbrev pub with_placement : Kept → Placement → Kept
with_placement kept placement = insert_entry nat_cmp kept placement.page placement

-- without the placement of a page
abbrev pub without_page : Kept → ℕ → Kept
without_page kept page = remove_entry (is_at (nat_cmp page)) kept

-- the pages rise, so that each is there once
abbrev pub IsRising : Kept → Type 0
IsRising kept = IsStrictlySortedBy nat_cmp (keys_of kept)

-- what is true of all that is kept: the placement of each page names that page, and the pages rise
pub record AreKept (kept : Kept) : Type 0 where
  pub own : (page : ℕ) → ForSome (placed_at kept page) (λ placement. placement.page ≡ page)
  pub rising : IsRising kept

-- a refusal hands a placement back: its page has one, or there was no memory for it
abbrev pub IsRefusal : Kept → Placement → RecordRefusal → Type 0
IsRefusal kept placement (Taken back) = (back ≡ placement) × IsSome (placed_at kept placement.page)
IsRefusal kept placement (NoMemory back) =
    (back ≡ placement) × (placed_at kept placement.page ≡ None)
