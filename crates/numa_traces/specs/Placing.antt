-- Where pages are placed when they are first touched.
use Rattle.std.specs.Prelude.{ℕ, ◌-◌, ◌==◌, Option, Some, None, List, [], ◌∷◌, nat_lt, slice_index}
use Rattle.std.specs.Prelude.{slice_set, if◌then◌else◌}
use Rattle.std.specs.BTreeMap.{insert_entry, is_at}
use Rattle.std.specs.Map.{lookup}
use Rattle.std.specs.Ordering.{nat_cmp}

-- each placed page with its node, rising, and how many frames each node has left, or how much room;
-- one that never fills has 2^64 - 1
pub record Frames : Type 0 where
  pub pages : List (ℕ × ℕ)
  pub free : List ℕ

-- the node on which a page lies
abbrev pub node_of : List (ℕ × ℕ) → ℕ → Option ℕ
node_of pages page = lookup (is_at (nat_cmp page)) pages

-- the first node of a list that has a frame left
abbrev pub first_free : List ℕ → List ℕ → Option ℕ
first_free free [] = None
first_free free (node ∷ nodes) =
    if nat_lt 0 (slice_index free node) then Some node else first_free free nodes

-- what is left of a node's room once a page took one
abbrev pub less_one : ℕ → ℕ
less_one room = if room == 18446744073709551615 then room else room - 1

-- with a page on a node, where there is one
abbrev pub placed_on : Frames → ℕ → Option ℕ → Frames
placed_on frames page None = frames
placed_on frames page (Some node) = record {
  pages = insert_entry nat_cmp frames.pages page node;
  free = slice_set frames.free node (less_one (slice_index frames.free node));
}

-- the frames once a page was touched whose list has these nodes: where it lies already, unchanged
abbrev pub frames_with_page : Frames → ℕ → List ℕ → Frames
frames_with_page frames page nodes = by_place (node_of frames.pages page)
  where
    by_place : Option ℕ → Frames
    by_place (Some node) = frames
    by_place None = placed_on frames page (first_free frames.free nodes)
