-- The text of how many pages lie on each node (numa(7), /proc/PID/numa_maps).
use Rattle.std.specs.Prelude.{ℕ, ◌==◌, List, [], ◌++◌, codes, decimal, if◌then◌else◌}
use Rattle.std.specs.List.{flat_map, range_with_len}

-- a node with its pages, where it has some
abbrev pub node_text : ℕ → ℕ → List ℕ
node_text node pages =
    if pages == 0 then [] else codes " N" ++ decimal node ++ codes "=" ++ decimal pages

-- each node that has pages, the lowest first
unfoldable pub nodes_text : (ℕ → ℕ) → List ℕ
nodes_text pages = flat_map (λ node. node_text node (pages node)) (range_with_len 0 256)
