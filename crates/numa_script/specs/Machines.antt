-- The words before a machine is ready: whose rules count, and those of a machine line that are
-- lists of numbers, its frames and its distances, with the prefix that the distances may have.
use Rattle.std.specs.Prelude.{ℕ, ◌==◌, List, [], ◌∷◌, map, codes, Option, Some, None}
use Rattle.std.specs.Prelude.{Bool, take, drop, if◌then◌else◌}
use Rattle.std.specs.List.{range_with_len, flat_map}
use Rattle.std.specs.Str.{bytes_eq}
use Rattle.std.specs.Option.{option_map}
use Rattle.numa_mask.specs.NodeSet.{has}
use Rattle.numa_machine.specs.declared.rules.Rules.{Rules}
use Rattle.numa_machine.specs.declared.rules.Rules.TheVariants.{Document, Linux}
use Rattle.numa_script.specs.Numbers.{item_of, below}
use Rattle.numa_script.specs.Parts.{items_of, rows_of}
use Rattle.numa_script.specs.Present.{each_of}
use Rattle.numa_script.specs.declared.machine.Distances.{Distances}
use Rattle.numa_script.specs.declared.machine.Distances.TheVariants.{Flat, Table}

-- a RULES word: those of the documents, or those of the running kernel
abbrev pub rules_of : List ℕ → Option Rules
rules_of word =
    if bytes_eq word (codes "document") then Some Document
    else if bytes_eq word (codes "linux") then Some Linux
    else None

-- the items of a table, its rows written one after the other
abbrev pub entries_of : List ℕ → List (List ℕ)
entries_of word = flat_map items_of (rows_of word)

-- a distance: a decimal number of at most 10 digits, at most 255
abbrev pub distance_of : List ℕ → Option ℕ
distance_of item = below 256 (item_of item)

-- the numbers of a FRAMES word, where each item is one
abbrev pub frames_of : List ℕ → Option (List ℕ)
frames_of word = each_of item_of (items_of word)

-- the entries of a table, where each item is a distance
abbrev pub table_of : List ℕ → Option (List ℕ)
table_of word = each_of distance_of (entries_of word)

-- the distances as they are written
abbrev pub written_distances : List ℕ → Option Distances
written_distances word =
    if bytes_eq word (codes "flat") then Some Flat else option_map Table (table_of word)

-- a DIST word begins with `kernel:`: the orders are those that a kernel makes of the distances
abbrev pub has_kernel_orders : List ℕ → Bool
has_kernel_orders word = bytes_eq (take 7 word) (codes "kernel:")

abbrev pub behind_kernel : List ℕ → List ℕ
behind_kernel word = if has_kernel_orders word then drop 7 word else word

-- the distances of a DIST word
unfoldable pub distances_of : List ℕ → Option Distances
distances_of word = written_distances (behind_kernel word)

-- the frames of a node, if each node with memory has this many
abbrev pub frames_at : ℕ → ℕ → ℕ → ℕ
frames_at memory frames node = if has memory node then frames else 0

-- the frames of each node: one number is that of each node with memory, and more than one are those
-- of the nodes in turn
abbrev pub frames_for : ℕ → ℕ → List ℕ → List ℕ
frames_for nodes memory (frames ∷ []) = map (frames_at memory frames) (range_with_len 0 nodes)
frames_for nodes memory frames = frames

-- `flat`: each node is 10 from itself and 20 from every other
abbrev pub flat_distance : ℕ → ℕ → ℕ
flat_distance from to = if from == to then 10 else 20

abbrev pub flat_row : ℕ → ℕ → List ℕ
flat_row nodes from = map (flat_distance from) (range_with_len 0 nodes)

-- the entries of the distance table, row after row
abbrev pub distances_for : ℕ → Distances → List ℕ
distances_for nodes Flat = flat_map (flat_row nodes) (range_with_len 0 nodes)
distances_for nodes (Table entries) = entries
