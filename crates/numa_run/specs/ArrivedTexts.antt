-- The texts of the answers to `populate`, what first touches did, and to `room` alone, how many
-- more pages each node takes that fills.
use Rattle.std.specs.Prelude.{ℕ, ◌==◌, List, [], ◌++◌, codes, decimal, if◌then◌else◌}
use Rattle.std.specs.Prelude.{Option, Some, None, slice_index}
use Rattle.std.specs.List.{flat_map, range_with_len}
use Rattle.numa_requests.specs.NodeCounts.{nodes_text as counts_text}
use Rattle.numa_script.specs.PageTexts.{placed_words}
use Rattle.numa_placed.specs.Shifts.{endless}
use Rattle.numa_huge.specs.Moves.{HugeArrival, HugeMemory}
use Rattle.numa_huge.specs.declared.arrived.HugeArrived.{HugeArrived}
use Rattle.numa_page_state.specs.Lying.{Arrival}
use Rattle.numa_page_state.specs.declared.arrived.Arrived.{Arrived}

-- `v4: placed 3 exhausted 0 N0=2 N1=1`
abbrev pub arrival_line : ℕ → Arrival → List ℕ
arrival_line version done = codes "v" ++ decimal version ++ codes ": "
    ++ placed_words done.placed done.exhausted ++ counts_text done.on ++ codes "\n"

-- what first touches did, by the record of it
abbrev pub arrival_in : Arrived → Arrival
arrival_in done = record {
  placed = done.placed;
  exhausted = done.exhausted;
  on = slice_index done.on;
}

-- what first touches of pages of 2 MiB did, as it is told
abbrev pub huge_arrival_in : HugeArrived → HugeArrival
huge_arrival_in done = record {
  placed = done.placed;
  exhausted = done.exhausted;
  on = slice_index done.on;
}

-- `v4: placed 3 exhausted 0 N0=2 N1=1 huge placed 2 exhausted 0 N1=2`, with pages of 2 MiB
abbrev pub both_arrival_line : ℕ → Arrival → HugeArrival → List ℕ
both_arrival_line version done huge = codes "v" ++ decimal version ++ codes ": "
    ++ placed_words done.placed done.exhausted ++ counts_text done.on ++ codes " huge "
    ++ placed_words huge.placed huge.exhausted ++ counts_text huge.on ++ codes "\n"

abbrev pub arrival_beside : Option HugeArrival → ℕ → Arrival → List ℕ
arrival_beside None version done = arrival_line version done
arrival_beside (Some huge) version done = both_arrival_line version done huge

abbrev pub arrival_with : Option HugeMemory → ℕ → Arrival → List ℕ
arrival_with None version done = arrival_line version done
arrival_with (Some memory) version done = arrival_beside memory.arrived version done

-- how many more pages a node takes, if it fills
abbrev pub limit_of : ℕ → Option ℕ
limit_of pages = if pages == endless then None else Some pages

-- ` N0=2`
abbrev pub room_text : ℕ → Option ℕ → List ℕ
room_text node None = []
room_text node (Some pages) = codes " N" ++ decimal node ++ codes "=" ++ decimal pages

-- each node that fills, the lowest first
unfoldable pub rooms_text : (ℕ → ℕ) → List ℕ
rooms_text room = flat_map (λ node. room_text node (limit_of (room node))) (range_with_len 0 256)

-- `room N0=2 N1=0`
abbrev pub rooms_line : (ℕ → ℕ) → List ℕ
rooms_line room = codes "room" ++ rooms_text room ++ codes "\n"
