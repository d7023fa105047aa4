-- Rows: marks, phases, room, and pages that lie somewhere before a trace.
use Rattle.std.specs.Prelude.{◌≡◌, ◌==◌, ℕ, List, [], ◌∷◌, Option, Some, None, codes, refl}
use Rattle.std.specs.Prelude.{if◌then◌else◌}
use Rattle.numa_traces.specs.Accesses.{mark_of}
use Rattle.numa_traces.specs.Phases.{Closes, Step, Touches, accesses_in, since}
use Rattle.numa_traces.specs.Placing.{Frames, frames_with_page, node_of}
use Rattle.numa_traces.specs.Resting.{laid}
use Rattle.numa_traces.specs.Rooms.{room_before}

-- ---- marks

a_mark : mark_of (codes "mark warm up") ≡ Some (codes "warm up")
a_mark = refl

-- a text may begin with a space
a_space : mark_of (codes "mark  x") ≡ Some (codes " x")
a_space = refl

no_text : mark_of (codes "mark ") ≡ None
no_text = refl

another_word : mark_of (codes "marks x") ≡ None
another_word = refl

-- ---- phases

abbrev one_more : List (Step ℕ)
one_more = Touches 3 ∷ Closes (codes "b") ∷ Touches 2 ∷ Closes (codes "a") ∷ Touches 1 ∷ []

-- marks are no accesses
all_accesses : accesses_in one_more ≡ 3 ∷ 2 ∷ 1 ∷ []
all_accesses = refl

-- what came to a route between two marks
part : since (record { accesses = 7; faults = 2 }) (record { accesses = 9; faults = 2 })
    ≡ record { accesses = 2; faults = 0 }
part = refl

-- ---- room

-- room for one page on node 0, and without end on node 1
abbrev roomy : Frames
roomy = record { pages = []; free = 1 ∷ 18446744073709551615 ∷ [] }

abbrev touched : Frames → ℕ → Frames
touched frames page = frames_with_page frames page (0 ∷ 1 ∷ [])

-- the first page fills node 0, and node 1 never fills
fills : (touched (touched roomy 16) 17).free ≡ 0 ∷ 18446744073709551615 ∷ []
fills = refl

goes_on : node_of (touched (touched roomy 16) 17).pages 17 ≡ Some 1
goes_on = refl

-- ---- pages that lie somewhere before

abbrev there : ℕ → Option ℕ
there page = if page == 16 then Some 1 else None

-- page 16 stays on node 1, and takes no room of node 0
stays : node_of (touched (laid there roomy 16) 16).pages 16 ≡ Some 1
stays = refl

no_room_taken : (touched (laid there roomy 16) 16).free ≡ roomy.free
no_room_taken = refl

-- page 17 lies nowhere before
comes : node_of (touched (laid there roomy 17) 17).pages 17 ≡ Some 0
comes = refl

-- ---- room before a trace

named_room : room_before None (record { node = 2; pages = 5 } ∷ []) 2 ≡ 5
named_room = refl

-- the others never fill
other_room : room_before None (record { node = 2; pages = 5 } ∷ []) 1 ≡ 18446744073709551615
other_room = refl
