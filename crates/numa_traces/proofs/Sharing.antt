-- Rows: processes that touch pages of one machine.
use Rattle.std.specs.Prelude.{◌≡◌, ℕ, [], ◌∷◌, Some, None, refl}
use Rattle.numa_traces.specs.Hosting.{HostFrames, seen_by, with_frames}
use Rattle.numa_traces.specs.Placing.{frames_with_page, node_of}

-- a process touches a page whose list has these nodes
abbrev touched : HostFrames → ℕ → ℕ → HostFrames
touched host process page = with_frames host process
    (frames_with_page (seen_by host process) page (0 ∷ 1 ∷ []))

-- one frame on each of two nodes
abbrev empty : HostFrames
empty = record { pages = λ process. []; free = 1 ∷ 1 ∷ [] }

-- page 16 of process 7 takes the frame of node 0, so page 16 of process 9 lies on node 1
taken : node_of ((touched (touched empty 7 16) 9 16).pages 9) 16 ≡ Some 1
taken = refl

-- and where the first lies already, it stays
stays : node_of ((touched (touched (touched empty 7 16) 9 16) 7 16).pages 7) 16 ≡ Some 0
stays = refl

-- a third page finds no frame, whose process ever touches it
full : node_of ((touched (touched (touched empty 7 16) 9 16) 7 17).pages 7) 17 ≡ None
full = refl

-- no process sees the pages of another
apart : node_of ((touched empty 7 16).pages 9) 16 ≡ None
apart = refl

left : (touched (touched empty 7 16) 9 16).free ≡ 0 ∷ 0 ∷ []
left = refl
