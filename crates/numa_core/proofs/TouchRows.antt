-- Worked examples of touches: what workers are answered, one touch after the other. Each begins at
-- a world in which the commands are published.
use Rattle.std.proofs.Common.{◌≡◌, ℕ, Result, Ok, Err, List, [], ◌∷◌, length, refl}
use Rattle.numa_mask.specs.NodeSet.{members}
use Rattle.numa_machine.specs.Machine.{fallback_order}
use Rattle.numa_machine.specs.Sizes.{is_part, is_shared, turn_at}
use Rattle.numa_machine.specs.Weights.{interleave_node}
use Rattle.numa_machine.specs.declared.page_size.PageSize.TheVariants.{Small}
use Rattle.numa_mode.specs.declared.modes.Mode.TheVariants.{Bind, PreferredMany, Interleave}
use Rattle.numa_mode.specs.declared.modes.NodeFlag.TheVariants.{Plain}
use Rattle.numa_requests.specs.declared.command.Command.{Command}
use Rattle.numa_requests.specs.declared.command.Command.TheVariants.{Map, Mbind, SetTask}
use Rattle.numa_space.proofs.Rows.{asked}
use Rattle.numa_requests.specs.declared.request.Request.{Request}
use Rattle.numa_requests.specs.declared.event.CoreReply.{CoreReply}
use Rattle.numa_requests.specs.declared.event.CoreReply.TheVariants.{Exhausted}
use Rattle.numa_requests.specs.declared.event.CoreRefusal.{CoreRefusal}
use Rattle.numa_requests.specs.declared.event.CoreRefusal.TheVariants.{NoSuchWorker, BadCpu}
use Rattle.numa_requests.specs.declared.event.CoreRefusal.TheVariants.{Unmapped}
use Rattle.numa_core.specs.World.{Setup, World, opening, list_at}
use Rattle.numa_core.specs.Touching.{result_of_touch}
use Rattle.numa_core.proofs.Rows.{four_on, with_frames, fault, won}

-- the world in which these commands, the newest first, were accepted and published
abbrev published : List Command → World
published history = record opening { history = history; published = length history ∷ 0 ∷ [] }

-- what the touches of one worker are answered
abbrev answers : Setup → World → ℕ → List Request → List (Result CoreReply CoreRefusal)
answers s world w [] = []
answers s world w (request ∷ requests) = (result_of_touch s world w request).answer
    ∷ answers s (result_of_touch s world w request).world w requests

-- ---- one frame on each node: a list that is exhausted, and one that goes on at its second node

exhausted : List Command
exhausted = SetTask 2 (asked PreferredMany Plain (0 ∷ [])) ∷ SetTask 1 (asked Bind Plain (0 ∷ []))
    ∷ Map 0x10000 0x3000 0 Small ∷ []

exhausted-row : answers (four_on (with_frames (1 ∷ 1 ∷ []))) (published exhausted) 0 (
    fault 1 0x10
    ∷ fault 1 0x11
    ∷ fault 2 0x11
    ∷ fault 2 0x12
    ∷ []) ≡ (
    won 3 1 0x10 0 0 0
    ∷ Ok (Exhausted 3)
    ∷ won 3 2 0x11 1 0 1
    ∷ Ok (Exhausted 3)
    ∷ [])
unfolding members fallback_order list_at result_of_touch exhausted
exhausted-row = refl

-- ---- eight frames on each node: each page is placed where its policy says, the lowest frame first

maps : List Command
maps = Mbind 0x13000 0x3000 (asked Bind Plain (2 ∷ []))
    ∷ SetTask 1 (asked Interleave Plain (0 ∷ 1 ∷ 2 ∷ 3 ∷ [])) ∷ Map 0x10000 0xa000 0 Small ∷ []

maps-row : answers (four_on (with_frames (8 ∷ 8 ∷ 8 ∷ 8 ∷ []))) (published maps) 0 (
    fault 1 0x10
    ∷ fault 1 0x11
    ∷ fault 1 0x14
    ∷ fault 1 0x15
    ∷ []) ≡ (
    won 3 1 0x10 0 0 0
    ∷ won 3 1 0x11 1 0 0
    ∷ won 3 1 0x14 2 0 0
    ∷ won 3 1 0x15 2 1 0
    ∷ [])
unfolding members fallback_order interleave_node turn_at is_part is_shared list_at result_of_touch
    maps
maps-row = refl

-- ---- what is refused, and nodes without frames: they are passed over, and their places in the
-- list count

refused-row : answers (four_on (with_frames (0 ∷ 0 ∷ 1 ∷ [])))
    (published (Map 0x10000 0x1000 0 Small ∷ [])) 3 (
    fault 1 0x11
    ∷ record { task = 1; page = 0x10; cpu = 3 }
    ∷ fault 1 0x10
    ∷ fault 1 0x10
    ∷ []) ≡ (
    Err (Unmapped 1)
    ∷ Err BadCpu
    ∷ won 1 1 0x10 2 0 2
    ∷ Ok (Exhausted 1)
    ∷ [])
unfolding members fallback_order list_at result_of_touch
refused-row = refl

no_worker-row : answers (four_on (with_frames (1 ∷ []))) (published (Map 0x10000 0x1000 0 Small ∷
    [])) 4
    (fault 1 0x10 ∷ []) ≡ (Err NoSuchWorker ∷ [])
unfolding members fallback_order list_at result_of_touch
no_worker-row = refl
