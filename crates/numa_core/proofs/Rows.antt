-- Worked examples: what workers are answered, one event after the other. Each begins at a world in
-- which some commands were accepted and the last of them or none is published.
use Rattle.std.proofs.Common.{◌≡◌, ℕ, Result, Ok, Err, List, [], ◌∷◌, length, refl}
use Rattle.numa_mask.specs.NodeSet.{members}
use Rattle.numa_machine.specs.Machine.{Hardware, fallback_order}
use Rattle.numa_mode.specs.declared.modes.Mode.TheVariants.{Preferred, Bind, PreferredMany}
use Rattle.numa_mode.specs.declared.modes.NodeFlag.TheVariants.{Plain}
use Rattle.numa_requests.specs.declared.command.Command.{Command}
use Rattle.numa_requests.specs.declared.command.Command.TheVariants.{Map, Mbind, SetTask}
use Rattle.numa_requests.specs.declared.refusal.Refusal.TheVariants.{NoSuchNode}
use Rattle.numa_space.specs.Policies.{mems_of}
use Rattle.numa_space.specs.Refusals.{lacks_mems}
use Rattle.numa_space.proofs.Rows.{flat, asked, mems}
use Rattle.numa_machine.specs.declared.frame.Frame.{Frame}
use Rattle.numa_machine.specs.declared.page_size.PageSize.TheVariants.{Small}
use Rattle.numa_requests.specs.declared.request.Request.{Request}
use Rattle.numa_requests.specs.declared.event.Event.{Event}
use Rattle.numa_requests.specs.declared.event.Event.TheVariants.{Accept, Publish, Begin, Look, Try}
use Rattle.numa_requests.specs.declared.event.Event.TheVariants.{Give}
use Rattle.numa_requests.specs.declared.event.CoreReply.{CoreReply}
use Rattle.numa_requests.specs.declared.event.CoreReply.TheVariants.{Accepted, Published, Still}
use Rattle.numa_requests.specs.declared.event.CoreReply.TheVariants.{Exhausted, Won, Given}
use Rattle.numa_requests.specs.declared.event.CoreRefusal.{CoreRefusal}
use Rattle.numa_requests.specs.declared.event.CoreRefusal.TheVariants.{Command as Because}
use Rattle.numa_requests.specs.declared.event.CoreRefusal.TheVariants.{NoSuchWorker, Busy, Idle}
use Rattle.numa_requests.specs.declared.event.CoreRefusal.TheVariants.{BadTry, NotOwned, BadCpu}
use Rattle.numa_requests.specs.declared.event.CoreRefusal.TheVariants.{Unmapped}
use Rattle.numa_core.specs.World.{Setup, World, opening, list_at}
use Rattle.numa_core.specs.Steps.{answer_of, world_after}

-- ---- how a row is told

-- four workers on a machine
abbrev pub four_on : Hardware → Setup
four_on machine =
    record {
      machine = machine;
      bounds =
          record { max_ranges = 64; max_tasks = 64; max_commands = 64 };
      workers = 4;
    }

-- a machine whose nodes are as far from each other, with these frames
abbrev pub with_frames : List ℕ → Hardware
with_frames frames = record (flat (length frames)) { frames = frames }

-- the world in which these commands were accepted, the newest first
abbrev accepted : List Command → World
accepted history = record opening { history = history }

-- what the events answer with ample memory, each with the version that it takes if it is a Begin
abbrev answers : Setup → World → List (Event × ℕ) → List (Result CoreReply CoreRefusal)
answers s world [] = []
answers s world (step ∷ steps) = answer_of s world step.1 step.0
    ∷ answers s (world_after s world step.1 step.0 (answer_of s world step.1 step.0)) steps

-- the events of a row whose workers all take this version
abbrev taking : ℕ → List Event → List (Event × ℕ)
taking version [] = []
taking version (event ∷ events) = (event, version) ∷ taking version events

-- a fault of a task on a page, on node 0
abbrev pub fault : ℕ → ℕ → Request
fault task page = record { task = task; page = page; cpu = 0 }

abbrev pub frame : ℕ → ℕ → Frame
frame node number = record { node = node; number = number }

-- the reply of a win
abbrev pub won : ℕ → ℕ → ℕ → ℕ → ℕ → ℕ → Result CoreReply CoreRefusal
won version task page node number rank =
    Ok (Won
    (record {
      version = version;
      task = task;
      page = page;
      node = node;
      frame = frame node number;
      rank = rank;
    }))

-- ---- versions: nothing is mapped in version 0, and publishing twice publishes once

versions : List Command
versions = SetTask 1 (asked Preferred Plain (1 ∷ [])) ∷ Map 0x10000 0x1000 0 Small ∷ []

versions-row : answers (four_on (with_frames (1 ∷ 1 ∷ []))) (accepted versions) (
    (Begin 0 (fault 1 0x10), 0)
    ∷ (Publish, 0)
    ∷ (Publish, 0)
    ∷ (Begin 0 (fault 1 0x10), 2)
    ∷ (Try 0 (frame 1 0), 0)
    ∷ []) ≡ (
    Err (Unmapped 0)
    ∷ Ok (Published 2)
    ∷ Ok (Published 2)
    ∷ Ok Still
    ∷ won 2 1 0x10 1 0 0
    ∷ [])
unfolding members fallback_order list_at versions mems_of lacks_mems
versions-row = refl

-- a worker may take a published version that isn't the newest: version 1 has no policy for the
-- task, and version 2 binds it to node 1
older-row : answers (four_on (with_frames (1 ∷ 1 ∷ []))) (accepted (Map 0x10000 0x1000 0 Small ∷
    [])) (
    (Publish, 0)
    ∷ (Accept (SetTask 1 (asked Bind Plain (1 ∷ []))), 0)
    ∷ (Accept (mems (5 ∷ [])), 0)
    ∷ (Publish, 0)
    ∷ (Begin 0 (fault 1 0x10), 1)
    ∷ (Begin 1 (fault 1 0x10), 2)
    ∷ (Try 0 (frame 0 0), 0)
    ∷ (Try 1 (frame 0 0), 0)
    ∷ (Try 1 (frame 1 0), 0)
    ∷ []) ≡ (
    Ok (Published 1)
    ∷ Ok (Accepted 2)
    ∷ Err (Because NoSuchNode)
    ∷ Ok (Published 2)
    ∷ Ok Still
    ∷ Ok Still
    ∷ won 1 1 0x10 0 0 0
    ∷ Err BadTry
    ∷ won 2 1 0x10 1 0 0
    ∷ [])
unfolding members fallback_order list_at mems_of lacks_mems
older-row = refl

-- a page with a policy of its own, a fault on node 1, and a frame search that later commands and
-- publications leave as it is
pages : List Command
pages = Mbind 0x11000 0x1000 (asked Bind Plain (1 ∷ [])) ∷ Map 0x10000 0x2000 0 Small ∷ []

pages-row : answers (four_on (with_frames (2 ∷ 2 ∷ []))) (accepted pages) ((Publish, 0) ∷ taking 2 (
    Begin 0 (record { task = 1; page = 0x10; cpu = 1 })
    ∷ Begin 1 (fault 1 0x11)
    ∷ Begin 2 (fault 1 0x10)
    ∷ Accept (mems (0 ∷ []))
    ∷ Publish
    ∷ Try 0 (frame 0 0)
    ∷ Try 0 (frame 1 0)
    ∷ Try 1 (frame 1 0)
    ∷ Try 1 (frame 1 1)
    ∷ Try 2 (frame 0 1)
    ∷ [])) ≡ (
    Ok (Published 2)
    ∷ Ok Still
    ∷ Ok Still
    ∷ Ok Still
    ∷ Ok (Accepted 3)
    ∷ Ok (Published 3)
    ∷ Err BadTry
    ∷ won 2 1 0x10 1 0 0
    ∷ Ok Still
    ∷ won 2 1 0x11 1 1 0
    ∷ won 2 1 0x10 0 1 0
    ∷ [])
unfolding members fallback_order list_at pages mems_of lacks_mems
pages-row = refl

-- ---- one frame on each node: a list that is exhausted, and one that goes on at its second node

exhausted : List Command
exhausted = SetTask 2 (asked PreferredMany Plain (0 ∷ [])) ∷ SetTask 1 (asked Bind Plain (0 ∷ []))
    ∷ Map 0x10000 0x3000 0 Small ∷ []

exhausted-row : answers (four_on (with_frames (1 ∷ 1 ∷ []))) (accepted exhausted)
    ((Publish, 0) ∷ taking 3 (
    Begin 0 (fault 1 0x10)
    ∷ Try 0 (frame 0 0)
    ∷ Begin 0 (fault 1 0x11)
    ∷ Look 0 0
    ∷ Begin 0 (fault 2 0x11)
    ∷ Look 0 0
    ∷ Try 0 (frame 1 0)
    ∷ Begin 0 (fault 2 0x12)
    ∷ Look 0 0
    ∷ Look 0 0
    ∷ [])) ≡ (
    Ok (Published 3)
    ∷ Ok Still
    ∷ won 3 1 0x10 0 0 0
    ∷ Ok Still
    ∷ Ok (Exhausted 3)
    ∷ Ok Still
    ∷ Ok Still
    ∷ won 3 2 0x11 1 0 1
    ∷ Ok Still
    ∷ Ok Still
    ∷ Ok (Exhausted 3)
    ∷ [])
unfolding members fallback_order list_at exhausted mems_of lacks_mems
exhausted-row = refl

-- ---- two workers that look at one frame: one wins it, and the other finds that out by its own try

two_workers-row : answers (four_on (with_frames (1 ∷ 1 ∷ [])))
    (accepted (Map 0x10000 0x2000 0 Small ∷ [])) ((Publish, 0) ∷ taking 1 (
    Begin 0 (fault 1 0x10)
    ∷ Begin 1 (fault 1 0x11)
    ∷ Look 0 0
    ∷ Look 1 0
    ∷ Try 0 (frame 0 0)
    ∷ Try 1 (frame 0 0)
    ∷ Try 1 (frame 0 0)
    ∷ Try 1 (frame 1 0)
    ∷ Give 0 (frame 1 0)
    ∷ Give 0 (frame 0 0)
    ∷ Look 0 0
    ∷ Begin 4 (fault 1 0x10)
    ∷ [])) ≡ (
    Ok (Published 1)
    ∷ Ok Still
    ∷ Ok Still
    ∷ Ok Still
    ∷ Ok Still
    ∷ won 1 1 0x10 0 0 0
    ∷ Ok Still
    ∷ Err BadTry
    ∷ won 1 1 0x11 1 0 1
    ∷ Err NotOwned
    ∷ Ok Given
    ∷ Err Idle
    ∷ Err NoSuchWorker
    ∷ [])
unfolding members fallback_order list_at mems_of lacks_mems
two_workers-row = refl

-- ---- 65 frames are two words, 0 and 1

borders-row : answers (four_on (with_frames (65 ∷ []))) (accepted (Map 0x10000 0x1000 0 Small ∷ []))
    ((Publish, 0) ∷ taking 1 (
    Begin 0 (fault 1 0x10)
    ∷ Look 0 2
    ∷ Try 0 (frame 0 65)
    ∷ Try 0 (frame 0 64)
    ∷ Begin 1 (fault 1 0x10)
    ∷ Look 1 1
    ∷ Try 1 (frame 0 64)
    ∷ Begin 1 (fault 1 0x10)
    ∷ Try 1 (frame 0 63)
    ∷ [])) ≡ (
    Ok (Published 1)
    ∷ Ok Still
    ∷ Err BadTry
    ∷ Err BadTry
    ∷ won 1 1 0x10 0 64 0
    ∷ Ok Still
    ∷ Ok Still
    ∷ Err BadTry
    ∷ Err Busy
    ∷ won 1 1 0x10 0 63 0
    ∷ [])
unfolding members fallback_order list_at mems_of lacks_mems
borders-row = refl

-- a node of 64 frames has word 0 alone, and a worker's own frames count as met by its Look too
one_word-row : answers (four_on (with_frames (64 ∷ []))) (accepted (Map 0x10000 0x2000 0 Small ∷
    []))
    ((Publish, 0) ∷ taking 1 (
    Begin 0 (fault 1 0x10)
    ∷ Look 0 1
    ∷ Try 0 (frame 0 0)
    ∷ Begin 0 (fault 1 0x11)
    ∷ Look 0 0
    ∷ Try 0 (frame 0 0)
    ∷ Give 0 (frame 0 0)
    ∷ [])) ≡ (
    Ok (Published 1)
    ∷ Ok Still
    ∷ Err BadTry
    ∷ won 1 1 0x10 0 0 0
    ∷ Ok Still
    ∷ Ok Still
    ∷ Err BadTry
    ∷ Err Busy
    ∷ [])
unfolding members fallback_order list_at mems_of lacks_mems
one_word-row = refl

-- ---- nodes without frames are passed over, and their places in the list count

no_frames-row : answers (four_on (with_frames (0 ∷ 0 ∷ 1 ∷ [])))
    (accepted (SetTask 2 (asked Bind Plain (0 ∷ 1 ∷ [])) ∷ Map 0x10000 0x1000 0 Small ∷ []))
    ((Publish, 0) ∷ taking 2 (
    Begin 0 (fault 1 0x10)
    ∷ Try 0 (frame 0 0)
    ∷ Try 0 (frame 2 0)
    ∷ Begin 0 (fault 2 0x10)
    ∷ Begin 0 (fault 2 0x11)
    ∷ Begin 0 (record { task = 2; page = 0x11; cpu = 3 })
    ∷ [])) ≡ (
    Ok (Published 2)
    ∷ Ok Still
    ∷ Err BadTry
    ∷ won 2 1 0x10 2 0 2
    ∷ Ok (Exhausted 2)
    ∷ Err (Unmapped 2)
    ∷ Err BadCpu
    ∷ [])
unfolding members fallback_order list_at mems_of lacks_mems
no_frames-row = refl
