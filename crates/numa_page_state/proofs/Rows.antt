-- Worked rows: what is told of moves.
use Rattle.std.proofs.Common.{◌≡◌, ℕ, ◌==◌, false, true, Some, None, [], ◌∷◌, refl}
use Rattle.std.specs.Prelude.{if◌then◌else◌, Err}
use Rattle.numa_mode.specs.declared.modes.Mode.TheVariants as mode
use Rattle.numa_mode.specs.declared.modes.NodeFlag.TheVariants as flag
use Rattle.numa_requests.specs.declared.placement.Placement.{Placement}
use Rattle.numa_requests.specs.declared.page_refusal.MoveRefusal.TheVariants as move
use Rattle.numa_placed.specs.Astray.{is_astray}
use Rattle.numa_placed.specs.Binds.{Asked}
use Rattle.numa_placed.specs.declared.spot.Spot.TheVariants.{Stated}
use Rattle.numa_page_state.specs.Lying.{held_left, nothing, still}
use Rattle.numa_page_state.specs.Outcomes.{frame_cause, held_move_unless, told_of}
use Rattle.numa_page_state.specs.Sending.{had_to_go, tells_left}

-- two pages keep frames of nodes 1 and 2: where node 1 goes to node 0, the first is left
kept-on : ℕ → Placement
kept-on node = record {
  version = 1;
  task = 1;
  page = 16;
  node = node;
  frame = record { node = node; number = 0 };
  rank = 0;
}

held-row : held_left ((16, kept-on 1) ∷ (17, kept-on 2) ∷ [])
    (λ node. if node == 1 then 0 else node) ≡ 1
unfolding kept-on
held-row = refl

told-row : (told_of 1 (Stated 0)).moved ≡ 1
told-row = refl

told-still-row : told_of 1 (Stated 1) ≡ still
told-still-row = refl

-- a page in a frame of another node stays
no-room-row : (held_move_unless (Some move.NoRoom) nothing).0 ≡ Err move.NoRoom
no-room-row = refl

frame-row : frame_cause 0 1 ≡ Some move.NoRoom
frame-row = refl

frame-there-row : frame_cause 1 1 ≡ None
frame-there-row = refl

-- ---- mbind .. move

strays-of : ℕ → Asked
strays-of list =
    record { first = 16; pages = 1; wants = λ page. is_astray list; nodes = λ page. [] }

-- a page in a frame of node 2, which is astray of nodes 0 and 1: it has to go to node 0, and stays;
-- to its own node it doesn't have to go
to-go-row : had_to_go (strays-of 3)
    (λ page. Some 0) 16 2 ≡ true
unfolding strays-of
to-go-row = refl

own-node-row : had_to_go (strays-of 3)
    (λ page. Some 2) 16 2 ≡ false
unfolding strays-of
own-node-row = refl

-- `default` drops `strict`
default-row : tells_left true (record { mode = mode.Default; flag = flag.Plain; mask = 0 }) 3
    ≡ false
default-row = refl

late-row : tells_left true (record { mode = mode.Bind; flag = flag.Plain; mask = 2 }) 3 ≡ true
late-row = refl
