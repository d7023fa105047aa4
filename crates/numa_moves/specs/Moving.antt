-- What becomes of the pages of shares when those of each node go to another, as many as have room:
-- the first ones go first.
use Rattle.std.specs.Prelude.{◌≡◌, ℕ, zero, suc, ◌-◌, ◌<◌, ◌^◌, ◌==◌, ◌&&◌, ◌++◌, true, List, []}
use Rattle.std.specs.Prelude.{◌∷◌, map, min, nat_lt, if◌then◌else◌, All, unwrap_or}
use Rattle.numa_mask.specs.NodeSet.{both}
use Rattle.numa_ranges.specs.Counts.{count_pages}
use Rattle.numa_placed.specs.Moves.{moved_node}
use Rattle.numa_placed.specs.Shifts.{AreRooms, Going, counted_shift, is_stated, shift_of}
use Rattle.numa_placed.specs.Shifts.{stated_below}
use Rattle.numa_placed.specs.declared.spot.Spot.{Spot}
use Rattle.numa_reports.specs.Common.{AreRising, has_page}
use Rattle.numa_reports.specs.declared.outlook.PageSpan.{PageSpan}
use Rattle.numa_moves.specs.Held.{allowed_in}
use Rattle.numa_moves.specs.Shares.{pages_on, share_by, stated_in}
use Rattle.numa_moves.specs.declared.holding.Holding.{Holding}
use Rattle.numa_moves.specs.declared.holding.HoldingMoves.{HoldingMoves}
use Rattle.numa_moves.specs.declared.holding.Act.{Act}
use Rattle.numa_moves.specs.declared.holding.Act.TheVariants.{Follow, Migrate, Stay}
use Rattle.numa_moves.specs.declared.holding.Step.{Step}
use Rattle.numa_moves.specs.declared.scene.Scene.{Scene}
use Rattle.numa_moves.specs.declared.moving.ShareMove.{ShareMove}
use Rattle.numa_moves.specs.declared.share.Share.{Share}

-- how many pages of each node are still to go once those of a share went
abbrev pub less_share : Share → (ℕ → ℕ) → ℕ → ℕ
less_share share left node = if share.node == node then left node - share.there else left node

-- where so many pages of each node are to go: of each share as many as are still to
abbrev pub moves_by : (ℕ → ℕ) → (ℕ → ℕ) → List Share → List ShareMove
moves_by go left [] = []
moves_by go left (share ∷ shares) = record {
  share = share;
  to = go share.node;
  moved = min share.there (left share.node);
} ∷ moves_by go (less_share share left) shares

-- how many go of each node, and the rooms behind that, when pages leave one set for another
abbrev pub shift_by : List Share → ℕ → ℕ → (ℕ → ℕ) → Going
shift_by shares old new room = counted_shift (pages_on shares) old new room

-- what becomes of each share then
abbrev pub moves_of : List Share → ℕ → ℕ → (ℕ → ℕ) → List ShareMove
moves_of shares old new room =
    moves_by (moved_node old new) (shift_by shares old new room).gone shares

-- the shares behind moves: what stayed of each, and what came
abbrev pub shares_behind : List ShareMove → List Share
shares_behind [] = []
shares_behind (move ∷ moves) =
    (share_by move.share.span move.share.node (move.share.there - move.moved)
    ++ share_by move.share.span move.to move.moved) ++ shares_behind moves

-- ---- by lines

-- what becomes of the pages of a process, before which so many were made
pub record Moved : Type 0 where
  pub process : ℕ
  pub made : ℕ
  pub moves : List ShareMove

-- when they leave one set for another
abbrev pub moved_by : (Holding → ℕ) → (Holding → ℕ) → Holding → (ℕ → ℕ) → Moved
moved_by from to holding room = record {
  process = holding.process;
  made = holding.made;
  moves = moves_of holding.shares.items (from holding) (to holding) room;
}

-- those of one process after the other: those of each find the rooms that are behind the ones
-- before it
abbrev pub told_by : (Holding → ℕ) → (Holding → ℕ) → List Holding → (ℕ → ℕ) → List Moved
told_by from to [] room = []
told_by from to (holding ∷ holdings) room =
    moved_by from to holding room ∷ told_by from to holdings
    (shift_by holding.shares.items (from holding) (to holding) room).room

-- the rooms behind them
abbrev pub rooms_by : (Holding → ℕ) → (Holding → ℕ) → List Holding → (ℕ → ℕ) → ℕ → ℕ
rooms_by from to [] room = room
rooms_by from to (holding ∷ holdings) room = rooms_by from to holdings
    (shift_by holding.shares.items (from holding) (to holding) room).room

-- no process has more pages on a node than are counted
abbrev pub AreCounted : List Holding → Type 0
AreCounted holdings = All (λ (h : Holding). (node : ℕ) → pages_on h.shares.items node < 2 ^ 64)
    holdings

-- what was told of a process
abbrev pub moves_in : HoldingMoves → Moved
moves_in told = record {
  process = told.process;
  made = told.made;
  moves = told.moves.items;
}

-- pages of one process alone migrate, to nodes that it is allowed
abbrev pub migrates_to : ℕ → ℕ → ℕ → Holding → ℕ
migrates_to process from to holding =
    if holding.process == process then both to holding.allowed else from

-- the nodes that a process is allowed, and those that a scene allows it; one that isn't there keeps
-- its own
abbrev pub nodes_in : Holding → ℕ
nodes_in holding = holding.allowed

abbrev pub nodes_after : Scene → Holding → ℕ
nodes_after scene holding = unwrap_or (allowed_in scene holding.process) holding.allowed

-- between which sets the pages of each process go when it follows the nodes that it is allowed
abbrev pub Follows : Scene → (Holding → ℕ) → (Holding → ℕ) → Type 0
Follows scene from to = (holding : Holding) → (from holding ≡ holding.allowed)
    × (to holding ≡ nodes_after scene holding)

-- between which sets a line sends the pages of each process
abbrev pub Sends : Act → (Holding → ℕ) → (Holding → ℕ) → Type 0
Sends (Follow scene) from to = Follows scene from to
Sends (Migrate process old new) from to = (holding : Holding)
    → (from holding ≡ old.now) × (to holding ≡ migrates_to process old.now new.now holding)
Sends Stay from to = (holding : Holding)
    → (from holding ≡ holding.allowed) × (to holding ≡ holding.allowed)

-- the nodes that a line leaves a process
abbrev pub nodes_by : Act → Holding → ℕ
nodes_by (Follow scene) = nodes_after scene
nodes_by (Migrate process old new) = nodes_in
nodes_by Stay = nodes_in

-- what a line did to the pages of all processes
abbrev pub IsStep : (Holding → ℕ) → (Holding → ℕ) → List Holding → (ℕ → ℕ) → Step → Type 0
IsStep from to holdings room step =
    (map moves_in step.told.items ≡ told_by from to holdings room)
    × AreRooms step.rooms (rooms_by from to holdings room)

-- what was told is of this process
abbrev pub IsTold : Holding → HoldingMoves → Type 0
IsTold holding told = (told.process ≡ holding.process) × (told.made ≡ holding.made)

-- it is this process still
abbrev pub IsSame : Holding → Holding → Type 0
IsSame before after = (after.process ≡ before.process) × (after.made ≡ before.made)

-- whose pages lie where
pub record SharesOf : Type 0 where
  pub process : ℕ
  pub made : ℕ
  pub shares : List Share

-- those of a process, and those of which something was told
abbrev pub shares_in : Holding → SharesOf
shares_in holding = record {
  process = holding.process;
  made = holding.made;
  shares = holding.shares.items;
}

abbrev pub left_by : HoldingMoves → SharesOf
left_by told = record {
  process = told.process;
  made = told.made;
  shares = shares_behind told.moves.items;
}

-- they lie as a line left them
abbrev pub AreLeft : List Holding → Step → Type 0
AreLeft holdings step = map shares_in holdings ≡ map left_by step.told.items

-- ---- by pages

-- spans with all pages that are stated to lie somewhere, which lie on nodes below a number
pub record HaveAll (spots : ℕ → Spot) (nodes : ℕ) (spans : List PageSpan) : Type 0 where
  pub rising : AreRising 0 spans
  pub below : (page : ℕ) → has_page spans page ≡ true → page < 2 ^ 35
  pub within : (page node : ℕ) → is_stated node (spots page) ≡ true → has_page spans page ≡ true
  pub few : (page node : ℕ) → is_stated node (spots page) ≡ true → node < nodes

-- how many pages of a span go from a node, where so many of the lowest of each node go
abbrev pub gone_in : (ℕ → Spot) → (ℕ → ℕ) → PageSpan → ℕ → ℕ
gone_in spots gone span node = count_pages
    (λ page. is_stated node (spots page) && nat_lt (stated_below spots page node) (gone node))
    span.first span.pages

-- of so many pages of a span on a node, if there are any, so many go to a node
abbrev pub move_by : PageSpan → ℕ → ℕ → ℕ → ℕ → List ShareMove
move_by span node to there moved = if there == 0 then [] else record {
  share = record { span = span; node = node; there = there };
  to = to;
  moved = moved;
} ∷ []

-- those of each of so many nodes, in order
abbrev pub moves_within : (ℕ → ℕ) → (ℕ → ℕ) → (ℕ → ℕ) → PageSpan → ℕ → List ShareMove
moves_within go there moved span zero = []
moves_within go there moved span (suc node) = moves_within go there moved span node
    ++ move_by span node (go node) (there node) (moved node)

-- those of each span, in order
abbrev pub moves_over : (ℕ → ℕ) → (PageSpan → ℕ → ℕ) → (PageSpan → ℕ → ℕ) → ℕ → List PageSpan
    → List ShareMove
moves_over go there moved nodes [] = []
moves_over go there moved nodes (span ∷ spans) =
    moves_within go (there span) (moved span) span nodes ++ moves_over go there moved nodes spans

-- what becomes of the pages of spans when they leave one set for another: of each node of a span,
-- how many pages lie on it, and how many of them lie elsewhere then
abbrev pub page_moves : (ℕ → Spot) → ℕ → ℕ → (ℕ → ℕ) → ℕ → List PageSpan → List ShareMove
page_moves spots old new room nodes spans = moves_over (moved_node old new) (stated_in spots)
    (gone_in spots (shift_of spots old new room).gone) nodes spans
