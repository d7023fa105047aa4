-- Sums of what becomes of pages: of a span, of a process, of all processes. No number is told above
-- 2^64 - 1.
use Rattle.std.specs.Prelude.{◌≡◌, ℕ, ◌+◌, ◌-◌, ◌*◌, ◌<◌, ◌≤◌, ◌==◌, length, if◌then◌else◌}
use Rattle.std.specs.Prelude.{List, [], ◌∷◌, Option, Some, None, fold, slice_get, slice_index}
use Rattle.numa_host_pages.specs.Summed.{both_pages}
use Rattle.numa_moves.specs.declared.holding.HoldingMoves.{HoldingMoves}
use Rattle.numa_moves.specs.declared.moving.ShareMove.{ShareMove}
use Rattle.numa_moves.specs.declared.sums.AllMoves.{AllMoves}
use Rattle.numa_moves.specs.declared.sums.MoveSum.{MoveSum}

-- so many pages are added to those of a node
abbrev pub added_at : ℕ → ℕ → (ℕ → ℕ) → ℕ → ℕ
added_at node pages counts other =
    if node == other then both_pages (counts other) pages else counts other

-- ---- one process

-- the pages of a share that stay on its node
abbrev pub stayed_of : ShareMove → ℕ
stayed_of move = move.share.there - move.moved

-- those that need not go, and those that find no room
abbrev pub idle_of : ShareMove → ℕ
idle_of move = if move.to == move.share.node then stayed_of move else 0

abbrev pub lacking_of : ShareMove → ℕ
lacking_of move = if move.to == move.share.node then 0 else stayed_of move

-- what became of a share was added; pages of its node go where it says
pub record AddsMove (old : MoveSum) (move : ShareMove) (new : MoveSum) : Type 0 where
  pub placed : new.placed ≡ both_pages old.placed move.share.there
  pub moved : new.moved ≡ both_pages old.moved move.moved
  pub gone : (node : ℕ) → node < 256 → slice_index new.gone node
      ≡ added_at move.share.node move.moved (slice_index old.gone) node
  pub to : (node : ℕ) → node < 256 → slice_index new.to node
      ≡ (if move.share.node == node then move.to else slice_index old.to node)
  pub stays : (node : ℕ) → node < 256 → slice_index new.stays node
      ≡ added_at move.share.node (idle_of move) (slice_index old.stays) node
  pub lacking : (node : ℕ) → node < 256 → slice_index new.lacking node
      ≡ added_at move.share.node (lacking_of move) (slice_index old.lacking) node

-- no page of a node is counted
pub record HasNoneAt (node : ℕ) (sum : MoveSum) : Type 0 where
  pub gone : slice_index sum.gone node ≡ 0
  pub stays : slice_index sum.stays node ≡ 0
  pub lacking : slice_index sum.lacking node ≡ 0

-- no page of so many nodes is counted
pub record HasNone (nodes : ℕ) (sum : MoveSum) : Type 0 where
  pub placed : sum.placed ≡ 0
  pub moved : sum.moved ≡ 0
  pub at : (node : ℕ) → node < nodes → node < 256 → HasNoneAt node sum

-- how many pages shares have together, each so many
abbrev pub pages_of : (ShareMove → ℕ) → List ShareMove → ℕ
pages_of count [] = 0
pages_of count (move ∷ moves) = both_pages (count move) (pages_of count moves)

-- those of one node
abbrev pub pages_from : (ShareMove → ℕ) → ℕ → List ShareMove → ℕ
pages_from count node [] = 0
pages_from count node (move ∷ moves) = if move.share.node == node
    then both_pages (count move) (pages_from count node moves) else pages_from count node moves

-- where the pages of a node go: where its last share says, if it has one
abbrev pub target_in : ℕ → List ShareMove → ℕ → ℕ
target_in node [] to = to
target_in node (move ∷ moves) to =
    target_in node moves (if move.share.node == node then move.to else to)

-- how many pages shares have, and how many of them go
abbrev pub there_of : ShareMove → ℕ
there_of move = move.share.there

abbrev pub gone_of : ShareMove → ℕ
gone_of move = move.moved

-- what becomes of the shares of a process, in all and node by node
pub record IsSumOf (moves : List ShareMove) (sum : MoveSum) : Type 0 where
  pub placed : sum.placed ≡ pages_of there_of moves
  pub moved : sum.moved ≡ pages_of gone_of moves
  pub gone : (node : ℕ) → node < 256 → slice_index sum.gone node ≡ pages_from gone_of node moves
  pub to : (node : ℕ) → node < 256 → slice_index sum.to node ≡ target_in node moves 0
  pub stays : (node : ℕ) → node < 256 → slice_index sum.stays node ≡ pages_from idle_of node moves
  pub lacking : (node : ℕ) → node < 256
      → slice_index sum.lacking node ≡ pages_from lacking_of node moves

-- the pages of a node were added to it; they go where those that were added go, if any do
pub record MergesAt (old other : MoveSum) (node : ℕ) (new : MoveSum) : Type 0 where
  pub gone : slice_index new.gone node
      ≡ both_pages (slice_index old.gone node) (slice_index other.gone node)
  pub to : slice_index new.to node
      ≡ (if slice_index other.gone node == 0 then slice_index old.to node
      else slice_index other.to node)
  pub stays : slice_index new.stays node
      ≡ both_pages (slice_index old.stays node) (slice_index other.stays node)
  pub lacking : slice_index new.lacking node
      ≡ both_pages (slice_index old.lacking node) (slice_index other.lacking node)

-- a node is as it was
pub record StaysAt (old : MoveSum) (node : ℕ) (new : MoveSum) : Type 0 where
  pub gone : slice_index new.gone node ≡ slice_index old.gone node
  pub to : slice_index new.to node ≡ slice_index old.to node
  pub stays : slice_index new.stays node ≡ slice_index old.stays node
  pub lacking : slice_index new.lacking node ≡ slice_index old.lacking node

-- the pages of so many nodes of another sum were added
pub record AddsNodes (old other : MoveSum) (nodes : ℕ) (new : MoveSum) : Type 0 where
  pub placed : new.placed ≡ both_pages old.placed other.placed
  pub moved : new.moved ≡ both_pages old.moved other.moved
  pub merged : (node : ℕ) → node < nodes → node < 256 → MergesAt old other node new
  pub apart : (node : ℕ) → nodes ≤ node → node < 256 → StaysAt old node new

-- how many pages lie on a node before, and on another, or the same, after
abbrev pub between_in : MoveSum → ℕ → ℕ → ℕ
between_in sum from to =
    if from == to then both_pages (slice_index sum.stays from) (slice_index sum.lacking from)
    else if slice_index sum.to from == to then slice_index sum.gone from else 0

-- ---- all processes

-- how many pages go from a node to another
abbrev pub flow_of : AllMoves → ℕ → ℕ → ℕ
flow_of all from to = slice_index all.table.items (from * 256 + to)

-- there is an entry for each pair of nodes
abbrev pub IsWhole : AllMoves → Type 0
IsWhole all = length all.table.items ≡ 65536

-- a process was added, pair by pair of nodes
pub record AddsSum (old : AllMoves) (sum : MoveSum) (new : AllMoves) : Type 0 where
  pub placed : new.placed ≡ both_pages old.placed sum.placed
  pub moved : new.moved ≡ both_pages old.moved sum.moved
  pub flows : (from to : ℕ) → from < 256 → to < 256 → flow_of new from to
      ≡ added_at (slice_index sum.to from) (slice_index sum.gone from) (flow_of old from) to
  pub stays : (node : ℕ) → node < 256 → slice_index new.stays node
      ≡ both_pages (slice_index old.stays node) (slice_index sum.stays node)
  pub lacking : (node : ℕ) → node < 256 → slice_index new.lacking node
      ≡ both_pages (slice_index old.lacking node) (slice_index sum.lacking node)
  pub whole : IsWhole new

-- no page is counted
pub record IsNone (all : AllMoves) : Type 0 where
  pub placed : all.placed ≡ 0
  pub moved : all.moved ≡ 0
  pub flows : (from to : ℕ) → from < 256 → to < 256 → flow_of all from to ≡ 0
  pub stays : (node : ℕ) → node < 256 → slice_index all.stays node ≡ 0
  pub lacking : (node : ℕ) → node < 256 → slice_index all.lacking node ≡ 0
  pub whole : IsWhole all

-- the moves of the process at a place, if there is one
abbrev pub moves_or : Option HoldingMoves → List (List ShareMove)
moves_or None = []
moves_or (Some told) = told.moves.items ∷ []

abbrev pub moves_at : List HoldingMoves → ℕ → List (List ShareMove)
moves_at told place = moves_or (slice_get told place)

-- so many pages, and those of one more process
abbrev pub with_pages : (List ShareMove → ℕ) → ℕ → List ShareMove → ℕ
with_pages count pages moves = both_pages pages (count moves)

-- of a process, those that go from a node to another
abbrev pub with_flow : ℕ → ℕ → ℕ → List ShareMove → ℕ
with_flow from to pages moves = if target_in from moves 0 == to
    then both_pages pages (pages_from gone_of from moves) else pages

-- processes were added, one after the other, pair by pair of nodes
pub record AddsEach (old : AllMoves) (each : List (List ShareMove)) (new : AllMoves) : Type 0 where
  pub placed : new.placed ≡ fold (with_pages (pages_of there_of)) old.placed each
  pub moved : new.moved ≡ fold (with_pages (pages_of gone_of)) old.moved each
  pub flows : (from to : ℕ) → from < 256 → to < 256
      → flow_of new from to ≡ fold (with_flow from to) (flow_of old from to) each
  pub stays : (node : ℕ) → node < 256 → slice_index new.stays node
      ≡ fold (with_pages (pages_from idle_of node)) (slice_index old.stays node) each
  pub lacking : (node : ℕ) → node < 256 → slice_index new.lacking node
      ≡ fold (with_pages (pages_from lacking_of node)) (slice_index old.lacking node) each
  pub whole : IsWhole new
