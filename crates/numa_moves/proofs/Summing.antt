-- Sums of shares, one share more; sums of processes, one process more.
use Rattle.std.proofs.Common.{◌≡◌, ◌∙◌, ℕ, ◌+◌, ◌<◌, ◌++◌, List, [], ◌∷◌, Bool, true, false, refl}
use Rattle.std.proofs.Common.{ap, ap₂, arith, get_or, length, subst, sym, take}
use Rattle.std.specs.Prelude.{◌==◌, fold, if◌then◌else◌, slice_index}
use Rattle.std.proofs.lemmas.List.{take_more}
use Rattle.numa_host_pages.specs.Summed.{both_pages}
use Rattle.numa_moves.specs.Sums.{AddsEach, AddsMove, AddsSum, HasNone, IsSumOf, IsWhole}
use Rattle.numa_moves.specs.Sums.{flow_of, gone_of, idle_of, lacking_of, pages_from, pages_of}
use Rattle.numa_moves.specs.Sums.{target_in, there_of, with_flow, with_pages}
use Rattle.numa_moves.specs.declared.moving.ShareMove.{ShareMove}
use Rattle.numa_moves.specs.declared.sums.AllMoves.{AllMoves}
use Rattle.numa_moves.specs.declared.sums.MoveSum.{MoveSum}

-- ---- one share more

pages-more : (count : ShareMove → ℕ) (moves : List ShareMove) (move : ShareMove)
    → pages_of count (moves ++ move ∷ []) ≡ both_pages (pages_of count moves) (count move)
pages-more count [] move = omega arith
pages-more count (m ∷ moves) move = omega (arith, pages-more count moves move)

-- of a node, which the first share is on or not, and the last
from-first : (last : Bool) (pages : ℕ)
    → (if last then both_pages pages 0 else 0) ≡ (if last then both_pages 0 pages else 0)
from-first true pages = omega arith
from-first false pages = refl

from-next : (first last : Bool) (one pages so more : ℕ)
    → more ≡ (if last then both_pages so pages else so)
    → (if first then both_pages one more else more)
    ≡ (if last then both_pages (if first then both_pages one so else so) pages
    else if first then both_pages one so else so)
from-next true true one pages so more is = omega (arith, is)
from-next true false one pages so more is = ap (λ (k : ℕ). both_pages one k) is
from-next false true one pages so more is = is
from-next false false one pages so more is = is

from-more : (count : ShareMove → ℕ) (node : ℕ) (moves : List ShareMove) (move : ShareMove)
    → pages_from count node (moves ++ move ∷ [])
    ≡ (if move.share.node == node then both_pages (pages_from count node moves) (count move)
    else pages_from count node moves)
from-more count node [] move = from-first (move.share.node == node) (count move)
from-more count node (m ∷ moves) move =
    from-next (m.share.node == node) (move.share.node == node) (count m) (count move)
    (pages_from count node moves) (pages_from count node (moves ++ move ∷ []))
    (from-more count node moves move)

target-more : (node : ℕ) (moves : List ShareMove) (move : ShareMove) (to : ℕ)
    → target_in node (moves ++ move ∷ []) to
    ≡ (if move.share.node == node then move.to else target_in node moves to)
target-more node [] move to = refl
target-more node (m ∷ moves) move to =
    target-more node moves move (if m.share.node == node then m.to else to)

sum-more : (moves : List ShareMove) (move : ShareMove) (old new : MoveSum) → IsSumOf moves old
    → AddsMove old move new → IsSumOf (moves ++ move ∷ []) new
sum-more moves move old new so adds = record {
  placed = adds.placed ∙ ap (λ (p : ℕ). both_pages p move.share.there) so.placed
      ∙ sym (pages-more there_of moves move);
  moved = adds.moved ∙ ap (λ (p : ℕ). both_pages p move.moved) so.moved
      ∙ sym (pages-more gone_of moves move);
  gone = λ node small. adds.gone node small
      ∙ ap (λ (p : ℕ). if move.share.node == node then both_pages p move.moved else p)
      (so.gone node small)
      ∙ sym (from-more gone_of node moves move);
  to = λ node small. adds.to node small
      ∙ ap (λ (t : ℕ). if move.share.node == node then move.to else t) (so.to node small)
      ∙ sym (target-more node moves move 0);
  stays = λ node small. adds.stays node small
      ∙ ap (λ (p : ℕ). if move.share.node == node then both_pages p (idle_of move) else p)
      (so.stays node small)
      ∙ sym (from-more idle_of node moves move);
  lacking = λ node small. adds.lacking node small
      ∙ ap (λ (p : ℕ). if move.share.node == node then both_pages p (lacking_of move) else p)
      (so.lacking node small)
      ∙ sym (from-more lacking_of node moves move);
}

pub sum-next : (moves : List ShareMove) (k : ℕ) (d : ShareMove) (old new : MoveSum)
    → k < length {A = ShareMove} moves → IsSumOf (take k moves) old
    → AddsMove old (get_or moves k d) new → IsSumOf (take (k + 1) moves) new
sum-next moves k d old new inside so adds =
    subst (λ (l : List ShareMove). IsSumOf l new) (sym (take_more moves k d inside))
    (sum-more (take k moves) (get_or moves k d) old new so adds)

pub sum-none : (sum : MoveSum) → HasNone 256 sum
    → ((node : ℕ) → node < 256 → slice_index sum.to node ≡ 0) → IsSumOf [] sum
sum-none sum none to = record {
  placed = none.placed;
  moved = none.moved;
  gone = λ node small. (none.at node small small).gone;
  to = to;
  stays = λ node small. (none.at node small small).stays;
  lacking = λ node small. (none.at node small small).lacking;
}

-- ---- one process more

fold-both : (f : ℕ → List ShareMove → ℕ) (start : ℕ) (xs ys : List (List ShareMove))
    → fold f start (xs ++ ys) ≡ fold f (fold f start xs) ys
fold-both f start [] ys = refl
fold-both f start (x ∷ xs) ys = fold-both f (f start x) xs ys

-- first some, then others
then-more : (f : ℕ → List ShareMove → ℕ) (xs ys : List (List ShareMove)) (old mid new : ℕ)
    → mid ≡ fold f old xs → new ≡ fold f mid ys → new ≡ fold f old (xs ++ ys)
then-more f xs ys old mid new one other =
    other ∙ ap (λ (p : ℕ). fold f p ys) one ∙ sym (fold-both f old xs ys)

pub each-append : (xs ys : List (List ShareMove)) (old mid new : AllMoves) → AddsEach old xs mid
    → AddsEach mid ys new → AddsEach old (xs ++ ys) new
each-append xs ys old mid new one other = record {
  placed = then-more (with_pages (pages_of there_of)) xs ys old.placed mid.placed new.placed
      one.placed other.placed;
  moved = then-more (with_pages (pages_of gone_of)) xs ys old.moved mid.moved new.moved one.moved
      other.moved;
  flows = λ from to f t.
      then-more (with_flow from to) xs ys (flow_of old from to) (flow_of mid from to)
      (flow_of new from to) (one.flows from to f t) (other.flows from to f t);
  stays = λ node small.
      then-more (with_pages (pages_from idle_of node)) xs ys (slice_index old.stays node)
      (slice_index mid.stays node) (slice_index new.stays node) (one.stays node small)
      (other.stays node small);
  lacking = λ node small.
      then-more (with_pages (pages_from lacking_of node)) xs ys (slice_index old.lacking node)
      (slice_index mid.lacking node) (slice_index new.lacking node) (one.lacking node small)
      (other.lacking node small);
  whole = other.whole;
}

pub each-none : (all : AllMoves) → IsWhole all → AddsEach all [] all
each-none all whole = record {
  placed = refl;
  moved = refl;
  flows = λ from to f t. refl;
  stays = λ node small. refl;
  lacking = λ node small. refl;
  whole = whole;
}

pub each-one : (moves : List ShareMove) (sum : MoveSum) (old new : AllMoves) → IsSumOf moves sum
    → AddsSum old sum new → AddsEach old (moves ∷ []) new
each-one moves sum old new is adds = record {
  placed = adds.placed ∙ ap (λ (p : ℕ). both_pages old.placed p) is.placed;
  moved = adds.moved ∙ ap (λ (p : ℕ). both_pages old.moved p) is.moved;
  flows = λ from to f t. adds.flows from to f t
      ∙ ap₂ (λ (go : ℕ) (gone : ℕ). if go == to then both_pages (flow_of old from to) gone
      else flow_of old from to) (is.to from f) (is.gone from f);
  stays = λ node small. adds.stays node small
      ∙ ap (λ (p : ℕ). both_pages (slice_index old.stays node) p) (is.stays node small);
  lacking = λ node small. adds.lacking node small
      ∙ ap (λ (p : ℕ). both_pages (slice_index old.lacking node) p) (is.lacking node small);
  whole = adds.whole;
}
