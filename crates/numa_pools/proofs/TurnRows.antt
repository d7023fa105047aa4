-- Worked examples, reckoned by hand: turns, marks and surplus.
use Rattle.std.proofs.Common.{◌≡◌, Some, None, refl}
use Rattle.numa_pools.specs.Turns.{in_turn, on, ring, turn}
use Rattle.numa_pools.specs.Pools.{PoolCounts, freeing, freeing_one, giving_back, moving_one}
use Rattle.numa_pools.specs.Pools.{renewing}
use Rattle.numa_pools.specs.Pools.{refusing, most}
use Rattle.numa_pools.specs.Moves.{movable, moving}
use Rattle.numa_pools.specs.Resize.{node_refusal, resized, resized_node}
use Rattle.numa_pools.specs.declared.refusal.PoolRefusal.TheVariants.{NoSuchNode, Unsure}
use Rattle.numa_pools.proofs.Rows.{four, pools_with}

-- ---- turns

-- five pages on nodes 0, 1 and 3 from the mark 2 on: 3 0 1 3 0
five-turns : in_turn 5 11 2 (four 9 9 9 9) ≡ record { taken = four 2 1 0 2; mark = 1 }
unfolding in_turn on ring turn
five-turns = refl

-- a node without room is passed over: 2, 0, 2, 2; and the mark is behind the last one that took
passed-over : in_turn 4 15 1 (four 1 0 9 0) ≡ record { taken = four 1 0 3 0; mark = 3 }
unfolding in_turn on ring turn
passed-over = refl

-- more turns than room: the last to take was node 0, and the mark stays behind it
out-of-room : in_turn 9 15 3 (four 1 0 0 1) ≡ record { taken = four 1 0 0 1; mark = 1 }
unfolding in_turn on ring turn
out-of-room = refl

-- where none has room the mark goes to the next of the nodes, and without turns it stays
no-room : in_turn 2 3 2 (four 0 0 9 9) ≡ record { taken = four 0 0 0 0; mark = 0 }
unfolding in_turn on ring turn
no-room = refl

no-turns : in_turn 0 3 2 (four 9 9 9 9) ≡ record { taken = four 0 0 0 0; mark = 2 }
unfolding in_turn on ring turn
no-turns = refl

-- ---- fresh pages come only where the writer is allowed, and the mark passes over the other nodes

only-allowed : resized 15 5 3 (pools_with (four 0 0 0 0) (four 0 0 0 0) (four 0 0 0 0) 0 1 0)
    ≡ pools_with (four 1 0 2 0) (four 1 0 2 0) (four 0 0 0 0) 0 3 0
unfolding resized in_turn on ring turn
only-allowed = refl

-- ---- surplus

-- five pages on node 0 and four on 1, of which node 0's are used, but for one, and two are reserved
abbrev busy : PoolCounts
busy = pools_with (four 5 4 0 0) (four 1 4 0 0) (four 0 0 0 0) 2 1 0

-- `pool 0`: of five free pages three go, in turn 0 1 1; then six more are too many, and become
-- surplus in turn 2 (which has none), 3, 0 1 0 1 0 0
shrunk : resized 15 15 0 busy ≡ pools_with (four 4 2 0 0) (four 0 2 0 0) (four 4 2 0 0) 2 1 1
unfolding resized in_turn on ring turn
shrunk = refl

abbrev surplus_busy : PoolCounts
surplus_busy = pools_with (four 4 2 0 0) (four 0 2 0 0) (four 4 2 0 0) 2 1 1

-- a used page of node 0 that becomes free ends
ended : freeing surplus_busy 0 1
    ≡ pools_with (four 3 2 0 0) (four 0 2 0 0) (four 3 2 0 0) 2 1 1
unfolding freeing_one
ended = refl

-- two reservations given back end two free surplus pages
given-back : giving_back surplus_busy 2
    ≡ pools_with (four 4 0 0 0) (four 0 0 0 0) (four 4 0 0 0) 0 1 2
unfolding in_turn on ring turn
given-back = refl

-- `pool 3` lets three surplus pages last, in turn from node 1 on: 1 0 1
lasting-again : resized 15 15 3 surplus_busy
    ≡ pools_with (four 4 2 0 0) (four 0 2 0 0) (four 3 0 0 0) 2 2 1
unfolding resized in_turn on ring turn
lasting-again = refl

-- a mapping that finds too few free pages on its nodes ends as many free surplus pages
refused-ends : refusing (pools_with (four 2 3 0 0) (four 2 3 0 0) (four 1 1 0 0) 0 0 1) 3
    ≡ pools_with (four 1 2 0 0) (four 1 2 0 0) (four 0 0 0 0) 0 0 1
unfolding in_turn on ring turn
refused-ends = refl

-- a page that moves where none is free takes its surplus along
surplus-moves : moving_one (pools_with (four 2 0 0 0) (four 0 0 0 0) (four 1 0 0 0) 0 0 0) 0 1
    ≡ pools_with (four 1 1 0 0) (four 0 0 0 0) (four 0 1 0 0) 0 0 0
unfolding moving_one freeing_one
surplus-moves = refl

-- a reserved page doesn't serve a move
reserved-stays : moving_one (pools_with (four 1 1 0 0) (four 0 1 0 0) (four 0 0 0 0) 1 0 0) 0 1
    ≡ pools_with (four 0 2 0 0) (four 0 1 0 0) (four 0 0 0 0) 1 0 0
unfolding moving_one freeing_one
reserved-stays = refl

-- a page that moves to its own node: a free page serves, and the old one ends by the node's surplus
-- (`mbind .. local move` on node 0, with two used pages of which one was unmapped, and one surplus)
renewed-ends : renewing (pools_with (four 2 1 0 0) (four 1 0 0 0) (four 1 0 0 0) 0 1 0) 0
    ≡ pools_with (four 1 1 0 0) (four 0 0 0 0) (four 0 0 0 0) 0 1 0
unfolding renewing freeing_one
renewed-ends = refl

-- without surplus nothing is to be seen
renewed-same : renewing (pools_with (four 2 1 0 0) (four 1 0 0 0) (four 0 1 0 0) 0 1 0) 0
    ≡ pools_with (four 2 1 0 0) (four 1 0 0 0) (four 0 1 0 0) 0 1 0
unfolding renewing freeing_one
renewed-same = refl

-- a reserved page doesn't serve
renewed-not : renewing (pools_with (four 2 1 0 0) (four 1 0 0 0) (four 1 0 0 0) 1 1 0) 0
    ≡ pools_with (four 2 1 0 0) (four 1 0 0 0) (four 1 0 0 0) 1 1 0
unfolding renewing freeing_one
renewed-not = refl

-- of three pages one is served, and ends the node's surplus page: then all free ones are reserved,
-- and two pages of the total change nodes
abbrev crowded : PoolCounts
crowded = pools_with (four 5 2 0 0) (four 0 2 0 0) (four 1 0 0 0) 1 0 0

served-and-carried : moving crowded 0 1 3
    ≡ pools_with (four 2 4 0 0) (four 0 1 0 0) (four 0 0 0 0) 1 0 0
unfolding moving_one freeing_one
served-and-carried = refl

three-moved : movable crowded 0 1 3 ≡ 3
unfolding moving_one freeing_one
three-moved = refl

-- a node that is full takes a page by a free one alone
only-one : movable (pools_with (four 5 most 0 0) (four 0 1 0 0) (four 0 0 0 0) 0 0 0) 0 1 2 ≡ 1
unfolding moving_one freeing_one
only-one = refl

-- ---- numbers below nothing

-- node 0 has one page and two surplus ones: whatever is written is unsure
negative : node_refusal 4 (pools_with (four 1 5 0 0) (four 0 5 0 0) (four 2 0 0 0) 0 0 0) 0 7
    ≡ Some Unsure
negative = refl

-- node 1's lasting pages are more than all, by node 0's one below none: so is whatever is written
others-negative : node_refusal 4 (pools_with (four 1 5 0 0) (four 0 5 0 0) (four 2 0 0 0) 0 0 0) 1 0
    ≡ Some Unsure
others-negative = refl

others-negative-still : node_refusal 4
    (pools_with (four 1 5 0 0) (four 0 5 0 0) (four 2 0 0 0) 0 0 0) 1 9
    ≡ Some Unsure
others-negative-still = refl

others-enough : node_refusal 4 (pools_with (four 2 5 0 0) (four 0 5 0 0) (four 2 0 0 0) 0 0 0) 1 0
    ≡ None
others-enough = refl

no-such_node : node_refusal 4 (pools_with (four 1 5 0 0) (four 0 5 0 0) (four 0 0 0 0) 0 0 0) 4 1
    ≡ Some NoSuchNode
no-such_node = refl

-- ---- a node without memory: nodes 0, 1 and 3 have some, and `pool 2 1` comes before `pool 1`

abbrev gap : PoolCounts
gap = record {
  memory = 11;
  total = four 0 0 0 0;
  free = four 0 0 0 0;
  surplus = four 0 0 0 0;
  reserved = 0;
  grow = 0;
  shrink = 0;
}

gap-accepts : node_refusal 4 gap 2 1 ≡ None
gap-accepts = refl

-- no page comes, but the next one in turn is behind the node
abbrev gap_tried : PoolCounts
gap_tried = record gap { grow = 2 }

gap-tries : resized_node 2 11 1 gap ≡ gap_tried
unfolding resized in_turn on ring turn
gap-tries = refl

gap-then : resized 11 11 1 gap_tried
    ≡ record gap { total = four 0 0 0 1; free = four 0 0 0 1; grow = 0 }
unfolding resized in_turn on ring turn
gap-then = refl
