use Rattle.std.proofs.Common.{◌≡◌, ◌+◌, ◌-◌, ◌<◌, ◌%◌, ℕ, List, ap, arith, refl, slice_index, subst}
use Rattle.numa_placed.specs.Turns.{pages_in_turn, spots_of, turn_node}
use Rattle.numa_placed.specs.Standing.{Sends}
use Rattle.numa_placed.specs.declared.bind.Walk.{Walk}
use Rattle.numa_placed.specs.declared.spot.Spot.TheVariants.{Nowhere}
use Rattle.numa_placed.proofs.Sending.{all}
use Rattle.numa_placed.proofs.Turning.{count_to, sends-turns}
use Rattle.numa_placed.proofs.in_turn.fill_turn.Goals as goal

pub add_turn-requires-clause-room : goal.add_turn-requires-clause-room
add_turn-requires-clause-room c node small =
    omega (arith, c.nothing-counts.ensures node small, c.requires.within)

pub returns-clause-sent : goal.returns-clause-sent
returns-clause-sent c nodes found t =
    let list = c.args.places.now.nodes.items in
    let turn = c.args.turn in
    let page = c.args.page in
    let n = c.args.end - c.args.page in
    let heads : ℕ → ℕ = turn_node list turn in
    let old = spots_of c.args.places.now in
    let new = spots_of c.turn_places.new.places in
    let walk = c.args.walk.now in
    let more : Walk = record {
      rooms = c.less_rooms-left.result;
      told = record { moved = walk.told.moved + n; left = walk.told.left };
    } in
    let at : page + n ≡ c.args.end = omega (arith, c.requires.rises) in
    let bytes : (place : ℕ) → slice_index list place < 256 =
    subst (λ (l : List ℕ). (place : ℕ) → slice_index l place < 256) c.deref.ensures.value
    c.look.ensures in
    let same : (node : ℕ) → pages_in_turn c.deref-2.result.now turn node page n
    ≡ pages_in_turn list turn node page n =
    λ node. ap (λ (l : List ℕ). pages_in_turn l turn node page n) c.deref-2.ensures.value in
    let counts : (node : ℕ) → node < 256 → slice_index c.add_turn.new.counts node
    ≡ count_to heads page node n =
    λ node small. omega (
      arith,
      c.add_turn.ensures node small,
      c.nothing-counts.ensures node small,
      same node,
    ) in
    subst (λ (e : ℕ). Sends all nodes Nowhere page e old new walk more) at
    (sends-turns nodes heads page n old new walk more
    (λ room are p low high. found room are p low (omega (arith, high, at)))
    (λ p low high. bytes (turn.from + p % turn.count))
    (λ node small. omega (
      arith,
      counts node small,
      c.have_room.ensures c.if-not-have_room.false node small,
    ))
    c.less_rooms-left.ensures.most c.in-Ok.ensures.spots
    (λ room are. c.less_rooms-left.ensures.rooms room (λ node. count_to heads page node n) are
    counts) refl refl)
