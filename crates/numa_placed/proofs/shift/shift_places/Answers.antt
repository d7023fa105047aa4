-- Where no page goes, the pages lie as they would once they went.
use Rattle.std.proofs.Common.{◌≡◌, ◌^◌, ◌∙◌, sym, arith}
use Rattle.numa_placed.specs.Moves.{IsTally, moved_node}
use Rattle.numa_placed.specs.Turns.{spots_of}
use Rattle.numa_placed.proofs.Owned.{nowhere-far}
use Rattle.numa_placed.proofs.Tallied.{none-moved}
use Rattle.numa_placed.proofs.shift.shift_places.Goals as goal

pub returns-then-told-eq0-clause-stored : goal.returns-then-told-eq0-clause-stored
returns-then-told-eq0-clause-stored c = c.requires.stored

pub returns-then-told-eq0-clause-moved : goal.returns-then-told-eq0-clause-moved
returns-then-told-eq0-clause-moved c =
    let places = c.args.places.now in
    let tally = c.tally_counts-told.ensures (spots_of places) c.count_each-counts.ensures.pages
    c.count_each-counts.ensures.nodes in
    record {
      pages = none-moved (moved_node c.args.old.now c.args.new.now) (spots_of places)
          (sym tally.moved ∙ c.if-told-eq0.true)
          (λ page far. nowhere-far places.nodes.items places.map.runs page c.iter.ensures.rising
          far);
      tally = tally;
    }

pub returns-clause-stored : goal.returns-clause-stored
returns-clause-stored c = record {
  kept = c.send_places.ensures.kept;
  few = omega (arith, c.send_places.ensures.few, c.requires.stored.few);
  limit = c.send_places.ensures.limit ∙ c.requires.stored.limit;
}

pub returns-clause-moved : goal.returns-clause-moved
returns-clause-moved c = record {
  pages = c.send_places.ensures.spots (moved_node c.args.old.now c.args.new.now)
      c.targets-targets.ensures;
  tally = c.tally_counts-told.ensures (spots_of c.args.places.now)
      c.count_each-counts.ensures.pages c.count_each-counts.ensures.nodes;
}
