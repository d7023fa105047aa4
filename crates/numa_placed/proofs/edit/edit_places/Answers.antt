use Rattle.std.proofs.Common.{◌∙◌, arith}
use Rattle.numa_placed.specs.Spots.{changed_spot, changed_spots}
use Rattle.numa_placed.specs.Turns.{spots_of}
use Rattle.numa_placed.proofs.Begun.{kept-short, stored-alike}
use Rattle.numa_placed.proofs.edit.edit_places.Goals as goal

pub returns-then-len-clause-edit : goal.returns-then-len-clause-edit
returns-then-len-clause-edit c =
    stored-alike (spots_of c.in-Ok.next)
    (changed_spots c.args.span.first c.args.span.pages (changed_spot c.args.span.change)
    (spots_of c.args.places.now)) c.args.places.now c.put_places.new.places c.put_places.result
    c.in-Ok.ensures.spots c.put_places.ensures.edit

pub returns-clause-stored : goal.returns-clause-stored
returns-clause-stored c = record {
  kept = c.in-Ok-change_places.ensures.kept;
  few = omega (
    arith,
    kept-short c.change_places.new.places c.iter.ensures.rising c.iter.ensures.maximal,
    c.in-Ok-change_places.ensures.few,
    c.len.ensures.runs,
    c.if-len.false,
  );
  limit = c.in-Ok-change_places.ensures.limit ∙ c.requires.stored.limit;
}
