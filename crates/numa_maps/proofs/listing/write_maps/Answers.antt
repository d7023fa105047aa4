use Rattle.numa_lines.proofs.Adding.{said_still}
use Rattle.numa_maps.specs.Listing.{listing_in}
use Rattle.numa_maps.proofs.Listed.{listing-meaning}
use Rattle.numa_maps.proofs.listing.write_maps.Goals as goal

pub returns-in_default-clause-says : goal.returns-in_default-clause-says
returns-in_default-clause-says g c =
    said_still g.W.Write.contents c.args.output.now c.say_maps.new.output c.hand_over.new.self
    (listing_in c.args.space.now c.args.task c.args.resident.now) c.say_maps.ensures
    c.hand_over.ensures.says

pub returns-in_default-clause-meaning : goal.returns-in_default-clause-meaning
returns-in_default-clause-meaning g c history stands = listing-meaning c.args.space.now history
    c.args.task c.args.resident.now stands c.range_iter.ensures.rising
    (c.range_iter.ensures.meaning history stands)

pub returns-clause-says : goal.returns-clause-says
returns-clause-says g c =
    said_still g.W.Write.contents c.args.output.now c.say_maps.new.output c.hand_over.new.self
    (listing_in c.args.space.now c.args.task c.args.resident.now) c.say_maps.ensures
    c.hand_over.ensures.says

pub returns-clause-meaning : goal.returns-clause-meaning
returns-clause-meaning g c history stands = listing-meaning c.args.space.now history c.args.task
    c.args.resident.now stands c.range_iter.ensures.rising
    (c.range_iter.ensures.meaning history stands)
