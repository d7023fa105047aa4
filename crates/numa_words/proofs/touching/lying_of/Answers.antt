use Rattle.std.specs.Option.{option_copied}
use Rattle.numa_placed.specs.Laid.{spot_at}
use Rattle.numa_words.specs.Touching.{nobody, spots_lent, spots_there}
use Rattle.numa_words.proofs.Touched.{so-beside}
use Rattle.numa_words.proofs.touching.lying_of.Goals as goal

pub returns : goal.returns
returns c =
    so-beside (nobody c.args.space.now.machine.nodes) (spots_lent c.args.places)
    c.state_if.new.lying (spot_at c.in-Ok.placed) (spots_there (option_copied c.args.there))
    c.in_default-state_if.ensures c.in-Ok.ensures
