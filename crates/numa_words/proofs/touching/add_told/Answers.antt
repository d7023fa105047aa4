use Rattle.numa_words.proofs.Touched.{told-more}
use Rattle.numa_words.specs.Touching.{nobody, spots_lent}
use Rattle.numa_words.proofs.touching.add_told.Goals as goal

pub returns : goal.returns
returns c = λ told so.
    told-more c.args.touched.now c.add_counts_if.new.said c.add_lying.new.lying
    (nobody c.args.space.now.machine.nodes) c.args.there.now (spots_lent c.args.places) told so
    c.add_counts_if.ensures.on c.add_counts_if.ensures.exhausted c.in-Ok.ensures
