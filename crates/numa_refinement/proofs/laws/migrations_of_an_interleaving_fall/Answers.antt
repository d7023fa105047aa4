use Rattle.numa_core.proofs.Newest.{newest}
use Rattle.numa_refinement.proofs.Among.{falls-on}
use Rattle.numa_refinement.proofs.laws.migrations_of_an_interleaving_fall.Goals as goal

pub returns-clause-falls : goal.returns-clause-falls
returns-clause-falls c s w few first pools done later version node play none before after gained =
    falls-on s w few first pools done later version node play none before after gained

pub returns-clause-may : goal.returns-clause-may
returns-clause-may c s past w node legal low idle some =
    let latest = newest s past legal in
    record {
      there = low;
      idle = idle;
      some = some;
      published = latest.there;
      not_older = latest.lasts w;
    }
