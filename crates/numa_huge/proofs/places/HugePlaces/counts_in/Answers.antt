use Rattle.std.proofs.Common.{subst}
use Rattle.numa_huge.specs.Huge.{HugePlaced, huge_at}
use Rattle.numa_huge.specs.Tallies.{AreCounts}
use Rattle.numa_huge.proofs.places.HugePlaces.counts_in.Goals as goal

pub returns : goal.returns
returns c =
    subst (λ (p : HugePlaced). AreCounts c.counts_of.result (huge_at p.runs) c.args.first
    c.args.pages) c.self.view_is c.counts_of.ensures
