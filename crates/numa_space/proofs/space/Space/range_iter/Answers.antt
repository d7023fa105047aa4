use Rattle.std.proofs.Common.{◌≡◌, ◌↔◌, Contains, subst}
use Rattle.numa_ranges.specs.Counts.{IsRange}
use Rattle.numa_ranges.specs.Runs.{page_at}
use Rattle.numa_space.specs.Pages.{page_in}
use Rattle.numa_space.specs.Refusals.{PageMap}
use Rattle.numa_space.specs.Same.{same_record}
use Rattle.numa_space.specs.Standing.{SpaceState}
use Rattle.numa_space.proofs.space.Space.range_iter.Goals as goal

pub returns-clause-ranges : goal.returns-clause-ranges
returns-clause-ranges c run =
    let P : SpaceState → Type 0 = λ s. Contains s.ranges run
    ↔ IsRange same_record (page_at s.ranges) run in
    subst P c.self.view_is (c.iter.ensures.ranges run)

pub returns-clause-meaning : goal.returns-clause-meaning
returns-clause-meaning c history stands run =
    let P : SpaceState → Type 0 = λ s. Contains s.ranges run
    ↔ IsRange same_record (page_at s.ranges) run in
    let Q : PageMap → Type 0 = λ at. Contains c.args.self.now.ranges run
    ↔ IsRange same_record at run in
    let whole : page_at c.args.self.now.ranges ≡ page_in c.args.self.now.machine history =
    λ i page. stands.pages page i in
    subst Q whole (subst P c.self.view_is (c.iter.ensures.ranges run))
