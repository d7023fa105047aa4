use Rattle.std.proofs.Common.{◌↔◌, Bool, Option, Contains, subst}
use Rattle.numa_mode.specs.Policy.{PolicyRecord}
use Rattle.numa_ranges.specs.Counts.{IsRange}
use Rattle.numa_ranges.specs.Runs.{page_at}
use Rattle.numa_space.proofs.SameTest.{range_test-same}
use Rattle.numa_space.specs.Edits.{PageRanges}
use Rattle.numa_space.specs.Same.{same_record}
use Rattle.numa_space.proofs.page_ranges.Pages.iter.Goals as goal

pub returns-clause-ranges : goal.returns-clause-ranges
returns-clause-ranges c run =
    let P : (Option PolicyRecord → Option PolicyRecord → Bool) → Type 0 =
    λ same. Contains c.self.inside.map.runs run ↔ IsRange same (page_at c.self.inside.map.runs)
    run in
    let Q : PageRanges → Type 0 = λ s. Contains s.runs run
    ↔ IsRange same_record (page_at s.runs) run in
    subst Q c.self.view_is (subst P range_test-same (c.iter.ensures.ranges run))
