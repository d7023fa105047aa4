use Rattle.std.proofs.Common.{◌∙◌, ap}
use Rattle.numa_ranges.specs.Counts.{range_count}
use Rattle.numa_ranges.specs.Runs.{page_at}
use Rattle.numa_space.proofs.SameTest.{range_test-same}
use Rattle.numa_space.specs.Same.{same_record}
use Rattle.numa_space.specs.Edits.{PageRanges}
use Rattle.numa_space.proofs.page_ranges.Pages.len.Goals as goal

pub returns-clause-count : goal.returns-clause-count
returns-clause-count c =
    c.len.ensures.count ∙ ap (λ same. range_count same (page_at c.self.inside.map.runs))
    range_test-same ∙ ap (λ (s : PageRanges). range_count same_record (page_at s.runs))
    c.self.view_is
