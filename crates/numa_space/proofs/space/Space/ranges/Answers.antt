use Rattle.std.proofs.Common.{◌≡◌, ap, ◌∙◌}
use Rattle.numa_ranges.specs.Counts.{range_count}
use Rattle.numa_ranges.specs.Runs.{page_at}
use Rattle.numa_space.specs.Pages.{page_in}
use Rattle.numa_space.specs.Same.{same_record}
use Rattle.numa_space.specs.Standing.{SpaceState}
use Rattle.numa_space.proofs.space.Space.ranges.Goals as goal

pub returns-clause-meaning : goal.returns-clause-meaning
returns-clause-meaning c history stands =
    let whole : page_at c.args.self.now.ranges ≡ page_in c.args.self.now.machine history =
    λ i page. stands.pages page i in
    c.len.ensures.count ∙ ap (λ (s : SpaceState). range_count same_record (page_at s.ranges))
    c.self.view_is ∙ ap (λ at. range_count same_record at) whole
