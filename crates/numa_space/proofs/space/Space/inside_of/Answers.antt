use Rattle.std.proofs.Common.{◌≡◌, false, ap, sym, ◌∙◌}
use Rattle.numa_space.specs.Refusals.{inside_of}
use Rattle.numa_ranges.specs.Runs.{page_at}
use Rattle.numa_space.specs.Standing.{SpaceState}
use Rattle.numa_space.proofs.Aligned.{outside-aligned}
use Rattle.numa_space.proofs.Small.{outside-small}
use Rattle.numa_space.proofs.space.Space.inside_of.Goals as goal

pub returns-then-not-self : goal.returns-then-not-self
returns-then-not-self c =
    sym (outside-small (page_at c.self.inside.pages.runs c.args.page)
    (c.self.invariant.sizes c.if-not-self.true c.args.page))
    ∙ ap (λ (s : SpaceState). inside_of (page_at s.ranges c.args.page)) c.self.view_is

pub returns-then-page-eq0 : goal.returns-then-page-eq0
returns-then-page-eq0 c =
    sym (outside-aligned (page_at c.self.inside.pages.runs c.args.page)
    (c.self.invariant.aligned c.args.page c.if-page-eq0.true))
    ∙ ap (λ (s : SpaceState). inside_of (page_at s.ranges c.args.page)) c.self.view_is
