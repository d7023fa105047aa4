use Rattle.std.proofs.Common.{◌≡◌, ◌&&◌, not, true, Bool, ap, sym, ◌∙◌}
use Rattle.numa_ranges.specs.Runs.{page_at}
use Rattle.numa_space.specs.Refusals.{lacks_pages, parts_pages}
use Rattle.numa_space.specs.Same.{same_record}
use Rattle.numa_space.specs.Standing.{SpaceState}
use Rattle.numa_space.proofs.space.Space.parts_bound.Goals as goal

pub returns-then-parts_other : goal.returns-then-parts_other
returns-then-parts_other c =
    let parted : parts_pages (same_record c.args.policy.now) (page_at c.args.self.now.ranges)
    c.args.first c.args.pages ≡ true = sym c.parts_other.ensures ∙ c.if-parts_other.true in
    ap not (c.lacks_pages.ensures
    ∙ ap (λ (s : SpaceState). lacks_pages c.args.passes_holes (page_at s.ranges) c.args.first
    c.args.pages) c.self.view_is)
    ∙ ap (λ (parts : Bool). parts && not (lacks_pages c.args.passes_holes
    (page_at c.args.self.now.ranges) c.args.first c.args.pages)) (sym parted)
