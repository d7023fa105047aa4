use Rattle.std.proofs.Common.{ap, ◌∙◌}
use Rattle.numa_ranges.specs.Maps.{changed_page}
use Rattle.numa_ranges.specs.Runs.{page_at}
use Rattle.numa_space.specs.Edits.{PageRanges}
use Rattle.numa_space.specs.Steps.{policy_after}
use Rattle.numa_space.proofs.page_ranges.Pages.rebind.Goals as goal

pub update_all-requires-clause-function : goal.update_all-requires-clause-function
update_all-requires-clause-function c = (
  policy_after c.args.rules c.args.old.now c.args.new.now,
  λ x r h. h.says.met
      ∙ ap (policy_after _ _ _) h.shows,
)

pub returns-clause-pages : goal.returns-clause-pages
returns-clause-pages c page =
    c.update_all.ensures.pages (policy_after c.args.rules c.args.old.now c.args.new.now)
    (λ x r h. h.says.met ∙ ap (policy_after _ _ _) h.shows) page
    ∙ ap (λ (s : PageRanges). changed_page (policy_after c.args.rules c.args.old.now c.args.new.now)
    (page_at s.runs page)) c.self.view_is
