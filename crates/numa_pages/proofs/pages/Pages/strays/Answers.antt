use Rattle.numa_pages.specs.Changes.{PagesState}
use Rattle.numa_pages.proofs.Needing.{strays-so}
use Rattle.numa_pages.proofs.pages.Pages.strays.Goals as goal

pub returns : goal.returns
returns c =
    rw (← c.self.view_is) (strays-so
    (record { core = c.self.inside.core; state = c.self.inside.state; huge = c.self.inside.huge })
    c.space-space.result.now c.new-none.result c.args.said.now c.has_astray.result
    c.huge_astray.result c.space-space.ensures.space c.new-none.ensures c.has_astray.ensures
    c.if-has_astray.false c.huge_astray.ensures)
