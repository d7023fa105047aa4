use Rattle.std.proofs.Common.{◌≡◌, ℕ, false, true, refl, sym, subst, ap, ◌∙◌}
use Rattle.numa_huge.specs.Huge.{fits, huge_at, places_of}
use Rattle.numa_page_state.specs.Pooling.{mapped_first, mapped_pages}
use Rattle.numa_pages.specs.Changes.{PagesState}
use Rattle.numa_pages.specs.PoolCalls.{Lacking}
use Rattle.numa_pages.proofs.Mapped.{first-so, fitting-is, map-crowded}
use Rattle.numa_pages.proofs.pages.Pages.map_fitting.Goals as goal

pub map_plain-requires-clause-fits : goal.map_plain-requires-clause-fits
map_plain-requires-clause-fits c =
    rw (← c.self.view_is)
    (sym (λ i. fits (huge_at c.self.inside.huge.runs)
    (first-so c.args.said.now.start c.bytes.result c.bytes.ensures i) (c.requires.pages i))
    ∙ sym c.fits.ensures ∙ c.if-not-fits.true)

pub map_by-requires-clause-after : goal.map_by-requires-clause-after
map_by-requires-clause-after c =
    rw (← c.self.view_is) (fitting-is c.args.said.now (places_of c.self.inside.huge) _
    c.args.pages c.in-Ok.after
    (first-so c.args.said.now.start c.bytes.result c.bytes.ensures) c.requires.pages
    (sym c.fits.ensures ∙ c.if-not-fits.false) c.in-Ok.ensures.ok)

pub returns-in-Err : goal.returns-in-Err
returns-in-Err c =
    rw (← c.self.view_is) (map-crowded c.args.said.now
    (record { core = c.self.inside.core; state = c.self.inside.state; huge = c.self.inside.huge })
    _ c.args.pages c.in-Err.why
    (subst (Lacking false c.args.said.now) (sym c.self.view_is) c.requires.enough)
    (first-so c.args.said.now.start c.bytes.result c.bytes.ensures) c.requires.pages
    c.in-Err.ensures.err)
