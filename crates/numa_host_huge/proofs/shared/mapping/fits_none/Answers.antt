use Rattle.std.proofs.Common.{◌≡◌, ◌≤◌, ◌+◌, None, arith, ap, not, sym, ◌∙◌}
use Rattle.numa_huge.proofs.Keeping.{fits-far, fits-is, fits-none}
use Rattle.numa_host_huge.proofs.Places.{has-huge-none}
use Rattle.numa_host_huge.proofs.shared.mapping.fits_none.Goals as goal

pub returns-then-pages-eq0 : goal.returns-then-pages-eq0
returns-then-pages-eq0 c =
    sym (fits-none (λ page. None) c.args.first c.args.pages c.if-pages-eq0.true)

pub returns-then-first-gt-MOST_PAGES : goal.returns-then-first-gt-MOST_PAGES
returns-then-first-gt-MOST_PAGES c =
    sym (fits-far (λ page. None) c.args.first c.args.pages
    (omega (arith, c.if-first-gt-MOST_PAGES.true)))

pub returns-then-pages-first : goal.returns-then-pages-first
returns-then-pages-first c =
    sym (fits-far (λ page. None) c.args.first c.args.pages (omega (arith, c.if-pages-first.true)))

pub returns : goal.returns
returns c = sym (fits-is (λ page. None) c.args.first c.args.pages c.if-pages-eq0.false
    (omega (arith, c.if-pages-first.false, c.if-first-gt-MOST_PAGES.false))
    ∙ ap not (has-huge-none c.args.first c.args.pages))
