use Rattle.std.proofs.Common.{ℕ, Option, None, Some, sym, ap, refl, ◌∙◌}
use Rattle.numa_huge.specs.Huge.{fits}
use Rattle.numa_huge.specs.declared.spot.HugeSpot.{HugeSpot}
use Rattle.numa_host_huge.proofs.shared.HostHuge.fits.Goals as goal

pub returns-in-Some-clause-kept : goal.returns-in-Some-clause-kept
returns-in-Some-clause-kept c =
    c.fits.ensures ∙ ap (λ (spots : ℕ → Option HugeSpot). fits spots c.args.first c.args.pages)
    (sym c.in-Some.ensures.spots)

pub returns-in-Some-clause-fits : goal.returns-in-Some-clause-fits
returns-in-Some-clause-fits c = λ at lies.
    let has = c.in-Some.ensures.home at lies in
    rw has.1 (c.fits.ensures
    ∙ ap (λ (spots : ℕ → Option HugeSpot). fits spots c.args.first c.args.pages)
    (λ i. (has.2.1.pages i).spots))

pub returns-in-None-clause-kept : goal.returns-in-None-clause-kept
returns-in-None-clause-kept c =
    c.fits_none.ensures
    ∙ ap (λ (spots : ℕ → Option HugeSpot). fits spots c.args.first c.args.pages)
    (sym c.in-None.ensures.spots)

pub returns-in-None-clause-fits : goal.returns-in-None-clause-fits
returns-in-None-clause-fits c = λ at lies.
    rw (c.in-None.ensures.home at lies) c.fits_none.ensures
