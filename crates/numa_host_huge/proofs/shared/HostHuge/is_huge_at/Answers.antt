use Rattle.std.proofs.Common.{ℕ, Option, is_some, None, Some, sym, subst, ap, refl, ◌∙◌}
use Rattle.numa_huge.specs.declared.spot.HugeSpot.{HugeSpot}
use Rattle.numa_page_state.specs.Huge.{huge_page}
use Rattle.numa_host_huge.proofs.shared.HostHuge.is_huge_at.Goals as goal

pub returns-in-Some-clause-kept : goal.returns-in-Some-clause-kept
returns-in-Some-clause-kept c =
    c.is_some.ensures ∙ ap is_some c.at.ensures
    ∙ ap (λ (spots : ℕ → Option HugeSpot). is_some (spots (huge_page c.args.address)))
    (sym c.in-Some.ensures.spots)

pub returns-in-Some-clause-huge : goal.returns-in-Some-clause-huge
returns-in-Some-clause-huge c = λ at lies.
    let has = c.in-Some.ensures.home at lies in
    rw has.1 (c.is_some.ensures ∙ ap is_some c.at.ensures
    ∙ ap (λ (spots : ℕ → Option HugeSpot). is_some (spots (huge_page c.args.address)))
    (λ i. (has.2.1.pages i).spots))

pub returns-in-None-clause-kept : goal.returns-in-None-clause-kept
returns-in-None-clause-kept c = rw c.in-None.ensures.spots refl

pub returns-in-None-clause-huge : goal.returns-in-None-clause-huge
returns-in-None-clause-huge c = λ at lies. rw (c.in-None.ensures.home at lies) refl
