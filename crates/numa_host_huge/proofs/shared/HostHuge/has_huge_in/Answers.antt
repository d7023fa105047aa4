use Rattle.std.proofs.Common.{ℕ, Option, None, Some, sym, ap, refl, ◌∙◌}
use Rattle.numa_huge.specs.Huge.{has_huge}
use Rattle.numa_huge.specs.declared.spot.HugeSpot.{HugeSpot}
use Rattle.numa_page_state.specs.Huge.{huge_count, huge_first}
use Rattle.numa_host_huge.proofs.Places.{has-huge-none}
use Rattle.numa_host_huge.proofs.shared.HostHuge.has_huge_in.Goals as goal

pub returns-in_default-clause-kept : goal.returns-in_default-clause-kept
returns-in_default-clause-kept c = rw c.in_default.ensures.spots
    (sym (has-huge-none (huge_first c.args.first) (huge_count c.args.first c.args.pages)))

pub returns-in_default-clause-huge : goal.returns-in_default-clause-huge
returns-in_default-clause-huge c = λ at lies. rw (c.in_default.ensures.home at lies) refl

pub returns-clause-kept : goal.returns-clause-kept
returns-clause-kept c =
    c.has_huge.ensures ∙ (λ i. has_huge (sym c.in-Some.ensures.spots i)
    (c.huge_span-span.ensures.first i) (c.huge_span-span.ensures.pages i))

pub returns-clause-huge : goal.returns-clause-huge
returns-clause-huge c = λ at lies.
    let has = c.in-Some.ensures.home at lies in
    rw has.1 (c.has_huge.ensures ∙ (λ i. has_huge (has.2.1.pages i).spots
    (c.huge_span-span.ensures.first i) (c.huge_span-span.ensures.pages i)))
