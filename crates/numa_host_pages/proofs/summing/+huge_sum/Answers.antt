use Rattle.std.proofs.Common.{ap, sym, ◌∙◌, refl}
use Rattle.numa_page_state.specs.Lying.{Sent}
use Rattle.numa_host_pages.specs.Summed.{both_pages}
use Rattle.numa_host_pages.proofs.Both.{huge-joined, huge-none, huge-passed}
use Rattle.numa_host_pages.proofs.summing.+huge_sum.Goals as goal

pub returns-in_default : goal.returns-in_default
returns-in_default t c = λ homes at are lies.
    rw (huge-none c.args.members.now homes at c.in_default.ensures.cases are) (refl, refl)

pub returns-then-not-first : goal.returns-then-not-first
returns-then-not-first t c = λ homes at are lies.
    let so = huge-passed c.in-Some.first.now c.in-Some.rest.now homes at
    (rw (← c.in-Some.ensures.cases.0) are) c.if-not-first.true in
    rw so.2 (c.huge_sum-others.ensures so.0 at so.1 lies)

pub returns : goal.returns
returns t c = λ homes at are lies.
    let so = huge-joined c.in-Some.first.now c.in-Some.rest.now homes at
    (rw (← c.in-Some.ensures.cases.0) are) c.if-not-first.false in
    let own = c.huge_counts.ensures at lies in
    let rest = c.huge_sum-others.ensures so.0 at so.1 lies in (
      c.both.ensures.moved ∙ (λ i. both_pages (own.0 i) (rest.0 i))
          ∙ sym (ap (λ (s : Sent). s.moved) so.2),
      c.both.ensures.left ∙ (λ i. both_pages (own.1 i) (rest.1 i))
          ∙ sym (ap (λ (s : Sent). s.left) so.2),
    )
