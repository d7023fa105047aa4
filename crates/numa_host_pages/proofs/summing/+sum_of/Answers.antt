use Rattle.std.proofs.Common.{◌≡◌, ap, sym, ◌∙◌, refl, rules}
use Rattle.numa_page_state.specs.Lying.{Sent}
use Rattle.numa_host_pages.specs.Summed.{both_pages}
use Rattle.numa_host_pages.proofs.Sums.{sum-joined, sum-none, sum-passed}
use Rattle.numa_host_pages.proofs.summing.+sum_of.Goals as goal

pub returns-in_default : goal.returns-in_default
returns-in_default t c = λ homes are.
    rw (sum-none c.args.members.now homes c.in_default.ensures.cases are) (refl, refl)

pub returns-then-not-first : goal.returns-then-not-first
returns-then-not-first t c = λ homes are.
    let so = sum-passed c.in-Some.first.now c.in-Some.rest.now homes
    (rw (← c.in-Some.ensures.cases.0) are) c.if-not-first.true in
    rw so.2 (c.sum_of-others.ensures so.0 so.1)

pub returns : goal.returns
returns t c = λ homes are.
    let so = sum-joined c.in-Some.first.now c.in-Some.rest.now homes
    (rw (← c.in-Some.ensures.cases.0) are) c.if-not-first.false in
    let own = c.counts_of-own.ensures so.0.lying so.2.pages in
    let rest = c.sum_of-others.ensures so.1 so.3 in
    let moved : c.saturating_add-moved.result
    ≡ both_pages c.counts_of-own.result.moved c.sum_of-others.result.moved = search rules in
    let left : c.saturating_add-left.result
    ≡ both_pages c.counts_of-own.result.left c.sum_of-others.result.left = search rules in (
      moved ∙ (λ i. both_pages (own.0 i) (rest.0 i)) ∙ sym (ap (λ (s : Sent). s.moved) so.4),
      left ∙ (λ i. both_pages (own.1 i) (rest.1 i)) ∙ sym (ap (λ (s : Sent). s.left) so.4),
    )
