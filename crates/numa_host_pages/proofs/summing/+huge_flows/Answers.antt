use Rattle.std.proofs.Common.{ℕ, ap, sym, ◌∙◌}
use Rattle.std.proofs.lemmas.Simd.{get_or-replicate}
use Rattle.numa_page_state.specs.Lying.{Sent}
use Rattle.numa_host_pages.specs.Summed.{both_pages}
use Rattle.numa_host_pages.proofs.Both.{huge-joined, huge-none, huge-passed}
use Rattle.numa_host_pages.proofs.summing.+huge_flows.Goals as goal

pub returns-in_default : goal.returns-in_default
returns-in_default t c = λ homes at are lies to small.
    rw (huge-none c.args.members.now homes at c.in_default.ensures.cases are)
    (get_or-replicate {A = ℕ} 256 to 0 0 small)

pub returns-then-not-first : goal.returns-then-not-first
returns-then-not-first t c = λ homes at are lies to small.
    let so = huge-passed c.in-Some.first.now c.in-Some.rest.now homes at
    (rw (← c.in-Some.ensures.cases.0) are) c.if-not-first.true in
    rw so.2 (c.huge_flows-flow.ensures so.0 at so.1 lies to small)

pub returns : goal.returns
returns t c = λ homes at are lies to small.
    let so = huge-joined c.in-Some.first.now c.in-Some.rest.now homes at
    (rw (← c.in-Some.ensures.cases.0) are) c.if-not-first.false in
    let own = c.huge_row.ensures at lies to small in
    let rest = c.huge_flows-flow.ensures so.0 at so.1 lies to small in
    c.add_row.ensures to small ∙ (λ i. both_pages (own i) (rest i))
    ∙ sym (ap (λ (s : Sent). s.flow c.args.from to) so.2)
