use Rattle.std.proofs.Common.{ℕ, ap, sym, ◌∙◌, arith}
use Rattle.numa_page_state.specs.Lying.{Sent}
use Rattle.numa_host_pages.specs.Summed.{both_pages, sent_of}
use Rattle.numa_host_pages.proofs.Sums.{sum-joined, sum-none, sum-passed}
use Rattle.numa_host_pages.proofs.summing.+add_flows.Goals as goal

pub returns-in_default-clause-sum : goal.returns-in_default-clause-sum
returns-in_default-clause-sum t c = λ homes are to small.
    rw (sum-none c.args.members.now homes c.in_default.ensures.cases are) (c.requires.none to small)

pub returns-in_default-clause-small : goal.returns-in_default-clause-small
returns-in_default-clause-small t c = λ to small. omega (arith, c.requires.none to small)

pub returns-then-not-first-clause-sum : goal.returns-then-not-first-clause-sum
returns-then-not-first-clause-sum t c = λ homes are to small.
    let so = sum-passed c.in-Some.first.now c.in-Some.rest.now homes
    (rw (← c.in-Some.ensures.cases.0) are) c.if-not-first.true in
    rw so.2 (c.add_flows.ensures.sum so.0 so.1 to small)

pub add_own-requires : goal.add_own-requires
add_own-requires t c = record { small = c.add_flows.ensures.small }

pub returns-clause-sum : goal.returns-clause-sum
returns-clause-sum t c = λ homes are to small.
    let so = sum-joined c.in-Some.first.now c.in-Some.rest.now homes
    (rw (← c.in-Some.ensures.cases.0) are) c.if-not-first.false in
    c.add_own.ensures.sum so.0.lying so.2.pages to small
    ∙ ap (λ (pages : ℕ). both_pages ((sent_of so.0.lying).flow c.args.from to) pages)
    (c.add_flows.ensures.sum so.1 so.3 to small)
    ∙ sym (ap (λ (s : Sent). s.flow c.args.from to) so.4)
