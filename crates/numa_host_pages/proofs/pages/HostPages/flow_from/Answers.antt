use Rattle.std.proofs.Common.{ℕ, List, ap, sym, subst, ◌∙◌}
use Rattle.std.proofs.lemmas.Simd.{get_or-replicate}
use Rattle.numa_page_state.specs.Lying.{Sent}
use Rattle.numa_host_pages.specs.Standing.{AreHomes}
use Rattle.numa_host_pages.specs.Summed.{both_pages}
use Rattle.numa_host_pages.specs.declared.member.Member.{Member}
use Rattle.numa_host_pages.proofs.Both.{both-turned, none-with, some-with}
use Rattle.numa_host_pages.proofs.pages.HostPages.flow_from.Goals as goal

pub add_flows-requires : goal.add_flows-requires
add_flows-requires c = record {
  none = λ to small. get_or-replicate {A = ℕ} 256 to 0 0 small;
}

pub returns-then-is_empty : goal.returns-then-is_empty
returns-then-is_empty c = λ at lies to small.
    c.add_flows.ensures.sum at.homes
    (subst (λ (ms : List Member). AreHomes ms at.homes) (sym c.deref.ensures.value) lies.homes)
    to small
    ∙ ap (λ (s : Sent). s.flow c.args.from to) (sym (none-with at.huge.homes at
    (sym (c.is_empty.ensures at.huge lies.huge) ∙ c.if-is_empty.true)))

pub returns : goal.returns
returns c = λ at lies to small.
    let own = c.add_flows.ensures.sum at.homes
    (subst (λ (ms : List Member). AreHomes ms at.homes) (sym c.deref.ensures.value) lies.homes)
    to small in
    let huge = c.huge_flows-huge.ensures at.homes at.huge
    (subst (λ (ms : List Member). AreHomes ms at.homes) (sym c.deref-2.ensures.value) lies.homes)
    lies.huge to small in
    c.add_row.ensures to small ∙ (λ i. both_pages (huge i) (own i))
    ∙ both-turned _ _
    ∙ ap (λ (s : Sent). s.flow c.args.from to) (sym (some-with at.huge.homes at
    (sym (c.is_empty.ensures at.huge lies.huge) ∙ c.if-is_empty.false)))
