use Rattle.std.proofs.Common.{List, ap, sym, subst, ◌∙◌}
use Rattle.numa_page_state.specs.Lying.{Sent}
use Rattle.numa_host_pages.specs.Standing.{AreHomes}
use Rattle.numa_host_pages.specs.Summed.{both_pages}
use Rattle.numa_host_pages.specs.declared.member.Member.{Member}
use Rattle.numa_host_pages.proofs.Both.{none-with, some-with}
use Rattle.numa_host_pages.proofs.pages.HostPages.last.Goals as goal

pub returns-then-is_empty : goal.returns-then-is_empty
returns-then-is_empty c = λ at lies.
    let small = c.sum_of-small.ensures at.homes
    (subst (λ (ms : List Member). AreHomes ms at.homes) (sym c.deref.ensures.value) lies.homes) in
    let is = sym (none-with at.huge.homes at
    (sym (c.is_empty.ensures at.huge lies.huge) ∙ c.if-is_empty.true)) in
    (small.0 ∙ ap (λ (s : Sent). s.moved) is, small.1 ∙ ap (λ (s : Sent). s.left) is)

pub returns : goal.returns
returns c = λ at lies.
    let small = c.sum_of-small.ensures at.homes
    (subst (λ (ms : List Member). AreHomes ms at.homes) (sym c.deref.ensures.value) lies.homes) in
    let huge = c.huge_sum.ensures at.homes at.huge
    (subst (λ (ms : List Member). AreHomes ms at.homes) (sym c.deref-2.ensures.value) lies.homes)
    lies.huge in
    let is = sym (some-with at.huge.homes at
    (sym (c.is_empty.ensures at.huge lies.huge) ∙ c.if-is_empty.false)) in (
      c.both.ensures.moved ∙ (λ i. both_pages (small.0 i) (huge.0 i)) ∙ ap (λ (s : Sent). s.moved) is,
      c.both.ensures.left ∙ (λ i. both_pages (small.1 i) (huge.1 i)) ∙ ap (λ (s : Sent). s.left) is,
    )
