use Rattle.std.proofs.Common.{Option, ap, subst, sym, ◌∙◌}
use Rattle.numa_huge.specs.Moves.{HugeMemory}
use Rattle.numa_huge.specs.Tallies.{StandsForHuge}
use Rattle.numa_huge.specs.declared.pages.HugePages.{HugePages}
use Rattle.numa_page_state.specs.Huge.{has_huge_in}
use Rattle.numa_page_state.proofs.HugeKept.{has-some, stands-none}
use Rattle.numa_page_state.proofs.huge.has_huge_in.Goals as goal

pub returns-in_default : goal.returns-in_default
returns-in_default c memory stands =
    sym (ap (λ (m : Option HugeMemory). has_huge_in m c.args.first c.args.pages)
    (stands-none memory
    (subst (λ (kept : Option HugePages). StandsForHuge kept memory) c.in_default.is stands)))

pub returns : goal.returns
returns c memory stands =
    c.has_huge.ensures ∙ has-some c.in-Some.kept memory c.args.first c.args.pages
    c.huge_span-span.result.first c.huge_span-span.result.pages
    (subst (λ (kept : Option HugePages). StandsForHuge kept memory) c.in-Some.is stands)
    c.huge_span-span.ensures.first c.huge_span-span.ensures.pages
