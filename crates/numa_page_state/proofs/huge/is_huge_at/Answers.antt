use Rattle.std.proofs.Common.{Option, ap, subst, sym, ◌∙◌, is_some}
use Rattle.numa_huge.specs.Moves.{HugeMemory}
use Rattle.numa_huge.specs.Tallies.{StandsForHuge}
use Rattle.numa_huge.specs.declared.pages.HugePages.{HugePages}
use Rattle.numa_page_state.specs.Huge.{huge_at_address}
use Rattle.numa_page_state.proofs.HugeKept.{at-some, stands-none}
use Rattle.numa_page_state.proofs.huge.is_huge_at.Goals as goal

pub returns-in_default : goal.returns-in_default
returns-in_default c memory stands =
    sym (ap (λ (m : Option HugeMemory). is_some (huge_at_address m c.args.address))
    (stands-none memory
    (subst (λ (kept : Option HugePages). StandsForHuge kept memory) c.in_default.is stands)))

pub returns : goal.returns
returns c memory stands =
    c.is_huge_in.ensures ∙ ap is_some (at-some c.in-Some.kept memory c.args.address
    (subst (λ (kept : Option HugePages). StandsForHuge kept memory) c.in-Some.is stands))
