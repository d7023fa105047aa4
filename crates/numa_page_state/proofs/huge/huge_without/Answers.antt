use Rattle.std.proofs.Common.{◌≡◌, ◌∙◌, ℕ, true, ap, subst, sym}
use Rattle.numa_space.specs.History.{page_of}
use Rattle.numa_huge.specs.Huge.{has_huge, huge_at}
use Rattle.numa_page_state.specs.Huge.{huge_count, huge_first}
use Rattle.numa_page_state.proofs.HugeKept.{pages-there}
use Rattle.numa_page_state.proofs.huge.huge_without.Goals as goal

pub unmapped-requires-clause-some : goal.unmapped-requires-clause-some
unmapped-requires-clause-some c =
    let at = page_of c.args.start in
    pages-there (huge_at c.args.huge.now.runs) (huge_first at) c.huge_span-span.result.pages
    (subst (λ (n : ℕ). has_huge (huge_at c.args.huge.now.runs) (huge_first at) n ≡ true)
    (sym (c.huge_span-span.ensures.pages ∙ ap (huge_count at) c.page_count.ensures.pages))
    c.requires)

pub returns-clause-keeps : goal.returns-clause-keeps
returns-clause-keeps c = c.unmapped.ensures.keeps
