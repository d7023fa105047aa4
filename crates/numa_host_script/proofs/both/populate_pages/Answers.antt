use Rattle.std.proofs.Common.{ℕ, ap, subst, sym, ◌∙◌, []}
use Rattle.numa_huge.specs.Huge.{has_huge}
use Rattle.numa_host_huge.specs.Kept.{spots_in}
use Rattle.numa_host_huge.specs.Sharing.{memory_in}
use Rattle.numa_host_pages.specs.Homes.{lent}
use Rattle.numa_host_pages.specs.declared.pages.HostPages.{HostPages}
use Rattle.numa_page_state.specs.Huge.{has_huge_in, huge_count, huge_first}
use Rattle.numa_page_state.specs.Lying.{ground_in, nothing}
use Rattle.numa_page_state.specs.Standing.{LiesAs}
use Rattle.numa_page_state.specs.declared.state.PageState.{PageState}
use Rattle.numa_space.specs.History.{page_of}
use Rattle.numa_host_script.specs.Standing.{PopulatesIn}
use Rattle.numa_host_script.proofs.BothPopulated.{first-starved, never-gone}
use Rattle.numa_host_script.proofs.BothTouched.{first-lacks, first-populated, lent-populated}
use Rattle.numa_host_script.proofs.Lent.{by-out}
use Rattle.numa_host_script.proofs.both.populate_pages.Goals as goal

pub returns-in_default : goal.returns-in_default
returns-in_default c = λ at lies.
    let gone = c.in_default.ensures.lacks at lies in
    first-starved c.args.pages.now c.lend.new.pages c.args.process (ground_in c.args.space.now [])
    c.args.said.now.start c.args.said.now.length c.args.said.now.task c.args.said.now.cpu
    c.requires at lies gone.0 gone.1

pub touch_both-done-requires : goal.touch_both-done-requires
touch_both-done-requires c =
    ap (λ (n : ℕ). has_huge (spots_in c.args.process c.lend.new.pages.huge.sharers)
    (huge_first (page_of c.args.said.now.start)) (huge_count (page_of c.args.said.now.start) n))
    (sym c.page_count-count.ensures.pages)
    ∙ sym c.has_huge_in.ensures.kept ∙ c.if-not-has_huge_in.false

pub returns-then-not-has_huge_in : goal.returns-then-not-has_huge_in
returns-then-not-has_huge_in c = λ at lies.
    absurd (never-gone c.args.pages.now c.lend.new.pages c.args.process c.args.said.now.start
    c.args.said.now.length c.has_huge_in.result c.requires at lies
    (c.in-Ok.ensures.lent at lies).2
    (λ there shares. c.has_huge_in.ensures.huge there shares ∙ ap (λ (n : ℕ).
    has_huge_in (memory_in c.args.process there) (page_of c.args.said.now.start) n)
    c.page_count-count.ensures.pages) c.if-not-has_huge_in.true)

pub returns : goal.returns
returns c = λ at lies.
    let out = c.in-Ok.ensures.lent at lies in
    by-out (PopulatesIn at c.args.process (ground_in c.args.space.now []) c.args.said.now.start
    c.args.said.now.length c.args.said.now.task c.args.said.now.cpu c.touch_both-done.result
    c.give_back.new.pages)
    c.lend.new.pages c.in-Ok.lent.state.value c.in-Ok.lent.first c.lacks_memory.result
    c.args.process at out
    (λ lying is has kept.
    lent-populated c.lend.new.pages _ c.touch_both-done.new.state c.touch_both-done.new.huge
    c.args.process (ground_in c.args.space.now []) c.args.said.now.start c.args.said.now.length
    c.args.said.now.task c.args.said.now.cpu c.touch_both-done.result c.touch_both-done.ensures
    c.give_back.new.pages (c.give_back.ensures.kept kept) at lying is out.2
    (subst (λ (s : PageState). LiesAs s (lent at.room at.follows lying))
    (sym c.deref_mut.ensures.value) has))
    (λ none has serves kept.
    first-populated c.lend.new.pages _ c.touch_both-done.new.state c.touch_both-done.new.huge
    c.args.process (ground_in c.args.space.now []) c.args.said.now.start c.args.said.now.length
    c.args.said.now.task c.args.said.now.cpu c.touch_both-done.result c.touch_both-done.ensures
    c.give_back.new.pages (c.give_back.ensures.kept kept) at none out.2
    (subst (λ (s : PageState). LiesAs s (lent at.room at.follows nothing))
    (sym c.deref_mut.ensures.value) has)
    (c.lacks_memory.ensures.other serves))
    (λ none has lies starves gone.
    subst (λ (p : HostPages). PopulatesIn at c.args.process (ground_in c.args.space.now [])
    c.args.said.now.start c.args.said.now.length c.args.said.now.task c.args.said.now.cpu
    c.touch_both-done.result p) (sym (c.give_back.ensures.gone gone))
    (first-lacks c.lend.new.pages _ c.touch_both-done.new.state c.touch_both-done.new.huge
    c.args.process (ground_in c.args.space.now []) c.args.said.now.start c.args.said.now.length
    c.args.said.now.task c.args.said.now.cpu c.touch_both-done.result c.touch_both-done.ensures
    at none lies
    (subst (λ (s : PageState). LiesAs s (lent at.room at.follows nothing))
    (sym c.deref_mut.ensures.value) has)
    (c.lacks_memory.ensures.lack starves)))
