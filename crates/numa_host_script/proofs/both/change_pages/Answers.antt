use Rattle.std.proofs.Common.{◌≡◌, ℕ, refl, subst, sym, []}
use Rattle.numa_host_pages.specs.Homes.{lent}
use Rattle.numa_host_pages.specs.Standing.{HostLies}
use Rattle.numa_host_pages.specs.declared.pages.HostPages.{HostPages}
use Rattle.numa_page_state.specs.Lying.{ground_in, nothing}
use Rattle.numa_page_state.specs.Outcomes.{Lack}
use Rattle.numa_page_state.specs.Standing.{LiesAs}
use Rattle.numa_page_state.specs.declared.state.PageState.{PageState}
use Rattle.numa_host_script.specs.Paging.{pages_changed}
use Rattle.numa_host_script.proofs.Acted.{changed-first, changed-lent, changed-starved}
use Rattle.numa_host_script.proofs.Lent.{by-out}
use Rattle.numa_host_script.proofs.both.change_pages.Goals as goal

pub returns-in_default : goal.returns-in_default
returns-in_default c = λ at lies.
    let gone = c.in_default.ensures.lacks at lies in
    rw c.lack_reply.ensures
    (changed-starved c.lend.new.pages c.args.process c.args.line.now
    (ground_in c.args.space.now []) at _ gone.0 refl gone.1)

pub returns : goal.returns
returns c = λ at lies.
    let out = c.in-Ok.ensures.lent at lies in
    by-out ((lacked : Lack) × ((pages_changed lacked (ground_in c.args.space.now [])
    c.args.process c.args.line.now at).0 ≡ c.change-told.result)
    × HostLies c.give_back.new.pages (pages_changed lacked (ground_in c.args.space.now [])
    c.args.process c.args.line.now at).1)
    c.lend.new.pages c.in-Ok.lent.state.value c.in-Ok.lent.first c.tells_lack.result
    c.args.process at out
    (λ lying is has kept.
    changed-lent _ c.change-told.new.kept c.change-told.result c.give_back.new.pages
    c.args.process c.args.line.now (ground_in c.args.space.now []) at
    (rw c.new-resident.ensures at c.change-told.ensures.does)
    (λ done lies. c.give_back.ensures.kept kept at done out.2 lies) lying is
    (subst (λ (s : PageState). LiesAs s (lent at.room at.follows lying))
    (sym c.deref_mut.ensures.value) has))
    (λ none has serves kept.
    changed-first _ c.change-told.new.kept c.change-told.result c.give_back.new.pages
    c.args.process c.args.line.now (ground_in c.args.space.now []) at
    (rw c.new-resident.ensures at c.change-told.ensures.does)
    (λ done lies. c.give_back.ensures.kept kept at done out.2 lies) none
    (subst (λ (s : PageState). LiesAs s (lent at.room at.follows nothing))
    (sym c.deref_mut.ensures.value) has)
    (c.tells_lack.ensures.other serves))
    (λ none has lies starves gone.
    subst (λ (p : HostPages). (lacked : Lack) × ((pages_changed lacked
    (ground_in c.args.space.now []) c.args.process c.args.line.now at).0 ≡ c.change-told.result)
    × HostLies p (pages_changed lacked (ground_in c.args.space.now [])
    c.args.process c.args.line.now at).1) (sym (c.give_back.ensures.gone gone))
    (changed-starved c.lend.new.pages c.args.process c.args.line.now
    (ground_in c.args.space.now []) at c.change-told.result none
    (c.tells_lack.ensures.lack starves) lies))
