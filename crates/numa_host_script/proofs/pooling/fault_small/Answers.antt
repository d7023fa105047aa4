use Rattle.std.proofs.Common.{ℕ, Option, Result, subst, sym, []}
use Rattle.numa_host_pages.specs.Homes.{lent}
use Rattle.numa_host_pages.specs.declared.pages.HostPages.{HostPages}
use Rattle.numa_page_state.specs.Lying.{ground_in, nothing}
use Rattle.numa_page_state.specs.Outcomes.{Lack}
use Rattle.numa_page_state.specs.Standing.{LiesAs}
use Rattle.numa_page_state.specs.declared.state.PageState.{PageState}
use Rattle.numa_requests.specs.declared.page_refusal.HugeRefusal.TheVariants as because
use Rattle.numa_requests.specs.declared.page_refusal.PlacedRefusal.{PlacedRefusal}
use Rattle.numa_run.specs.HugeLines.{fault_reply}
use Rattle.numa_script.specs.declared.reply.Reply.TheVariants as reply
use Rattle.numa_host_script.specs.Pooling.{small_faulted}
use Rattle.numa_host_script.specs.Standing.{FaultsSo}
use Rattle.numa_host_script.proofs.Lent.{by-out}
use Rattle.numa_host_script.proofs.Touches.{faulted-first, faulted-lent, faulted-starved}
use Rattle.numa_host_script.proofs.pooling.fault_small.Goals as goal

pub returns-in_default : goal.returns-in_default
returns-in_default c = λ at lies.
    let gone = c.in_default.ensures.lacks at lies in
    faulted-starved c.lend.new.pages c.args.process c.args.touch.now.task
    c.args.touch.now.address c.args.touch.now.cpu (ground_in c.args.space.now []) at gone.0 gone.1

pub returns : goal.returns
returns c = rw c.fault_reply.ensures (λ at lies.
    let out = c.in-Ok.ensures.lent at lies in
    by-out ((lacked : Lack) × FaultsSo (small_faulted lacked (ground_in c.args.space.now [])
    c.args.process c.args.touch.now.task c.args.touch.now.address c.args.touch.now.cpu at)
    (fault_reply because.Exhausted c.fault-done.result) c.give_back.new.pages)
    c.lend.new.pages c.in-Ok.lent.state.value c.in-Ok.lent.first c.lacks_memory.result
    c.args.process at out
    (λ lying is has kept.
    faulted-lent _ c.fault-done.new.self c.fault-done.result c.give_back.new.pages
    c.args.process c.args.touch.now.task c.args.touch.now.address c.args.touch.now.cpu
    (ground_in c.args.space.now []) at (rw c.new-resident.ensures at c.fault-done.ensures)
    (λ done lies. c.give_back.ensures.kept kept at done out.2 lies) lying is
    (subst (λ (s : PageState). LiesAs s (lent at.room at.follows lying))
    (sym c.deref_mut.ensures.value) has))
    (λ none has serves kept.
    faulted-first _ c.fault-done.new.self c.fault-done.result c.give_back.new.pages
    c.args.process c.args.touch.now.task c.args.touch.now.address c.args.touch.now.cpu
    (ground_in c.args.space.now []) at (rw c.new-resident.ensures at c.fault-done.ensures)
    (λ done lies. c.give_back.ensures.kept kept at done out.2 lies) none
    (subst (λ (s : PageState). LiesAs s (lent at.room at.follows nothing))
    (sym c.deref_mut.ensures.value) has)
    (c.lacks_memory.ensures.other serves))
    (λ none has lies starves gone.
    subst (λ (r : Result (Option ℕ) PlacedRefusal). (lacked : Lack) × FaultsSo
    (small_faulted lacked (ground_in c.args.space.now []) c.args.process c.args.touch.now.task
    c.args.touch.now.address c.args.touch.now.cpu at)
    (fault_reply because.Exhausted r) c.give_back.new.pages)
    (sym (c.lacks_memory.ensures.lack starves))
    (subst (λ (p : HostPages). (lacked : Lack) × FaultsSo
    (small_faulted lacked (ground_in c.args.space.now []) c.args.process c.args.touch.now.task
    c.args.touch.now.address c.args.touch.now.cpu at) (reply.HugeRefused because.NoMemory) p)
    (sym (c.give_back.ensures.gone gone))
    (faulted-starved c.lend.new.pages c.args.process c.args.touch.now.task
    c.args.touch.now.address c.args.touch.now.cpu (ground_in c.args.space.now []) at none
    lies))))
