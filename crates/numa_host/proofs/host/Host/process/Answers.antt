use Rattle.std.proofs.Common.{◌≡◌, Some, None, sym, ap, ◌∙◌}
use Rattle.std.specs.List.{find}
use Rattle.numa_host.specs.Standing.{HostState}
use Rattle.numa_host.proofs.Found.{has_id, process-none, process-some}
use Rattle.numa_host.proofs.host.Host.process.Goals as goal

pub returns-in_err-found : goal.returns-in_err-found
returns-in_err-found c = λ history stands.
    let none : find (has_id c.args.process) c.args.self.now.processes ≡ None =
    ap (λ (h : HostState). find (has_id c.args.process) h.processes) (sym c.self.view_is)
    ∙ ap (λ ps. find (has_id c.args.process) ps) (sym c.deref.ensures.value)
    ∙ c.in_err-found.ensures in
    rw c.from_residual.ensures (process-none c.args.self.now history stands c.args.process none)

pub returns : goal.returns
returns c = λ history stands.
    let some : find (has_id c.args.process) c.args.self.now.processes
    ≡ Some c.in_ok-found.found.now =
    ap (λ (h : HostState). find (has_id c.args.process) h.processes) (sym c.self.view_is)
    ∙ ap (λ ps. find (has_id c.args.process) ps) (sym c.deref.ensures.value)
    ∙ c.in_ok-found.ensures in
    process-some c.args.self.now history stands c.args.process c.in_ok-found.found.now some
