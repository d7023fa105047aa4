use Rattle.std.proofs.Common.{◌≡◌, Some, None, sym, ap, ◌∙◌}
use Rattle.std.specs.List.{find}
use Rattle.numa_host.proofs.Found.{has_id, process-none}
use Rattle.numa_host_script.proofs.Spaces.{space-found}
use Rattle.numa_host_script.proofs.running.space_of.Goals as goal

pub returns-in-Some : goal.returns-in-Some
returns-in-Some c = λ history stands.
    let some : find (has_id c.args.process) c.args.host.now.processes ≡ Some c.in-Some.found.now =
    ap (λ ps. find (has_id c.args.process) ps) (sym c.processes.ensures.processes)
    ∙ c.in-Some.ensures in
    space-found c.args.host.now history stands c.args.process c.in-Some.found.now some

pub returns-in-None : goal.returns-in-None
returns-in-None c = λ history stands.
    let none : find (has_id c.args.process) c.args.host.now.processes ≡ None =
    ap (λ ps. find (has_id c.args.process) ps) (sym c.processes.ensures.processes)
    ∙ c.in-None.ensures in
    process-none c.args.host.now history stands c.args.process none
