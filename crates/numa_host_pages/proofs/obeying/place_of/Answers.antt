use Rattle.std.proofs.Common.{◌≡◌, Some, None, sym, ap, ◌∙◌}
use Rattle.std.specs.List.{find}
use Rattle.numa_host.proofs.Found.{has_id}
use Rattle.numa_host_pages.proofs.Known.{place-none, place-some}
use Rattle.numa_host_pages.proofs.obeying.place_of.Goals as goal

pub returns-in-Some : goal.returns-in-Some
returns-in-Some c = λ history stands.
    let some : find (has_id c.args.process) c.args.host.now.processes ≡ Some c.in-Some.found.now =
    ap (λ ps. find (has_id c.args.process) ps) (sym c.processes.ensures.processes)
    ∙ c.in-Some.ensures in
    let known = place-some c.args.host.now history stands c.args.process
    c.processes.ensures.sound c.in-Some.found.now some in
    (known.0, c.allowed.ensures.allowed ∙ known.1)

pub returns-in-None : goal.returns-in-None
returns-in-None c = λ history stands.
    let none : find (has_id c.args.process) c.args.host.now.processes ≡ None =
    ap (λ ps. find (has_id c.args.process) ps) (sym c.processes.ensures.processes)
    ∙ c.in-None.ensures in
    let known = place-none c.args.host.now history stands c.args.process none in
    (known.0, c.memory.ensures.memory ∙ ap (λ m. m.memory) c.machine.ensures ∙ known.1)
