use Rattle.std.proofs.Common.{ap, ◌∙◌}
use Rattle.numa_host_pages.specs.Homes.{lent}
use Rattle.numa_page_state.specs.Lying.{process_in}
use Rattle.numa_page_state.specs.Strict.{has_astray}
use Rattle.numa_host_script.proofs.Bindings.{astray-none, astray-some}
use Rattle.numa_host_script.proofs.binding.small_astray.Goals as goal

pub returns-in-Some : goal.returns-in-Some
returns-in-Some c = λ at history lies stands.
    let had = c.in-Some.ensures at lies in
    astray-some c.args.space.now history c.args.process at c.args.binding.now had.0 had.1
    c.has_astray.result
    (c.has_astray.ensures (lent had.2.0 had.2.1 had.0) history had.2.2 stands
    ∙ ap (λ kept. has_astray (process_in c.args.space.now history kept) had.0.spots
    c.args.binding.now) c.new-resident.ensures)

pub returns : goal.returns
returns c = λ at history lies stands.
    astray-none c.args.space.now history c.args.process at c.args.binding.now
    (c.in-None.ensures at lies)
