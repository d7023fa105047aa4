use Rattle.std.proofs.Common.{[], false, refl, sym, true, ◌∙◌}
use Rattle.numa_host_huge.specs.Sharing.{astray_in}
use Rattle.numa_host_pages.specs.Homes.{memory_of, pages_lent}
use Rattle.numa_page_state.specs.Lying.{process_in}
use Rattle.numa_host_script.proofs.Bindings.{astray-both}
use Rattle.numa_host_script.proofs.binding.has_astray.Goals as goal

pub returns-then-small_astray : goal.returns-then-small_astray
returns-then-small_astray c = λ at history lies stands.
    astray-both (memory_of c.args.process at) (process_in c.args.space.now history [])
    (pages_lent c.args.process at).spots c.args.binding.now true
    (astray_in (memory_of c.args.process at) (process_in c.args.space.now history [])
    c.args.binding.now)
    (sym c.if-small_astray.true ∙ c.small_astray.ensures at history lies stands) refl

pub returns : goal.returns
returns c = λ at history lies stands.
    astray-both (memory_of c.args.process at) (process_in c.args.space.now history [])
    (pages_lent c.args.process at).spots c.args.binding.now false c.has_astray.result
    (sym c.if-small_astray.false ∙ c.small_astray.ensures at history lies stands)
    (c.has_astray.ensures at.huge history lies.huge stands)
