use Rattle.std.proofs.Common.{ap, ◌∙◌}
use Rattle.numa_maps.specs.Residents.{Kept}
use Rattle.numa_page_state.specs.Strict.{held_astray}
use Rattle.numa_page_state.proofs.binding.held_astray.Goals as goal

pub loop-page-init : goal.loop-page-init
loop-page-init c =
    ap (λ (k : Kept). held_astray k c.args.first c.args.pages c.args.list.now)
    (c.into_iter-page-iterator.ensures.into_iter_gives ∙ c.iter-page-items.ensures.placed)
