-- None of the pages so far does.
use Rattle.std.proofs.Common.{◌≡◌}
use Rattle.numa_page_state.specs.Strict.{held_astray}
use Rattle.numa_page_state.proofs.binding.held_astray.Given as goal

abbrev pub invariant-loop-page : goal.invariant-loop-page
invariant-loop-page l = held_astray l.page-iterator l.first l.pages l.list
    ≡ held_astray l.resident l.first l.pages l.list
