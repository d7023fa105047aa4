use Rattle.std.proofs.Common.{sym, ap, ◌∙◌}
use Rattle.numa_maps.specs.Residents.{Kept}
use Rattle.numa_page_state.specs.Lying.{held_left}
use Rattle.numa_page_state.proofs.frames.held_where.Goals as goal

pub returns-in-None-clause-left : goal.returns-in-None-clause-left
returns-in-None-clause-left c =
    rw c.in-None.is (λ go kept gone none. sym (ap (λ (k : Kept). held_left k go) none))

pub returns-in-Some-clause-left : goal.returns-in-Some-clause-left
returns-in-Some-clause-left c = rw c.in-Some.is (λ go kept gone same.
    c.held_left.ensures.left go gone ∙ ap (λ (k : Kept). held_left k go) same)
