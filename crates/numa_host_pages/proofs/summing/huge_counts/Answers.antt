use Rattle.std.proofs.Common.{refl, ◌∙◌}
use Rattle.numa_host_pages.proofs.summing.huge_counts.Goals as goal

pub returns-in-Some : goal.returns-in-Some
returns-in-Some c = λ at lies.
    let has = c.in-Some.ensures.home at lies in
    rw has.1 (c.moved.ensures ∙ has.2.1.told.moved, c.left.ensures ∙ has.2.1.told.left)

pub returns-in-None : goal.returns-in-None
returns-in-None c = λ at lies. rw (c.in-None.ensures.home at lies) (refl, refl)
