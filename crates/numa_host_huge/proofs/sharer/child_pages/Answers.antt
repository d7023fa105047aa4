use Rattle.std.proofs.Common.{ap, subst, sym}
use Rattle.numa_huge.specs.Huge.{HugePlaced, huge_at}
use Rattle.numa_huge.specs.declared.pages.HugePages.{HugePages}
use Rattle.numa_host_huge.specs.Kept.{AreUntouched}
use Rattle.numa_host_huge.specs.Sharing.{child_of}
use Rattle.numa_host_huge.specs.Standing.{LiesApart}
use Rattle.numa_host_huge.proofs.Made.{bare-untouched, child-lies, if-made}
use Rattle.numa_host_huge.proofs.sharer.child_pages.Goals as goal

pub returns-clause-child : goal.returns-clause-child
returns-clause-child c = λ child home lies.
    if-made c.boxed.result c.of.result (λ (p : HugePages). LiesApart p (child_of child home))
    c.boxed.ensures (child-lies c.args.parent.now c.of.result c.in-Ok.places child home lies
    c.of.ensures.memory c.in-Ok.ensures.spots)

pub returns-clause-untouched : goal.returns-clause-untouched
returns-clause-untouched c =
    if-made c.boxed.result c.of.result
    (λ (p : HugePages). AreUntouched (huge_at p.places.runs)) c.boxed.ensures
    (subst (λ (p : HugePlaced). AreUntouched (huge_at p.runs)) (sym c.of.ensures.places)
    (bare-untouched (huge_at c.args.parent.now.places.runs) (huge_at c.in-Ok.places.runs)
    c.in-Ok.ensures.spots))
