use Rattle.std.proofs.Common.{subst}
use Rattle.std.specs.Box.{with_value}
use Rattle.numa_huge.specs.Huge.{places_of}
use Rattle.numa_huge.specs.Kept.{Keeps}
use Rattle.numa_huge.specs.declared.pages.HugePages.{HugePages}
use Rattle.numa_host_huge.specs.declared.sharer.Sharer.{Sharer}
use Rattle.numa_host_huge.proofs.Acted.{keeps-at}
use Rattle.numa_host_huge.proofs.shared.moving.follow_at.Goals as goal

pub returns-clause-keeps : goal.returns-clause-keeps
returns-clause-keeps c =
    let s : Sharer = c.index_mut-sharer.result.now in
    let other : Sharer = record {
      id = s.id;
      pages = with_value s.pages c.follow_huge.new.huge;
    } in
    keeps-at c.args.sharers.now.items c.args.place s other c.requires
    c.index_mut-sharer.ensures.value
    (subst (λ (p : HugePages). Keeps (places_of p.places)
    (places_of c.follow_huge.new.huge.places))
    c.deref_mut.ensures.value c.follow_huge.ensures.keeps)
