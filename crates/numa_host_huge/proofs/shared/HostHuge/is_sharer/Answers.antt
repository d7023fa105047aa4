use Rattle.std.proofs.Common.{◌≡◌, List, is_some, sym, subst, ap, ◌∙◌}
use Rattle.numa_host_huge.specs.Kept.{HugeKept, place_in}
use Rattle.numa_host_huge.specs.Standing.{HugeLies}
use Rattle.numa_host_huge.specs.declared.sharer.Sharer.{Sharer}
use Rattle.numa_host_huge.proofs.Places.{place-memory}
use Rattle.numa_host_huge.proofs.shared.HostHuge.is_sharer.Goals as goal

pub returns-clause-kept : goal.returns-clause-kept
returns-clause-kept c =
    c.is_some.ensures ∙ ap is_some c.place_of.ensures
    ∙ ap (λ (s : List Sharer). is_some (place_in c.args.process s)) c.deref.ensures.value
    ∙ ap (λ (k : HugeKept). is_some (place_in c.args.process k.sharers)) c.self.view_is

pub returns-clause-sharer : goal.returns-clause-sharer
returns-clause-sharer c = λ at lies.
    let inside = subst (λ (k : HugeKept). HugeLies k at) (sym c.self.view_is) lies in
    c.is_some.ensures ∙ ap is_some c.place_of.ensures
    ∙ ap (λ (s : List Sharer). is_some (place_in c.args.process s)) c.deref.ensures.value
    ∙ place-memory c.self.inside.sharers.items at.homes c.args.process at.pools inside.homes
