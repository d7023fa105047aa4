use Rattle.std.proofs.Common.{◌≡◌, false, true, refl, sym, subst, ap, ◌∙◌}
use Rattle.numa_pages.specs.Changes.{PagesState}
use Rattle.numa_pages.proofs.Mapped.{lacks-so}
use Rattle.numa_pages.proofs.pages.Pages.map_huge.Goals as goal

pub lack_pages-requires-clause-lacks : goal.lack_pages-requires-clause-lacks
lack_pages-requires-clause-lacks c =
    rw (← c.self.view_is) (lacks-so c.args.said.now
    (record { core = c.self.inside.core; state = c.self.inside.state; huge = c.self.inside.huge })
    c.task_policy.result c.allowed.result
    c.mapping_nodes-nodes.result c.mapped_pages-pages.result c.pools.result.now
    c.lacks_if.result true (rw c.space-space.ensures.space at c.task_policy.ensures.meaning)
    (rw c.space-space.ensures.space at c.allowed.ensures.meaning) c.mapping_nodes-nodes.ensures
    c.mapped_pages-pages.ensures c.pools.ensures c.lacks_if.ensures.lacks c.if-lacks_if.true)

pub map_fitting-requires-clause-enough : goal.map_fitting-requires-clause-enough
map_fitting-requires-clause-enough c =
    rw (← c.self.view_is) (lacks-so c.args.said.now
    (record { core = c.self.inside.core; state = c.self.inside.state; huge = c.self.inside.huge })
    c.task_policy.result c.allowed.result
    c.mapping_nodes-nodes.result c.mapped_pages-pages.result c.pools.result.now
    c.lacks_if.result false (rw c.space-space.ensures.space at c.task_policy.ensures.meaning)
    (rw c.space-space.ensures.space at c.allowed.ensures.meaning) c.mapping_nodes-nodes.ensures
    c.mapped_pages-pages.ensures c.pools.ensures c.lacks_if.ensures.lacks c.if-lacks_if.false)
