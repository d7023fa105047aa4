use Rattle.std.proofs.Common.{◌≡◌, ◌≤◌, Option, true, ap, sym, subst, ◌∙◌}
use Rattle.std.specs.Prelude.{◌&&◌, IsSomeAnd}
use Rattle.numa_huge.specs.declared.pages.HugePages.{HugePages}
use Rattle.numa_page_state.specs.Huge.{mapping_nodes}
use Rattle.numa_pools.specs.Pools.{lacks_pages, unreserved}
use Rattle.numa_space.specs.Standing.{SpaceState}
use Rattle.numa_run.proofs.Fitting.{maps-fitting, maps-lacking}
use Rattle.numa_run.proofs.running.Running.map_huge.Goals as goal

pub map_fitting-requires : goal.map_fitting-requires
map_fitting-requires c =
    subst (λ (h : Option HugePages). IsSomeAnd h (λ kept. c.args.reserves ≡ true
    → c.mapped_pages-pages.result ≤ unreserved kept.places.pools)) (sym c.in-Some.is)
    (rw c.pools.ensures at c.lacks_if.ensures.enough c.if-lacks_if.false)

pub returns-then-lacks_if : goal.returns-then-lacks_if
returns-then-lacks_if c =
    maps-lacking c.args.self.now c.in-Some.kept c.in-Some.is c.args.start c.args.length
    c.args.offset c.args.task c.args.reserves c.task_policy.result c.mapping_nodes-nodes.result
    (rw c.space-space.ensures.space at c.task_policy.ensures.meaning)
    (c.mapping_nodes-nodes.ensures ∙ ap (mapping_nodes c.task_policy.result)
    (c.allowed.ensures.allowed ∙ ap (λ (s : SpaceState). s.allowed) c.space-space.ensures.space))
    c.lack_pages.new.self c.lack_pages.result
    (sym (c.lacks_if.ensures.lacks ∙ (λ i. c.args.reserves && lacks_pages (c.pools.ensures i)
    (c.mapped_pages-pages.ensures i) c.mapping_nodes-nodes.result)) ∙ c.if-lacks_if.true)
    (rw c.mapped_pages-pages.ensures at c.lack_pages.ensures)

pub returns : goal.returns
returns c =
    maps-fitting c.args.self.now c.in-Some.kept c.in-Some.is c.args.start c.args.length
    c.args.offset c.args.task c.args.reserves c.task_policy.result c.mapping_nodes-nodes.result
    (rw c.space-space.ensures.space at c.task_policy.ensures.meaning)
    (c.mapping_nodes-nodes.ensures ∙ ap (mapping_nodes c.task_policy.result)
    (c.allowed.ensures.allowed ∙ ap (λ (s : SpaceState). s.allowed) c.space-space.ensures.space))
    c.map_fitting.new.self c.map_fitting.result
    (sym (c.lacks_if.ensures.lacks ∙ (λ i. c.args.reserves && lacks_pages (c.pools.ensures i)
    (c.mapped_pages-pages.ensures i) c.mapping_nodes-nodes.result)) ∙ c.if-lacks_if.false)
    (rw (c.mapped_pages-pages.ensures, c.bytes.ensures) at c.map_fitting.ensures)
