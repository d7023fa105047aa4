use Rattle.std.proofs.Common.{◌∙◌, ap, sym}
use Rattle.std.specs.Prelude.{◌&&◌}
use Rattle.numa_machine.specs.declared.page_size.PageSize.TheVariants.{Huge}
use Rattle.numa_page_state.specs.Huge.{mapping_nodes}
use Rattle.numa_pools.specs.Pools.{lacks_pages}
use Rattle.numa_requests.specs.declared.command.Command.TheVariants.{Map}
use Rattle.numa_host_script.proofs.Bindings.{nobody-replies}
use Rattle.numa_host_script.proofs.Fitted.{maps-fitting, maps-lacking, maps-nobody, maps-spent}
use Rattle.numa_host_script.proofs.Unmapped.{answered}
use Rattle.numa_host_script.proofs.pooling.map.Goals as goal

pub map_fitting-requires : goal.map_fitting-requires
map_fitting-requires c = rw c.pools.ensures at c.lacks_if.ensures.enough c.if-lacks_if.false

pub returns-then-not-takes_more : goal.returns-then-not-takes_more
returns-then-not-takes_more c =
    maps-spent c.args.running.now c.args.process c.args.start c.args.length c.args.offset
    c.args.task c.args.reserves c.takes_more.result c.takes_more.ensures c.if-not-takes_more.true
    _ c.obey_in.result
    (answered c.args.running.now c.obey_in.new.host c.args.process
    (Map c.args.start c.args.length c.args.offset Huge) c.obey_in.result c.obey_in.ensures)

pub returns-in_default : goal.returns-in_default
returns-in_default c =
    maps-nobody c.args.running.now c.args.process c.args.start c.args.length c.args.offset
    c.args.task c.args.reserves c.takes_more.result c.takes_more.ensures
    c.if-not-takes_more.false _ c.obey_in-in_default.result
    (nobody-replies c.args.running.now _ c.obey_in-in_default.result c.args.process _
    c.in_default.ensures)

pub returns-then-lacks_if : goal.returns-then-lacks_if
returns-then-lacks_if c =
    maps-lacking c.args.running.now c.args.process c.args.start c.args.length c.args.offset
    c.args.task c.args.reserves c.takes_more.result c.takes_more.ensures
    c.if-not-takes_more.false c.in-Some.space.now c.in-Some.ensures c.task_policy.result
    c.mapping_nodes-nodes.result c.task_policy.ensures.meaning
    (c.mapping_nodes-nodes.ensures ∙ ap (mapping_nodes c.task_policy.result)
    c.allowed.ensures.allowed) c.lack_pages.new.running c.lack_pages.result
    (sym (c.lacks_if.ensures.lacks ∙ (λ i. c.args.reserves && lacks_pages (c.pools.ensures i)
    (c.mapped_pages-pages.ensures i) c.mapping_nodes-nodes.result)) ∙ c.if-lacks_if.true)
    (rw c.mapped_pages-pages.ensures at c.lack_pages.ensures)

pub returns : goal.returns
returns c =
    maps-fitting c.args.running.now c.args.process c.args.start c.args.length c.args.offset
    c.args.task c.args.reserves c.takes_more.result c.takes_more.ensures
    c.if-not-takes_more.false c.in-Some.space.now c.in-Some.ensures c.task_policy.result
    c.mapping_nodes-nodes.result c.task_policy.ensures.meaning
    (c.mapping_nodes-nodes.ensures ∙ ap (mapping_nodes c.task_policy.result)
    c.allowed.ensures.allowed) c.map_fitting.new.running c.map_fitting.result
    (sym (c.lacks_if.ensures.lacks ∙ (λ i. c.args.reserves && lacks_pages (c.pools.ensures i)
    (c.mapped_pages-pages.ensures i) c.mapping_nodes-nodes.result)) ∙ c.if-lacks_if.false)
    (rw (c.mapped_pages-pages.ensures, c.bytes.ensures) at c.map_fitting.ensures)
