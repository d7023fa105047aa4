use Rattle.std.proofs.Common.{sym, ap, ◌∙◌}
use Rattle.numa_mask.specs.Lists.{list_of}
use Rattle.numa_mask.proofs.Rereading.{list_of-text_of}
use Rattle.numa_mask.proofs.Written.{written-start, written-skip, written-more, written-room}
use Rattle.numa_mask.proofs.Written.{written-end}
use Rattle.numa_mask.proofs.text.list_text.Goals as goal

pub loop-node-init : goal.loop-node-init
loop-node-init c = written-start c.args.set.now c.into_iter-node-iterator.result
    c.new-text.result.bytes (c.into_iter-node-iterator.ensures.into_iter_gives
    ∙ c.iter-node-items.ensures.members) c.new-text.ensures

pub push_next-requires : goal.push_next-requires
push_next-requires c = written-room c.args.set.now c.loop-node.node-iterator c.next.new.self
    c.in-Some.node c.run_end.result c.loop-node.yielded c.loop-node.text.bytes c.loop-node.invariant
    c.in-Some.ensures.steps (sym c.if-starts_run.ensures) c.run_end.ensures

pub loop-node-preserved-then-starts_run : goal.loop-node-preserved-then-starts_run
loop-node-preserved-then-starts_run c = written-more c.args.set.now c.loop-node.node-iterator
    c.next.new.self c.in-Some.node c.run_end.result c.loop-node.yielded c.loop-node.text.bytes
    c.push_next.new.text.bytes c.loop-node.invariant c.in-Some.ensures.steps
    (sym c.if-starts_run.ensures) c.run_end.ensures c.push_next.ensures

pub loop-node-preserved : goal.loop-node-preserved
loop-node-preserved c = written-skip c.args.set.now c.loop-node.node-iterator c.next.new.self
    c.in-Some.node c.loop-node.yielded c.loop-node.text.bytes c.loop-node.invariant
    c.in-Some.ensures.steps (sym c.if-starts_run.ensures)

pub returns-clause-text : goal.returns-clause-text
returns-clause-text c = written-end c.args.set.now c.loop-node.node-iterator c.loop-node.yielded
    c.loop-node.text.bytes c.loop-node.invariant c.in-None.ensures.steps.0

pub returns-clause-reads_back : goal.returns-clause-reads_back
returns-clause-reads_back c = λ some. ap list_of (returns-clause-text c)
    ∙ list_of-text_of c.args.set.now c.iter-node-items.ensures.within some
