use Rattle.std.proofs.Common.{Option}
use Rattle.std.specs.Prelude.{true}
use Rattle.numa_huge.specs.Moves.{HugeMemory}
use Rattle.numa_page_state.specs.Huge.{has_huge_in}
use Rattle.numa_space.specs.History.{page_count, page_of}
use Rattle.numa_run.proofs.Keeping.{none-test}
use Rattle.numa_run.proofs.PageChanges.{begun-pages}
use Rattle.numa_run.proofs.Populated.{both-done, both-refused, both-starved}
use Rattle.numa_run.proofs.running.Running.populate_both.Goals as goal

pub unreachable-requires : goal.unreachable-requires
unreachable-requires c =
    let none = none-test (λ (m : Option HugeMemory). has_huge_in m (page_of c.args.said.now.start)
    (page_count c.args.said.now.length)) true c.args.self.now.huge c.in_default.is c.requires in cc

pub returns-then-begins_starved : goal.returns-then-begins_starved
returns-then-begins_starved c =
    both-starved c.args.self.now c.args.said.now.start c.args.said.now.length
    c.args.said.now.task c.args.said.now.cpu c.requires c.in-Some.huge c.in-Some.is
    c.begins_starved.new.state (c.begins_starved.ensures.starved c.if-begins_starved.true)

pub returns-in-Ok : goal.returns-in-Ok
returns-in-Ok c =
    both-done c.args.self.now c.args.said.now.start c.args.said.now.length
    c.args.said.now.task c.args.said.now.cpu c.requires c.in-Some.huge c.in-Some.is
    c.in-Some-pages.kept
    (begun-pages c.args.self.now.pages c.begins_starved.new.state c.in-Some-pages.kept
    c.in-Some-pages.is (c.begins_starved.ensures.kept c.if-begins_starved.false))
    c.touch_both.new.pages c.touch_both.new.huge c.touch_both.result
    (rw c.space.ensures.space at c.touch_both.ensures) c.in-Ok.is

pub returns-in-Err : goal.returns-in-Err
returns-in-Err c =
    both-refused c.args.self.now c.args.said.now.start c.args.said.now.length
    c.args.said.now.task c.args.said.now.cpu c.requires c.in-Some.huge c.in-Some.is
    c.in-Some-pages.kept
    (begun-pages c.args.self.now.pages c.begins_starved.new.state c.in-Some-pages.kept
    c.in-Some-pages.is (c.begins_starved.ensures.kept c.if-begins_starved.false))
    c.touch_both.new.pages c.touch_both.new.huge c.touch_both.result
    (rw c.space.ensures.space at c.touch_both.ensures) c.in-Err.why c.in-Err.is
