use Rattle.std.proofs.Common.{Option}
use Rattle.std.specs.Prelude.{is_some, true}
use Rattle.numa_huge.specs.Moves.{HugeMemory}
use Rattle.numa_page_state.specs.Huge.{huge_at_address}
use Rattle.numa_run.proofs.HugeMoved.{huge-done, huge-refused, huge-starved}
use Rattle.numa_run.proofs.Keeping.{none-test}
use Rattle.numa_run.proofs.running.Running.move_huge.Goals as goal

pub unreachable-requires : goal.unreachable-requires
unreachable-requires c =
    let none = none-test (λ (m : Option HugeMemory). is_some (huge_at_address m c.args.address))
    true c.args.self.now.huge c.in_default.is c.requires in cc

pub returns-then-begins_starved : goal.returns-then-begins_starved
returns-then-begins_starved c =
    rw c.lack_reply.ensures
    (huge-starved c.args.self.now c.args.address c.args.node c.requires c.in-Some.kept c.in-Some.is
    c.begins_starved.new.state (c.begins_starved.ensures.starved c.if-begins_starved.true))

pub returns-in-Err : goal.returns-in-Err
returns-in-Err c =
    huge-refused c.args.self.now c.args.address c.args.node c.requires c.in-Some.kept c.in-Some.is
    c.begins_starved.new.state (c.begins_starved.ensures.kept c.if-begins_starved.false)
    c.huge_move.new.huge c.huge_move.result (rw c.space.ensures.space at c.huge_move.ensures.moves)
    c.in-Err.why c.in-Err.is

pub returns : goal.returns
returns c =
    huge-done c.args.self.now c.args.address c.args.node c.requires c.in-Some.kept c.in-Some.is
    c.begins_starved.new.state (c.begins_starved.ensures.kept c.if-begins_starved.false)
    c.huge_move.new.huge c.huge_move.result (rw c.space.ensures.space at c.huge_move.ensures.moves)
    c.in_default-huge_move.is c.rest_small.new.state c.rest_small.ensures
