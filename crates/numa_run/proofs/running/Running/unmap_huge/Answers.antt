use Rattle.std.proofs.Common.{Option}
use Rattle.std.specs.Prelude.{true}
use Rattle.numa_huge.specs.Moves.{HugeMemory}
use Rattle.numa_page_state.specs.Huge.{has_huge_in}
use Rattle.numa_space.specs.History.{page_count, page_of}
use Rattle.numa_run.proofs.Keeping.{kept-test, none-test}
use Rattle.numa_run.proofs.Unmapped.{both-denied, both-lacks, both-serves}
use Rattle.numa_run.proofs.running.Running.unmap_huge.Goals as goal

pub unreachable-requires : goal.unreachable-requires
unreachable-requires c =
    let none = none-test (λ (m : Option HugeMemory). has_huge_in m (page_of c.args.start)
    (page_count c.args.length)) true c.args.self.now.huge c.in_default.is c.requires in cc

pub huge_without-requires : goal.huge_without-requires
huge_without-requires c =
    kept-test (λ (m : Option HugeMemory). has_huge_in m (page_of c.args.start)
    (page_count c.args.length)) true c.args.self.now.huge c.in-Some.kept c.in-Some.is c.requires

pub returns-in-Err : goal.returns-in-Err
returns-in-Err c =
    rw c.command_reply.ensures
    (both-lacks c.args.self.now c.in-Some.kept c.in-Some.is c.args.start c.args.length c.requires
    c.in-Err.why c.in-Err.ensures.err)

pub returns-in-Err-without_span : goal.returns-in-Err-without_span
returns-in-Err-without_span c =
    rw c.command_reply-in-Err-without_span.ensures
    (both-denied c.args.self.now c.in-Some.kept c.in-Some.is c.args.start c.args.length c.requires
    c.in-Ok.huge c.in-Ok.ensures.ok c.runs.ensures.few c.in-Err-without_span.why
    c.in-Err-without_span.ensures)

pub returns : goal.returns
returns c =
    both-serves c.args.self.now c.in-Some.kept c.in-Some.is c.args.start c.args.length c.requires
    c.in-Ok.huge c.in-Ok.ensures.ok c.unmap_both.new.self c.unmap_both.result
    c.in-Ok-without_span.small c.in-Ok-without_span.ensures c.unmap_both.ensures
