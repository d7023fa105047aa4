use Rattle.std.proofs.Common.{ℕ, List, Option, subst, sym, ◌∙◌}
use Rattle.std.specs.Prelude.{is_some, true}
use Rattle.numa_huge.specs.Moves.{HugeMemory}
use Rattle.numa_page_state.specs.Huge.{HugeFaults, huge_at_address, huge_page}
use Rattle.numa_run.proofs.Faulted.{fault-huge, fault-refused, fault-small}
use Rattle.numa_run.proofs.Keeping.{kept-test, none-test}
use Rattle.numa_run.proofs.running.Running.fault.Goals as goal

pub unreachable-requires : goal.unreachable-requires
unreachable-requires c =
    let none = none-test (λ (m : Option HugeMemory). is_some (huge_at_address m c.args.address))
    true c.args.self.now.huge c.in_default.is (λ memory stands.
    sym (c.is_huge_at.ensures memory stands) ∙ c.if-not-is_huge_at.false) in cc

pub fault_kept-requires : goal.fault_kept-requires
fault_kept-requires c =
    kept-test (λ (m : Option HugeMemory). is_some (huge_at_address m c.args.address)) true
    c.args.self.now.huge c.in-Some.kept c.in-Some.is (λ memory stands.
    sym (c.is_huge_at.ensures memory stands) ∙ c.if-not-is_huge_at.false)

pub returns-in-Err : goal.returns-in-Err
returns-in-Err c =
    rw c.place_cause.ensures
    (fault-refused c.args.self.now c.args.task c.args.address c.args.cpu c.in-Err.why
    (rw c.space.ensures.space at c.in-Err.ensures.meaning))

pub returns-then-not-is_huge_at : goal.returns-then-not-is_huge_at
returns-then-not-is_huge_at c =
    fault-small c.args.self.now c.args.task c.args.address c.args.cpu c.in-Ok.list.items
    (rw c.space.ensures.space at c.in-Ok.ensures.meaning) c.is_huge_at.result
    c.is_huge_at.ensures c.fault_small.new.self c.fault_small.result c.if-not-is_huge_at.true
    c.fault_small.ensures

pub returns : goal.returns
returns c =
    rw c.fault_reply.ensures
    (fault-huge c.args.self.now c.args.task c.args.address c.args.cpu c.in-Ok.list.items
    (rw c.space.ensures.space at c.in-Ok.ensures.meaning) c.is_huge_at.result
    c.is_huge_at.ensures c.in-Some.kept c.in-Some.is c.if-not-is_huge_at.false c.fault_kept.result
    c.fault_kept.new.kept c.fault_kept.ensures.rest
    (subst (λ (nodes : List ℕ). HugeFaults c.in-Some.kept.places c.fault_kept.result
    c.fault_kept.new.kept.places (huge_page c.args.address) nodes) c.deref.ensures.0
    c.fault_kept.ensures.faults))
