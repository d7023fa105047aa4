use Rattle.std.proofs.Common.{arith}
use Rattle.numa_compile.proofs.rules.rule_by_home.Goals as goal

pub faulting_rule-requires-clause-ready : goal.faulting_rule-requires-clause-ready
faulting_rule-requires-clause-ready c = c.requires.ready

pub faulting_rule-requires-clause-some : goal.faulting_rule-requires-clause-some
faulting_rule-requires-clause-some c = c.requires.some

pub faulting_rule-requires-clause-allowed : goal.faulting_rule-requires-clause-allowed
faulting_rule-requires-clause-allowed c = c.requires.allowed

pub fixed_rule-requires-clause-ready : goal.fixed_rule-requires-clause-ready
fixed_rule-requires-clause-ready c = c.requires.ready

pub fixed_rule-requires-clause-some : goal.fixed_rule-requires-clause-some
fixed_rule-requires-clause-some c = c.requires.some

pub fixed_rule-requires-clause-allowed : goal.fixed_rule-requires-clause-allowed
fixed_rule-requires-clause-allowed c = c.requires.allowed

pub fixed_rule-requires-clause-from : goal.fixed_rule-requires-clause-from
fixed_rule-requires-clause-from c =
    omega (arith, c.requires.home c.in-Some.home c.in-Some.is, c.from.ensures)
