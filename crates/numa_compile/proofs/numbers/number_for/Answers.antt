use Rattle.std.proofs.Common.{sym, ◌∙◌}
use Rattle.numa_compile.proofs.numbers.number_for.Goals as goal

pub number_of-requires-clause-in_force : goal.number_of-requires-clause-in_force
number_of-requires-clause-in_force c = c.requires.in_force c.in-Some.policy c.in-Some.is

pub number_of-requires-clause-ready : goal.number_of-requires-clause-ready
number_of-requires-clause-ready c = c.requires.ready

pub number_of-requires-clause-nodes : goal.number_of-requires-clause-nodes
number_of-requires-clause-nodes c = c.requires.nodes

pub number_of-requires-clause-serves : goal.number_of-requires-clause-serves
number_of-requires-clause-serves c = c.requires.serves

pub number_of-requires-clause-room : goal.number_of-requires-clause-room
number_of-requires-clause-room c = c.requires.room

pub returns-clause-serves : goal.returns-clause-serves
returns-clause-serves c = c.in_ok-number.ensures.serves

pub returns-clause-rest : goal.returns-clause-rest
returns-clause-rest c = c.in_ok-number.ensures.rest

pub number_of-requires-clause-live : goal.number_of-requires-clause-live
number_of-requires-clause-live c = sym c.has_rule.ensures ∙ c.if-not-has_rule.false
