use Rattle.numa_compile.proofs.recompiler.home.rewrite_homes.Goals as goal

pub write_homes-requires-clause-ready : goal.write_homes-requires-clause-ready
write_homes-requires-clause-ready c = c.requires.ready

pub write_homes-requires-clause-of : goal.write_homes-requires-clause-of
write_homes-requires-clause-of c = c.requires.of

pub returns-in_default-clause-few : goal.returns-in_default-clause-few
returns-in_default-clause-few c = c.write_homes.ensures.few

pub returns-clause-follows : goal.returns-clause-follows
returns-clause-follows c = c.in-Ok.ensures.follows

pub returns-clause-tasks : goal.returns-clause-tasks
returns-clause-tasks c = c.write_homes.ensures.tasks

pub returns-clause-few : goal.returns-clause-few
returns-clause-few c = c.write_homes.ensures.few
