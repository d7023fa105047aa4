use Rattle.numa_compile.proofs.planned.keep_if.Goals as goal

pub returns-else-not-follows : goal.returns-else-not-follows
returns-else-not-follows c = c.requires c.if-not-follows.false
