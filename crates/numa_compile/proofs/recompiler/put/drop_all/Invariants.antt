use Rattle.numa_compile.proofs.PutLemmas.{HasDropped}
use Rattle.numa_compile.proofs.recompiler.put.drop_all.Given as goal

abbrev pub invariant-loop-run : goal.invariant-loop-run
invariant-loop-run l = HasDropped l.initial.plan l.plan
