use Rattle.std.proofs.Common.{refl}
use Rattle.numa_run.specs.Replies.{outcome_of}
use Rattle.numa_host_script.proofs.laws.process_judged.Goals as goal

pub returns : goal.returns
unfolding outcome_of
returns c = λ lack at process state question machine history there.
    rw (there, machine, history) refl
