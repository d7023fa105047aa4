use Rattle.std.specs.Prelude.{reverse, take}
use Rattle.numa_traces.specs.Replaying.{IsReplay}
use Rattle.numa_traces.proofs.whole.replay_all.Given as goal

abbrev pub invariant-loop-place : goal.invariant-loop-place
invariant-loop-place l = IsReplay l.machine l.plan (reverse (take l.place l.trace)) l.replay
