use Rattle.std.proofs.Common.{◌≡◌, List, take}
use Rattle.numa_space.specs.Standing.{StandsFor, accepted_of}
use Rattle.numa_requests.specs.declared.command.Command.{Command}
use Rattle.numa_space.proofs.space.Space.apply_all.Given as goal

abbrev pub invariant-loop-done : goal.invariant-loop-done
invariant-loop-done l = record {
  stands : (history : List Command) → StandsFor l.initial.self history
      → StandsFor l.self
      (accepted_of l.initial.self.machine l.initial.self.bounds (take l.done l.commands) history);
  machine : l.self.machine ≡ l.initial.self.machine;
  bounds : l.self.bounds ≡ l.initial.self.bounds;
}
