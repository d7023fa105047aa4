-- The process of a running machine: the state's, and the one that its space stands for.
use Rattle.std.proofs.Common.{◌≡◌, List, sym, is_some}
use Rattle.numa_maps.specs.Residents.{Kept}
use Rattle.numa_requests.specs.declared.command.Command.{Command}
use Rattle.numa_space.specs.Standing.{SpaceState}
use Rattle.numa_page_state.specs.Lying.{Process, ground_in, ground_of}
use Rattle.numa_page_state.proofs.Asking.{nodes-same}
use Rattle.numa_run.specs.Standing.{RunsAs}
use Rattle.numa_run.specs.States.{State, process_on}
use Rattle.numa_run.specs.declared.running.Running.{Running}

-- the process of a space that stands for the history, with the pages that keep frames
abbrev pub process_by : SpaceState → List Command → Kept → Process
process_by space history kept = record {
  machine = space.machine;
  bounds = space.bounds;
  history = history;
  kept = kept;
}

pub process-same : (running : Running) (state : State) → RunsAs running state
    → process_by running.core.space state.world.history running.resident
    ≡ process_on running.core.space.machine state
process-same running state stands = λ i. record {
  machine = running.core.space.machine;
  bounds = sym stands.core.bounds i;
  history = state.world.history;
  kept = stands.resident i;
}

pub ground-same : (running : Running) (state : State) → RunsAs running state
    → ground_of (process_on running.core.space.machine state)
    ≡ ground_in running.core.space running.resident
ground-same running state stands = λ i. record {
  machine = running.core.space.machine;
  allowed = sym stands.core.world.space.allowed i;
  mapped = λ page. is_some (sym (stands.core.world.space.pages page) i);
  kept = sym stands.resident i;
  lists = λ task cpu page. sym (nodes-same running.core.space state.world.history
      (record { task = task; cpu = cpu }) page stands.core.world.space) i;
}
