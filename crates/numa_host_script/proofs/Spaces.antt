-- The space of a process of a host.
use Rattle.std.proofs.Common.{◌≡◌, ℕ, true, Bool, Option, Some, None, List, [], refl, sym, ap}
use Rattle.std.proofs.Common.{subst, ◌∙◌, is_some, MatchOption}
use Rattle.std.specs.List.{find}
use Rattle.numa_machine.specs.Machine.{Hardware}
use Rattle.numa_maps.specs.Residents.{Kept}
use Rattle.numa_requests.specs.declared.command.Command.{Command}
use Rattle.numa_requests.specs.declared.host_command.HostCommand.{HostCommand}
use Rattle.numa_space.specs.Standing.{SpaceState, StandsFor}
use Rattle.numa_host.specs.Processes.{commands_of, is_there, members_of}
use Rattle.numa_host.specs.Standing.{HostState, HostStandsFor, IsSpaceOf}
use Rattle.numa_host.specs.declared.process.Process.{Process}
use Rattle.numa_host.proofs.Found.{found-holds, has_id, process-some}
use Rattle.numa_page_state.specs.Lying.{Process as Owner, ground_in, ground_of}
use Rattle.numa_page_state.specs.Lying.{process_in as process_by}
use Rattle.numa_page_state.proofs.Asking.{nodes-same}
use Rattle.numa_host_script.specs.Hosts.{Hosting}
use Rattle.numa_host_script.specs.Paging.{process_in}

-- it is of the host's machine, and within its limits
pub space-found : (host : HostState) (history : List HostCommand) → HostStandsFor host history
    → (id : ℕ) (p : Process) → find (has_id id) host.processes ≡ Some p
    → (is_there (members_of history) id ≡ true)
    × IsSpaceOf host.blank.machine host.blank.bounds
    (commands_of host.blank.machine history id) p.space
space-found host history stands id p some =
    let P : Process → Type 0 = λ q. IsSpaceOf host.blank.machine host.blank.bounds
    (commands_of host.blank.machine history q.id) q.space in
    let Q : Option Process → Type 0 = λ o. MatchOption o (Unit {0}) (λ q. P q × (id ≡ q.id)) in
    let held : P p × (id ≡ p.id) =
    subst Q some (found-holds P host.processes id stands.spaces) in (
      (process-some host history stands id p some).0,
      subst (λ n. IsSpaceOf host.blank.machine host.blank.bounds
          (commands_of host.blank.machine history n) p.space) (sym held.1) held.0,
    )

module _ (host : HostState) (at : Hosting) (process : ℕ) (space : SpaceState)
    (machine : host.blank.machine ≡ at.machine) (bounds : host.blank.bounds ≡ at.bounds)
    (own : IsSpaceOf host.blank.machine host.blank.bounds
    (commands_of host.blank.machine at.history process) space) where
  -- by the machine and the limits that are known
  pub own-space : IsSpaceOf at.machine at.bounds (commands_of at.machine at.history process) space
  own-space = record {
    machine = own.machine ∙ machine;
    bounds = own.bounds ∙ bounds;
    stands = subst (λ (m : Hardware). StandsFor space (commands_of m at.history process)) machine
        own.stands;
  }

  -- it is the process that the definitions speak of
  pub same-process : (kept : Kept) → kept ≡ []
      → process_by space (commands_of at.machine at.history process) kept
      ≡ process_in at process
  same-process kept none = λ i. record {
    machine = own-space.machine i;
    bounds = own-space.bounds i;
    history = commands_of at.machine at.history process;
    kept = none i;
  }

  -- and so is what its pages go by
  pub same-ground : ground_in space [] ≡ ground_of (process_in at process)
  same-ground = space-ground space (commands_of at.machine at.history process) own-space.stands
      ∙ ap ground_of (same-process [] refl)
    where
      space-ground : (it : SpaceState) (history : List Command) → StandsFor it history
          → ground_in it [] ≡ ground_of (process_by it history [])
      space-ground it history stands = λ i. record {
        machine = it.machine;
        allowed = stands.allowed i;
        mapped = λ page. is_some (stands.pages page i);
        kept = [];
        lists = λ task cpu page. nodes-same it history (record { task = task; cpu = cpu }) page
            stands i;
      }
