use Rattle.std.proofs.Common.{◌≡◌, None, Some, MatchResult, subst}
use Rattle.numa_machine.specs.Machine.{Hardware}
use Rattle.numa_space.specs.Lists.{node_list}
use Rattle.numa_space.specs.Standing.{place_refusal_of}
use Rattle.numa_host.specs.Processes.{commands_of}
use Rattle.numa_host.proofs.host.Host.list_at.Goals as goal

-- the process's space is of the host's machine
pub returns-in-Some : goal.returns-in-Some
returns-in-Some c = λ history stands.
    let own = c.in-Some.ensures history stands in
    let commands = commands_of c.args.self.now.blank.machine history c.args.process in (
      own.0,
      subst (λ (m : Hardware). MatchResult c.list_at.result
          (λ list. (place_refusal_of m commands c.args.page c.args.cpu ≡ None)
          × (list.items ≡ node_list m commands c.args.task c.args.page c.args.cpu))
          (λ refusal. place_refusal_of m commands c.args.page c.args.cpu ≡ Some refusal))
          own.1 (c.list_at.ensures.meaning commands own.2),
    )
