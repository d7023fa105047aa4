use Rattle.std.proofs.Common.{◌∙◌, ap}
use Rattle.numa_machine.specs.declared.rules.Rules.{Rules}
use Rattle.numa_requests.specs.declared.command.Command.TheVariants.{Mbind}
use Rattle.numa_requests.specs.declared.host_command.HostCommand.TheVariants.{In}
use Rattle.numaplan_c.specs.Bound.{bound_spec, host_rules_in}
use Rattle.numaplan_handles.specs.Handles.{host_in}
use Rattle.numaplan_c.proofs.Hosting.{answered-bound}
use Rattle.numaplan_c.proofs.mbind.bind_in.Goals as goal

pub returns : goal.returns
returns c =
    answered-bound (λ spec. In c.args.process (Mbind c.args.start c.args.length spec))
    (host_in c.args.host.now) (host_in c.host_rules-rules.new.host) (host_in c.obey.new.host)
    c.obey.result
    (bound_spec (host_rules_in (host_in c.args.host.now)) c.args.length c.args.said)
    c.in-Ok.value
    (c.in-Ok.ensures
    ∙ ap (λ (rules : Rules). bound_spec rules c.args.length c.args.said)
    c.host_rules-rules.ensures.rules) c.host_rules-rules.ensures.same c.obey.ensures
