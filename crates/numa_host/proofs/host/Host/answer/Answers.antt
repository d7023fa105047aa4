use Rattle.std.proofs.Common.{sym, subst}
use Rattle.numa_requests.specs.declared.host_command.HostCommand.{HostCommand}
use Rattle.numa_host.specs.Standing.{IsHostApplied}
use Rattle.numa_host.proofs.host.Host.answer.Goals as goal

pub returns-in-NewGroup : goal.returns-in-NewGroup
returns-in-NewGroup c =
    subst (λ (command : HostCommand). IsHostApplied c.args.self.now command c.new_group.result
    c.new_group.new.self) (sym c.in-NewGroup.is) c.new_group.ensures

pub returns-in-SetGroupMems : goal.returns-in-SetGroupMems
returns-in-SetGroupMems c =
    subst (λ (command : HostCommand). IsHostApplied c.args.self.now command
    c.set_group_mems.result c.set_group_mems.new.self) (sym c.in-SetGroupMems.is)
    c.set_group_mems.ensures

pub returns-in-NewProcess : goal.returns-in-NewProcess
returns-in-NewProcess c =
    subst (λ (command : HostCommand). IsHostApplied c.args.self.now command c.new_process.result
    c.new_process.new.self) (sym c.in-NewProcess.is) c.new_process.ensures

pub returns-in-Exit : goal.returns-in-Exit
returns-in-Exit c = subst
    (λ (command : HostCommand). IsHostApplied c.args.self.now command c.exit.result
    c.exit.new.self) (sym c.in-Exit.is) c.exit.ensures

pub returns-in-Attach : goal.returns-in-Attach
returns-in-Attach c =
    subst (λ (command : HostCommand). IsHostApplied c.args.self.now command c.attach.result
    c.attach.new.self) (sym c.in-Attach.is) c.attach.ensures

pub returns-in-Fork : goal.returns-in-Fork
returns-in-Fork c = subst
    (λ (command : HostCommand). IsHostApplied c.args.self.now command c.fork.result
    c.fork.new.self) (sym c.in-Fork.is) c.fork.ensures

pub returns-in-In : goal.returns-in-In
returns-in-In c = subst
    (λ (command : HostCommand). IsHostApplied c.args.self.now command c.in_process.result
    c.in_process.new.self) (sym c.in-In.is) c.in_process.ensures

pub returns-in-SetWeight : goal.returns-in-SetWeight
returns-in-SetWeight c =
    subst (λ (command : HostCommand). IsHostApplied c.args.self.now command c.set_weight.result
    c.set_weight.new.self) (sym c.in-SetWeight.is) c.set_weight.ensures
