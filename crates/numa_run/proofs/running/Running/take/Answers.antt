use Rattle.std.proofs.Common.{refl, Ok, Err}
use Rattle.numa_run.specs.Obeying.{bind_nothing, bound_command, bound_outcome, command_outcome}
use Rattle.numa_run.specs.PageLines.{work_served}
use Rattle.numa_script.specs.declared.reply.Reply.TheVariants as reply
use Rattle.numa_script.specs.declared.line.Line.TheVariants as line
use Rattle.numa_run.proofs.LineLemmas.{later_same, served_here}
use Rattle.numa_run.proofs.PageChanges.{page-fault}
use Rattle.numa_run.proofs.running.Running.take.Goals as goal

pub returns-in-Silent : goal.returns-in-Silent
returns-in-Silent c =
    rw c.in-Silent.is (later_same c.args.self.now line.Silent reply.Silent (λ machine state. refl))

pub returns-in-Malformed : goal.returns-in-Malformed
returns-in-Malformed c =
    rw c.in-Malformed.is
    (later_same c.args.self.now line.Malformed reply.BadWords (λ machine state. refl))

pub returns-in-Limits : goal.returns-in-Limits
returns-in-Limits c =
    rw c.in-Limits.is (later_same c.args.self.now _ reply.BadState (λ machine state. refl))

pub returns-in-Rules : goal.returns-in-Rules
returns-in-Rules c =
    rw c.in-Rules.is (later_same c.args.self.now _ reply.BadState (λ machine state. refl))

pub returns-in-Cpus : goal.returns-in-Cpus
returns-in-Cpus c =
    rw c.in-Cpus.is (later_same c.args.self.now _ reply.BadState (λ machine state. refl))

pub returns-in-Machine : goal.returns-in-Machine
returns-in-Machine c =
    rw c.in-Machine.is (later_same c.args.self.now _ reply.BadState (λ machine state. refl))

pub returns-in-Ok : goal.returns-in-Ok
returns-in-Ok c =
    rw (c.in-Command.is, c.in-Ok.is)
    (served_here c.args.self.now c.obey.new.self _ c.obey.result
    (λ lack machine state. command_outcome lack machine state (Ok c.in-Ok.command))
    c.obey.ensures (λ lack state. refl))

pub returns-in-Err : goal.returns-in-Err
returns-in-Err c =
    rw (c.in-Command.is, c.in-Err.is)
    (later_same c.args.self.now (line.Command (Err c.in-Err.fault))
    (reply.BadWord c.in-Err.fault) (λ machine state. refl))

pub returns-in-EmptyBind : goal.returns-in-EmptyBind
returns-in-EmptyBind c =
    rw c.in-EmptyBind.is
    (served_here c.args.self.now c.bind_nothing.new.self _ c.bind_nothing.result
    (λ lack machine state. command_outcome lack machine state
    (bind_nothing machine.rules c.in-EmptyBind.start c.in-EmptyBind.fault))
    c.bind_nothing.ensures (λ lack state. refl))

pub returns-in-Work : goal.returns-in-Work
returns-in-Work c =
    rw c.in-Work.is
    (served_here c.args.self.now c.work.new.self _ c.work.result
    (λ lack machine state. work_served lack machine state c.in-Work.work)
    c.work.ensures (λ lack state. refl))

pub returns-in-Ok-said : goal.returns-in-Ok-said
returns-in-Ok-said c = rw (c.in-Pages.is, c.in-Ok-said.is) c.page.ensures

pub returns-in-Err-said : goal.returns-in-Err-said
returns-in-Err-said c =
    rw (c.in-Pages.is, c.in-Err-said.is) (page-fault c.args.self.now c.in-Err-said.fault)

pub returns-in-Bind : goal.returns-in-Bind
returns-in-Bind c =
    rw c.in-Bind.is
    (served_here c.args.self.now c.bind.new.self _ c.bind.result
    (λ lack machine state. bound_outcome lack machine state c.in-Bind.pages
    (bound_command machine.rules c.in-Bind.start c.in-Bind.length c.in-Bind.policy))
    c.bind.ensures (λ lack state. refl))

pub returns-in-Huge : goal.returns-in-Huge
returns-in-Huge c = rw c.in-Huge.is c.huge.ensures

pub returns-in-Host : goal.returns-in-Host
returns-in-Host c =
    rw c.in-Host.is (later_same c.args.self.now _ reply.BadWords (λ machine state. refl))

pub returns-in-HostCommand : goal.returns-in-HostCommand
returns-in-HostCommand c =
    rw c.in-HostCommand.is (later_same c.args.self.now _ reply.BadWords (λ machine state. refl))
