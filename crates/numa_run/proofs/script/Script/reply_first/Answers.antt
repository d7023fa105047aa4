use Rattle.numa_run.proofs.LineLemmas.{first_same}
use Rattle.std.proofs.Common.{refl, false}
use Rattle.numa_page_state.specs.Outcomes.{Enough}
use Rattle.numa_script.specs.declared.reply.Reply.TheVariants as reply
use Rattle.numa_run.proofs.script.Script.reply_first.Goals as goal

pub returns-in-Silent : goal.returns-in-Silent
returns-in-Silent c =
    rw (c.in-Silent.is, c.requires)
    (first_same c.args.self.now.settings _ reply.Silent Enough (λ state. refl))

pub returns-in-Malformed : goal.returns-in-Malformed
returns-in-Malformed c =
    rw (c.in-Malformed.is, c.requires)
    (first_same c.args.self.now.settings _ reply.BadWords Enough (λ state. refl))

pub returns-in-Command : goal.returns-in-Command
returns-in-Command c =
    rw (c.in-Command.is, c.requires)
    (first_same c.args.self.now.settings _ reply.BadState Enough (λ state. refl))

pub returns-in-EmptyBind : goal.returns-in-EmptyBind
returns-in-EmptyBind c =
    rw (c.in-EmptyBind.is, c.requires)
    (first_same c.args.self.now.settings _ reply.BadState Enough (λ state. refl))

pub returns-in-Question : goal.returns-in-Question
returns-in-Question c =
    rw (c.in-Question.is, c.requires)
    (first_same c.args.self.now.settings _ reply.BadState Enough (λ state. refl))

pub returns-in-Maps : goal.returns-in-Maps
returns-in-Maps c =
    rw (c.in-Maps.is, c.requires)
    (first_same c.args.self.now.settings _ reply.BadState Enough (λ state. refl))

pub returns-in-Work : goal.returns-in-Work
returns-in-Work c =
    rw (c.in-Work.is, c.requires)
    (first_same c.args.self.now.settings _ reply.BadState Enough (λ state. refl))

pub returns-in-Limits : goal.returns-in-Limits
returns-in-Limits c = rw c.in-Limits.is c.limit.ensures

pub returns-in-Rules : goal.returns-in-Rules
returns-in-Rules c = rw c.in-Rules.is c.choose.ensures

pub returns-in-Cpus : goal.returns-in-Cpus
returns-in-Cpus c = rw c.in-Cpus.is c.equip.ensures

pub returns-in-Machine : goal.returns-in-Machine
returns-in-Machine c = rw c.in-Machine.is c.describe.ensures

pub returns-in-Pages : goal.returns-in-Pages
returns-in-Pages c =
    rw (c.in-Pages.is, c.requires)
    (first_same c.args.self.now.settings _ reply.BadState Enough (λ state. refl))

pub returns-in-Bind : goal.returns-in-Bind
returns-in-Bind c =
    rw (c.in-Bind.is, c.requires)
    (first_same c.args.self.now.settings _ reply.BadState Enough (λ state. refl))

pub returns-in-Huge : goal.returns-in-Huge
returns-in-Huge c =
    rw (c.in-Huge.is, c.requires)
    (first_same c.args.self.now.settings _ reply.BadState Enough (λ state. refl))

pub returns-in-Host : goal.returns-in-Host
returns-in-Host c =
    rw (c.in-Host.is, c.requires)
    (first_same c.args.self.now.settings _ reply.BadWords Enough (λ state. refl))

pub returns-in-HostCommand : goal.returns-in-HostCommand
returns-in-HostCommand c =
    rw (c.in-HostCommand.is, c.requires)
    (first_same c.args.self.now.settings _ reply.BadWords Enough (λ state. refl))
