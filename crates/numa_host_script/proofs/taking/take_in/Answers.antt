use Rattle.std.proofs.Common.{refl}
use Rattle.numa_script.specs.declared.line.Line.TheVariants as line
use Rattle.numa_host_script.specs.Standing.{told}
use Rattle.numa_host_script.proofs.Resizes.{comes-taken}
use Rattle.numa_host_script.proofs.Taken.{asked-taken, in-nothing, listed-taken}
use Rattle.numa_host_script.proofs.taking.take_in.Goals as goal

pub returns-in-Command : goal.returns-in-Command
returns-in-Command c = rw c.in-Command.is c.give.ensures

pub returns-in-EmptyBind : goal.returns-in-EmptyBind
returns-in-EmptyBind c = rw c.in-EmptyBind.is c.bind_nothing.ensures

pub returns-in-Question : goal.returns-in-Question
returns-in-Question c =
    rw c.in-Question.is (asked-taken c.args.running.now c.args.process c.in-Question.question)

pub returns-in-Maps : goal.returns-in-Maps
returns-in-Maps c =
    rw c.in-Maps.is (listed-taken c.args.running.now c.args.process c.in-Maps.task)

pub returns-in-Pages : goal.returns-in-Pages
returns-in-Pages c = rw c.in-Pages.is c.pages_in.ensures

pub returns-in-Bind : goal.returns-in-Bind
returns-in-Bind c = rw c.in-Bind.is c.bind.ensures

pub returns-in-Huge : goal.returns-in-Huge
returns-in-Huge c =
    rw c.in-Huge.is
    (comes-taken c.args.running.now c.huge_in.new.running
    (told c.args.process (line.Huge c.in-Huge.said)) c.huge_in.result (λ lack at. refl)
    c.huge_in.ensures)

pub returns-in_default : goal.returns-in_default
returns-in_default c =
    in-nothing c.args.running.now c.args.process c.args.line.now c.in_default.not-Command
    c.in_default.not-EmptyBind c.in_default.not-Question c.in_default.not-Maps
    c.in_default.not-Pages c.in_default.not-Bind c.in_default.not-Huge
