use Rattle.std.proofs.Common.{None, Some, ap, sym, ◌∙◌}
use Rattle.numa_host_script.proofs.Decided.{told-misplaced, told-own}
use Rattle.numa_host_script.proofs.script.HostScript.own_fault.Goals as goal

pub returns-in_default-misplaced : goal.returns-in_default-misplaced
returns-in_default-misplaced c =
    rw c.in-Some.is
    (λ session stands.
    told-misplaced c.args.self.now.script c.args.self.now.limits c.in-Some.field-0.value
    c.args.taken None session (sym c.in_default-misplaced.is ∙ c.misplaced.ensures) stands)

pub returns-in-Some : goal.returns-in-Some
returns-in-Some c =
    rw (c.in-Some.is, c.fault.ensures)
    (λ session stands.
    told-misplaced c.args.self.now.script c.args.self.now.limits c.in-Some.field-0.value
    c.args.taken (Some c.in-Some-misplaced.reply) session
    (sym c.in-Some-misplaced.is ∙ c.misplaced.ensures) stands)

pub returns : goal.returns
returns c =
    rw c.in_default.is
    (λ session stands.
    told-own c.args.self.now.script c.fault-2.new.self c.args.self.now.limits c.args.taken
    c.fault-2.result session c.fault-2.ensures stands)
