use Rattle.numa_host_script.proofs.Decided.{told-arrived, told-early}
use Rattle.numa_host_script.proofs.script.HostScript.arrived_fault.Goals as goal

pub returns-in-Some : goal.returns-in-Some
returns-in-Some c =
    rw c.in-Some.is
    (λ process session stands.
    told-arrived c.args.self.now.script c.args.self.now.limits c.in-Some.field-0.value process
    session
    stands)

pub returns : goal.returns
returns c =
    rw c.in_default.is
    (λ process session stands.
    told-early c.args.self.now.script c.fault.new.self c.args.self.now.limits process
    c.fault.result session c.fault.ensures stands)
