use Rattle.std.proofs.Common.{◌∙◌, ap}
use Rattle.numa_machine.specs.Machine.{Hardware}
use Rattle.numa_script.specs.declared.huge_line.HugeLine.TheVariants as huge
use Rattle.numa_host_script.proofs.Resizes.{huge-nobody, process-resizes}
use Rattle.numa_host_script.proofs.pooling.resize_in.Goals as goal

pub returns-in_default : goal.returns-in_default
returns-in_default c =
    huge-nobody c.args.running.now c.args.process (huge.Resize c.args.pages) c.in_default.ensures

pub returns : goal.returns
returns c =
    process-resizes c.args.running.now c.args.process c.in-Some.space.now c.in-Some.ensures
    c.resize.new.running c.resize.result c.memory-memory.result c.allowed-allowed.result
    c.args.pages (c.memory-memory.ensures.memory ∙ ap (λ (m : Hardware). m.memory)
    c.machine.ensures) c.allowed-allowed.ensures.allowed c.resize.ensures
