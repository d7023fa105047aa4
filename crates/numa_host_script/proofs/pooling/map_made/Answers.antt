use Rattle.numa_huge.specs.Huge.{places_of}
use Rattle.numa_host_script.proofs.Fitted.{made-goes, made-stays}
use Rattle.numa_host_script.proofs.pooling.map_made.Goals as goal

pub returns-in-Ok : goal.returns-in-Ok
returns-in-Ok c =
    made-goes c.args.running.now c.args.process c.args.command.now
    (places_of c.args.made.value.places) c.apply.new.self c.settle_mapped.new.self
    c.version.result c.in-Ok.ensures c.version.ensures.meaning c.settle_mapped.ensures

pub returns-in-Err : goal.returns-in-Err
returns-in-Err c =
    made-stays c.args.running.now c.args.process c.args.command.now
    (places_of c.args.made.value.places) c.apply.new.self c.in-Err.refusal c.in-Err.ensures
