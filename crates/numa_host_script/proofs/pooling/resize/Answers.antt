use Rattle.numa_host_script.proofs.Resizes.{pools-come}
use Rattle.numa_host_script.proofs.pooling.resize.Goals as goal

pub returns : goal.returns
returns c =
    pools-come c.args.running.now c.resize.new.self c.args.nodes.now c.args.allowed.now
    c.args.pages c.resize.ensures
