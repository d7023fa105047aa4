use Rattle.numa_host_script.specs.Standing.{unboxed}
use Rattle.numa_host_script.proofs.Written.{served-line}
use Rattle.numa_host_script.proofs.script.HostScript.serve_wider.Goals as goal

pub returns : goal.returns
returns g c = λ session stands.
    served-line g.W.Write.contents c.args.output.now c.write.new.output
    c.take-taken.new.self.script c.take-taken.new.self.limits (unboxed c.take-taken.new.self.host)
    c.write.new.self.script c.write.new.self.limits (unboxed c.write.new.self.host) c.args.said.now
    c.take-taken.result c.write.result session (c.take-taken.ensures session stands)
    c.write.ensures
