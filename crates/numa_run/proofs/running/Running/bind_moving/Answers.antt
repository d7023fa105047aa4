use Rattle.std.proofs.Common.{Some, None}
use Rattle.numa_run.proofs.Binds.{moved-by}
use Rattle.numa_run.proofs.running.Running.bind_moving.Goals as goal

pub returns-in-Some : goal.returns-in-Some
returns-in-Some c =
    moved-by c.args.self.now c.send.new.self c.send.result c.args.command.now c.args.words.now
    (Some c.in-Some.said) c.in-Some.ensures c.send.ensures

pub returns-in-None : goal.returns-in-None
returns-in-None c =
    moved-by c.args.self.now c.accept.new.self c.accept.result c.args.command.now
    c.args.words.now None c.in-None.ensures c.accept.ensures
