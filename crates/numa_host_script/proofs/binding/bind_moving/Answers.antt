use Rattle.numa_host_script.proofs.Moving.{moved-none, moved-some}
use Rattle.numa_host_script.proofs.Unmapped.{answered}
use Rattle.numa_host_script.proofs.binding.bind_moving.Goals as goal

pub returns-in-Some : goal.returns-in-Some
returns-in-Some c =
    moved-some c.args.running.now c.send.new.running c.send.result c.args.process
    c.args.command.now c.args.words.now c.in-Some.said c.in-Some.ensures c.send.ensures

pub returns-in-None : goal.returns-in-None
returns-in-None c =
    moved-none c.args.running.now _ c.obey_in.result c.args.process c.args.command.now
    c.args.words.now c.in-None.ensures
    (answered c.args.running.now c.obey_in.new.host c.args.process c.args.command.now
    c.obey_in.result c.obey_in.ensures)
