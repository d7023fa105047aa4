use Rattle.std.proofs.Common.{◌∷◌, ◌<◌, length, arith, get_or, refl}
use Rattle.numa_host.specs.declared.process.Process.{Process}
use Rattle.numa_requests.specs.declared.command.Command.TheVariants.{SetWeight}
use Rattle.numa_host.specs.Following.{HasMore}
use Rattle.numa_host.proofs.Following.{partly-more}
use Rattle.numa_host.proofs.process.weigh_all.Goals as goal

pub loop-process-preserved : goal.loop-process-preserved
loop-process-preserved c =
    let became : Process → Process
    → Type 0 = λ p q. HasMore (λ history. SetWeight c.args.node c.args.weight ∷ history)
    p.space.allowed p q in
    let inside : c.loop-process.process-index < length {A = Process} c.args.processes.now =
    omega (arith, c.loop-process-test.true, c.loop-process.invariant.count) in
    let new : Process = record {
      id = (get_or c.loop-process.processes c.loop-process.process-index
          c.process-item.result).id;
      group = (get_or c.loop-process.processes c.loop-process.process-index
          c.process-item.result).group;
      space = c.weigh.new.space;
    } in
    partly-more became c.loop-process.process-index c.args.processes.now c.loop-process.processes
    c.process-item.result new c.loop-process.invariant inside
    (record {
      id = refl;
      group = refl;
      machine = c.weigh.ensures.machine;
      bounds = c.weigh.ensures.bounds;
      allowed = c.weigh.ensures.allowed;
      stands = c.weigh.ensures.stands;
    })
