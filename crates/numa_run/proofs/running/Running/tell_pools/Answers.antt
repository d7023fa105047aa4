use Rattle.std.proofs.Common.{Option, ap, sym, ◌∙◌}
use Rattle.numa_lines.proofs.Adding.{said_same}
use Rattle.numa_machine.specs.Machine.{Hardware}
use Rattle.numa_pools.specs.Pools.{no_pages}
use Rattle.numa_huge.specs.Huge.{HugeLying}
use Rattle.numa_huge.specs.Moves.{HugeMemory, memory_or}
use Rattle.numa_space.specs.Standing.{SpaceState}
use Rattle.numa_run.proofs.Keeping.{kept-memory, none-huge}
use Rattle.numa_run.specs.PoolTexts.{pools_line}
use Rattle.numa_run.proofs.running.Running.tell_pools.Goals as goal

pub returns-in-Some : goal.returns-in-Some
returns-in-Some g c = λ state stands.
    said_same g.W.Write.contents c.args.output.now c.say_pools.new.output _ _
    (ap pools_line c.pools.ensures ∙ ap (λ (p : HugeLying). pools_line p.pools)
    (kept-memory c.args.self.now c.in-Some.kept c.in-Some.is state stands).pages)
    c.say_pools.ensures

pub returns-in-None : goal.returns-in-None
returns-in-None g c = λ state stands.
    let none = none-huge c.args.self.now.huge state.huge c.in-None.is stands.huge in
    said_same g.W.Write.contents c.args.output.now c.say_pools-in-None.new.output _ _
    (ap pools_line c.new.ensures
    ∙ ap (λ (m : Hardware). pools_line (no_pages m.memory))
    (c.machine.ensures ∙ ap (λ (s : SpaceState). s.machine) c.space.ensures.space)
    ∙ ap (λ (m : Option HugeMemory). pools_line
    (memory_or c.args.self.now.core.space.machine.memory m).pages.pools) (sym none))
    c.say_pools-in-None.ensures
