use Rattle.std.proofs.Common.{ℕ, Option, ap, length, sym, subst, ◌∙◌}
use Rattle.numa_lines.proofs.Adding.{said_same}
use Rattle.numa_huge.specs.Moves.{HugeMemory}
use Rattle.numa_space.specs.Standing.{StandsFor}
use Rattle.numa_run.proofs.Keeping.{kept-memory, kept-some, none-huge}
use Rattle.numa_run.specs.HugeLines.{memory_on}
use Rattle.numa_run.specs.MovedTexts.{added_line, both_line, last_line}
use Rattle.numa_run.proofs.running.Running.tell_last.Goals as goal

pub returns-in-Some : goal.returns-in-Some
returns-in-Some g c = λ state stands.
    let there = subst (λ s. StandsFor s state.world.history) (sym c.space.ensures.space)
    stands.core.world.space in
    let memory : HugeMemory = memory_on c.args.self.now.core.space.machine state in
    said_same g.W.Write.contents c.args.output.now c.say_both.new.output _ _
    (ap (λ (n : ℕ). added_line n state.lying.last memory.told)
    (c.version-version.ensures.meaning state.world.history there)
    ∙ ap (λ (m : Option HugeMemory). both_line (length state.world.history)
    state.lying.last m)
    (sym (kept-some c.args.self.now c.in-Some.huge c.in-Some.is state stands)))
    (c.say_both.ensures state.lying memory.told stands.lies
    (kept-memory c.args.self.now c.in-Some.huge c.in-Some.is state stands).told)

pub returns-in-None : goal.returns-in-None
returns-in-None g c = λ state stands.
    let there = subst (λ s. StandsFor s state.world.history) (sym c.space.ensures.space)
    stands.core.world.space in
    let none = none-huge c.args.self.now.huge state.huge c.in-None.is stands.huge in
    said_same g.W.Write.contents c.args.output.now c.say_small.new.output _ _
    (ap (λ (n : ℕ). last_line n state.lying.last)
    (c.version-version.ensures.meaning state.world.history there)
    ∙ ap (λ (m : Option HugeMemory). both_line (length state.world.history)
    state.lying.last m) (sym none))
    (c.say_small.ensures state.lying stands.lies)
