use Rattle.std.proofs.Common.{◌∙◌, Option, Some, ap, sym, subst}
use Rattle.numa_lines.proofs.Adding.{said_same}
use Rattle.numa_maps.specs.Residents.{Kept}
use Rattle.numa_space.specs.Standing.{SpaceState, StandsFor}
use Rattle.numa_huge.specs.Moves.{HugeMemory}
use Rattle.numa_run.proofs.Keeping.{kept-memory, kept-some, none-huge}
use Rattle.numa_run.proofs.There.{each-same, lie-there, there-same}
use Rattle.numa_run.specs.HugeLines.{memory_on}
use Rattle.numa_run.specs.Listings.{both_listing, there_listing}
use Rattle.numa_run.specs.States.{process_on}
use Rattle.numa_run.proofs.running.Running.list.Goals as goal

pub returns-in-None : goal.returns-in-None
returns-in-None g c =
    λ state stands.
    let space : SpaceState = c.space-space.result.now in
    let kept : Kept = c.args.self.now.resident in
    let there : StandsFor space state.world.history = subst (λ s. StandsFor s state.world.history)
    (sym c.space-space.ensures.space) stands.core.world.space in
    let text = there-same space state.world.history c.args.task kept state.lying.spots there
    c.range_iter.ensures.rising c.range_iter.ensures.maximal
    ∙ ap (λ (s : SpaceState). there_listing (process_on s.machine
    (record state { resident = kept })) state.lying.spots c.args.task) c.space-space.ensures.space
    ∙ ap (λ (k : Kept). there_listing (process_on c.args.self.now.core.space.machine
    (record state { resident = k })) state.lying.spots c.args.task) stands.resident in
    let none = none-huge c.args.self.now.huge state.huge c.in-None.is stands.huge in
    said_same g.W.Write.contents c.args.output.now c.say_there.new.output _ _
    (text ∙ ap (λ (m : Option HugeMemory). both_listing
    (process_on c.args.self.now.core.space.machine state) state.lying.spots m c.args.task)
    (sym none))
    (c.say_there.ensures state.lying.spots (lie-there c.as_ref-pages.result c.args.self.now.pages
    state.lying c.as_ref-pages.ensures.value stands.lies))

pub returns-in-Some : goal.returns-in-Some
returns-in-Some g c =
    λ state stands.
    let space : SpaceState = c.space-space.result.now in
    let kept : Kept = c.args.self.now.resident in
    let memory : HugeMemory = memory_on c.args.self.now.core.space.machine state in
    let there : StandsFor space state.world.history = subst (λ s. StandsFor s state.world.history)
    (sym c.space-space.ensures.space) stands.core.world.space in
    let text = each-same space state.world.history c.args.task kept state.lying.spots memory there
    c.range_iter.ensures.rising c.range_iter.ensures.maximal
    ∙ ap (λ (s : SpaceState). both_listing (process_on s.machine
    (record state { resident = kept })) state.lying.spots (Some memory) c.args.task)
    c.space-space.ensures.space
    ∙ ap (λ (k : Kept). both_listing (process_on c.args.self.now.core.space.machine
    (record state { resident = k })) state.lying.spots (Some memory) c.args.task) stands.resident
    ∙ ap (λ (m : Option HugeMemory). both_listing
    (process_on c.args.self.now.core.space.machine state) state.lying.spots m c.args.task)
    (sym (kept-some c.args.self.now c.in-Some.huge c.in-Some.is state stands)) in
    said_same g.W.Write.contents c.args.output.now c.say_each.new.output _ _ text
    (c.say_each.ensures state.lying.spots memory (lie-there c.as_ref-pages.result
    c.args.self.now.pages state.lying c.as_ref-pages.ensures.value stands.lies)
    (kept-memory c.args.self.now c.in-Some.huge c.in-Some.is state stands).pages)
