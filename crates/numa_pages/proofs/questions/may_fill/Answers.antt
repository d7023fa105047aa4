use Rattle.std.proofs.Common.{sym, ap, ◌∙◌, is_some}
use Rattle.numa_pages.proofs.Refusing.{lies-so, lying_in, room-said}
use Rattle.numa_pages.proofs.questions.may_fill.Goals as goal

pub returns-in-None : goal.returns-in-None
returns-in-None c =
    let state = c.args.state.now in
    sym (sym (room-said state.rooms)
    ∙ ap is_some (c.in-None.ensures (lying_in state) (lies-so state)))

pub returns-in-Some : goal.returns-in-Some
returns-in-Some c =
    let state = c.args.state.now in
    sym (sym (room-said state.rooms)
    ∙ ap is_some (c.in-Some.ensures (lying_in state) (lies-so state)).1)
