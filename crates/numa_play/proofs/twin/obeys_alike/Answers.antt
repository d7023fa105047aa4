use Rattle.std.proofs.Common.{sym, ◌∙◌}
use Rattle.numa_play.proofs.TwinSpaces.{obeyed-alike}
use Rattle.numa_play.proofs.twin.obeys_alike.Goals as goal

pub returns-in-Some : goal.returns-in-Some
returns-in-Some c = λ alike state stands keep.
    let keeps = sym c.keeps_nodes.ensures ∙ c.if-not-keeps_nodes.false in (
      keeps,
      obeyed-alike c.in-Some.core.now _ state c.args.command.now c.space.ensures.space
          (c.in-Some.ensures state stands) keep keeps (c.is_obeyed_alike.ensures.documents alike)
          (c.is_obeyed_alike.ensures.none alike),
    )
