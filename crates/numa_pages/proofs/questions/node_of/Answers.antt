use Rattle.std.proofs.Common.{◌≡◌, ap, sym, ◌∙◌}
use Rattle.numa_placed.specs.Spots.{node_of, spot_at}
use Rattle.numa_huge.specs.Huge.{places_of}
use Rattle.numa_pages.proofs.Parts.{part-node, whole-node}
use Rattle.numa_pages.proofs.questions.node_of.Goals as goal

pub returns-in-Some : goal.returns-in-Some
returns-in-Some c =
    c.node.ensures ∙ part-node (places_of c.args.huge.now) (spot_at c.args.placed.now)
    c.args.page c.in-Some.spot (sym c.in-Some.is ∙ c.at.ensures)

pub returns-in-None : goal.returns-in-None
returns-in-None c =
    c.node-in-None.ensures ∙ ap node_of c.at-in-None.ensures
    ∙ whole-node (places_of c.args.huge.now) (spot_at c.args.placed.now) c.args.page
    (sym c.in-None.is ∙ c.at.ensures)
