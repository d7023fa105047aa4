use Rattle.std.proofs.Common.{ℕ, Option, ap, sym, ◌∙◌}
use Rattle.numa_huge.specs.Huge.{huge_at}
use Rattle.numa_placed.specs.Laid.{spot_at}
use Rattle.numa_words.specs.Touching.{nobody, parts_node}
use Rattle.numa_words.proofs.Touched.{run-none, run-set}
use Rattle.numa_words.proofs.touching.state_run.Goals as goal

pub returns-in_default : goal.returns-in_default
returns-in_default c = λ page.
    let spot = huge_at c.args.places.now.runs c.args.first in
    run-none (nobody c.args.space.now.machine.nodes) spot c.args.first c.args.pages
    (spot_at c.args.lying.now) page
    (sym (c.parts_node.ensures ∙ ap (λ (none : Option ℕ). parts_node none spot) c.nobody.ensures)
    ∙ c.in_default.is)

pub returns-in-Ok : goal.returns-in-Ok
returns-in-Ok c = λ page.
    let spot = huge_at c.args.places.now.runs c.args.first in
    run-set (nobody c.args.space.now.machine.nodes) spot c.args.first c.args.pages c.in-Some.node
    (spot_at c.args.lying.now) (spot_at c.set.new.self) page
    (sym (c.parts_node.ensures ∙ ap (λ (none : Option ℕ). parts_node none spot) c.nobody.ensures)
    ∙ c.in-Some.is) (c.in-Ok.ensures.ok page)
