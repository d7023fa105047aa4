use Rattle.std.proofs.Common.{◌≡◌, false, ap, refl, sym, ◌∙◌}
use Rattle.numa_machine.specs.Machine.{Hardware}
use Rattle.numa_placed.specs.Refusals.{lacks_node}
use Rattle.numa_placed.proofs.Edits.{state-free}
use Rattle.numa_placed.proofs.spans.stated_span.Goals as goal

pub returns-clause-span : goal.returns-clause-span
returns-clause-span c =
    let span = c.in_ok-first.ensures.span in
    let there : lacks_node c.args.space.now.machine c.args.node ≡ false =
    ap (λ (machine : Hardware). lacks_node machine c.args.node) (sym c.machine.ensures)
    ∙ sym c.lacks_node.ensures.lacks ∙ c.if-lacks_node.false in (
      state-free c.args.space.now.machine c.args.start c.args.length c.args.node span.0 there,
      span.1,
      span.2,
      refl,
    )
