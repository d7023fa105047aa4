use Rattle.std.proofs.Common.{◌≡◌, [], refl, sym, ap, ◌∙◌, ◌++◌, ◌∷◌, take, drop, decimal}
use Rattle.std.proofs.Common.{append_assoc, ℕ, List}
use Rattle.std.proofs.lemmas.Grind.{flat_map-append}
use Rattle.std.proofs.lemmas.List.{take-append-drop}
use Rattle.numa_lines.proofs.Adding.{said_both, said_nothing, said_same}
use Rattle.numa_script.specs.Texts.{nodes_text}
use Rattle.numa_script.proofs.nodes.say_each_node.Goals as goal

pub loop-rest-init : goal.loop-rest-init
loop-rest-init g c = ([], said_nothing g.W.Write.contents c.args.output.now, refl)

pub loop-rest-preserved : goal.loop-rest-preserved
loop-rest-preserved g c =
    let so_far = c.loop-rest.invariant in
    let rest : List ℕ = c.loop-rest.rest.now in
    let halves : nodes_text c.split_at.result.0.now ++ nodes_text c.split_at.result.1.now
    ≡ nodes_text rest =
    (λ i. nodes_text (c.split_at.ensures.front i) ++ nodes_text (c.split_at.ensures.back i))
    ∙ sym (flat_map-append (λ (node : ℕ). 32 ∷ decimal node) (take 60 rest) (drop 60 rest))
    ∙ ap nodes_text (take-append-drop 60 rest) in (
      so_far.0 ++ nodes_text c.split_at.result.0.now,
      said_both g.W.Write.contents c.args.output.now c.loop-rest.output c.say_block.new.output _ _
          so_far.1 c.say_block.ensures,
      append_assoc so_far.0 (nodes_text c.split_at.result.0.now)
          (nodes_text c.split_at.result.1.now) ∙ ap (λ t. so_far.0 ++ t) halves ∙ so_far.2,
    )

pub returns : goal.returns
returns g c =
    let so_far = c.loop-rest.invariant in
    said_same g.W.Write.contents c.args.output.now c.say_block-2.new.output _ _ so_far.2
    (said_both g.W.Write.contents c.args.output.now c.loop-rest.output c.say_block-2.new.output _ _
    so_far.1 c.say_block-2.ensures)
