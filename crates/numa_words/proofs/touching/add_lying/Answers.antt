use Rattle.std.proofs.Common.{ℕ, Option, ap, subst, ◌∙◌}
use Rattle.std.specs.Prelude.{slice_get}
use Rattle.numa_placed.specs.Laid.{Laid}
use Rattle.numa_words.specs.Touching.{LieSo, nobody, spots_lent, spots_there, with_parts_if}
use Rattle.numa_words.proofs.Touched.{item-got}
use Rattle.numa_words.proofs.touching.add_lying.Goals as goal

pub returns : goal.returns
returns c = record {
  last = c.in-Ok.placed;
  added = c.in-Ok-push.ensures.items;
  lies = subst (λ (there : Option Laid). LieSo c.in-Ok.placed (with_parts_if
      (nobody c.args.space.now.machine.nodes) (spots_lent c.args.places) (spots_there there)))
      (item-got c.args.there.now c.len.result c.get.result c.get.ensures.lookup
      ∙ ap (λ (i : ℕ). slice_get c.args.there.now i)
      (c.len.ensures ∙ c.args.lying.now.ok.0)) c.in-Ok.ensures;
}
