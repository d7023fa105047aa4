-- One more item is changed.
use Rattle.std.proofs.Common.{◌∙◌, arith, refl}
use Rattle.std.proofs.Math.ListN.{length-set}
use Rattle.std.proofs.lemmas.Fn.{says_at}
use Rattle.numa_rows.proofs.Updates.{change-more, change-all}
use Rattle.numa_rows.proofs.items.update_items.Goals as goal

pub loop-i-preserved : goal.loop-i-preserved
loop-i-preserved g c = record {
  size = length-set c.loop-i.items.items c.loop-i.i c.f.result ∙ c.loop-i.invariant.size;
  made = λ change gives. change-more change c.args.items.now.items c.loop-i.items.items c.loop-i.i
      c.index.result.now c.f.result (omega arith) (c.loop-i.invariant.made change gives)
      c.index.ensures (gives _ _ (says_at g.F.Fn c.f.ensures refl));
}

pub returns-clause-made : goal.returns-clause-made
returns-clause-made g c change gives = change-all change c.args.items.now.items c.loop-i.items.items
    c.loop-i.i (omega arith) (c.loop-i.invariant.made change gives)
