-- One more row has its number.
use Rattle.std.proofs.Common.{List, ◌+◌, take, ap, refl, sym, subst, ◌∙◌, arith}
use Rattle.std.proofs.lemmas.List.{take_all}
use Rattle.numa_ranges.specs.Numbered.{AreRowsOf}
use Rattle.numa_ranges.specs.declared.row.Row.{Row}
use Rattle.numa_ranges.specs.declared.run.Run.{Run}
use Rattle.numa_ranges.proofs.Numbered.{longer-both}
use Rattle.numa_ranges.proofs.Rewritten.{edited-length, rows-step}
use Rattle.numa_ranges.proofs.edited_rows.number_rows.Goals as goal

pub loop-i-init : goal.loop-i-init
loop-i-init g c =
    let none = c.reserve.ensures.items ∙ c.clear.ensures.items in
    record {
      longer = record { size = omega arith; same = λ number below. refl };
      so_far = λ change gives runs all.
          rw none (record { numbered = tt; runs = refl });
      size = c.reserve.ensures.len ∙ c.clear.ensures.len;
      room = omega (arith, c.in_default.ensures.ok, c.reserve.ensures.len, c.clear.ensures.len);
    }

pub loop-i-preserved : goal.loop-i-preserved
loop-i-preserved g c =
    let inv = c.loop-i.invariant in
    record {
      longer = longer-both c.args.values.now c.loop-i.values c.number_of.new.values inv.longer
          c.number_of.ensures.longer;
      so_far = λ change gives runs all.
          subst (λ (l : List Row).
          AreRowsOf c.number_of.new.values l (take (c.loop-i.i + 1) runs))
          (sym c.push_reserved.ensures.items)
          (rows-step change c.args.values.now c.loop-i.values c.number_of.new.values
          c.args.edited.now c.loop-i.rows.items runs c.loop-i.i c.in-Ok.number
          c.row_at-row.result inv.longer c.number_of.ensures.longer all (omega arith)
          (c.row_at-row.ensures c.row_at-row.result) (inv.so_far change gives runs all)
          (c.in-Ok.ensures.number change gives));
      size = c.push_reserved.ensures.len ∙ ap (λ n. n + 1) inv.size;
      room = omega (arith, c.push_reserved.ensures.capacity, inv.room);
    }

pub returns-clause-rows : goal.returns-clause-rows
returns-clause-rows g c change gives runs all =
    subst (λ (l : List (Run g.row.T.Denot)). AreRowsOf c.loop-i.values c.loop-i.rows.items l)
    (take_all c.loop-i.i runs
    (omega (arith, edited-length change c.args.values.now c.args.edited.now runs all)))
    (c.loop-i.invariant.so_far change gives runs all)
