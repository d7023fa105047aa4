use Rattle.std.proofs.Common.{◌++◌, ◌∷◌, [], ◌∙◌, ap, sym, map, append_assoc}
use Rattle.std.specs.List.{range_with_len}
use Rattle.numa_script.specs.Machines.{flat_distance}
use Rattle.numa_script.proofs.Eaches.{row_more}
use Rattle.numa_script.proofs.machine.add_flat_row.Goals as goal

pub loop-to-preserved : goal.loop-to-preserved
loop-to-preserved c =
    let more = row_more (flat_distance c.args.from) c.loop-to.to in
    c.in_ok-push.ensures.items ∙ ap (λ l. l ++ c.flat_distance.result ∷ []) c.loop-to.invariant
    ∙ ap
    (λ d.
    (c.args.table.now.items ++ map (flat_distance c.args.from) (range_with_len 0 c.loop-to.to))
    ++ d ∷ []) c.flat_distance.ensures
    ∙ append_assoc c.args.table.now.items
    (map (flat_distance c.args.from) (range_with_len 0 c.loop-to.to))
    (flat_distance c.args.from c.loop-to.to ∷ []) ∙ ap (λ l. c.args.table.now.items ++ l) (sym more)
