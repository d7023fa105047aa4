use Rattle.std.proofs.Common.{sym, ◌∙◌}
use Rattle.std.proofs.lemmas.List.{take_rest}
use Rattle.numa_mask.proofs.Splits.{cut_at}
use Rattle.numa_mask.proofs.parts.cut.Goals as goal

pub returns : goal.returns
returns c =
    rw take_rest
    (cut_at c.args.separator c.args.text.now c.in_ok-end.end
    (sym c.first_place.ensures ∙ c.in_ok-end.was))
