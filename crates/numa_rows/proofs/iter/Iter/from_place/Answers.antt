-- What is left of the place's chunk, and the chunks behind it.
use Rattle.std.proofs.Common.{◌-◌, drop, ap, ◌∙◌}
use Rattle.std.proofs.lemmas.List.{take_rest}
use Rattle.numa_rows.specs.Parts.{flat}
use Rattle.numa_rows.proofs.Ranked.{rows-from}
use Rattle.numa_rows.proofs.iter.Iter.from_place.Goals as goal

pub returns : goal.returns
returns g c =
    let parts = c.args.chunks.now in
    let place = c.args.place in
    ap (λ l. drop (c.args.rank - place.start) (flat l)) (take_rest parts place.chunk)
    ∙ rows-from parts place.chunk place.start c.args.rank c.requires
