-- The run of a place is the list's.
use Rattle.std.proofs.Common.{Some, ap, sym, ◌∙◌, arith}
use Rattle.std.specs.Prelude.{slice_get}
use Rattle.std.proofs.lemmas.Option.{slice_get-get_or}
use Rattle.numa_ranges.proofs.range_map.RangeMap.range_at.Goals as goal

pub returns : goal.returns
returns g c =
    let run = c.get_near.result in
    record {
      range = ap Some (c.get_near.ensures run)
          ∙ (sym
          (slice_get-get_or c.self.inside.runs c.args.place run (omega (arith, c.len.ensures.len)))
          ∙ ap (λ v. slice_get v.runs c.args.place) c.self.view_is);
    }
