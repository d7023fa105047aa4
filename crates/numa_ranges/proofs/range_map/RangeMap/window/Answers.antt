-- The places are those of the runs that were walked along.
use Rattle.std.proofs.Common.{◌≤◌, length, List, arith, ap, subst, sym}
use Rattle.numa_ranges.specs.Edits.{StartsAround, MayBegin, MayEnd}
use Rattle.numa_ranges.specs.declared.run.Run.{Run}
use Rattle.numa_ranges.proofs.range_map.RangeMap.window.Goals as goal

pub starts_on-count-requires-clause-within : goal.starts_on-count-requires-clause-within
starts_on-count-requires-clause-within g c =
    omega (arith, c.requires.within, ap (λ v. length v.runs) c.self.view_is)

pub starts_on-count-requires-clause-parts : goal.starts_on-count-requires-clause-parts
starts_on-count-requires-clause-parts g c =
    subst (λ (l : List (Run g.row.T.Denot)). StartsAround l c.args.place c.args.first)
    (sym (ap (λ v. v.runs) c.self.view_is)) c.requires.parts

pub returns : goal.returns
returns g c =
    let runs = ap (λ v. v.runs) c.self.view_is in
    record {
      count = c.starts_on-count.result;
      within = subst (λ (l : List (Run g.row.T.Denot)). c.starts_on-count.result ≤ length l) runs
          c.starts_on-count.ensures.within;
      parts = subst (λ (l : List (Run g.row.T.Denot)).
          StartsAround l c.starts_on-count.result c.args.end) runs c.starts_on-count.ensures.parts;
      begins = subst (λ (l : List (Run g.row.T.Denot)).
          MayBegin l c.args.place c.args.first c.first_place-from.result) runs
          c.first_place-from.ensures;
      ends = subst (λ (l : List (Run g.row.T.Denot)).
          MayEnd l c.starts_on-count.result c.args.end c.last_place-to.result) runs
          c.last_place-to.ensures;
    }
