-- Rows that are put in the place of others put in their runs; values that were added change no run.
use Rattle.std.proofs.Common.{◌≡◌, List, length, ap, ◌∙◌, arith}
use Rattle.std.specs.List.{splice}
use Rattle.numa_ranges.specs.Numbered.{runs_of}
use Rattle.numa_ranges.specs.declared.row.Row.{Row}
use Rattle.numa_ranges.proofs.Numbered.{length-runs, numbered-longer, runs-longer, numbered-splice}
use Rattle.numa_ranges.proofs.Numbered.{runs-splice}
use Rattle.numa_ranges.proofs.runs.Runs.splice_near.Goals as goal

pub invariant_of-self : goal.invariant_of-self
invariant_of-self g c = numbered-longer c.self.inside.values c.numbered.new.values
    c.self.inside.rows c.numbered.ensures.longer c.self.invariant

pub returns-in_default-clause-unchanged : goal.returns-in_default-clause-unchanged
returns-in_default-clause-unchanged g c =
    runs-longer c.self.inside.values c.numbered.new.values c.self.inside.rows
    c.numbered.ensures.longer c.self.invariant ∙ c.self.view_is

pub splice_near-requires-clause-rises : goal.splice_near-requires-clause-rises
splice_near-requires-clause-rises g c = c.requires.0

pub splice_near-requires-clause-within : goal.splice_near-requires-clause-within
splice_near-requires-clause-within g c =
    omega (
      arith,
      c.requires.1,
      length-runs c.self.inside.values c.self.inside.rows
          c.self.invariant,
      ap length c.self.view_is,
    )

pub invariant_of-self-in-Err : goal.invariant_of-self-in-Err
invariant_of-self-in-Err g c = rw c.in-Err.ensures.unchanged
    (numbered-longer c.self.inside.values c.numbered.new.values c.self.inside.rows
    c.numbered.ensures.longer c.self.invariant)

pub returns-in-Err-clause-unchanged : goal.returns-in-Err-clause-unchanged
returns-in-Err-clause-unchanged g c =
    ap (runs_of c.numbered.new.values) c.in-Err.ensures.unchanged
    ∙ (runs-longer c.self.inside.values c.numbered.new.values c.self.inside.rows
    c.numbered.ensures.longer c.self.invariant ∙ c.self.view_is)

pub invariant_of-self-2 : goal.invariant_of-self-2
invariant_of-self-2 g c =
    let more : List Row = c.in-Ok.rows.items in
    let put : c.splice_near.new.self ≡ splice c.self.inside.rows c.args.from c.args.to more =
    c.in_default-splice_near.ensures.ok ∙ ap (splice c.self.inside.rows c.args.from c.args.to)
    c.deref.ensures.value in
    let kept = numbered-longer c.self.inside.values c.numbered.new.values c.self.inside.rows
    c.numbered.ensures.longer c.self.invariant in
    rw put (numbered-splice c.numbered.new.values c.self.inside.rows more c.args.from c.args.to kept
    c.in-Ok.ensures.rows.numbered)

pub returns-clause-ok : goal.returns-clause-ok
returns-clause-ok g c =
    let more : List Row = c.in-Ok.rows.items in
    let put : c.splice_near.new.self ≡ splice c.self.inside.rows c.args.from c.args.to more =
    c.in_default-splice_near.ensures.ok ∙ ap (splice c.self.inside.rows c.args.from c.args.to)
    c.deref.ensures.value in
    let kept = numbered-longer c.self.inside.values c.numbered.new.values c.self.inside.rows
    c.numbered.ensures.longer c.self.invariant in
    let same = runs-longer c.self.inside.values c.numbered.new.values c.self.inside.rows
    c.numbered.ensures.longer c.self.invariant ∙ c.self.view_is in
    ap (runs_of c.numbered.new.values) put
    ∙ (runs-splice c.numbered.new.values c.self.inside.rows more c.args.from c.args.to kept
    ∙ (λ i. splice (same i) c.args.from c.args.to (c.in-Ok.ensures.rows.runs i)))
