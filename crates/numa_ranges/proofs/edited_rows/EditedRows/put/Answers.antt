-- The closed rows are the joined form of what was added, and are counted also where memory was
-- refused.
use Rattle.std.proofs.Common.{◌≡◌, List, length, arith, ap, sym, subst, ◌∙◌}
use Rattle.std.specs.List.{splice}
use Rattle.numa_ranges.specs.Edits.{maximal_runs}
use Rattle.numa_ranges.specs.Edited.{AreEditedRows}
use Rattle.numa_ranges.specs.Numbered.{runs_of}
use Rattle.numa_ranges.specs.declared.edited_row.EditedRow.{EditedRow}
use Rattle.numa_ranges.proofs.Numbered.{length-runs, numbered-longer, runs-longer, numbered-splice}
use Rattle.numa_ranges.proofs.Numbered.{runs-splice}
use Rattle.numa_ranges.proofs.Rewritten.{sealed}
use Rattle.numa_ranges.proofs.Window.{length-splice}
use Rattle.numa_ranges.proofs.Spans.{no-memory, too-many}
use Rattle.numa_ranges.proofs.edited_rows.EditedRows.put.Goals as goal

pub returns-then-others-count-clause-err : goal.returns-then-others-count-clause-err
returns-then-others-count-clause-err g c change gives added h =
    let M = maximal_runs g.T.PartialEq.eq added in
    let whole = runs_of c.args.values.now c.args.rows.now in
    let shut = sealed g.T.PartialEq.eq g.met.T.Exact.exact g.met.T.Eq.laws.refl change
    c.args.values.now c.args.self.now c.seal.new.self added h c.seal.ensures.none
    c.seal.ensures.some in
    let rows = length-runs c.args.values.now c.args.rows.now c.requires.numbered in
    let size = length-splice whole M c.args.from c.args.to c.requires.window.0
    (omega (arith, c.requires.window.1, rows)) in
    too-many c.args.limit (length (splice whole c.args.from c.args.to M))
    (omega (
      arith,
      size,
      shut.size,
      rows,
      c.row_count.ensures.len,
      c.requires.window.0,
      c.requires.window.1,
    ))

pub returns-then-self-clause-err : goal.returns-then-self-clause-err
returns-then-self-clause-err g c change gives added h =
    let M = maximal_runs g.T.PartialEq.eq added in
    let whole = runs_of c.args.values.now c.args.rows.now in
    let shut = sealed g.T.PartialEq.eq g.met.T.Exact.exact g.met.T.Eq.laws.refl change
    c.args.values.now c.args.self.now c.seal.new.self added h c.seal.ensures.none
    c.seal.ensures.some in
    let rows = length-runs c.args.values.now c.args.rows.now c.requires.numbered in
    let size = length-splice whole M c.args.from c.args.to c.requires.window.0
    (omega (arith, c.requires.window.1, rows)) in
    no-memory c.args.limit (length (splice whole c.args.from c.args.to M))
    (omega (
      arith,
      size,
      shut.size,
      rows,
      c.row_count.ensures.len,
      c.requires.window.0,
      c.requires.window.1,
    ))

pub returns-in_default-clause-err : goal.returns-in_default-clause-err
returns-in_default-clause-err g c change gives added h =
    let M = maximal_runs g.T.PartialEq.eq added in
    let whole = runs_of c.args.values.now c.args.rows.now in
    let shut = sealed g.T.PartialEq.eq g.met.T.Exact.exact g.met.T.Eq.laws.refl change
    c.args.values.now c.args.self.now c.seal.new.self added h c.seal.ensures.none
    c.seal.ensures.some in
    let rows = length-runs c.args.values.now c.args.rows.now c.requires.numbered in
    let size = length-splice whole M c.args.from c.args.to c.requires.window.0
    (omega (arith, c.requires.window.1, rows)) in
    no-memory c.args.limit (length (splice whole c.args.from c.args.to M))
    (omega (
      arith,
      size,
      shut.size,
      rows,
      c.row_count.ensures.len,
      c.requires.window.0,
      c.requires.window.1,
    ))

pub returns-in_default-splice_rows-clause-err : goal.returns-in_default-splice_rows-clause-err
returns-in_default-splice_rows-clause-err g c change gives added h =
    let M = maximal_runs g.T.PartialEq.eq added in
    let whole = runs_of c.args.values.now c.args.rows.now in
    let shut = sealed g.T.PartialEq.eq g.met.T.Exact.exact g.met.T.Eq.laws.refl change
    c.args.values.now c.args.self.now c.seal.new.self added h c.seal.ensures.none
    c.seal.ensures.some in
    let rows = length-runs c.args.values.now c.args.rows.now c.requires.numbered in
    let size = length-splice whole M c.args.from c.args.to c.requires.window.0
    (omega (arith, c.requires.window.1, rows)) in
    no-memory c.args.limit (length (splice whole c.args.from c.args.to M))
    (omega (
      arith,
      size,
      shut.size,
      rows,
      c.row_count.ensures.len,
      c.requires.window.0,
      c.requires.window.1,
    ))

pub returns-in_default-clause-numbered : goal.returns-in_default-clause-numbered
returns-in_default-clause-numbered g c = numbered-longer c.args.values.now
    c.number_rows.new.values c.args.rows.now c.number_rows.ensures.longer c.requires.numbered

pub returns-in_default-clause-unchanged : goal.returns-in_default-clause-unchanged
returns-in_default-clause-unchanged g c = runs-longer c.args.values.now c.number_rows.new.values
    c.args.rows.now c.number_rows.ensures.longer c.requires.numbered

pub returns-in_default-splice_rows-clause-numbered :
    goal.returns-in_default-splice_rows-clause-numbered
returns-in_default-splice_rows-clause-numbered g c =
    rw c.in_default-splice_rows.ensures.unchanged
    (numbered-longer c.args.values.now c.number_rows.new.values c.args.rows.now
    c.number_rows.ensures.longer c.requires.numbered)

pub returns-in_default-splice_rows-clause-unchanged :
    goal.returns-in_default-splice_rows-clause-unchanged
returns-in_default-splice_rows-clause-unchanged g c =
    ap (runs_of c.number_rows.new.values) c.in_default-splice_rows.ensures.unchanged
    ∙ runs-longer c.args.values.now c.number_rows.new.values c.args.rows.now
    c.number_rows.ensures.longer c.requires.numbered

pub returns-clause-numbered : goal.returns-clause-numbered
returns-clause-numbered g c =
    let change = c.requires.gathered.0 in
    let added = c.requires.gathered.1.0 in
    let gives = c.requires.gathered.1.1.0 in
    let h = c.requires.gathered.1.1.1 in
    let M = maximal_runs g.T.PartialEq.eq added in
    let rows = c.args.rows.now in
    let new = c.number_rows.new.values in
    let shut = sealed g.T.PartialEq.eq g.met.T.Exact.exact g.met.T.Eq.laws.refl change
    c.args.values.now c.args.self.now c.seal.new.self added h c.seal.ensures.none
    c.seal.ensures.some in
    let made = c.in-Ok.ensures.rows change gives M
    (subst (λ (l : List EditedRow). AreEditedRows change c.args.values.now l M)
    (sym c.deref.ensures.value) (shut.kept c.if-self.false)) in
    let put : c.splice_rows.new.rows ≡ splice rows c.args.from c.args.to
    c.number_rows.new.rows.items =
    c.in-Ok-splice_rows.ensures.ok ∙ ap (splice rows c.args.from c.args.to)
    c.as_slice.ensures.value in
    let kept = numbered-longer c.args.values.now new rows c.number_rows.ensures.longer
    c.requires.numbered in
    rw put
    (numbered-splice new rows c.number_rows.new.rows.items c.args.from c.args.to kept made.numbered)

pub returns-clause-ok : goal.returns-clause-ok
returns-clause-ok g c change gives added h =
    let M = maximal_runs g.T.PartialEq.eq added in
    let rows = c.args.rows.now in
    let new = c.number_rows.new.values in
    let shut = sealed g.T.PartialEq.eq g.met.T.Exact.exact g.met.T.Eq.laws.refl change
    c.args.values.now c.args.self.now c.seal.new.self added h c.seal.ensures.none
    c.seal.ensures.some in
    let made = c.in-Ok.ensures.rows change gives M
    (subst (λ (l : List EditedRow). AreEditedRows change c.args.values.now l M)
    (sym c.deref.ensures.value) (shut.kept c.if-self.false)) in
    let put : c.splice_rows.new.rows ≡ splice rows c.args.from c.args.to
    c.number_rows.new.rows.items =
    c.in-Ok-splice_rows.ensures.ok ∙ ap (splice rows c.args.from c.args.to)
    c.as_slice.ensures.value in
    let kept = numbered-longer c.args.values.now new rows c.number_rows.ensures.longer
    c.requires.numbered in
    let same = runs-longer c.args.values.now new rows c.number_rows.ensures.longer
    c.requires.numbered in
    let all = length-runs c.args.values.now rows c.requires.numbered in
    let size = length-splice (runs_of c.args.values.now rows) M c.args.from c.args.to
    c.requires.window.0 (omega (arith, c.requires.window.1, all)) in (
      ap (runs_of new) put
          ∙ (runs-splice new rows c.number_rows.new.rows.items c.args.from c.args.to kept
          ∙ (λ i. splice (same i) c.args.from c.args.to (made.runs i))),
      omega (
        arith,
        size,
        shut.size,
        all,
        c.row_count.ensures.len,
        c.requires.window.0,
        c.requires.window.1,
        c.if-others-count.false,
      ),
    )
