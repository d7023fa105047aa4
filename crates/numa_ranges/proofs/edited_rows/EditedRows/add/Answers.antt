-- A row joins the open one or closes it.
use Rattle.std.proofs.Common.{◌≡◌, true, Some, List, ◌∷◌, ◌++◌, [], length-append, arith, sym}
use Rattle.std.proofs.Common.{subst}
use Rattle.numa_ranges.specs.Edits.{run_and_next}
use Rattle.numa_ranges.specs.Edited.{AreEditedRows}
use Rattle.numa_ranges.specs.declared.edited_row.EditedRow.{EditedRow}
use Rattle.numa_ranges.proofs.Gather.{so_far-closed}
use Rattle.numa_ranges.proofs.Rewritten.{not-opened, opened, placed-some, rows-more}
use Rattle.numa_ranges.proofs.Rewritten.{so_far-joined, so_far-opened}
use Rattle.numa_ranges.proofs.edited_rows.EditedRows.add.Goals as goal

pub returns-in_default-clause-gathered : goal.returns-in_default-clause-gathered
returns-in_default-clause-gathered g c change gives added run one h =
    let none = not-opened change c.args.values.now c.args.self.now.open_row h.open_run
    c.in_default.is h.opened in
    record {
      closed = h.closed;
      open_run = Some run;
      count = h.count;
      kept = h.kept;
      opened = one;
      so_far = so_far-opened g.T.PartialEq.eq g.met.T.Exact.exact g.met.T.Eq.laws.refl added
          h.closed h.open_run run none h.so_far;
    }

pub invariant_of-self-then-row_continues : goal.invariant_of-self-then-row_continues
invariant_of-self-then-row_continues g c =
    let beside = c.row_continues.ensures.beside c.if-row_continues.true in
    record {
      placed = λ x is. placed-some _ x is (record {
        last_page = omega (arith, beside.0, c.requires.placed.last_page);
        last_index = omega (arith, beside.1, c.requires.placed.last_index);
      });
    }

pub returns-then-row_continues-clause-gathered : goal.returns-then-row_continues-clause-gathered
returns-then-row_continues-clause-gathered g c change gives added run one h =
    let last = opened change c.args.values.now c.args.self.now.open_row h.open_run c.in-Some.last
    c.in-Some.is h.opened in
    let goes = (c.row_continues.ensures.continues change gives last.0 run last.2 one).0
    c.if-row_continues.true in
    record {
      closed = h.closed;
      open_run = Some (run_and_next last.0 run);
      count = h.count;
      kept = h.kept;
      opened = record {
        first = last.2.first;
        pages = omega (arith, last.2.pages, one.pages);
        index = last.2.index;
        value = last.2.value;
      };
      so_far = so_far-joined g.T.PartialEq.eq g.met.T.Exact.exact g.met.T.Eq.laws.refl added
          h.closed h.open_run last.0 run last.1 goes h.so_far;
    }

pub returns-else-row_continues-clause-gathered : goal.returns-else-row_continues-clause-gathered
returns-else-row_continues-clause-gathered g c change gives added run one h =
    let last = opened change c.args.values.now c.args.self.now.open_row h.open_run c.in-Some.last
    c.in-Some.is h.opened in
    let meets = c.row_continues.ensures.continues change gives last.0 run last.2 one in
    record {
      closed = h.closed ++ last.0 ∷ [];
      open_run = Some run;
      count = omega (
        arith,
        c.close.ensures.count,
        h.count,
        length-append h.closed (last.0 ∷ []),
      );
      kept = λ e. subst (λ (l : List EditedRow).
          AreEditedRows change c.args.values.now l (h.closed ++ last.0 ∷ []))
          (sym (c.close.ensures.closed e).1)
          (rows-more change c.args.values.now c.args.self.now.closed.items h.closed
          c.in-Some.last last.0 (h.kept (c.close.ensures.closed e).0) last.2);
      opened = one;
      so_far = so_far-closed g.T.PartialEq.eq g.met.T.Exact.exact g.met.T.Eq.laws.refl added
          h.closed h.open_run last.0 run last.1
          (λ k. let odd : c.row_continues.result ≡ true = meets.1 k in
          let no = c.if-row_continues.false in cc) h.so_far;
    }
