-- What is gathered of the rows is of the runs that they have.
use Rattle.std.proofs.Common.{◌≡◌, ◌-◌, ◌≤◌, ◌<◌, List, length, take, drop, ap, sym, subst, ◌∙◌}
use Rattle.std.proofs.Common.{arith}
use Rattle.std.specs.Prelude.{All, OnOk, IfErr, if◌then◌else◌, nat_lt}
use Rattle.std.specs.List.{slice_range, splice}
use Rattle.std.proofs.lemmas.List.{length-drop}
use Rattle.numa_ranges.specs.Edits.{IsInRange, edit_of, maximal_runs}
use Rattle.numa_ranges.specs.Numbered.{runs_of}
use Rattle.numa_ranges.specs.declared.fault.RangeError.TheVariants.{TooManyRanges, NoMemory}
use Rattle.numa_ranges.specs.declared.run.Run.{Run}
use Rattle.numa_ranges.proofs.Numbered.{length-runs, numbered-drop, runs-drop}
use Rattle.numa_ranges.proofs.Rewritten.{gathered-window}
use Rattle.numa_ranges.proofs.Spans.{on_ok}
use Rattle.numa_ranges.proofs.runs.Runs.edit_near.Goals as goal

pub iter_near-rest-requires : goal.iter_near-rest-requires
iter_near-rest-requires g c =
    omega (
      arith,
      c.requires.window.0,
      c.requires.window.1,
      length-runs c.self.inside.values c.self.inside.rows c.self.invariant,
      ap length c.self.view_is,
    )

pub gather_edited-requires-clause-numbered :
    goal.gather_edited-requires-clause-numbered
gather_edited-requires-clause-numbered g c =
    rw (c.items-values.ensures, c.iter_near-rest.ensures)
    (numbered-drop c.self.inside.values c.args.from c.self.inside.rows c.self.invariant)

pub gather_edited-requires-clause-within : goal.gather_edited-requires-clause-within
gather_edited-requires-clause-within g c =
    omega (
      arith,
      ap length c.iter_near-rest.ensures,
      length-drop c.args.from c.self.inside.rows,
      c.requires.window.0,
      c.requires.window.1,
      length-runs c.self.inside.values c.self.inside.rows c.self.invariant,
      ap length c.self.view_is,
    )

pub gather_edited-requires-clause-len : goal.gather_edited-requires-clause-len
gather_edited-requires-clause-len g c =
    omega (
      arith,
      c.len.ensures.len,
      c.len.ensures.bound,
      c.requires.window.0,
      c.requires.window.1,
      length-runs c.self.inside.values c.self.inside.rows c.self.invariant,
      ap length c.self.view_is,
    )

pub gather_edited-requires-clause-in_range :
    goal.gather_edited-requires-clause-in_range
gather_edited-requires-clause-in_range g c =
    let values = c.self.inside.values in
    let rows = c.self.inside.rows in
    let same : runs_of c.items-values.result.now c.iter_near-rest.result ≡ drop c.args.from
    c.args.self.now =
    (λ i. runs_of (c.items-values.ensures i) (c.iter_near-rest.ensures i))
    ∙ (runs-drop values c.args.from rows c.self.invariant ∙ ap (drop c.args.from) c.self.view_is) in
    subst (λ (l : List (Run g.row.T.Denot)). All IsInRange (take (c.args.to - c.args.from) l))
    (sym same) c.requires.in_range

pub gather_edited-requires-clause-some :
    goal.gather_edited-requires-clause-some
gather_edited-requires-clause-some g c =
    let values = c.self.inside.values in
    let rows = c.self.inside.rows in
    let same : runs_of c.items-values.result.now c.iter_near-rest.result ≡ drop c.args.from
    c.args.self.now =
    (λ i. runs_of (c.items-values.ensures i) (c.iter_near-rest.ensures i))
    ∙ (runs-drop values c.args.from rows c.self.invariant ∙ ap (drop c.args.from) c.self.view_is) in
    subst (λ (l : List (Run g.row.T.Denot)). All (λ run. 0 < run.pages) (take (c.args.to -
    c.args.from) l))
    (sym same) c.requires.some

pub put-outcome-requires-clause-window : goal.put-outcome-requires-clause-window
put-outcome-requires-clause-window g c = (
  c.requires.window.0,
  omega (
    arith,
    c.requires.window.1,
    length-runs c.self.inside.values c.self.inside.rows c.self.invariant,
    ap length c.self.view_is,
  ),
)

pub put-outcome-requires-clause-room : goal.put-outcome-requires-clause-room
put-outcome-requires-clause-room g c =
    omega (
      arith,
      c.gather_edited.ensures.count,
      c.len.ensures.len,
      c.len.ensures.bound,
      c.requires.window.0,
      c.requires.window.1,
      length-runs c.self.inside.values c.self.inside.rows c.self.invariant,
      ap length c.self.view_is,
    )

pub put-outcome-requires-clause-gathered : goal.put-outcome-requires-clause-gathered
put-outcome-requires-clause-gathered g c =
    let change = c.requires.function.0 in
    let gives = c.requires.function.1 in (
      change,
      (
        edit_of c.args.first c.args.end change
            (slice_range (runs_of c.self.inside.values c.self.inside.rows) c.args.from c.args.to),
        (
          gives,
          gathered-window g.T.PartialEq.eq g.met.T.Exact.exact g.met.T.Eq.laws.refl change
              c.items-values.result.now c.self.inside.values c.iter_near-rest.result
              c.self.inside.rows c.gather_edited.new.rows c.args.from c.args.to c.args.first
              c.args.end c.self.invariant c.items-values.ensures c.iter_near-rest.ensures
              (c.gather_edited.ensures.gathered change gives),
        ),
      ),
    )

pub returns-clause-ok : goal.returns-clause-ok
returns-clause-ok g c change gives =
    let whole = runs_of c.self.inside.values c.self.inside.rows in
    let put = c.put-outcome.ensures.ok change gives
    (edit_of c.args.first c.args.end change (slice_range whole c.args.from c.args.to))
    (gathered-window g.T.PartialEq.eq g.met.T.Exact.exact g.met.T.Eq.laws.refl change
    c.items-values.result.now c.self.inside.values c.iter_near-rest.result c.self.inside.rows
    c.gather_edited.new.rows c.args.from c.args.to c.args.first c.args.end c.self.invariant
    c.items-values.ensures c.iter_near-rest.ensures
    (c.gather_edited.ensures.gathered change gives)) in
    subst (λ (l : List (Run g.row.T.Denot)).
    OnOk c.put-outcome.result ((runs_of c.put-outcome.new.values c.put-outcome.new.rows ≡ splice l
    c.args.from c.args.to
    (maximal_runs g.T.PartialEq.eq
    (edit_of c.args.first c.args.end change (slice_range l c.args.from c.args.to))))
    × (length (runs_of c.put-outcome.new.values c.put-outcome.new.rows) ≤ c.args.limit)))
    c.self.view_is
    (on_ok c.put-outcome.result (λ h. (h.0, omega (arith, h.1, ap length h.0))) put)

pub returns-clause-err : goal.returns-clause-err
returns-clause-err g c change gives =
    let whole = runs_of c.self.inside.values c.self.inside.rows in
    let put = c.put-outcome.ensures.err change gives
    (edit_of c.args.first c.args.end change (slice_range whole c.args.from c.args.to))
    (gathered-window g.T.PartialEq.eq g.met.T.Exact.exact g.met.T.Eq.laws.refl change
    c.items-values.result.now c.self.inside.values c.iter_near-rest.result c.self.inside.rows
    c.gather_edited.new.rows c.args.from c.args.to c.args.first c.args.end c.self.invariant
    c.items-values.ensures c.iter_near-rest.ensures
    (c.gather_edited.ensures.gathered change gives)) in
    subst (λ (l : List (Run g.row.T.Denot)).
    IfErr c.put-outcome.result (λ refusal. refusal ≡ (if nat_lt c.args.limit
    (length (splice l c.args.from c.args.to (maximal_runs g.T.PartialEq.eq
    (edit_of c.args.first c.args.end change (slice_range l c.args.from c.args.to)))))
    then TooManyRanges else NoMemory))) c.self.view_is put

pub overflow_add-to : goal.overflow_add-to
overflow_add-to g c =
    omega (
      arith,
      c.len.ensures.len,
      c.len.ensures.bound,
      c.requires.window.0,
      c.requires.window.1,
      length-runs c.self.inside.values c.self.inside.rows c.self.invariant,
      ap length c.self.view_is,
    )
