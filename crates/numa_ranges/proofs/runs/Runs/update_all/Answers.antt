-- The rows stay, and each number means the changed value; where no two values are the same, no runs
-- can be joined.
use Rattle.std.proofs.Common.{◌≡◌, List, map, ap, sym, subst, ◌∙◌}
use Rattle.std.specs.Prelude.{All}
use Rattle.numa_ranges.specs.Runs.{AreMaximal}
use Rattle.numa_ranges.specs.Edits.{IsInRange, maximal_runs, with_new_value}
use Rattle.numa_ranges.specs.Numbered.{AreNumbered, runs_of}
use Rattle.numa_ranges.specs.declared.run.Run.{Run}
use Rattle.numa_ranges.proofs.InPlace.{in-range-revalued, maximal-still}
use Rattle.numa_ranges.proofs.Numbered.{maximal-different, numbered-changed, runs-changed}
use Rattle.numa_ranges.proofs.runs.Runs.update_all.Goals as goal

pub invariant_of-self : goal.invariant_of-self
invariant_of-self g c = numbered-changed c.self.inside.values
    c.change_all.new.self c.self.inside.rows c.change_all.ensures.size c.self.invariant

pub returns-then-are_different : goal.returns-then-are_different
returns-then-are_different g c change gives =
    let values = c.self.inside.values in
    let rows = c.self.inside.rows in
    let new = c.change_all.new.self in
    let runs : runs_of new rows ≡ map (with_new_value change) c.args.self.now =
    ap (λ v. runs_of v rows) (c.change_all.ensures.made change gives)
    ∙ (runs-changed change values rows c.self.invariant
    ∙ ap (map (with_new_value change)) c.self.view_is) in
    let maximal = maximal-different values new rows c.self.invariant c.change_all.ensures.size
    (c.are_different.ensures c.if-are_different.true)
    (subst AreMaximal (sym c.self.view_is) c.requires.maximal) in
    sym (maximal-still g.T.PartialEq.eq g.met.T.Exact.exact g.met.T.Eq.laws.refl (runs_of new rows)
    maximal) ∙ ap (maximal_runs g.T.PartialEq.eq) runs

pub join_in_place-requires-clause-numbered : goal.join_in_place-requires-clause-numbered
join_in_place-requires-clause-numbered g c =
    rw c.items.ensures
    (numbered-changed c.self.inside.values c.change_all.new.self c.self.inside.rows
    c.change_all.ensures.size c.self.invariant)

pub join_in_place-requires-clause-in_range : goal.join_in_place-requires-clause-in_range
join_in_place-requires-clause-in_range g c =
    let change = c.requires.function.0 in
    let values = c.self.inside.values in
    let rows = c.self.inside.rows in
    let runs : runs_of c.items.result.now rows ≡ map (with_new_value change) c.args.self.now =
    ap (λ v. runs_of v rows) (c.items.ensures
    ∙ c.change_all.ensures.made change c.requires.function.1)
    ∙ (runs-changed change values rows c.self.invariant
    ∙ ap (map (with_new_value change)) c.self.view_is) in
    subst (λ (l : List (Run g.row.T.Denot)). All IsInRange l) (sym runs)
    (in-range-revalued change c.args.self.now c.requires.apart)

pub invariant_of-self-2 : goal.invariant_of-self-2
invariant_of-self-2 g c = subst (λ (v : List g.row.T.Denot).
    AreNumbered v c.join_in_place.new.rows) c.items.ensures c.join_in_place.ensures.numbered

pub returns : goal.returns
returns g c change gives =
    let values = c.self.inside.values in
    let rows = c.self.inside.rows in
    let new = c.change_all.new.self in
    let runs : runs_of new rows ≡ map (with_new_value change) c.args.self.now =
    ap (λ v. runs_of v rows) (c.change_all.ensures.made change gives)
    ∙ (runs-changed change values rows c.self.invariant
    ∙ ap (map (with_new_value change)) c.self.view_is) in
    ap (λ v. runs_of v c.join_in_place.new.rows) (sym c.items.ensures)
    ∙ (c.join_in_place.ensures.joined
    ∙ (ap (λ v. maximal_runs g.T.PartialEq.eq (runs_of v rows)) c.items.ensures
    ∙ ap (maximal_runs g.T.PartialEq.eq) runs))
