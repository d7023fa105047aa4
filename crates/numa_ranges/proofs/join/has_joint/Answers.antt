-- The first run and those behind it are all.
use Rattle.std.proofs.Common.{◌≡◌, List, [], ◌∷◌, sym, subst, ap, ◌∙◌}
use Rattle.std.specs.Prelude.{All}
use Rattle.numa_ranges.specs.Edits.{IsInRange}
use Rattle.numa_ranges.specs.Numbered.{AreNumbered, runs_of}
use Rattle.numa_ranges.specs.Runs.{AreMaximal}
use Rattle.numa_ranges.specs.declared.row.Row.{Row}
use Rattle.numa_ranges.specs.declared.run.Run.{Run}
use Rattle.numa_ranges.proofs.join.has_joint.Goals as goal

pub new-runs-requires : goal.new-runs-requires
new-runs-requires g c = subst (λ (l : List Row). AreNumbered c.args.values.now l)
    (sym c.iter.ensures) c.requires.numbered

pub joins_on-requires : goal.joins_on-requires
joins_on-requires g c =
    let all = ap (runs_of c.args.values.now) (sym c.iter.ensures) ∙ sym c.new-runs.ensures in
    subst (λ (l : List (Run g.row.T.Denot)). All IsInRange l) (all ∙ c.in-Some.ensures.steps)
    c.requires.in_range

pub returns-in_default : goal.returns-in_default
returns-in_default g c = λ none.
    let all = ap (runs_of c.args.values.now) (sym c.iter.ensures) ∙ sym c.new-runs.ensures in
    subst (λ (l : List (Run g.row.T.Denot)). AreMaximal l) (sym (all ∙ c.in_default.ensures.steps.0))
    tt

pub returns : goal.returns
returns g c = λ none.
    let all = ap (runs_of c.args.values.now) (sym c.iter.ensures) ∙ sym c.new-runs.ensures in
    subst (λ (l : List (Run g.row.T.Denot)). AreMaximal l) (sym (all ∙ c.in-Some.ensures.steps))
    (c.joins_on.ensures none)
