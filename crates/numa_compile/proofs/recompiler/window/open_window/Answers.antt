use Rattle.std.proofs.Common.{◌≡◌, sym, ◌∙◌, arith}
use Rattle.numa_ranges.specs.Windows.{met}
use Rattle.numa_space.specs.Spans.{span_first, span_end}
use Rattle.numa_compile.specs.Recompiling.{met_by}
use Rattle.numa_compile.proofs.HomeLemmas.{open-begun}
use Rattle.numa_compile.proofs.SpanLemmas.{edits-of_span, open-few, open-found}
use Rattle.numa_compile.proofs.recompiler.window.open_window.Goals as goal

pub find_window-requires : goal.find_window-requires
find_window-requires c =
    let b = c.requires.behind in
    omega (arith, b.begins, b.ends, b.some)

pub returns-clause-open : goal.returns-clause-open
returns-clause-open c =
    let b = c.requires.behind in
    let found = c.find_window in
    open-found c.args.space.now c.args.plan.now found.result b.command b.behind
    (edits-of_span b.command b.edits) c.survey.ensures.rising c.survey.ensures.maximal
    (found.ensures.first ∙ sym b.begins) (found.ensures.end ∙ sym b.ends)
    found.ensures.place found.ensures.window

pub returns-clause-few : goal.returns-clause-few
returns-clause-few c =
    let b = c.requires.behind in
    let plan = c.args.plan.now in
    let found = c.find_window in
    let same : met (span_first b.command) (span_end b.command) plan.runs ≡ met_by c.args.pages.now
    plan = λ i. met (b.begins i) (b.ends i) plan.runs in
    omega (
      arith,
      same,
      open-few c.args.space.now plan found.result b.command b.behind b.edits c.survey.ensures.rising
          c.survey.ensures.maximal b.some (found.ensures.first ∙ sym b.begins)
          (found.ensures.end ∙ sym b.ends) found.ensures.place found.ensures.window,
    )

pub returns-clause-begun : goal.returns-clause-begun
returns-clause-begun c =
    let b = c.requires.behind in
    let plan = c.args.plan.now in
    let found = c.find_window in
    let same : met (span_first b.command) (span_end b.command) plan.runs ≡ met_by c.args.pages.now
    plan = λ i. met (b.begins i) (b.ends i) plan.runs in
    omega (
      arith,
      same,
      open-begun c.args.space.now plan found.result b.command b.behind b.edits
          c.survey.ensures.rising c.survey.ensures.maximal b.some
          (found.ensures.first ∙ sym b.begins) (found.ensures.end ∙ sym b.ends),
    )
