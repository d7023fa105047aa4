use Rattle.std.proofs.Common.{sym, ap, subst, ◌∙◌}
use Rattle.numa_plan.specs.Meaning.{PlanData}
use Rattle.numa_compile.specs.Follows.{Follows}
use Rattle.numa_compile.proofs.SpanLemmas.{edits-of_span, none-follows}
use Rattle.numa_compile.proofs.recompiler.take_version.Goals as goal

pub returns-clause-follows : goal.returns-clause-follows
returns-clause-follows c =
    let b = c.requires.behind in
    let plan = c.args.plan.now in
    subst (λ (p : PlanData). Follows c.args.space.now p)
    (sym (c.set_version.ensures
    ∙ ap (λ version. record plan { version = version }) c.version.ensures.version))
    (none-follows c.args.space.now plan b.command b.behind (edits-of_span b.command b.edits)
    c.requires.rising c.requires.maximal b.none)
