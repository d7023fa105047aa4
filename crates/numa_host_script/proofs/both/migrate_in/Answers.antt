use Rattle.std.proofs.Common.{ap, sym, ◌∙◌}
use Rattle.numa_mask.specs.NodeSet.{both}
use Rattle.numa_page_state.specs.Lying.{Ground}
use Rattle.numa_script.specs.declared.page_line.PageLine.TheVariants as page
use Rattle.numa_host_script.proofs.BothActed.{migrate-both, migrate-stays, page-nobody}
use Rattle.numa_host_script.proofs.Spaces.{same-ground}
use Rattle.numa_host_script.proofs.both.migrate_in.Goals as goal

pub returns-in_default-clause-runs : goal.returns-in_default-clause-runs
returns-in_default-clause-runs c = page-nobody c.args.running.now c.args.process
    (page.Migrate c.args.from.now c.args.to.now) c.in_default.ensures

pub returns-in_default-shift_of-clause-runs : goal.returns-in_default-shift_of-clause-runs
returns-in_default-shift_of-clause-runs c =
    migrate-stays c.args.running.now c.change_small-told.new.running c.args.process
    c.args.from.now c.args.to.now c.change_small-told.result c.change_small-told.ensures.runs
    (λ version process at. sym c.in_default-shift_of.is ∙ c.shift_of.ensures version process at)

pub returns-clause-runs : goal.returns-clause-runs
returns-clause-runs c =
    migrate-both c.args.running.now c.change_small-told.new.running c.args.process
    c.args.from.now c.args.to.now c.change_small-told.result c.change_small-told.ensures.runs
    (λ history stands. (c.in-Some.ensures history stands).0) c.and-targets.result
    (λ at stands. c.and-targets.ensures ∙ ap (both c.args.to.now) (c.allowed.ensures.allowed
    ∙ ap (λ (g : Ground). g.allowed) (same-ground c.args.running.now.host at c.args.process
    c.in-Some.space.now stands.machine stands.bounds
    (c.in-Some.ensures at.history stands.stands).1)))
    c.follow.new.self c.in-Some-shift_of.shift c.moved-more.result c.saturating_add-all.result
    (λ version process at. sym c.in-Some-shift_of.is ∙ c.shift_of.ensures version process at)
    c.follow.ensures c.moved-more.ensures c.saturating_add-all.ensures
