use Rattle.std.proofs.Common.{◌∙◌, ap, slice_index, length}
use Rattle.numa_lines.proofs.Adding.{said_same}
use Rattle.numa_run.proofs.Spanned.{count-ok, span-err}
use Rattle.numa_script.specs.Texts.{counts_answer}
use Rattle.numa_compile.specs.Spans.{meant_count}
use Rattle.numa_run.proofs.questions.say_pages.Goals as goal

pub returns-in-Ok : goal.returns-in-Ok
returns-in-Ok g c =
    λ machine history stands.
    let made = c.in-Ok.ensures.ok in
    said_same g.W.Write.contents c.args.output.now c.say_counts.new.output _ _
    (ap (λ v. counts_answer v (λ node. slice_index c.in-Ok.counts node)) c.version.ensures
    ∙ count-ok machine c.args.plan.now history stands c.args.first.task c.args.first.page
    c.args.pages c.args.first.cpu c.in-Ok.counts made.0 made.1 made.2) c.say_counts.ensures

pub returns-in-Err : goal.returns-in-Err
returns-in-Err g c =
    λ machine history stands.
    said_same g.W.Write.contents c.args.output.now c.say_place_refusal.new.output _ _
    (span-err machine c.args.plan.now history stands c.args.first.page c.args.pages
    c.args.first.cpu c.in-Err.refusal
    (counts_answer (length history)
    (meant_count machine history c.args.first.task c.args.first.page c.args.pages
    c.args.first.cpu)) c.in-Err.ensures.err) c.say_place_refusal.ensures
