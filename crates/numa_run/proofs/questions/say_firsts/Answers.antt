use Rattle.std.proofs.Common.{◌∙◌, ap, ℕ, length}
use Rattle.numa_lines.proofs.Adding.{said_same}
use Rattle.numa_run.proofs.Spanned.{span-ok, span-err}
use Rattle.numa_run.specs.Questions.{span_text, first_nodes}
use Rattle.numa_script.specs.Texts.{nodes_answer}
use Rattle.numa_run.proofs.questions.say_firsts.Goals as goal

pub returns-in-Ok : goal.returns-in-Ok
returns-in-Ok g c =
    λ machine history stands.
    let made = c.in-Ok.ensures.ok in
    let text = ap (λ v. nodes_answer v c.fill.new.out) c.version.ensures
    ∙ span-ok machine c.args.plan.now history stands c.args.first.task c.args.first.page
    c.args.first.cpu c.fill.new.out made.0 made.1
    ∙ ap (λ (n : ℕ). span_text machine history c.args.first.task c.args.first.page n
    c.args.first.cpu) c.fill.auto.out in
    said_same g.W.Write.contents c.args.output.now c.say_nodes.new.output _ _ (text)
    c.say_nodes.ensures

pub returns-in-Err : goal.returns-in-Err
returns-in-Err g c =
    λ machine history stands.
    said_same g.W.Write.contents c.args.output.now c.say_place_refusal.new.output _ _
    (span-err machine c.args.plan.now history stands c.args.first.page (length c.args.nodes.now)
    c.args.first.cpu c.in-Err.refusal
    (nodes_answer (length history)
    (first_nodes machine history c.args.first.task c.args.first.page (length c.args.nodes.now)
    c.args.first.cpu)) c.in-Err.ensures.err) c.say_place_refusal.ensures
