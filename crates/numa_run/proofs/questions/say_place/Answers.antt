use Rattle.std.proofs.Common.{◌∙◌, ap}
use Rattle.numa_lines.proofs.Adding.{said_same}
use Rattle.numa_run.proofs.Spanned.{place-ok, place-err}
use Rattle.numa_script.specs.Texts.{nodes_answer}
use Rattle.numa_run.proofs.questions.say_place.Goals as goal

pub returns-in-Ok : goal.returns-in-Ok
returns-in-Ok g c =
    λ machine history stands.
    let made = c.in-Ok.ensures.ok in
    said_same g.W.Write.contents c.args.output.now c.say_nodes.new.output _ _
    (ap (λ v. nodes_answer v c.in-Ok.nodes.now) c.version.ensures
    ∙ place-ok machine c.args.plan.now history stands c.args.fault.task c.args.fault.page
    c.args.fault.cpu c.in-Ok.nodes.now made.0 made.1) c.say_nodes.ensures

pub returns-in-Err : goal.returns-in-Err
returns-in-Err g c =
    λ machine history stands.
    said_same g.W.Write.contents c.args.output.now c.say_place_refusal.new.output _ _
    (place-err machine c.args.plan.now history stands c.args.fault.task c.args.fault.page
    c.args.fault.cpu c.in-Err.refusal c.in-Err.ensures.err) c.say_place_refusal.ensures
