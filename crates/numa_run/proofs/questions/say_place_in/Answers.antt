use Rattle.std.proofs.Common.{ℕ, Option, List, length, ap, sym, ◌∙◌}
use Rattle.numa_lines.proofs.Adding.{said_same}
use Rattle.numa_script.specs.Texts.{nodes_answer}
use Rattle.numa_space.specs.Lists.{node_list}
use Rattle.numa_machine.specs.declared.refusal.PlaceRefusal.{PlaceRefusal}
use Rattle.numa_run.specs.Questions.{unless_refused}
use Rattle.numa_run.proofs.questions.say_place_in.Goals as goal

pub returns-in-Ok : goal.returns-in-Ok
returns-in-Ok g c =
    λ history stands.
    let machine = c.args.space.now.machine in
    let nodes = node_list machine history c.args.fault.task c.args.fault.page c.args.fault.cpu in
    let listed = c.in-Ok.ensures.meaning history stands in
    said_same g.W.Write.contents c.args.output.now c.say_nodes.new.output _ _
    (ap (λ (v : ℕ). nodes_answer v c.deref.result.now) (c.version.ensures.meaning history stands)
    ∙ ap (λ (l : List ℕ). nodes_answer (length history) l) (c.deref.ensures.0 ∙ listed.1)
    ∙ sym (ap (λ (r : Option PlaceRefusal).
    unless_refused r (nodes_answer (length history) nodes)) listed.0)) c.say_nodes.ensures

pub returns-in-Err : goal.returns-in-Err
returns-in-Err g c =
    λ history stands.
    let machine = c.args.space.now.machine in
    let nodes = node_list machine history c.args.fault.task c.args.fault.page c.args.fault.cpu in
    said_same g.W.Write.contents c.args.output.now c.say_place_refusal.new.output _ _
    (sym (ap (λ (r : Option PlaceRefusal). unless_refused r (nodes_answer (length history) nodes))
    (c.in-Err.ensures.meaning history stands))) c.say_place_refusal.ensures
