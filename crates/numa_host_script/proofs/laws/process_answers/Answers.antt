use Rattle.std.proofs.Common.{Bool, Option, refl, sym, ap, ◌∙◌}
use Rattle.numa_machine.specs.Machine.{Hardware}
use Rattle.numa_script.specs.declared.line.Line.TheVariants as line
use Rattle.numa_run.specs.Listings.{both_listing}
use Rattle.numa_run.specs.Replies.{Shown, outcome_of, served_by}
use Rattle.numa_host_script.specs.Sessions.{listed_where}
use Rattle.numa_host_script.proofs.laws.process_answers.Goals as goal

pub returns-clause-asked : goal.returns-clause-asked
unfolding outcome_of
returns-clause-asked c = λ lacked at process state question machine history there.
    rw (there, machine, history) refl

pub returns-clause-listed : goal.returns-clause-listed
unfolding outcome_of
returns-clause-listed c = λ lacked at process state task machine history placed lie bounds huge
    there.
    ap (λ (b : Bool). (listed_where b at process task).answer) there
    ∙ (λ i. Shown (both_listing (record {
      machine = at.machine;
      bounds = sym bounds i;
      history = sym history i;
      kept = sym placed i;
    }) (sym lie i) (sym huge i) task))
    ∙ sym (ap (λ (m : Option Hardware). (served_by m lacked state (line.Maps task)).answer)
    machine)
