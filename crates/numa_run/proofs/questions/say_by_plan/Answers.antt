use Rattle.std.proofs.Common.{ap}
use Rattle.numa_lines.proofs.Adding.{said_same}
use Rattle.numa_requests.specs.declared.request.Request.{Request}
use Rattle.numa_run.specs.Questions.{count_text, place_text, span_text, unless_starved}
use Rattle.numa_run.proofs.questions.say_by_plan.Goals as goal

pub returns-in-Place : goal.returns-in-Place
returns-in-Place g c = λ machine history stands.
    rw c.in-Place.is (said_same g.W.Write.contents c.args.output.now c.say_place.new.output _ _
    (ap (λ (f : Request). place_text machine history f.task f.page f.cpu) c.fault_at.ensures)
    (c.say_place.ensures machine history stands))

pub returns-in-Span : goal.returns-in-Span
returns-in-Span g c = λ machine history stands.
    rw c.in-Span.is (said_same g.W.Write.contents c.args.output.now c.say_span.new.output _ _
    (ap (λ (f : Request). unless_starved c.say_span.result
    (span_text machine history f.task f.page c.in-Span.pages f.cpu)) c.fault_at-in-Span.ensures)
    (c.say_span.ensures machine history stands))

pub returns-in-Counts : goal.returns-in-Counts
returns-in-Counts g c = λ machine history stands.
    rw c.in-Counts.is (said_same g.W.Write.contents c.args.output.now c.say_pages.new.output _ _
    (ap (λ (f : Request). count_text machine history f.task f.page c.in-Counts.pages f.cpu)
    c.fault_at-in-Counts.ensures)
    (c.say_pages.ensures machine history stands))
