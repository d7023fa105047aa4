use Rattle.std.proofs.Common.{◌∙◌, ap, ℕ, length, ◌≡◌}
use Rattle.numa_lines.proofs.Adding.{said_same}
use Rattle.numa_run.specs.Questions.{span_text}
use Rattle.numa_run.proofs.questions.say_span.Goals as goal

pub returns : goal.returns
returns g c =
    λ machine history stands.
    let all : length c.as_mut_slice.result.now ≡ c.args.pages = c.as_mut_slice.ensures.len
    ∙ c.in-Ok.ensures.len in
    said_same g.W.Write.contents c.args.output.now c.say_firsts.new.output _ _
    (ap (λ (n : ℕ). span_text machine history c.args.first.task c.args.first.page n
    c.args.first.cpu) all) (c.say_firsts.ensures machine history stands)
