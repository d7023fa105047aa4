use Rattle.std.proofs.Common.{[], ap, ◌∙◌, sym}
use Rattle.std.specs.Prelude.{if◌then◌else◌}
use Rattle.numa_lines.specs.Watching.{held_in}
use Rattle.numa_lines.proofs.Adding.{said_still}
use Rattle.numa_lines.proofs.Endings.{HasBegun, wrote_all, wrote_front}
use Rattle.numa_stress.specs.Storm.{text_of}
use Rattle.numa_stress.proofs.play.storm.Goals as goal

pub returns-in_default-hand_over-clause-write : goal.returns-in_default-hand_over-clause-write
returns-in_default-hand_over-clause-write g c _ =
    let said = said_still g.W.Write.contents c.gather.new.self c.say_report.new.output
    c.hand_over.new.self (text_of c.in-Some.report) c.say_report.ensures
    c.hand_over.ensures.says in
    let begun : HasBegun g.W.Write.contents c.args.output.now c.gather.new.self = record {
      same = ap g.W.Write.contents c.gather.ensures.inner;
      well = c.gather.ensures.failed ∙ c.requires.writer;
      kept = c.gather.ensures.held
          ∙ sym (λ i. if c.requires.writer i then [] else held_in c.args.output.now);
    } in (
      c.in-Some.report,
      c.in-Some.ensures,
      c.in_default-hand_over.ensures.err,
      wrote_front g.W.Write.contents c.args.output.now c.gather.new.self c.hand_over.new.self
          (text_of c.in-Some.report) begun c.in_default-hand_over.ensures.err said,
    )

pub returns-clause-ok : goal.returns-clause-ok
returns-clause-ok g c =
    let said = said_still g.W.Write.contents c.gather.new.self c.say_report.new.output
    c.hand_over.new.self (text_of c.in-Some.report) c.say_report.ensures
    c.hand_over.ensures.says in
    let begun : HasBegun g.W.Write.contents c.args.output.now c.gather.new.self = record {
      same = ap g.W.Write.contents c.gather.ensures.inner;
      well = c.gather.ensures.failed ∙ c.requires.writer;
      kept = c.gather.ensures.held
          ∙ sym (λ i. if c.requires.writer i then [] else held_in c.args.output.now);
    } in (
      c.in-Some.report,
      c.in-Some.ensures,
      c.status.ensures,
      c.in-Ok-hand_over.ensures.ok,
      wrote_all g.W.Write.contents c.args.output.now c.gather.new.self c.hand_over.new.self
          (text_of c.in-Some.report) begun c.in-Ok-hand_over.ensures.ok c.hand_over.ensures.empty
          said,
    )
