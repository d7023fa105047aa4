use Rattle.std.proofs.Common.{ap}
use Rattle.numa_script.proofs.Seeing.{line_of_seen}
use Rattle.numa_script.specs.declared.line.ScriptLine.{ScriptLine}
use Rattle.numa_run.specs.Answers.{after, answer_of, own_line, start}
use Rattle.numa_run.proofs.streams.run.Goals as goal

pub serve_script-requires : goal.serve_script-requires
serve_script-requires g c = record {
  enough = λ lack state line. (
    ap (λ (said : ScriptLine). answer_of lack state (own_line said)) (line_of_seen line),
    ap (λ (said : ScriptLine). after lack state (own_line said)) (line_of_seen line),
  );
}

pub returns-clause-ok : goal.returns-clause-ok
returns-clause-ok g c = c.serve_script.ensures.ok start c.new.ensures

pub returns-clause-read : goal.returns-clause-read
returns-clause-read g c = c.serve_script.ensures.read start c.new.ensures

pub returns-clause-write : goal.returns-clause-write
returns-clause-write g c = c.serve_script.ensures.write start c.new.ensures
