use Rattle.std.proofs.Common.{ap}
use Rattle.numa_script.proofs.Seeing.{line_of_seen}
use Rattle.numa_host_script.specs.Sessions.{session_after, session_answer, session_by}
use Rattle.numa_host_script.proofs.streams.run_by.Goals as goal

pub serve_script-requires : goal.serve_script-requires
serve_script-requires g c = record {
  enough = λ lack session line. (
    ap (session_answer lack session) (line_of_seen line),
    ap (session_after lack session) (line_of_seen line),
  );
}

pub returns-clause-ok : goal.returns-clause-ok
returns-clause-ok g c = c.serve_script.ensures.ok (session_by c.args.rules) c.by.ensures

pub returns-clause-read : goal.returns-clause-read
returns-clause-read g c = c.serve_script.ensures.read (session_by c.args.rules) c.by.ensures

pub returns-clause-write : goal.returns-clause-write
returns-clause-write g c = c.serve_script.ensures.write (session_by c.args.rules) c.by.ensures
