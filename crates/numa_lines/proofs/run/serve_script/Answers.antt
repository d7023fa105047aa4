use Rattle.std.proofs.Common.{◌+◌, ℕ, [], ◌∙◌, ap, inl, inr, subst, sym}
use Rattle.std.specs.Io.KnownBytes.{Consumes}
use Rattle.std.proofs.KnownBytes.{Consumes-nil}
use Rattle.numa_lines.specs.Runs.{most_reads}
use Rattle.numa_lines.proofs.Cuts.{either, unless_failed}
use Rattle.numa_lines.proofs.Endings.{answered_so_far, answered_to_end, begun, wrote_all}
use Rattle.numa_lines.proofs.Endings.{wrote_front}
use Rattle.numa_lines.proofs.Progressing.{progress_starts}
use Rattle.numa_lines.proofs.Stopping.{at_input, at_output}
use Rattle.numa_lines.proofs.run.serve_script.Goals as goal

pub returns-in_default-hand_over-clause-write : goal.returns-in_default-hand_over-clause-write
returns-in_default-hand_over-clause-write g c start stands e =
    let from = c.begin-2.new.self in
    let starts =
    progress_starts g.W.Write.contents g.S.Serve.plenty g.S.Serve.answer_of g.S.Serve.after
    (g.S.Serve.stands_for c.in-Ok.lines.taker.server) from c.hand_over.new.self c.in-Ok.lines.line
    c.hand_over.ensures.says c.in-Ok.ensures.line in
    let standing = subst (λ taker. g.S.Serve.stands_for taker.server start)
    (sym c.in-Ok.ensures.taker) stands in
    let has_begun =
    begun g.W.Write.contents c.args.output.now c.gather.new.self from c.gather.ensures.inner
    c.gather.ensures.failed c.gather.ensures.held c.begin-2.ensures.inner c.begin-2.ensures.well
    c.begin-2.ensures.held in
    let far =
    answered_so_far g.W.Write.contents g.S.Serve.plenty g.S.Serve.answer_of g.S.Serve.after start
    c.requires.enough
    (g.S.Serve.stands_for c.in-Ok.lines.taker.server) from c.hand_over.new.self []
    (starts.0 start standing) in
    record {
      front = [];
      refused = far.0;
      read =
          subst (λ reader. Consumes (g.R.Read.remaining c.args.input.now.inner)
          (g.R.Read.remaining reader) [])
          (sym c.begin.ensures.inner) (Consumes-nil (g.R.Read.remaining c.args.input.now.inner));
      written = inl (wrote_front g.W.Write.contents c.args.output.now from c.hand_over.new.self _
          has_begun c.in_default-hand_over.ensures.err far.1);
      input_is_sound = c.begin.ensures.well;
      output_failed = c.in_default-hand_over.ensures.err;
    }

pub returns-in-Err-clause-read : goal.returns-in-Err-clause-read
returns-in-Err-clause-read g c start stands e =
    let from = c.begin-2.new.self in
    let starts =
    progress_starts g.W.Write.contents g.S.Serve.plenty g.S.Serve.answer_of g.S.Serve.after
    (g.S.Serve.stands_for c.in-Ok.lines.taker.server) from c.hand_over.new.self c.in-Ok.lines.line
    c.hand_over.ensures.says c.in-Ok.ensures.line in
    let standing = subst (λ taker. g.S.Serve.stands_for taker.server start)
    (sym c.in-Ok.ensures.taker) stands in
    let has_begun =
    begun g.W.Write.contents c.args.output.now c.gather.new.self from c.gather.ensures.inner
    c.gather.ensures.failed c.gather.ensures.held c.begin-2.ensures.inner c.begin-2.ensures.well
    c.begin-2.ensures.held in
    let stops = at_input c.in-Err.why _ _ (λ lost. lost.lost.0) e c.in-Err.ensures.err in
    let taken = stops.has_read.takes c.in-Ok.lines from [] starts in
    let far =
    answered_so_far g.W.Write.contents g.S.Serve.plenty g.S.Serve.answer_of g.S.Serve.after start
    c.requires.enough
    (g.S.Serve.stands_for c.read_text.new.taker.taker.server) from c.read_text.new.output
    stops.bytes (taken.0 start standing) in
    let handed = stops.settled (c.in-Ok-hand_over.ensures.ok, c.hand_over.ensures.empty) in
    record {
      front = stops.bytes;
      refused = far.0;
      read =
          subst (λ reader. Consumes (g.R.Read.remaining reader)
          (g.R.Read.remaining c.read_text.new.input.inner) stops.bytes)
          c.begin.ensures.inner stops.has_read.read;
      written = wrote_all g.W.Write.contents c.args.output.now from c.read_text.new.output _
          has_begun
          handed.0 handed.1 far.1;
      cause = either inl (λ all. inr (all ∙ ap (λ (n : ℕ). n + most_reads) c.begin.ensures.reads))
          stops.cause;
      output_is_sound = handed.0;
    }

pub returns-in-Err-clause-write : goal.returns-in-Err-clause-write
returns-in-Err-clause-write g c start stands e =
    let from = c.begin-2.new.self in
    let starts =
    progress_starts g.W.Write.contents g.S.Serve.plenty g.S.Serve.answer_of g.S.Serve.after
    (g.S.Serve.stands_for c.in-Ok.lines.taker.server) from c.hand_over.new.self c.in-Ok.lines.line
    c.hand_over.ensures.says c.in-Ok.ensures.line in
    let standing = subst (λ taker. g.S.Serve.stands_for taker.server start)
    (sym c.in-Ok.ensures.taker) stands in
    let has_begun =
    begun g.W.Write.contents c.args.output.now c.gather.new.self from c.gather.ensures.inner
    c.gather.ensures.failed c.gather.ensures.held c.begin-2.ensures.inner c.begin-2.ensures.well
    c.begin-2.ensures.held in
    let stops = at_output c.in-Err.why _ _ (λ lost. lost.lost.0) e c.in-Err.ensures.err in
    let taken = stops.has_read.takes c.in-Ok.lines from [] starts in
    let far =
    answered_so_far g.W.Write.contents g.S.Serve.plenty g.S.Serve.answer_of g.S.Serve.after start
    c.requires.enough
    (g.S.Serve.stands_for c.read_text.new.taker.taker.server) from c.read_text.new.output
    stops.bytes (taken.0 start standing) in
    record {
      front = stops.bytes;
      refused = far.0;
      read =
          subst (λ reader. Consumes (g.R.Read.remaining reader)
          (g.R.Read.remaining c.read_text.new.input.inner) stops.bytes)
          c.begin.ensures.inner stops.has_read.read;
      written = inl (wrote_front g.W.Write.contents c.args.output.now from c.read_text.new.output _
          has_begun stops.lost.1 far.1);
      input_is_sound = stops.sound ∙ c.begin.ensures.well;
      output_failed = stops.lost.1;
    }

pub returns-in-Ok-finish-clause-ok : goal.returns-in-Ok-finish-clause-ok
returns-in-Ok-finish-clause-ok g c start stands =
    let from = c.begin-2.new.self in
    let starts =
    progress_starts g.W.Write.contents g.S.Serve.plenty g.S.Serve.answer_of g.S.Serve.after
    (g.S.Serve.stands_for c.in-Ok.lines.taker.server) from c.hand_over.new.self c.in-Ok.lines.line
    c.hand_over.ensures.says c.in-Ok.ensures.line in
    let standing = subst (λ taker. g.S.Serve.stands_for taker.server start)
    (sym c.in-Ok.ensures.taker) stands in
    let has_begun =
    begun g.W.Write.contents c.args.output.now c.gather.new.self from c.gather.ensures.inner
    c.gather.ensures.failed c.gather.ensures.held c.begin-2.ensures.inner c.begin-2.ensures.well
    c.begin-2.ensures.held in
    let stops = c.in-Ok-read_text.ensures.ok in
    let ends = unless_failed c.in-Ok-finish.ensures in
    let taken = ends.1 c.in-Ok.lines from stops.bytes
    (stops.has_read.takes c.in-Ok.lines from [] starts) in
    let far =
    answered_to_end g.W.Write.contents g.S.Serve.plenty g.S.Serve.answer_of g.S.Serve.after start
    c.requires.enough
    (g.S.Serve.stands_for c.finish.new.self.taker.server) from c.finish.new.output stops.bytes
    (taken.0 start standing) in
    record {
      script = stops.bytes;
      refused = far.0;
      read =
          subst (λ reader. Consumes (g.R.Read.remaining reader)
          (g.R.Read.remaining c.read_text.new.input.inner) stops.bytes)
          c.begin.ensures.inner stops.has_read.read;
      ended = stops.ended;
      written = wrote_all g.W.Write.contents c.args.output.now from c.finish.new.output _ has_begun
          ends.0.0 ends.0.1 far.1;
      input_is_sound = stops.sound ∙ c.begin.ensures.well;
      output_is_sound = ends.0.0;
    }

pub returns-clause-write : goal.returns-clause-write
returns-clause-write g c start stands e =
    let from = c.begin-2.new.self in
    let starts =
    progress_starts g.W.Write.contents g.S.Serve.plenty g.S.Serve.answer_of g.S.Serve.after
    (g.S.Serve.stands_for c.in-Ok.lines.taker.server) from c.hand_over.new.self c.in-Ok.lines.line
    c.hand_over.ensures.says c.in-Ok.ensures.line in
    let standing = subst (λ taker. g.S.Serve.stands_for taker.server start)
    (sym c.in-Ok.ensures.taker) stands in
    let has_begun =
    begun g.W.Write.contents c.args.output.now c.gather.new.self from c.gather.ensures.inner
    c.gather.ensures.failed c.gather.ensures.held c.begin-2.ensures.inner c.begin-2.ensures.well
    c.begin-2.ensures.held in
    let stops = c.in-Ok-read_text.ensures.ok in
    let ends = unless_failed c.in-Err-finish.ensures in
    let taken = ends.1 c.in-Ok.lines from stops.bytes
    (stops.has_read.takes c.in-Ok.lines from [] starts) in
    let far =
    answered_to_end g.W.Write.contents g.S.Serve.plenty g.S.Serve.answer_of g.S.Serve.after start
    c.requires.enough
    (g.S.Serve.stands_for c.finish.new.self.taker.server) from c.finish.new.output stops.bytes
    (taken.0 start standing) in
    record {
      front = stops.bytes;
      refused = far.0;
      read =
          subst (λ reader. Consumes (g.R.Read.remaining reader)
          (g.R.Read.remaining c.read_text.new.input.inner) stops.bytes)
          c.begin.ensures.inner stops.has_read.read;
      written = inr (
        stops.ended,
        wrote_front g.W.Write.contents c.args.output.now from c.finish.new.output _
            has_begun ends.0.1 far.1,
      );
      input_is_sound = stops.sound ∙ c.begin.ensures.well;
      output_failed = ends.0.1;
    }
