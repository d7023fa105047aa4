use Rattle.std.proofs.Common.{◌∙◌, ◌++◌, [], ◌∷◌, List, ap, refl}
use Rattle.numa_traces.specs.Phases.{Marked}
use Rattle.numa_traces.specs.Tallies.{Tallied}
use Rattle.numa_traces.specs.declared.trace_state.TraceState.{TraceState}
use Rattle.numa_traces.proofs.ByRange.{all-same}
use Rattle.numa_traces.proofs.Replays.{added-mark, on-ok}
use Rattle.numa_traces.proofs.Stepped.{closed}
use Rattle.numa_traces.proofs.trace_state.TraceState.close.Goals as goal

pub returns-clause-ok : goal.returns-clause-ok
returns-clause-ok c plan there =
    let old : TraceState = c.args.self.now in
    on-ok c.close.result (λ more. (
      record { process = refl; ranges = all-same old.ranges },
      tt,
      λ start steps was. record {
        trace = closed plan there start steps c.args.text.now old.replay old.marks.items
            c.close.new.marks.items c.tallies.result.now c.tallies.ensures more was.trace;
        ranges = was.ranges;
      },
    )) (added-mark c.close.result c.new-mark.result old.marks.items c.close.new.marks.items
    (record { text = c.args.text.now; tallies = c.tallies.result.now }) c.new-mark.ensures
    c.close.ensures.marks)

pub returns-clause-closes : goal.returns-clause-closes
returns-clause-closes c =
    let old : TraceState = c.args.self.now in
    let marks : List Marked = old.marks.items in
    on-ok c.close.result (λ more. record {
      same = refl;
      marks = more ∙ ap (λ (tallies : Tallied).
          marks ++ (record { text = c.args.text.now; tallies = tallies } ∷ [])) c.tallies.ensures;
    }) (added-mark c.close.result c.new-mark.result marks c.close.new.marks.items
    (record { text = c.args.text.now; tallies = c.tallies.result.now }) c.new-mark.ensures
    c.close.ensures.marks)
