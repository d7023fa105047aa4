use Rattle.std.proofs.Common.{map, refl}
use Rattle.numa_traces.specs.Hosting.{counted_in}
use Rattle.numa_traces.specs.Phases.{accesses_in}
use Rattle.numa_traces.specs.declared.host_reading.HostTrace.{HostTrace}
use Rattle.numa_traces.proofs.Closing.{mark-of}
use Rattle.numa_traces.proofs.Replays.{added-mark, on-ok}
use Rattle.numa_traces.proofs.host_reading.HostTrace.close.Goals as goal

pub returns-clause-ok : goal.returns-clause-ok
returns-clause-ok c =
    let old : HostTrace = c.args.self.now in
    let text = c.args.text.now in
    on-ok c.close.result (λ more. (
      λ process. refl,
      tt,
      λ room plans steps was. record {
        replay = was.replay;
        marks = (
          old.marks.items,
          record { text = text; processes = map counted_in old.replay.processes },
          more,
          mark-of room plans text (accesses_in steps) old.replay was.replay,
          was.marks,
        );
      },
    )) (added-mark c.close.result c.new-mark.result old.marks.items c.close.new.marks.items
    (record { text = text; processes = map counted_in old.replay.processes }) c.new-mark.ensures
    c.close.ensures.marks)
