use Rattle.std.proofs.Common.{[], ap, refl}
use Rattle.numa_traces.specs.Replaying.{Replayed}
use Rattle.numa_traces.specs.Tallies.{tally_at}
use Rattle.numa_traces.proofs.ByRange.{none-ranged}
use Rattle.numa_traces.proofs.trace_state.TraceState.new.Goals as goal

pub returns : goal.returns
returns c = record {
  process = refl;
  ranges = refl;
  met = λ none plan there. record {
    trace = record {
      frames = ap (λ (met : Replayed). met.frames) c.with_room.ensures;
      tallies = λ route. ap (λ (met : Replayed). tally_at met.tallies route) c.with_room.ensures;
      closes = c.new.ensures.items;
    };
    ranges = none-ranged plan there (record { pages = []; free = c.args.room.items })
        c.args.ranges none;
  };
}
