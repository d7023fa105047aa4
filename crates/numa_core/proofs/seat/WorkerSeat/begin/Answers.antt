use Rattle.std.proofs.Common.{◌≡◌, ap, ◌∙◌}
use Rattle.numa_core.specs.Steps.{goes_on, going_on}
use Rattle.numa_core.specs.Standing.{frame_search_in}
use Rattle.numa_core.specs.World.{fresh}
use Rattle.numa_core.specs.Seats.{busy_at}
use Rattle.numa_core.proofs.Seating.{fresh-is}
use Rattle.numa_core.proofs.seat.WorkerSeat.begin.Goals as goal

begun_frame_search : (c : goal.After-settle)
    → frame_search_in c.args.places.now
    (busy_at (record {
      request = c.args.request;
      version = c.args.version;
      at =
          record { rank = 0; next = 0 };
    }) c.take_row.new.nodes.items c.clear.new.met.items)
    ≡ fresh c.args.request c.args.version c.args.row.now
begun_frame_search c = fresh-is c.args.places.now c.args.request c.args.version
    (record { rank = 0; next = 0 }) c.take_row.new.nodes.items c.args.row.now c.clear.new.met.items
    c.take_row.ensures c.clear.ensures.met

pub returns-clause-reply : goal.returns-clause-reply
returns-clause-reply c s same = c.settle.ensures.reply s same
    ∙ ap (goes_on s) (begun_frame_search c)

pub returns-clause-frame_search : goal.returns-clause-frame_search
returns-clause-frame_search c s same = c.settle.ensures.frame_search s same
    ∙ ap (going_on s) (begun_frame_search c)
