use Rattle.std.proofs.Common.{List, ap}
use Rattle.std.specs.Prelude.{◌++◌, ℕ, codes}
use Rattle.numa_lines.proofs.Adding.{said_same}
use Rattle.numa_page_state.specs.Outcomes.{rooms_of}
use Rattle.numa_placed.specs.Shifts.{room_of}
use Rattle.numa_run.proofs.Telling.{rooms-alike}
use Rattle.numa_run.proofs.running.Running.tell_rooms.Goals as goal

pub returns : goal.returns
returns g c = λ state stands.
    said_same g.W.Write.contents c.args.output.now c.say_rooms.new.output _ _
    (ap (λ (text : List ℕ). codes "room" ++ text ++ codes "\n")
    (rooms-alike (room_of c.rooms_in.result) (rooms_of state.lying.room)
    (c.rooms_in.ensures state.lying stands.lies)))
    c.say_rooms.ensures
