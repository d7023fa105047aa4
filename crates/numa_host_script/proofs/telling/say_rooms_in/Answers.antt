use Rattle.std.proofs.Common.{◌∙◌, sym, ap}
use Rattle.numa_lines.proofs.Adding.{said_same}
use Rattle.numa_page_state.specs.Outcomes.{rooms_of}
use Rattle.numa_host_pages.specs.Homes.{Room}
use Rattle.numa_host_script.proofs.Told.{rooms-told}
use Rattle.numa_host_script.proofs.telling.say_rooms_in.Goals as goal

pub returns-in-Some : goal.returns-in-Some
returns-in-Some g c = λ at stands.
    let found = c.in-Some.ensures at.lying stands.lies in
    said_same g.W.Write.contents c.args.output.now c.say_rooms.new.output _ _
    (rooms-told c.in-Some.rooms.now (rooms_of at.lying.room)
    (λ node small. found.2 node small
    ∙ sym (ap (λ (room : Room). rooms_of room node) found.1))) c.say_rooms.ensures

pub returns-in-None : goal.returns-in-None
returns-in-None g c = λ at stands.
    said_same g.W.Write.contents c.args.output.now c.say_rooms-in-None.new.output _ _
    (rooms-told c.endless.result (rooms_of at.lying.room)
    (λ node small. c.endless.ensures node small
    ∙ sym (ap (λ (room : Room). rooms_of room node)
    (c.in-None.ensures at.lying stands.lies)))) c.say_rooms-in-None.ensures
