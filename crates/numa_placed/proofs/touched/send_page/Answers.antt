use Rattle.std.proofs.Common.{ℕ, Option, subst, sym, ◌∙◌}
use Rattle.numa_placed.specs.Binds.{room_sent}
use Rattle.numa_placed.specs.Shifts.{AreRooms}
use Rattle.numa_placed.proofs.touched.send_page.Goals as goal

pub returns-in_default-clause-room : goal.returns-in_default-clause-room
returns-in_default-clause-room c room are =
    let none = sym (c.node_with_room-goal.ensures.first room are) ∙ c.in_default.is in
    subst (λ (found : Option ℕ). AreRooms c.args.walk.now.rooms (room_sent room found c.args.spot))
    (sym none) are
