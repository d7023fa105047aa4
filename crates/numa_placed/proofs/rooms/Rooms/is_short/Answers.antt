use Rattle.std.proofs.Common.{◌+◌, ◌<◌, ◌∙◌, nat_lt, arith}
use Rattle.numa_placed.proofs.rooms.Rooms.is_short.Goals as goal

pub returns : goal.returns
returns c room old new are counts counts' =
    let small : c.args.node < 256 = omega arith in
    c.lacks_room.ensures ∙ (λ i. nat_lt (are c.args.node small i + counts c.args.node small i)
    (counts' c.args.node small i))
