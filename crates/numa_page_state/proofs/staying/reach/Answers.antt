use Rattle.numa_placed.specs.Binds.{room_before}
use Rattle.numa_placed.specs.Spots.{spot_at}
use Rattle.numa_page_state.specs.Standing.{asked_for}
use Rattle.numa_page_state.proofs.Fronts.{reached}
use Rattle.numa_page_state.proofs.staying.reach.Goals as goal

pub returns : goal.returns
returns c room are =
    reached c.args.space.now c.args.said.now c.args.toucher c.args.placed.now c.in-Ok.copy room
    c.args.front.page c.args.page c.requires.first c.requires.rises c.requires.inside
    c.requires.within c.in-Ok.ensures c.mask-list.result c.mask-list.ensures
    c.bind_astray.new.rooms
    (c.in-Ok-bind_astray.ensures.ok (room_before
    (asked_for c.args.space.now c.args.said.now c.args.toucher) (spot_at c.args.placed.now) room
    c.args.front.page) are).room
