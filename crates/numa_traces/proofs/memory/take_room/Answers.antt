use Rattle.std.proofs.Common.{◌≡◌, ◌∙◌, ◌<◌, ap, arith, get_or, length, slice_index}
use Rattle.numa_traces.proofs.Freed.{any-default, free-within}
use Rattle.numa_traces.proofs.memory.take_room.Goals as goal

pub index-requires : goal.index-requires
index-requires c = omega (
  arith,
  free-within c.args.free.now.items c.args.node c.requires,
  c.from-place.ensures,
)

pub index_mut-requires : goal.index_mut-requires
index_mut-requires c = omega (
  arith,
  free-within c.args.free.now.items c.args.node c.requires,
  c.from-place.ensures,
)

pub less_one-requires : goal.less_one-requires
less_one-requires c =
    let within : c.args.node < length c.args.free.now.items =
    free-within c.args.free.now.items c.args.node c.requires in
    let read : get_or c.args.free.now.items c.from-place.result c.index.result.now
    ≡ slice_index c.args.free.now.items c.args.node =
    ap (λ k. get_or c.args.free.now.items k c.index.result.now) c.from-place.ensures
    ∙ any-default c.args.free.now.items c.args.node c.index.result.now 0 within in
    omega (arith, c.index.ensures, read, c.requires)
