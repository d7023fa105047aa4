use Rattle.std.proofs.lemmas.Result.{err_from_is_err_and}
use Rattle.numa_page_state.specs.Lying.{ground_in}
use Rattle.numa_page_state.specs.Outcomes.{rooms_of}
use Rattle.numa_page_state.proofs.Populating.{touches, touches-none}
use Rattle.numa_page_state.proofs.touching.touch.Goals as goal

pub returns-in_err-bound : goal.returns-in_err-bound
returns-in_err-bound c =
    let exit = err_from_is_err_and c.from_residual.result c.from_residual.ensures.1 in
    rw (exit.1, exit.2)
    (touches-none c.args.placed.now c.populate.new.self c.args.rooms.now
    (ground_in c.args.space.now c.args.resident.now) c.args.start c.args.length c.args.task
    c.args.cpu c.in_err-bound.field-0.0
    (λ room have. c.in_err-bound.ensures.err (rooms_of room) (c.rooms_of-left.ensures room have))
    c.in_err-bound.ensures.unchanged)

pub returns : goal.returns
returns c =
    touches c.args.placed.now c.populate.new.self c.args.rooms.now
    (ground_in c.args.space.now c.args.resident.now) c.args.start c.args.length c.args.task
    c.args.cpu c.populate.new.rooms c.rooms_if.result c.in_ok-bound.bound
    c.pages_below-first.result.0 c.pages_below-first.result.1
    c.counts_in-before.result c.counts_in-after.result c.more-on.result
    c.in_ok-bound.ensures.accepted
    (λ room have. c.in_ok-bound.ensures.ok (rooms_of room) (c.rooms_of-left.ensures room have))
    c.rooms_if.ensures (record {
      within = c.pages_below-first.ensures.within;
      low = c.pages_below-first.ensures.low;
      high = c.pages_below-first.ensures.high;
    }) c.counts_in-before.ensures c.counts_in-after.ensures c.more-on.ensures
