use Rattle.std.proofs.Common.{◌<◌, length, arith, rules}
use Rattle.std.proofs.lemmas.Result.{err_from_is_err_and}
use Rattle.numa_core.specs.Kept.{core_state}
use Rattle.numa_core.specs.Seats.{SeatFits}
use Rattle.numa_core.proofs.CoreSteps.{setup-set, refused-begin, begin-follows}
use Rattle.numa_core.proofs.Elements.{there_at, each-set}
use Rattle.numa_core.proofs.state.State.begin.Goals as goal

pub returns-in_err-row : goal.returns-in_err-row
returns-in_err-row c = record {
  kept = search rules;
  follows = let exit = err_from_is_err_and c.from_residual.result c.from_residual.ensures.1 in
      rw (exit.1, exit.2) (refused-begin (core_state c.args.self.now) c.args.worker c.args.request
      c.in_err-row.field-0.0 (c.in_err-row.ensures.refused c.args.self.now.space
      c.args.self.now.owners.items));
  unchanged = search rules;
  setup = search rules;
}

pub begin-requires-clause-fits : goal.begin-requires-clause-fits
begin-requires-clause-fits c = c.requires.kept.seats c.args.worker c.index_mut.result.now
    (there_at c.args.self.now.seats.items c.args.worker c.index_mut.result.now
    (omega (arith, c.in_ok-row.ensures.seated, c.args.self.now.seats.ok.0))
    c.index_mut.ensures.value)

pub returns : goal.returns
returns c = record {
  kept = record {
    places = c.requires.kept.places;
    seats = each-set (SeatFits c.args.self.now.places) c.args.self.now.seats.items c.args.worker
        c.begin.new.self c.begin.ensures.fits c.requires.kept.seats;
    owners = c.requires.kept.owners;
    few = c.requires.kept.few;
    behind = c.requires.kept.behind;
    taken = c.requires.kept.taken;
  };
  follows = λ world stands. let low : c.args.worker < length c.args.self.now.seats.items =
      omega (arith, c.in_ok-row.ensures.seated, c.args.self.now.seats.ok.0) in
      let there = there_at c.args.self.now.seats.items c.args.worker c.index_mut.result.now low
      c.index_mut.ensures.value in
      begin-follows c.args.self.now.space c.args.self.now.plan c.args.self.now.places
      c.args.self.now.seats.items c.args.self.now.owners.items world c.requires.kept.places
      stands c.args.worker c.index_mut.result.now low there c.args.request c.in_ok-row.row.now
      c.version-version.result c.begin.new.self c.begin.result c.version-version.ensures
      (c.in_ok-row.ensures.allowed c.args.self.now.space c.args.self.now.owners.items)
      (c.in_ok-row.ensures.listed c.args.self.now.space c.args.self.now.owners.items)
      c.begin.ensures.reply c.begin.ensures.frame_search;
  unchanged = search rules;
  setup = setup-set c.args.self.now.space c.args.self.now.plan c.args.self.now.seats.items
      c.args.self.now.owners.items c.args.worker c.begin.new.self;
}
