use Rattle.std.proofs.Common.{◌<◌, length, arith}
use Rattle.numa_core.specs.Standing.{setup_of}
use Rattle.numa_core.specs.Kept.{core_state}
use Rattle.numa_core.specs.Seats.{SeatFits}
use Rattle.std.proofs.lemmas.Result.{on_err_weaker}
use Rattle.numa_core.proofs.CoreSteps.{setup-set, shown-again, look-follows}
use Rattle.numa_core.proofs.Elements.{there_at, each-set}
use Rattle.numa_core.proofs.state.State.look.Goals as goal

pub look-requires-clause-fits : goal.look-requires-clause-fits
look-requires-clause-fits c = c.requires.kept.seats c.args.worker c.index_mut.result.now
    (there_at c.args.self.now.seats.items c.args.worker c.index_mut.result.now
    (omega (arith, c.in_ok-seated.ensures.ok, c.args.self.now.seats.ok.0))
    c.index_mut.ensures.value)

pub returns : goal.returns
returns c = record {
  kept = record {
    places = c.requires.kept.places;
    seats = each-set (SeatFits c.args.self.now.places) c.args.self.now.seats.items c.args.worker
        c.look.new.self c.look.ensures.fits c.requires.kept.seats;
    owners = c.requires.kept.owners;
    few = c.requires.kept.few;
    behind = c.requires.kept.behind;
    taken = c.requires.kept.taken;
  };
  follows = λ world stands. let low : c.args.worker < length c.args.self.now.seats.items =
      omega (arith, c.in_ok-seated.ensures.ok, c.args.self.now.seats.ok.0) in
      let there = there_at c.args.self.now.seats.items c.args.worker c.index_mut.result.now low
      c.index_mut.ensures.value in
      look-follows c.args.self.now.space c.args.self.now.plan c.args.self.now.places
      c.args.self.now.seats.items c.args.self.now.owners.items world c.requires.kept.places
      stands c.args.worker c.index_mut.result.now low there c.args.word c.look.new.self
      c.look.result c.look.ensures.unchanged
      (λ owner. c.look.ensures.looks (setup_of (core_state c.args.self.now)) world
      c.requires.kept.places owner);
  unchanged =
      on_err_weaker c.look.result
      (λ same. shown-again c.args.self.now.space c.args.self.now.plan c.args.self.now.seats.items
      c.args.self.now.owners.items c.args.worker c.index_mut.result.now c.look.new.self
      (there_at c.args.self.now.seats.items c.args.worker c.index_mut.result.now
      (omega (arith, c.in_ok-seated.ensures.ok, c.args.self.now.seats.ok.0))
      c.index_mut.ensures.value) same) c.look.ensures.unchanged;
  setup = setup-set c.args.self.now.space c.args.self.now.plan c.args.self.now.seats.items
      c.args.self.now.owners.items c.args.worker c.look.new.self;
}
