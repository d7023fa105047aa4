use Rattle.std.proofs.Common.{◌<◌, length, arith, rules, sym, ◌∙◌, ne_eqb}
use Rattle.numa_core.specs.Seats.{SeatFits}
use Rattle.numa_core.proofs.CoreSteps.{no_job, setup-set, seek-follows}
use Rattle.numa_core.proofs.Elements.{there_at, each-set}
use Rattle.numa_core.proofs.state.State.seek.Goals as goal

pub begin-requires-clause-fits : goal.begin-requires-clause-fits
begin-requires-clause-fits c = c.requires.kept.seats c.args.worker c.index_mut.result.now
    (there_at c.args.self.now.seats.items c.args.worker c.index_mut.result.now
    (omega (arith, c.in_ok-seated.ensures.ok, c.args.self.now.seats.ok.0))
    c.index_mut.ensures.value)

pub returns : goal.returns
returns c = record {
  kept = record {
    places = c.requires.kept.places;
    seats = each-set (SeatFits c.args.self.now.places) c.args.self.now.seats.items c.args.worker
        c.begin.new.self c.begin.ensures.fits c.requires.kept.seats;
    owners = c.requires.kept.owners;
    few = c.requires.kept.few;
    behind = c.requires.kept.behind;
    taken = c.requires.kept.taken;
  };
  follows = λ world stands. let low : c.args.worker < length c.args.self.now.seats.items =
      omega (arith, c.in_ok-seated.ensures.ok, c.args.self.now.seats.ok.0) in
      let there = there_at c.args.self.now.seats.items c.args.worker c.index-seat.result.now low
      c.index-seat.ensures in
      seek-follows c.args.self.now.space c.args.self.now.plan c.args.self.now.places
      c.args.self.now.seats.items c.args.self.now.owners.items world c.requires.kept.places
      stands c.args.worker c.index-seat.result.now low there c.args.node
      c.version-newest.result c.begin.new.self c.begin.result c.version-newest.ensures
      (no_job c.index-seat.result.now.job (sym c.is_some.ensures ∙ c.if-is_some.false))
      (ne_eqb _ 0 (λ e. c.if-frames-eq0.false (c.frames.ensures.frames ∙ e)))
      c.begin.ensures.reply c.begin.ensures.frame_search;
  unchanged = search rules;
  setup = setup-set c.args.self.now.space c.args.self.now.plan c.args.self.now.seats.items
      c.args.self.now.owners.items c.args.worker c.begin.new.self;
}
