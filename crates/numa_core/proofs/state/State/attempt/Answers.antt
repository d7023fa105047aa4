use Rattle.std.proofs.Common.{◌≡◌, ◌<◌, Some, true, false, is_some, length, arith, sym}
use Rattle.std.proofs.Common.{ap, ◌∙◌, rules}
use Rattle.numa_core.specs.Standing.{setup_of, owner_at}
use Rattle.numa_core.specs.Kept.{core_state}
use Rattle.numa_core.specs.Seats.{SeatFits}
use Rattle.numa_core.proofs.InARow.{owner_read}
use Rattle.std.proofs.lemmas.Result.{on_err_weaker}
use Rattle.numa_core.proofs.CoreSteps.{setup-set, shown-again, owned-follows, refused-follows}
use Rattle.numa_core.proofs.CoreSteps.{won-follows}
use Rattle.numa_core.proofs.Elements.{there_at, each-set}
use Rattle.numa_core.proofs.KnownFrames.{known-put}
use Rattle.numa_core.proofs.state.State.attempt.Goals as goal

pub attempt-requires-clause-fits : goal.attempt-requires-clause-fits
attempt-requires-clause-fits c = c.requires.kept.seats c.args.worker c.index_mut.result.now
    (there_at c.args.self.now.seats.items c.args.worker c.index_mut.result.now
    (omega (arith, c.in_ok-seated.ensures.ok, c.args.self.now.seats.ok.0))
    c.index_mut.ensures.value)

pub returns-then-is_some : goal.returns-then-is_some
returns-then-is_some c = record {
  kept = record {
    places = c.requires.kept.places;
    seats = each-set (SeatFits c.args.self.now.places) c.args.self.now.seats.items c.args.worker
        c.attempt.new.self c.attempt.ensures.fits c.requires.kept.seats;
    owners = c.requires.kept.owners;
    few = c.requires.kept.few;
    behind = c.requires.kept.behind;
    taken = c.requires.kept.taken;
  };
  follows = λ world stands. let low : c.args.worker < length c.args.self.now.seats.items =
      omega (arith, c.in_ok-seated.ensures.ok, c.args.self.now.seats.ok.0) in
      let there = there_at c.args.self.now.seats.items c.args.worker c.index_mut.result.now low
      c.index_mut.ensures.value in
      let within : c.in-Some.place < length c.args.self.now.owners.items =
      omega (
        arith,
        c.in-Some.ensures.within,
        c.requires.kept.owners,
        c.args.self.now.owners.ok.0,
      ) in
      let owned : is_some (owner_at c.args.self.now.owners.items (Some c.in-Some.place)) ≡ true =
      ap is_some (owner_read c.args.self.now.owners.items c.in-Some.place c.index-2.result.now
      within c.index-2.ensures) ∙ sym c.is_some.ensures ∙ c.if-is_some.true in
      owned-follows c.args.self.now.space c.args.self.now.plan c.args.self.now.places
      c.args.self.now.seats.items c.args.self.now.owners.items world c.requires.kept.places
      stands c.args.worker c.index_mut.result.now low there c.args.frame c.in-Some.place
      c.attempt.new.self c.attempt.result (sym c.place.ensures.place ∙ c.in-Some.is) owned
      c.attempt.ensures.unchanged
      (c.attempt.ensures.tries (setup_of (core_state c.args.self.now)) c.requires.kept.places);
  unchanged =
      on_err_weaker c.attempt.result
      (λ same. shown-again c.args.self.now.space c.args.self.now.plan c.args.self.now.seats.items
      c.args.self.now.owners.items c.args.worker c.index_mut.result.now c.attempt.new.self
      (there_at c.args.self.now.seats.items c.args.worker c.index_mut.result.now
      (omega (arith, c.in_ok-seated.ensures.ok, c.args.self.now.seats.ok.0))
      c.index_mut.ensures.value) same) c.attempt.ensures.unchanged;
  setup = setup-set c.args.self.now.space c.args.self.now.plan c.args.self.now.seats.items
      c.args.self.now.owners.items c.args.worker c.attempt.new.self;
}

pub attempt-requires-2-clause-fits : goal.attempt-requires-2-clause-fits
attempt-requires-2-clause-fits c = c.requires.kept.seats c.args.worker c.index_mut-2.result.now
    (there_at c.args.self.now.seats.items c.args.worker c.index_mut-2.result.now
    (omega (arith, c.in_ok-seated.ensures.ok, c.args.self.now.seats.ok.0))
    c.index_mut-2.ensures.value)

pub returns-in-Err : goal.returns-in-Err
returns-in-Err c = record {
  kept = record {
    places = c.requires.kept.places;
    seats = each-set (SeatFits c.args.self.now.places) c.args.self.now.seats.items c.args.worker
        c.attempt-2.new.self c.attempt-2.ensures.fits c.requires.kept.seats;
    owners = c.requires.kept.owners;
    few = c.requires.kept.few;
    behind = c.requires.kept.behind;
    taken = c.requires.kept.taken;
  };
  follows = λ world stands. let low : c.args.worker < length c.args.self.now.seats.items =
      omega (arith, c.in_ok-seated.ensures.ok, c.args.self.now.seats.ok.0) in
      let there = there_at c.args.self.now.seats.items c.args.worker c.index_mut-2.result.now low
      c.index_mut-2.ensures.value in
      let within : c.in-Some.place < length c.args.self.now.owners.items =
      omega (
        arith,
        c.in-Some.ensures.within,
        c.requires.kept.owners,
        c.args.self.now.owners.ok.0,
      ) in
      let owned : is_some (owner_at c.args.self.now.owners.items (Some c.in-Some.place)) ≡ false =
      ap is_some (owner_read c.args.self.now.owners.items c.in-Some.place c.index-2.result.now
      within c.index-2.ensures) ∙ sym c.is_some.ensures ∙ c.if-is_some.false in
      refused-follows c.args.self.now.space c.args.self.now.plan c.args.self.now.places
      c.args.self.now.seats.items c.args.self.now.owners.items world c.requires.kept.places
      stands c.args.worker c.index_mut-2.result.now low there c.args.frame c.in-Some.place
      c.in-Err.refusal c.attempt-2.new.self (sym c.place.ensures.place ∙ c.in-Some.is) owned
      c.in-Err.ensures.unchanged
      (c.in-Err.ensures.tries (setup_of (core_state c.args.self.now)) c.requires.kept.places);
  unchanged = shown-again c.args.self.now.space c.args.self.now.plan c.args.self.now.seats.items
      c.args.self.now.owners.items c.args.worker c.index_mut-2.result.now c.attempt-2.new.self
      (there_at c.args.self.now.seats.items c.args.worker c.index_mut-2.result.now
      (omega (arith, c.in_ok-seated.ensures.ok, c.args.self.now.seats.ok.0))
      c.index_mut-2.ensures.value) c.in-Err.ensures.unchanged;
  setup = setup-set c.args.self.now.space c.args.self.now.plan c.args.self.now.seats.items
      c.args.self.now.owners.items c.args.worker c.attempt-2.new.self;
}

pub returns : goal.returns
returns c = record {
  kept = record {
    places = c.requires.kept.places;
    seats = each-set (SeatFits c.args.self.now.places) c.args.self.now.seats.items c.args.worker
        c.attempt-2.new.self c.attempt-2.ensures.fits c.requires.kept.seats;
    owners = c.requires.kept.owners;
    few = c.requires.kept.few;
    behind = c.requires.kept.behind;
    taken = known-put c.args.self.now.places c.args.self.now.owners.items c.args.frame
        c.in-Some.place (sym c.place.ensures.place ∙ c.in-Some.is)
        (omega (
          arith,
          c.in-Some.ensures.within,
          c.requires.kept.owners,
          c.args.self.now.owners.ok.0,
        ))
        c.args.self.now.taken c.args.worker c.requires.kept.taken;
  };
  follows = λ world stands. let low : c.args.worker < length c.args.self.now.seats.items =
      omega (arith, c.in_ok-seated.ensures.ok, c.args.self.now.seats.ok.0) in
      let there = there_at c.args.self.now.seats.items c.args.worker c.index_mut-2.result.now low
      c.index_mut-2.ensures.value in
      let within : c.in-Some.place < length c.args.self.now.owners.items =
      omega (
        arith,
        c.in-Some.ensures.within,
        c.requires.kept.owners,
        c.args.self.now.owners.ok.0,
      ) in
      let owned : is_some (owner_at c.args.self.now.owners.items (Some c.in-Some.place)) ≡ false =
      ap is_some (owner_read c.args.self.now.owners.items c.in-Some.place c.index-2.result.now
      within c.index-2.ensures) ∙ sym c.is_some.ensures ∙ c.if-is_some.false in
      won-follows c.args.self.now.space c.args.self.now.plan c.args.self.now.places
      c.args.self.now.seats.items c.args.self.now.owners.items world c.requires.kept.places
      stands c.args.worker c.index_mut-2.result.now low there c.args.frame c.in-Some.place
      c.in-Ok.reply c.attempt-2.new.self (sym c.place.ensures.place ∙ c.in-Some.is) within owned
      (c.in-Ok.ensures.tries (setup_of (core_state c.args.self.now)) c.requires.kept.places);
  unchanged = search rules;
  setup = setup-set c.args.self.now.space c.args.self.now.plan c.args.self.now.seats.items
      c.args.self.now.owners.items c.args.worker c.attempt-2.new.self;
}
