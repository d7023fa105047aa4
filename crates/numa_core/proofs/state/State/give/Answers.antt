use Rattle.std.proofs.Common.{◌<◌, Some, None, length, arith, refl, sym, ap}
use Rattle.std.proofs.Common.{◌∙◌, rules}
use Rattle.std.proofs.lemmas.Bool.{ne_eqb}
use Rattle.std.proofs.lemmas.Result.{err_from_is_err_and}
use Rattle.numa_core.specs.Standing.{owner_at}
use Rattle.numa_core.proofs.InARow.{owner_read, place-some, index_within}
use Rattle.numa_core.proofs.CoreSteps.{no_job, give-follows}
use Rattle.numa_core.proofs.GiveRefused.{no-seat, busy, not-owned}
use Rattle.numa_core.proofs.Elements.{there_at}
use Rattle.numa_core.proofs.state.State.give.Goals as goal

pub returns : goal.returns
returns c = record {
  kept = record {
    places = c.requires.kept.places;
    seats = c.requires.kept.seats;
    owners = c.requires.kept.owners;
    few = c.requires.kept.few;
    behind = c.requires.kept.behind;
    taken = c.lower.ensures c.args.self.now.places c.args.self.now.owners.items
        c.requires.kept.taken (sym c.place.ensures.place ∙ c.in-Some.is)
        (omega (
          arith,
          c.in-Some.ensures.within,
          c.requires.kept.owners,
          c.args.self.now.owners.ok.0,
        ));
  };
  follows = λ world stands. let low : c.args.worker < length c.args.self.now.seats.items =
      omega (arith, c.in_ok-seated.ensures.ok, c.args.self.now.seats.ok.0) in
      let there = there_at c.args.self.now.seats.items c.args.worker c.index-seat.result.now low
      c.index-seat.ensures in
      let within : c.in-Some.place < length c.args.self.now.owners.items =
      omega (
        arith,
        c.in-Some.ensures.within,
        c.requires.kept.owners,
        c.args.self.now.owners.ok.0,
      ) in
      give-follows c.args.self.now.space c.args.self.now.plan c.args.self.now.places
      c.args.self.now.seats.items c.args.self.now.owners.items world c.requires.kept.places
      stands c.args.worker c.index-seat.result.now low there c.args.frame c.in-Some.place
      (no_job c.index-seat.result.now.job (sym c.is_some.ensures ∙ c.if-is_some.false))
      (sym c.place.ensures.place ∙ c.in-Some.is) within
      (owner_read c.args.self.now.owners.items c.in-Some.place c.index.result.now within
      c.index.ensures ∙ c.in-Some-index.is ∙ ap Some c.if-owner-worker.false);
  unchanged = search rules;
  setup = search rules;
}

pub lower-requires-clause-node : goal.lower-requires-clause-node
lower-requires-clause-node c =
    let there =
    (place-some c.args.self.now.places c.args.frame.node c.args.frame.number c.in-Some.place
    (sym c.place.ensures.place ∙ c.in-Some.is)).0 in
    omega (
      arith,
      index_within c.args.self.now.places c.args.frame.node c.args.frame.number there,
      c.requires.kept.taken.lowest.as_long,
      c.args.self.now.taken.lowest.ok.0,
    )

pub lower-requires-clause-place : goal.lower-requires-clause-place
lower-requires-clause-place c = omega (arith, c.in-Some.ensures.within, c.requires.kept.taken.room)

pub returns-in_err-seated : goal.returns-in_err-seated
returns-in_err-seated c =
    let exit = err_from_is_err_and c.from_residual.result c.from_residual.ensures.1 in
    rw (exit.1, exit.2, c.in_err-seated.ensures.err.0) (no-seat c.args.self.now c.args.worker
    c.args.frame c.requires.kept
    (omega (arith, c.in_err-seated.ensures.err.1, c.args.self.now.seats.ok.0)))

pub returns-then-is_some : goal.returns-then-is_some
returns-then-is_some c =
    let low : c.args.worker < length c.args.self.now.seats.items =
    omega (arith, c.in_ok-seated.ensures.ok, c.args.self.now.seats.ok.0) in
    busy c.args.self.now c.args.worker c.args.frame c.requires.kept c.index-seat.result.now low
    (there_at c.args.self.now.seats.items c.args.worker c.index-seat.result.now low
    c.index-seat.ensures) (sym c.is_some.ensures ∙ c.if-is_some.true)

pub returns-in_default : goal.returns-in_default
returns-in_default c =
    let low : c.args.worker < length c.args.self.now.seats.items =
    omega (arith, c.in_ok-seated.ensures.ok, c.args.self.now.seats.ok.0) in
    not-owned c.args.self.now c.args.worker c.args.frame c.requires.kept c.index-seat.result.now low
    (there_at c.args.self.now.seats.items c.args.worker c.index-seat.result.now low
    c.index-seat.ensures) None (sym c.is_some.ensures ∙ c.if-is_some.false)
    (ap (owner_at c.args.self.now.owners.items) (sym c.place.ensures.place ∙ c.in_default.is)) refl

pub returns-in_default-index : goal.returns-in_default-index
returns-in_default-index c =
    let low : c.args.worker < length c.args.self.now.seats.items =
    omega (arith, c.in_ok-seated.ensures.ok, c.args.self.now.seats.ok.0) in
    let within : c.in-Some.place < length c.args.self.now.owners.items =
    omega (
      arith,
      c.in-Some.ensures.within,
      c.requires.kept.owners,
      c.args.self.now.owners.ok.0,
    ) in
    not-owned c.args.self.now c.args.worker c.args.frame c.requires.kept c.index-seat.result.now low
    (there_at c.args.self.now.seats.items c.args.worker c.index-seat.result.now low
    c.index-seat.ensures) None (sym c.is_some.ensures ∙ c.if-is_some.false)
    (ap (owner_at c.args.self.now.owners.items) (sym c.place.ensures.place ∙ c.in-Some.is)
    ∙ (owner_read c.args.self.now.owners.items c.in-Some.place c.index.result.now within
    c.index.ensures ∙ c.in_default-index.is)) refl

pub returns-then-owner-worker : goal.returns-then-owner-worker
returns-then-owner-worker c =
    let low : c.args.worker < length c.args.self.now.seats.items =
    omega (arith, c.in_ok-seated.ensures.ok, c.args.self.now.seats.ok.0) in
    let within : c.in-Some.place < length c.args.self.now.owners.items =
    omega (
      arith,
      c.in-Some.ensures.within,
      c.requires.kept.owners,
      c.args.self.now.owners.ok.0,
    ) in
    not-owned c.args.self.now c.args.worker c.args.frame c.requires.kept c.index-seat.result.now low
    (there_at c.args.self.now.seats.items c.args.worker c.index-seat.result.now low
    c.index-seat.ensures) (Some c.in-Some-index.owner) (sym c.is_some.ensures ∙ c.if-is_some.false)
    (ap (owner_at c.args.self.now.owners.items) (sym c.place.ensures.place ∙ c.in-Some.is)
    ∙ (owner_read c.args.self.now.owners.items c.in-Some.place c.index.result.now within
    c.index.ensures ∙ c.in-Some-index.is))
    (ne_eqb c.in-Some-index.owner c.args.worker c.if-owner-worker.true)
