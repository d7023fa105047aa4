use Rattle.std.proofs.Common.{Some, sym, ◌∙◌, arith}
use Rattle.numa_core.proofs.InARow.{index_within}
use Rattle.numa_core.proofs.TouchStands.{owner-put}
use Rattle.numa_core.proofs.state.State.own.Goals as goal

pub returns-clause-owner : goal.returns-clause-owner
returns-clause-owner c n k =
    owner-put c.args.self.now.places c.args.self.now.owners.items c.args.frame c.in-Some.place
    (Some c.args.worker) c.requires.low.there (sym c.place.ensures.place ∙ c.in-Some.is)
    (omega (arith, c.in-Some.ensures.within, c.requires.kept.owners, c.args.self.now.owners.ok.0)) n
    k

pub returns-clause-kept : goal.returns-clause-kept
returns-clause-kept c = record {
  places = c.requires.kept.places;
  seats = c.requires.kept.seats;
  owners = c.requires.kept.owners;
  few = c.requires.kept.few;
  behind = c.requires.kept.behind;
  taken = c.raise.ensures c.args.self.now.places c.args.self.now.owners.items c.args.worker
      c.requires.kept.taken c.requires.low (sym c.place.ensures.place ∙ c.in-Some.is)
      (omega (
        arith,
        c.in-Some.ensures.within,
        c.requires.kept.owners,
        c.args.self.now.owners.ok.0,
      ));
}

pub raise-requires-clause-node : goal.raise-requires-clause-node
raise-requires-clause-node c =
    omega (
      arith,
      index_within c.args.self.now.places c.args.frame.node c.args.frame.number
          c.requires.low.there,
      c.requires.kept.taken.lowest.as_long,
      c.args.self.now.taken.lowest.ok.0,
    )

pub raise-requires-clause-place : goal.raise-requires-clause-place
raise-requires-clause-place c = omega (arith, c.in-Some.ensures.within, c.requires.kept.taken.room)
