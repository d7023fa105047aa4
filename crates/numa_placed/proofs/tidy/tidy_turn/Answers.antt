use Rattle.std.proofs.Common.{ℕ, List, arith, subst}
use Rattle.numa_placed.specs.Renames.{IsRenamed}
use Rattle.numa_placed.specs.declared.places.Places.{Places}
use Rattle.numa_placed.proofs.Renamed.{tidied-turned}
use Rattle.numa_placed.proofs.tidy.tidy_turn.Goals as goal

pub returns-clause-tidied : goal.returns-clause-tidied
returns-clause-tidied c =
    let made = c.in-Ok.made in
    let after : Places = record {
      map = c.name_span.new.map;
      nodes = c.name_turn.new.made;
    } in
    let renamed = subst (λ (nodes : List ℕ). IsRenamed nodes c.name_turn.new.made.items c.args.turn
    made) c.deref.ensures.value c.in-Ok.ensures.renamed in
    tidied-turned c.args.places.now c.args.next.now after c.args.last.now c.args.page c.args.end
    c.args.turn made c.requires.kept.whole (omega (arith, c.requires.rises)) c.requires.within
    c.requires.slots renamed c.name_turn.ensures.longer c.name_turn.ensures.before
    c.in-Ok-name_span.ensures.shows c.requires.tidied
