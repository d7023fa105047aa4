use Rattle.std.proofs.Common.{ap}
use Rattle.numa_huge.specs.Huge.{HugeLying, places_of}
use Rattle.numa_words.specs.Touching.{all_touched, nobody}
use Rattle.numa_words.proofs.Touched.{added-first}
use Rattle.numa_words.proofs.touching.from_own.Goals as goal

pub returns-clause-said : goal.returns-clause-said
returns-clause-said c = c.in-Ok.ensures.said

pub returns-clause-lying : goal.returns-clause-lying
returns-clause-lying c =
    added-first c.new-lying.result.items c.add_lying.new.lying.items c.args.there.now
    (nobody c.args.space.now.machine.nodes) c.in-Ok.done.0
    (all_touched c.args.space.now c.args.touch (places_of c.args.kept.now.places)).huge.spots
    c.new-lying.ensures.items (ap (λ (l : HugeLying). l.spots) c.in-Ok.ensures.places)
    c.in-Ok-add_lying.ensures
