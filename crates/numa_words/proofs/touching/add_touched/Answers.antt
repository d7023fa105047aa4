use Rattle.std.proofs.Common.{Option, subst, ℕ}
use Rattle.numa_huge.specs.declared.spot.HugeSpot.{HugeSpot}
use Rattle.numa_words.specs.Touching.{IsTold, left_by, nobody, touched_in, with_lying}
use Rattle.numa_words.proofs.Touched.{left-more}
use Rattle.numa_words.proofs.touching.add_touched.Goals as goal

pub returns : goal.returns
returns c = λ told lies so.
    let one = c.args.one.now in
    let left = touched_in one.id one.space c.args.touch 0 140737488355328 told.at in
    let touched = c.in-Ok.ensures told.at lies in (
      touched.1,
      subst (λ (spots : Option (ℕ → Option HugeSpot)). IsTold c.add_told.new.touched
          (with_lying (nobody one.space.machine.nodes) c.args.there.now spots
          (left_by left told))) (c.places_in.ensures left.0 touched.1)
          (c.in-Ok-add_told.ensures (left_by left told)
          (left-more c.args.touched.now c.in-Ok.exhausted
          c.saturating_add-touched.result left told so touched.0
          c.saturating_add-touched.ensures)),
    )
