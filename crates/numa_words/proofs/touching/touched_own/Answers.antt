use Rattle.std.proofs.Common.{ℕ, Option, ap, ◌∙◌}
use Rattle.numa_huge.specs.Huge.{HugeLying, on_node, pages_in}
use Rattle.numa_huge.specs.declared.spot.HugeSpot.{HugeSpot}
use Rattle.numa_words.proofs.touching.touched_own.Goals as goal

pub returns-clause-places : goal.returns-clause-places
returns-clause-places c = c.in-Ok.ensures.touched.pages

pub returns-clause-said : goal.returns-clause-said
returns-clause-said c = record {
  on = λ node near. c.counts_in-counts.ensures.on node near
      ∙ ap (λ (spots : ℕ → Option HugeSpot). pages_in (on_node node) spots 0 67108864)
      (ap (λ (h : HugeLying). h.spots) c.in-Ok.ensures.touched.pages);
  exhausted = c.in-Ok.ensures.touched.arrived_is.exhausted;
}
