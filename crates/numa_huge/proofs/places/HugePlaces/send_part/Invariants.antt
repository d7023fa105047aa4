-- What the pages so far did, and those that are left, is what all do.
use Rattle.std.proofs.Common.{◌≤◌, ◌*◌, ◌+◌, ◌-◌, ℕ}
use Rattle.numa_huge.specs.Huge.{places_of}
use Rattle.numa_huge.specs.Kept.{Keeps}
use Rattle.numa_huge.specs.Moves.{HugeTold, named_in, sent_pages}
use Rattle.numa_huge.specs.Tallies.{HasTold}
use Rattle.numa_huge.specs.declared.last.HugeLast.TheVariants.{Pages}
use Rattle.numa_huge.proofs.Where.{IsSending}
use Rattle.numa_huge.proofs.places.HugePlaces.send_part.Given as goal

abbrev pub invariant-loop-page : goal.invariant-loop-page
invariant-loop-page l = record {
  sending : (told : HugeTold) → HasTold (Pages l.initial.flows) told
      → IsSending l.said (λ (page : ℕ). named_in l.space l.task l.cpu (page * 512))
      (sent_pages l.said (λ (page : ℕ). named_in l.space l.task l.cpu (page * 512)) l.from
      (l.to - l.from) (record { huge = places_of l.initial.self; told = told })) l.page
      (l.to - l.page) l.self l.flows;
  few : l.flows.left + l.from ≤ l.initial.flows.left + l.page;
  high : l.page ≤ l.to;
  keeps : Keeps (places_of l.initial.self) (places_of l.self);
}
