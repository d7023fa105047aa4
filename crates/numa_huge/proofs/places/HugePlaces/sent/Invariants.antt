-- Up to a page all went, and those behind it lie as the runs say that are left.
use Rattle.std.proofs.Common.{◌≤◌, ◌*◌, ◌+◌, ℕ}
use Rattle.numa_placed.proofs.Stating.{AreLeft}
use Rattle.numa_huge.specs.Huge.{places_of}
use Rattle.numa_huge.specs.Kept.{Keeps}
use Rattle.numa_huge.specs.Moves.{named_in, sent_pages, walk_from}
use Rattle.numa_huge.proofs.Sending.{IsReached}
use Rattle.numa_huge.proofs.places.HugePlaces.sent.Given as goal

abbrev pub invariant-loop-run : goal.invariant-loop-run
invariant-loop-run l = record {
  reached : IsReached l.list (λ (page : ℕ). named_in l.space l.task l.cpu (page * 512))
      (sent_pages l.list (λ (page : ℕ). named_in l.space l.task l.cpu (page * 512)) l.first l.pages
      (walk_from (places_of l.self))) (l.first + l.pages) l.page l.run-iterator l.sent l.flows;
  left : AreLeft l.run-iterator;
  few : l.flows.left + l.first ≤ l.page;
  keeps : Keeps (places_of l.self) (places_of l.sent);
}
