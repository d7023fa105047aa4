-- No run so far passes, and what is left rises.
use Rattle.std.proofs.Common.{◌≡◌, ℕ}
use Rattle.std.specs.List.{list_any}
use Rattle.numa_ranges.specs.Maps.{any_page}
use Rattle.numa_ranges.specs.Runs.{page_at, AreApart}
use Rattle.numa_space.specs.Edits.{passes, reaches}
use Rattle.numa_space.proofs.page_ranges.Pages.has_page.Given as goal

abbrev pub invariant-loop-run : goal.invariant-loop-run
invariant-loop-run l = record {
  any : list_any (reaches l.test l.first l.end) l.run-iterator
      ≡ any_page (λ page. passes l.test (page_at l.self.runs page)) l.first l.pages;
  apart : (low : ℕ) × AreApart low l.run-iterator;
}
