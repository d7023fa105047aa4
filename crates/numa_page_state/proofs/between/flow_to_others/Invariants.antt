-- The pages so far are counted.
use Rattle.std.proofs.Common.{◌≡◌, ℕ, ◌-◌, ◌<◌, ◌≤◌, ◌^◌, false, get_or}
use Rattle.std.specs.Prelude.{◌==◌}
use Rattle.numa_ranges.specs.Counts.{count_pages}
use Rattle.numa_placed.specs.Spots.{spot_at}
use Rattle.numa_page_state.specs.Sending.{has_gone}
use Rattle.numa_page_state.proofs.between.flow_to_others.Given as goal

abbrev pub invariant-loop-page : goal.invariant-loop-page
invariant-loop-page l = record {
  near : l.page ≤ 2 ^ 35;
  few : (to : ℕ) → to < 256 → get_or l.flow to 0 ≤ l.page;
  counts : (to : ℕ) → to < 256 → (l.from == to) ≡ false → get_or l.flow to 0
      ≡ count_pages (has_gone (spot_at l.before) (spot_at l.after) l.from to) 0 l.page;
}

abbrev pub decreases-loop-page : goal.decreases-loop-page
decreases-loop-page l = 2 ^ 35 - l.page
