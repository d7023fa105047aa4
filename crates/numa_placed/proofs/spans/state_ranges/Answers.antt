use Rattle.std.proofs.Common.{◌≡◌, List, Option, is_some, ap, sym, subst, ◌∙◌, refl}
use Rattle.numa_mode.specs.Policy.{PolicyRecord}
use Rattle.numa_ranges.specs.Runs.{page_at}
use Rattle.numa_ranges.specs.declared.run.Run.{Run}
use Rattle.numa_placed.specs.Spots.{stated_spots}
use Rattle.numa_placed.specs.Turns.{spots_of}
use Rattle.numa_placed.proofs.Stating.{AreLeft, left-fits}
use Rattle.numa_placed.proofs.spans.state_ranges.Goals as goal

pub loop-range-init : goal.loop-range-init
loop-range-init c =
    let all : c.into_iter-range-iterator.result ≡ c.args.space.now.ranges =
    c.into_iter-range-iterator.ensures.into_iter_gives ∙ c.range_iter-range-items.ensures.runs in
    record {
      kept = c.requires.kept;
      limit = refl;
      left =
          subst AreLeft (sym all)
          (record { low = 0; apart = c.range_iter-range-items.ensures.rising });
      spots = λ page. ap (λ (runs : List (Run (Option PolicyRecord))).
          stated_spots (λ p. is_some (page_at runs p)) c.args.said.first c.args.said.pages
          c.args.said.node (spots_of c.args.places.now) page) all;
    }

pub state_range-requires-clause-range : goal.state_range-requires-clause-range
state_range-requires-clause-range c =
    left-fits c.loop-range.range-iterator c.next.new.self c.in-Some.range
    c.loop-range.invariant.left c.in-Some.ensures.steps
