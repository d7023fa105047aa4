use Rattle.std.proofs.Common.{sym, ◌∙◌}
use Rattle.std.proofs.lemmas.Option.{get_or_from_slice_get, slice_get_within}
use Rattle.numa_ranges.proofs.Apart.{page_at-inside, run-bounds}
use Rattle.numa_placed.proofs.stretch.range_of.Goals as goal

pub returns-clause-end : goal.returns-clause-end
returns-clause-end c =
    let ranges = c.args.space.now.ranges in
    let place = c.saturating_sub-place.result in
    let range = c.in-Some.range in
    let is = sym c.range_at.ensures.range ∙ c.in-Some.is in
    (run-bounds ranges place range c.range_at.ensures.rising
    (slice_get_within ranges place range is)
    (sym (get_or_from_slice_get ranges place range range is))).0

pub returns-clause-pages : goal.returns-clause-pages
returns-clause-pages c p low high =
    let ranges = c.args.space.now.ranges in
    let place = c.saturating_sub-place.result in
    let range = c.in-Some.range in
    let is = sym c.range_at.ensures.range ∙ c.in-Some.is in
    page_at-inside 0 ranges place p range c.range_at.ensures.rising
    (slice_get_within ranges place range is)
    (sym (get_or_from_slice_get ranges place range range is)) low high

pub returns-clause-last : goal.returns-clause-last
returns-clause-last c =
    let ranges = c.args.space.now.ranges in
    let place = c.saturating_sub-place.result in
    let range = c.in-Some.range in
    let is = sym c.range_at.ensures.range ∙ c.in-Some.is in
    (run-bounds ranges place range c.range_at.ensures.rising
    (slice_get_within ranges place range is)
    (sym (get_or_from_slice_get ranges place range range is))).1
