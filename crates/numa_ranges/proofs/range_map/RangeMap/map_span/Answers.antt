-- The span is free of mapped pages, so only the count can refuse it.
use Rattle.std.proofs.Common.{◌≡◌, false, is_some}
use Rattle.numa_ranges.specs.Runs.{page_at}
use Rattle.numa_ranges.specs.Maps.{any_page}
use Rattle.numa_ranges.proofs.Spans.{on_ok}
use Rattle.numa_ranges.proofs.range_map.RangeMap.map_span.Goals as goal

pub returns-clause-ok : goal.returns-clause-ok
returns-clause-ok g c = on_ok c.insert_run.result (λ h. h.shows) c.insert_run.ensures.ok

pub returns-clause-accepted : goal.returns-clause-accepted
returns-clause-accepted g c =
    let free : any_page (λ page. is_some (page_at c.args.self.now.runs page)) c.args.first
    c.args.pages ≡ false = c.in-Some.ensures.free in
    rw free (on_ok c.insert_run.result (λ h. h.accepted) c.insert_run.ensures.ok)

pub returns-clause-err : goal.returns-clause-err
returns-clause-err g c =
    let free : any_page (λ page. is_some (page_at c.args.self.now.runs page)) c.args.first
    c.args.pages ≡ false = c.in-Some.ensures.free in
    rw free c.insert_run.ensures.err

pub place_between-requires : goal.place_between-requires
place_between-requires g c = record { span = c.requires.span }

pub insert_run-requires-clause-span : goal.insert_run-requires-clause-span
insert_run-requires-clause-span g c = c.requires.span

pub insert_run-requires-clause-index : goal.insert_run-requires-clause-index
insert_run-requires-clause-index g c = c.requires.index

pub returns-clause-max_ranges : goal.returns-clause-max_ranges
returns-clause-max_ranges g c = c.insert_run.ensures.max_ranges

pub returns-clause-unchanged : goal.returns-clause-unchanged
returns-clause-unchanged g c = c.insert_run.ensures.unchanged

pub returns-in_default-clause-ok : goal.returns-in_default-clause-ok
returns-in_default-clause-ok g c = tt

pub returns-in_default-clause-accepted : goal.returns-in_default-clause-accepted
returns-in_default-clause-accepted g c = tt
