use Rattle.std.specs.Prelude.{slice_index}
use Rattle.numa_host_script.specs.Paging.{memory_at, pages_at}
use Rattle.numaplan_handles.proofs.BothSizes.{counted-alone, counted-with}
use Rattle.numaplan_handles.proofs.host_places.counts_in.Goals as goal

pub counts_with-requires : goal.counts_with-requires
counts_with-requires c node near = c.small_counts-small.ensures.few node near

pub returns-in_default : goal.returns-in_default
returns-in_default c = λ at runs. c.in_default.ensures at.history runs.stands

pub returns-in-Some-huge_in : goal.returns-in-Some-huge_in
returns-in-Some-huge_in c = λ at runs. (
  (c.in-Some.ensures at.history runs.stands).0,
  λ node small. counted-with (memory_at at c.args.process) (pages_at at c.args.process).spots
      c.in-Some-huge_in.huge.now.runs node (slice_index c.small_counts-small.result node)
      (slice_index c.counts_with.result node) (c.in-Some-huge_in.ensures at runs)
      (c.small_counts-small.ensures.counts at runs node small) (c.counts_with.ensures node small),
)

pub returns-in-None : goal.returns-in-None
returns-in-None c = λ at runs. (
  (c.in-Some.ensures at.history runs.stands).0,
  λ node small. counted-alone (memory_at at c.args.process) (pages_at at c.args.process).spots
      node (slice_index c.small_counts-small.result node) (c.in-None.ensures at runs)
      (c.small_counts-small.ensures.counts at runs node small),
)
