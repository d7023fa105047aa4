-- The nodes so far are told, whatever homes the pages stand for.
use Rattle.numa_lines.specs.Written.{Said}
use Rattle.numa_host_pages.specs.Homes.{HostLying}
use Rattle.numa_host_pages.specs.Standing.{HostLies}
use Rattle.numa_host_pages.specs.Summed.{sum_in}
use Rattle.numa_run.proofs.Telling.{flows_of, texts_below}
use Rattle.numa_host_script.proofs.telling.say_sums.Given as goal

abbrev pub invariant-loop-from : goal.invariant-loop-from
invariant-loop-from g l = (at : HostLying) → HostLies l.pages at
    → Said g.W.Write.contents l.fn.output l.output
    (texts_below (flows_of (sum_in at).flow) l.from)
