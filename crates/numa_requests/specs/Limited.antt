-- How large a space may grow.
use Rattle.std.specs.Prelude.{◌≤◌}
use Rattle.numa_requests.specs.declared.limits.Limits.TheInside.{Inside}

-- how many ranges, task policies and accepted commands there may be
abbrev pub Bounds : Type 0
Bounds = Inside

-- what every limit keeps to
pub record AreBounds (bounds : Bounds) : Type 0 where
  pub ranges : bounds.max_ranges ≤ 65536
  pub tasks : bounds.max_tasks ≤ 1024
