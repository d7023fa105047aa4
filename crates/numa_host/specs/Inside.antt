-- How a host is kept.
use Rattle.std.specs.Prelude.{◌≡◌}
use Rattle.numa_host.specs.Standing.{HostState, IsHostSound, HasHostHistory}
use Rattle.numa_host.specs.declared.host.Host.TheInside.{Inside}

abbrev pub shown_of : Inside → HostState
shown_of a = record {
  blank = a.blank;
  version = a.version;
  groups = a.groups.items;
  processes = a.processes.items;
}

pub record IsKept (a : Inside) : Type 0 where
  pub sound : IsHostSound (shown_of a)
  pub history : HasHostHistory (shown_of a)
  pub limits : a.limits ≡ a.blank.bounds
