use Rattle.numa_core.specs.Standing.{setup_of}
use Rattle.numa_core.proofs.CommandsOfExecutions.{newest-known}
use Rattle.numa_core.proofs.Newest.{newest}
use Rattle.numa_core.proofs.laws.every_core.Goals as goal

pub returns : goal.returns
returns c = record {
  stands = λ past core legal shows.
      let latest = newest (setup_of core) past legal in
      record {
        space = shows.space;
        plan = shows.plan;
        frame_searches = shows.frame_searches;
        owners = shows.owners;
        published = latest.there;
        known = newest-known (setup_of core) past legal;
        not_newer = latest.lasts;
      };
}
