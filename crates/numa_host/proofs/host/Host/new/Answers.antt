use Rattle.std.proofs.Common.{[], refl, sym}
use Rattle.numa_host.specs.Standing.{HostState}
use Rattle.numa_host.proofs.Began.{stands-new, sound-new}
use Rattle.numa_host.proofs.host.Host.new.Goals as goal

pub invariant_of-result : goal.invariant_of-result
invariant_of-result c =
    let shown : HostState =
    record {
      blank = c.new.result;
      version = 0;
      groups = c.new-2.result.items;
      processes =
          c.new-3.result.items;
    } in
    record {
      sound = sound-new shown refl c.new-3.ensures.items c.new.ensures.stands;
      history = record {
        history = [];
        accepted = tt;
        stands =
            stands-new shown refl c.new-2.ensures.items c.new-3.ensures.items c.new.ensures.stands;
      };
      limits = sym c.new.ensures.bounds;
    }
