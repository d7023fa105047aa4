use Rattle.std.proofs.Common.{List, sym, subst, ◌∙◌}
use Rattle.numa_host_pages.specs.Homes.{taken_along}
use Rattle.numa_host_pages.specs.Standing.{AreHomes}
use Rattle.numa_host_pages.specs.declared.member.Member.{Member}
use Rattle.numa_host_pages.proofs.Along.{along-count}
use Rattle.numa_host_pages.proofs.Places.{homes-length, put-items}
use Rattle.numa_host_pages.proofs.pages.HostPages.take_along.Goals as goal

pub returns : goal.returns
returns c = λ at lies. record {
  room = lies.room;
  follows = lies.follows;
  homes = put-items c.args.self.now.members c.take_along.new.members
      (taken_along c.args.process at).homes
      (c.take_along.ensures at.homes (subst (λ (ms : List Member). AreHomes ms at.homes)
      (sym c.deref_mut.ensures.value) lies.homes))
      (along-count c.args.process at.homes
      ∙ sym (homes-length c.args.self.now.members.items at.homes lies.homes));
  huge = lies.huge;
  places = lies.places;
}
