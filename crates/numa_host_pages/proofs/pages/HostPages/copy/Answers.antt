use Rattle.std.proofs.Common.{List, [], arith, subst, sym}
use Rattle.numa_host_pages.specs.Standing.{AreHomes}
use Rattle.numa_host_pages.specs.declared.member.Member.{Member}
use Rattle.numa_host_pages.proofs.pages.HostPages.copy.Goals as goal

pub returns : goal.returns
returns c = λ at lies. record {
  room = lies.room;
  follows = lies.follows;
  homes = c.in-Ok-add_again.ensures.added [] at.homes (rw c.in-Ok.ensures.items tt)
      (subst (λ (ms : List Member). AreHomes ms at.homes) (sym c.deref.ensures.value) lies.homes);
  huge = c.in-Ok-copy.ensures at.huge lies.huge;
  places = omega (arith, c.in-Ok.ensures.capacity, c.add_again.ensures.room);
}
