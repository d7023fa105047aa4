use Rattle.std.proofs.Common.{◌≤◌, List, None, sym, subst, ◌∙◌}
use Rattle.std.specs.Vec.{with_items}
use Rattle.numa_host_pages.specs.Homes.{Home, other_homes, pages_in, with_pages}
use Rattle.numa_host_pages.specs.Standing.{AreHomes}
use Rattle.numa_host_pages.specs.declared.member.Member.{Member}
use Rattle.numa_host_pages.proofs.Places.{homes-length, others-after}
use Rattle.numa_host_pages.proofs.Places.{pages-length, put-items}
use Rattle.numa_host_pages.proofs.pages.HostPages.ended.Goals as goal

pub returns : goal.returns
returns c = λ at lies.
    let process = c.args.process in
    let had : List Home = with_pages process None at.homes in
    let taken = c.take_pages-pages.ensures at.homes
    (subst (λ (ms : List Member). AreHomes ms at.homes) (sym c.deref_mut.ensures.value)
    lies.homes) in
    let there = put-items c.args.self.now.members c.take_pages-pages.new.members had taken.1
    (pages-length process None at.homes
    ∙ sym (homes-length c.args.self.now.members.items at.homes lies.homes)) in
    let left = others-after (with_items c.args.self.now.members
    c.take_pages-pages.new.members).items at.homes process None there in
    record {
      room = c.rooms_without-rooms.ensures (pages_in process at.homes) at.room taken.0 lies.room;
      follows = lies.follows;
      homes = subst (λ (ms : List Member). AreHomes ms (other_homes process at.homes))
          (sym c.remove.ensures.items) left;
      huge = c.ended.ensures at.huge lies.huge;
      places = subst (λ n. 4096 ≤ n) (sym c.remove.ensures.room) lies.places;
    }
