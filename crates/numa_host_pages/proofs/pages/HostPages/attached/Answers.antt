use Rattle.std.proofs.Common.{◌<◌, ◌≤◌, Bool, false, List, None, length, sym, subst, refl}
use Rattle.std.proofs.Common.{arith, ◌∙◌}
use Rattle.std.specs.Prelude.{vec_capacity}
use Rattle.std.specs.Vec.{with_items}
use Rattle.numa_page_state.specs.Outcomes.{Lack}
use Rattle.numa_page_state.specs.Standing.{HaveRoom}
use Rattle.numa_host_huge.specs.Standing.{HugeLies}
use Rattle.numa_host_pages.specs.Homes.{Home, all_still, home_followed, huge_moved, other_homes}
use Rattle.numa_host_pages.specs.Homes.{pages_in}
use Rattle.numa_host_pages.specs.Homes.{with_pages}
use Rattle.numa_host_pages.specs.Standing.{AreHomes, IsHome}
use Rattle.numa_host_pages.specs.declared.member.Member.{Member}
use Rattle.numa_host_pages.proofs.Along.{others-calm, others-count, still-count}
use Rattle.numa_host_pages.proofs.Places.{homes-length, others-after}
use Rattle.numa_host_pages.proofs.Places.{pages-length, put-items}
use Rattle.numa_host_pages.proofs.pages.HostPages.attached.Goals as goal

pub returns : goal.returns
returns c = λ at lies small.
    let process = c.args.process in
    let had : List Home = with_pages process None at.homes in
    let taken = c.take_pages-pages.ensures at.homes
    (subst (λ (ms : List Member). AreHomes ms at.homes) (sym c.deref_mut.ensures.value)
    lies.homes) in
    let there = put-items c.args.self.now.members c.take_pages-pages.new.members had taken.1
    (pages-length process None at.homes
    ∙ sym (homes-length c.args.self.now.members.items at.homes lies.homes)) in
    let others = others-after (with_items c.args.self.now.members
    c.take_pages-pages.new.members).items at.homes process None there in
    let left = subst (λ (ms : List Member). AreHomes ms (other_homes process at.homes))
    (sym c.remove.ensures.items) others in
    let stay : List Home = other_homes process at.homes in
    let quiet = put-items c.remove.new.members c.still_all.new.members _
    (c.still_all.ensures stay (subst (λ (ms : List Member). AreHomes ms stay)
    (sym c.deref_mut-2.ensures.value) left))
    (still-count stay ∙ sym (homes-length c.remove.new.members.items stay left)) in
    let all : List Home = other_homes process (all_still at).homes in
    let them = subst (λ (hs : List Home).
    AreHomes (with_items c.remove.new.members c.still_all.new.members).items hs)
    (sym (others-calm process at.homes)) quiet in
    let few : length all < 4096 = omega (arith, small, others-count process at.homes) in
    let home : Home =
    record {
      id = process;
      group = c.args.group;
      allowed = c.args.old.now;
      lying = pages_in process at.homes;
      along = false;
    } in
    let done = subst (λ (f : Bool). (lack : Lack)
    × IsHome c.follow_home.new.member (home_followed lack f c.args.nodes.now home at.room).0
    × HaveRoom c.follow_home.new.rooms (home_followed lack f c.args.nodes.now home at.room).1)
    lies.follows (c.follow_home.ensures home at.room (record {
      id = refl;
      group = refl;
      allowed = refl;
      pages = taken.0;
      along = refl;
    }) lies.room) in
    let places : 4096 ≤ vec_capacity c.remove.new.members =
    subst (λ n. 4096 ≤ n) (sym c.remove.ensures.room) lies.places in (
      done.0,
      record {
        room = done.2;
        follows = lies.follows;
        homes = c.add.ensures.added all _ them done.1 few places;
        huge = subst (λ (f : Bool). HugeLies c.follow_huge.new.huge
            (huge_moved f process c.args.old.now c.args.nodes.now at.huge)) lies.follows
            (c.follow_huge.ensures at.huge lies.huge);
        places = omega (arith, places, c.add.ensures.room);
      },
    )
