use Rattle.std.proofs.Common.{List, None, Some, sym, subst, ◌∙◌}
use Rattle.std.specs.Vec.{with_items}
use Rattle.numa_page_state.specs.Standing.{LiesAs}
use Rattle.numa_page_state.specs.declared.state.PageState.{PageState}
use Rattle.numa_host_pages.specs.Homes.{Home, lent, pages_in, rested, with_pages}
use Rattle.numa_host_pages.specs.Standing.{AreHomes}
use Rattle.numa_host_pages.specs.declared.member.Member.{Member}
use Rattle.numa_host_pages.proofs.Places.{homes-length, pages-length, pages-twice, put-items}
use Rattle.numa_host_pages.proofs.Walked.{none-lying, some-lying}
use Rattle.numa_host_pages.proofs.pages.HostPages.rest.Goals as goal

pub returns-in_default : goal.returns-in_default
returns-in_default c = λ at lies.
    let process = c.args.process in
    let taken = c.in_default.ensures at.homes
    (subst (λ (ms : List Member). AreHomes ms at.homes) (sym c.deref_mut.ensures.value)
    lies.homes) in
    record {
      room = lies.room;
      follows = lies.follows;
      homes = rw (none-lying (pages_in process at.homes) taken.0)
          (put-items c.args.self.now.members c.take_pages.new.members
          (with_pages process None at.homes) taken.1
          (pages-length process None at.homes
          ∙ sym (homes-length c.args.self.now.members.items at.homes lies.homes)));
      huge = lies.huge;
      places = lies.places;
    }

pub returns : goal.returns
returns c = λ at lies.
    let process = c.args.process in
    let had : List Home = with_pages process None at.homes in
    let now = rested (pages_in process at.homes) in
    let taken = c.in-Some.ensures at.homes
    (subst (λ (ms : List Member). AreHomes ms at.homes) (sym c.deref_mut.ensures.value)
    lies.homes) in
    let has = some-lying c.in-Some.state (pages_in process at.homes) taken.0 in
    let rest = c.rest.ensures (lent has.1 has.2 has.0)
    (subst (λ (s : PageState). LiesAs s (lent has.1 has.2 has.0)) (sym c.deref_mut-2.ensures.value)
    has.4) in
    let there = put-items c.args.self.now.members c.take_pages.new.members had taken.1
    (pages-length process None at.homes
    ∙ sym (homes-length c.args.self.now.members.items at.homes lies.homes)) in
    let left = with_items c.args.self.now.members c.take_pages.new.members in
    let put = c.put_pages.ensures had now
    (subst (λ (ms : List Member). AreHomes ms had) (sym c.deref_mut-3.ensures.value) there)
    (rw has.3 (has.1, has.2, rest)) in
    let homes = subst (λ (hs : List Home). AreHomes c.put_pages.new.members hs)
    (pages-twice process None now at.homes) put in
    record {
      room = lies.room;
      follows = lies.follows;
      homes = put-items left c.put_pages.new.members (with_pages process now at.homes) homes
          (pages-length process now at.homes ∙ sym (pages-length process None at.homes)
          ∙ sym (homes-length left.items had there));
      huge = lies.huge;
      places = lies.places;
    }
