use Rattle.std.proofs.Common.{List, None, Some, sym, subst, ◌∙◌}
use Rattle.numa_page_state.specs.Standing.{LiesAs}
use Rattle.numa_page_state.specs.declared.state.PageState.{PageState}
use Rattle.numa_host_pages.specs.Homes.{Home, with_pages}
use Rattle.numa_host_pages.specs.Standing.{AreHomes}
use Rattle.numa_host_pages.specs.declared.member.Member.{Member}
use Rattle.numa_host_pages.proofs.Places.{homes-length, pages-length, pages-twice, put-items}
use Rattle.numa_host_pages.proofs.pages.HostPages.give_back.Goals as goal

pub returns : goal.returns
returns c = λ at done lies is.
    let process = c.args.process in
    let had : List Home = with_pages process None at.homes in
    let put = c.put_pages.ensures had (Some done)
    (subst (λ (ms : List Member). AreHomes ms had) (sym c.deref_mut.ensures.value) lies.homes)
    (done.room, done.follows, is) in
    let homes = subst (λ (hs : List Home). AreHomes c.put_pages.new.members hs)
    (pages-twice process None (Some done) at.homes) put in
    record {
      room = c.rooms_left-self.ensures done
          (subst (λ (s : PageState). LiesAs s done) (sym c.deref.ensures) is);
      follows = lies.follows;
      homes = put-items c.args.self.now.members c.put_pages.new.members
          (with_pages process (Some done) at.homes) homes
          (pages-length process (Some done) at.homes ∙ sym (pages-length process None at.homes)
          ∙ sym (homes-length c.args.self.now.members.items had lies.homes));
      huge = lies.huge;
      places = lies.places;
    }
